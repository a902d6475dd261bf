use Rattle.std.proofs.Common.{◌≡◌, ◌+◌, ◌≤◌, ◌++◌, length, map, vec_capacity}
use Rattle.lc_crew.proofs.round.dismiss.Given as goal

abbrev pub invariant-loop-worker : goal.invariant-loop-worker
invariant-loop-worker g l =
    (l.seats.items ≡ map (λ w. w.seat) l.yielded) × (length l.yielded + length l.worker-iterator.rest.items ≤ vec_capacity l.seats)
    × (l.spare.items ≡ l.fn.spare.items ++ map (λ w. w.room) l.yielded) × (length l.fn.spare.items + (length l.yielded + length l.worker-iterator.rest.items) ≤ vec_capacity l.spare)
    × (vec_capacity l.fn.spare ≤ vec_capacity l.spare)
