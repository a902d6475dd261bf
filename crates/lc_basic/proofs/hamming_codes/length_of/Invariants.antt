use Rattle.std.proofs.Common.{◌≡◌, ◌^◌, ◌≤◌}
use Rattle.lc_basic.specs.Column.{points}
use Rattle.lc_basic.proofs.hamming_codes.length_of.Given as goal

abbrev pub invariant-loop-i : goal.invariant-loop-i
invariant-loop-i l = (l.n ≡ points l.q l._i) × (l.n ≤ 255) × (l.power ≡ l.q ^ l._i)
