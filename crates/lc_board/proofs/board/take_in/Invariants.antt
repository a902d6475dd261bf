use Rattle.std.proofs.Common.{◌≡◌}
use Rattle.std.specs.Prelude.{All}
use Rattle.lc_board.specs.Seats.{joined_all}
use Rattle.lc_board.proofs.board.take_in.Given as goal

abbrev pub invariant-loop-other : goal.invariant-loop-other
invariant-loop-other l = (l.root.table_id ≡ l.fn.root.table_id) × (l.root.id ≡ l.fn.root.id) × (l.root.me.0 ≡ joined_all l.fn.root.me.0 l.yielded) × All (λ s. s.table ≡ l.fn.table.table_id) l.other-iterator.rest.items
