use Rattle.std.proofs.Common.{◌≡◌, ℕ, ◌<◌, false}
use Rattle.lc_cyclic.proofs.FieldLaws.{has_size}
use Rattle.lc_cyclic.proofs.fields.is_symbol_size.Given as goal

abbrev pub invariant-loop-i : goal.invariant-loop-i
invariant-loop-i l = (k : ℕ) → k < l.i → has_size l.q k ≡ false
