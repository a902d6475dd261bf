use Rattle.std.proofs.Common.{◌≡◌, ℕ, ◌<◌, false}
use Rattle.lc_cyclic.proofs.FieldLaws.{is_locator_for}
use Rattle.lc_cyclic.proofs.fields.locator_size.Given as goal

abbrev pub invariant-loop-i : goal.invariant-loop-i
invariant-loop-i l = (k : ℕ) → k < l.i → is_locator_for l.field l.n k ≡ false
