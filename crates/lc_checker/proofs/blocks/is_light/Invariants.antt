use Rattle.std.proofs.Common.{◌≡◌, ◌*◌, ◌≤◌, ℕ, List, take}
use Rattle.lc_algebra.specs.declared.FieldName.TheVariants.{Gf2}
use Rattle.lc_algebra.specs.Word.{Fits, weight}
use Rattle.lc_checker.specs.Blocks.{AreBlocks}
use Rattle.lc_checker.proofs.blocks.is_light.Given as goal

abbrev pub invariant-loop-i : goal.invariant-loop-i
invariant-loop-i g l = record {
  few : l.w ≤ 64 * l.i;
  is : (w : List ℕ) → Fits Gf2 w → AreBlocks g.row.N l.bits w → l.w ≡ weight (take (64 * l.i) w);
}
