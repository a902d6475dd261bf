use Rattle.std.proofs.Common.{ℕ, List}
use Rattle.lc_algebra.specs.Word.{IsWord}
use Rattle.lc_algebra.specs.Matrix.{Matrix}
use Rattle.lc_checker.specs.Blocks.{AreBlocks, AreInBlocks}
use Rattle.lc_checker.specs.Heavy.{AreHeavy}
use Rattle.lc_checker.proofs.blocks.+some_light.Given as goal

abbrev pub decreases-some_light : goal.decreases-some_light
decreases-some_light g l = l.width

abbrev pub invariant-loop-place : goal.invariant-loop-place
invariant-loop-place g l = (C : Matrix) (a : List ℕ) → AreInBlocks C g.row.N l.bits → IsWord C.field C.columns a → AreBlocks g.row.N l.sum a → AreHeavy l.distance C a l.place l.width → AreHeavy l.distance C a l.initial.from l.width
