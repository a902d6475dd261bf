use Rattle.lc_algebra.specs.Word.{Fits}
use Rattle.lc_alternant.specs.Checks.{AreSyndromes}
use Rattle.lc_alternant.proofs.checks.syndromes.Given as goal

abbrev pub invariant-loop-j : goal.invariant-loop-j
invariant-loop-j l = AreSyndromes l.field l.form l.word l.j l.syndromes.items × Fits l.form.locator l.syndromes.items
