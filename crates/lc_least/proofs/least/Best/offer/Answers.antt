use Rattle.std.proofs.Common.{◌<◌, sym, ◌∙◌, arith}
use Rattle.std.proofs.lemmas.Bool.{false≢true}
use Rattle.lc_algebra.specs.Word.{weight}
use Rattle.lc_least.proofs.ScanLaws.{offered, kept, passed}
use Rattle.lc_least.proofs.least.Best.offer.Goals.{else-weight-gt0-via-then-weight-gt0+else-yields_to, else-weight-gt0-via-else-weight-gt0}
use Rattle.lc_least.proofs.least.Best.offer.Goals as goal

pub returns-then-yields_to-clause-first : goal.returns-then-yields_to-clause-first
returns-then-yields_to-clause-first c =
    let p : 0 < weight c.args.word.now = omega (arith, c.if-weight-gt0.true, c.weight-weight.ensures.is) in
    rw c.copy_from_slice.ensures.items (offered c.args.word.now c.args.self.now.symbols.items p (c.yields_to.ensures.0 c.if-yields_to.true))

pub returns-else-weight-gt0-clause-first : goal.returns-else-weight-gt0-clause-first
returns-else-weight-gt0-clause-first c =
    elim c.else-weight-gt0.branch [
      | else-weight-gt0-via-then-weight-gt0+else-yields_to w ↦ kept c.args.word.now c.args.self.now.symbols.items (sym c.requires) (λ h. false≢true (sym w.if-yields_to.false ∙ w.yields_to.ensures.1 h))
      | else-weight-gt0-via-else-weight-gt0 w ↦ passed c.args.word.now c.args.self.now.symbols.items (omega (arith, w.if-weight-gt0.false, c.weight-weight.ensures.is))
    ]
