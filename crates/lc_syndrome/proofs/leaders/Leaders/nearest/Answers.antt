use Rattle.std.proofs.Common.{◌≡◌, subst, sym, ap, ◌∙◌}
use Rattle.lc_algebra.specs.Word.{IsWord, difference}
use Rattle.lc_constructions.specs.Nearest.{IsNearest}
use Rattle.lc_syndrome.proofs.CosetLaws.{decoded}
use Rattle.lc_syndrome.proofs.leaders.Leaders.nearest.Goals as goal

pub returns-clause-is : goal.returns-clause-is
returns-clause-is c =
    let C = c.self.inside.code in
    let H = c.self.inside.syndromes in
    let seen : c.args.self.now ≡ C = sym c.self.view_is in
    subst (λ D. IsNearest D c.args.word.now c.correct.new.word) (sym seen)
    (decoded C H c.args.word.now c.correct.new.word c.of.result c.matrix-rows.ensures.rows c.self.invariant.checked c.self.invariant.leaders (subst (λ D. IsWord D.field D.columns c.args.word.now) seen c.requires.word) c.of.ensures.is
    (λ e h s. c.correct.ensures.is e h s ∙ ap (λ w. difference H.field w e) c.copy_from_slice.ensures.after))
