use Rattle.std.proofs.Common.{sym, ◌∙◌}
use Rattle.lc_rounds.proofs.NeedLaws.{anew, not_anew}
use Rattle.lc_rounds.proofs.need.answer_need.Goals as goal

pub returns-then-begins_anew-clause-goes : goal.returns-then-begins_anew-clause-goes
returns-then-begins_anew-clause-goes g c w needs answers h =
    c.search_on.ensures.goes w needs answers (anew w needs c.args.code.now answers c.args.course.now c.cut.new.course _ (sym c.begins_anew.ensures ∙ c.if-begins_anew.true) c.cut.ensures.cut c.cut.ensures.none c.cut.ensures.same c.cut.ensures.met h)

pub returns-then-course-len-clause-goes : goal.returns-then-course-len-clause-goes
returns-then-course-len-clause-goes g c w needs answers h =
    c.pass_over.ensures.goes w needs answers _ (not_anew w needs c.args.code.now answers c.args.course.now _ (sym c.begins_anew.ensures ∙ c.if-begins_anew.false) h)

pub returns-clause-goes : goal.returns-clause-goes
returns-clause-goes g c w needs answers h =
    c.search_on-2.ensures.goes w needs answers (not_anew w needs c.args.code.now answers c.args.course.now _ (sym c.begins_anew.ensures ∙ c.if-begins_anew.false) h)
