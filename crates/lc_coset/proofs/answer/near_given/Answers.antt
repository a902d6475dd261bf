use Rattle.std.proofs.Common.{ap, ◌∙◌, arith}
use Rattle.lc_coset.specs.declared.answer.Ending.{Ending}
use Rattle.lc_coset.specs.Answer.{near_of, ending_near}
use Rattle.lc_coset.proofs.AnswerLaws.{first_answer, fewer_rows}
use Rattle.lc_coset.proofs.answer.near_given.Goals as goal

pub returns-then-best-eq0 : goal.returns-then-best-eq0
returns-then-best-eq0 g c = record {
  is = first_answer c.args.given.sets c.args.given.word c.args.budget c.in_ok-best.best (near_of c.near.result) (omega (arith, c.dimension-k.ensures.is, c.dimension-k.ensures.least)) (omega (arith, c.if-best-eq0.true)) c.in_ok-best.ensures.best
      (c.near.ensures.is ∙ ap (λ (e : Ending). ending_near e.exact e.low e.blocks c.in_ok-best.best) c.exact.ensures.is);
}

pub search_from-requires-clause-fewer : goal.search_from-requires-clause-fewer
search_from-requires-clause-fewer g c _ _ =
    fewer_rows c.args.given.sets c.args.given.word c.in_ok-best.best.weight c.dimension-k.ensures.rows c.dimension-k.ensures.independent c.requires.word (omega (arith, c.dimension-k.ensures.is, c.dimension-k.ensures.most)) c.in_ok-best.ensures.weight (λ e. omega (arith, e, c.if-best-eq0.false))
