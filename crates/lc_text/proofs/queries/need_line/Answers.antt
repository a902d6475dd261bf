use Rattle.std.proofs.Common.{inr, ◌++◌, ◌∷◌, []}
use Rattle.lc_search.specs.State.{answer_of}
use Rattle.lc_rounds.proofs.NeedLaws.{starving}
use Rattle.lc_text.proofs.queries.need_line.Goals as goal

pub returns-clause-goes : goal.returns-clause-goes
returns-clause-goes g c w needs answers h =
    inr (starving w (needs ++ c.args.code.now ∷ []) (answers ++ answer_of c.in-Ok.found.answer ∷ []) _ _ (c.in-Ok.ensures.goes w needs answers h))
