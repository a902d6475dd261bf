use Rattle.std.proofs.Common.{sym, ◌∙◌, arith}
use Rattle.lc_part_search.proofs.PartLaws.{first_weight, never_none}
use Rattle.lc_part_search.proofs.part.done_in.Goals as goal

pub unreachable-requires : goal.unreachable-requires
unreachable-requires g c = never_none c.args.blocks.now.sets.now c.in_ok-first.field-0 (omega (arith, c.dimension-some.ensures.is, c.dimension-some.ensures.least)) c.in_ok-first.ensures.is c.in_default.not-Some

pub facts_of-requires : goal.facts_of-requires
facts_of-requires g c = record { first = first_weight c.args.blocks.now.sets.now c.in-Some.first (omega (arith, c.dimension-some.ensures.is, c.dimension-some.ensures.least)) (sym c.in-Some.is ∙ c.in_ok-first.ensures.is) }

pub least_of-requires-clause-first : goal.least_of-requires-clause-first
least_of-requires-clause-first g c κs within = (first_weight c.args.blocks.now.sets.now c.in-Some.first (omega (arith, c.dimension-some.ensures.is, c.dimension-some.ensures.least)) (sym c.in-Some.is ∙ c.in_ok-first.ensures.is), rw c.in-Some.is at c.in_ok-first.ensures.few)
