use Rattle.lc_parse.proofs.Parsing.{refuse_end, refuse_first}
use Rattle.lc_parse.proofs.reading.refusal.Goals as goal

pub returns-in-None-clause-is : goal.returns-in-None-clause-is
returns-in-None-clause-is c = λ s level stuck. refuse_end c.args.source.now.bytes.now c.args.source.now.ending s c.args.tokens.now c.end_refusal.result c.in-None.ensures.cases c.end_refusal.ensures.is stuck

pub returns-in-Some-clause-is : goal.returns-in-Some-clause-is
returns-in-Some-clause-is c = λ s level stuck.
    refuse_first c.args.source.now.bytes.now c.args.source.now.ending s c.args.tokens.now c.in-Some.token.now _ c.refused_number-number.result c.args.depth c.in-Some.ensures.cases.0 c.refused_number-number.ensures level stuck
