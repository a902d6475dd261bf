use Rattle.lc_parse.proofs.ScanLaws.{tokens_apart}
use Rattle.lc_parse.proofs.Outcomes.{spans_within}
use Rattle.lc_parse.proofs.laws.spans_rise.Goals as goal

pub returns : goal.returns
returns c = record { apart = tokens_apart; within = spans_within }
