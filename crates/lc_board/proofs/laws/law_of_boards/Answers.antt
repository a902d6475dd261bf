use Rattle.lc_board.proofs.Machines.{opens, claim_event, report_event, split_stays, join_stays}
use Rattle.lc_board.proofs.Moves.{opened, claim_keeps_rule, report_keeps_rule, split_keeps_rule, join_keeps_rule}
use Rattle.lc_board.proofs.Sentences.{rule_says, actors_are_seats}
use Rattle.lc_board.proofs.laws.law_of_boards.Goals as goal

pub returns : goal.returns
returns c = record {
  rule = λ t s. ((λ h. h), (λ h. h));
  opened = opened;
  claimed = claim_keeps_rule;
  reported = report_keeps_rule;
  parted = split_keeps_rule;
  joined = join_keeps_rule;
  sentences = rule_says;
  start = opens;
  claim = claim_event;
  report = report_event;
  split = split_stays;
  join = join_stays;
  actors = actors_are_seats;
}
