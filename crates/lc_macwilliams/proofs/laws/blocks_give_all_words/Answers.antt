use Rattle.lc_infoset.proofs.AnswerLaws.{some_set}
use Rattle.lc_macwilliams.proofs.BlockCounts.{count_by_blocks, plan_is_short}
use Rattle.lc_macwilliams.proofs.laws.blocks_give_all_words.Goals as goal

pub returns : goal.returns
returns _ = record { law = λ C j r i l. count_by_blocks C j r i (some_set C) (plan_is_short C l) }
