use Rattle.lc_infoset.proofs.BoundLaws.{unseen_weight, unseen_whole}
use Rattle.lc_infoset.proofs.MultipleLaws.{unseen_from_messages}
use Rattle.lc_infoset.proofs.laws.unseen_words_are_heavy.Goals as goal

pub returns-clause-heavy : goal.returns-clause-heavy
returns-clause-heavy c = unseen_weight c.args.field

pub returns-clause-none : goal.returns-clause-none
returns-clause-none c = unseen_whole c.args.field

pub returns-clause-multiples : goal.returns-clause-multiples
returns-clause-multiples c = unseen_from_messages c.args.field
