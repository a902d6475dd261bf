use Rattle.lc_infoset.proofs.ClaimLaws.{seen_bound, seen_rounded, seen_whole}
use Rattle.lc_infoset.proofs.laws.seen_words_bound_the_code.Goals as goal

pub returns-clause-bound : goal.returns-clause-bound
returns-clause-bound c = seen_bound c.args.field

pub returns-clause-rounded : goal.returns-clause-rounded
returns-clause-rounded c = seen_rounded c.args.field

pub returns-clause-whole : goal.returns-clause-whole
returns-clause-whole c = seen_whole c.args.field
