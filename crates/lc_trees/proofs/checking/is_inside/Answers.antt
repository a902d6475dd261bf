use Rattle.lc_trees.proofs.VerdictLaws.{inside_told}
use Rattle.lc_trees.proofs.checking.is_inside.Goals as goal

pub returns-clause-is : goal.returns-clause-is
returns-clause-is c = inside_told c.args.code.now c.args.word.now c.contains-inside.result c.contains-inside.ensures.is
