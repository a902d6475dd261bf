use Rattle.lc_arguments.proofs.TextLaws.{split_told}
use Rattle.lc_arguments.proofs.arguments.parts_of.Goals as goal

pub returns : goal.returns
returns c = split_told c.args.argument.now c.split_once.result c.split_once.ensures.cases
