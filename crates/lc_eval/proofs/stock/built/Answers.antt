use Rattle.lc_eval.proofs.StockLaws.{few_cosets}
use Rattle.lc_eval.proofs.stock.built.Goals as goal

pub returns-clause-few : goal.returns-clause-few
returns-clause-few c = few_cosets c.args.code.now c.build.result c.build.ensures.refused

pub returns-clause-refused : goal.returns-clause-refused
returns-clause-refused c n e = (c.build.ensures.refused n).0 e
