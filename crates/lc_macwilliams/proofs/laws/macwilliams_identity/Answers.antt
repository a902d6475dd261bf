use Rattle.lc_macwilliams.proofs.KrawtchoukLaws.{macwilliams, dual_of_dual}
use Rattle.lc_macwilliams.proofs.laws.macwilliams_identity.Goals as goal

pub returns-clause-law : goal.returns-clause-law
returns-clause-law c = λ n k rows checks r d. macwilliams c.args.field n k rows checks r d

pub returns-clause-back : goal.returns-clause-back
returns-clause-back c = λ n k rows checks r h d. macwilliams c.args.field n k checks rows d.words (dual_of_dual c.args.field n rows checks r h d)
