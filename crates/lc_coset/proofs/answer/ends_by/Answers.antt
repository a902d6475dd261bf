use Rattle.lc_coset.proofs.PhaseLaws.{ends_is}
use Rattle.lc_coset.proofs.answer.ends_by.Goals as goal

pub returns : goal.returns
returns c = record { is = ends_is c.args._frame.now c.args.phase c.args.last c.requires.phase c.requires.last.0 c.requires.last.1 }
