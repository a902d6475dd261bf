use Rattle.std.proofs.Common.{Some}
use Rattle.std.proofs.lemmas.List.Elements.{All-pop}
use Rattle.lc_crew.specs.Crew.{IsFresh}
use Rattle.lc_crew.proofs.round.take_one.Goals as goal

pub returns-clause-spare : goal.returns-clause-spare
returns-clause-spare g c = (All-pop (IsFresh (g.B.Blocks.fits c.args._blocks.now) (g.B.Blocks.tally c.args._blocks.now)) _ _ (Some c.in-Some.room) c.in-Some.ensures.items c.requires.spare).0

pub returns-clause-fresh : goal.returns-clause-fresh
returns-clause-fresh g c = (All-pop (IsFresh (g.B.Blocks.fits c.args._blocks.now) (g.B.Blocks.tally c.args._blocks.now)) _ _ (Some c.in-Some.room) c.in-Some.ensures.items c.requires.spare).1
