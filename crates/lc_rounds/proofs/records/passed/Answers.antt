use Rattle.lc_rounds.proofs.RecordLaws.{passed_unfit, passed_so, passed_not}
use Rattle.lc_rounds.proofs.records.passed.Goals as goal

pub returns-in-Err : goal.returns-in-Err
returns-in-Err c = rw c.halt_of.ensures (passed_unfit c.args.code.now c.args.budget c.args.kept c.in-Err.refusal c.in-Err.ensures.resumed)

pub returns-in-Some : goal.returns-in-Some
returns-in-Some c = passed_so c.args.code.now c.args.budget c.args.kept c.in-Ok.search c.in-Some.answer c.in-Ok.ensures.resumed c.in-Some.ensures.is

pub returns-in-None : goal.returns-in-None
returns-in-None c = passed_not c.args.code.now c.args.budget c.args.kept c.in-Ok.search c.in-Ok.ensures.resumed c.in-None.ensures.is
