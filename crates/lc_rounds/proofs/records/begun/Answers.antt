use Rattle.lc_rounds.proofs.RecordLaws.{begun_first, begun_so}
use Rattle.lc_rounds.proofs.records.begun.Goals as goal

pub returns-in-Ok : goal.returns-in-Ok
returns-in-Ok c = begun_first c.args.code.now c.args.budget c.args.current c.in-Ok.search c.requires.rows c.in_default.is c.in-Ok.ensures.first

pub returns-in-Ok-resume_at : goal.returns-in-Ok-resume_at
returns-in-Ok-resume_at c = begun_so c.args.code.now c.args.budget c.args.current c.in-Some.kept c.in-Ok-resume_at.search c.in-Some.is c.in-Ok-resume_at.ensures.resumed
