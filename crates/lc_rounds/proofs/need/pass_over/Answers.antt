use Rattle.std.proofs.Common.{refl}
use Rattle.lc_checkpoint.specs.Seen.{settled_of}
use Rattle.lc_rounds.proofs.NeedLaws.{record_at, record_within, passes_on, passes_not}
use Rattle.lc_rounds.proofs.need.pass_over.Goals as goal

pub passed-requires-clause-blocks : goal.passed-requires-clause-blocks
passed-requires-clause-blocks c = record_within c.args.course.now.pace.point.budget c.args.course.now.pace.point.settled.items c.args.course.now.met c.index-kept.result.now c.requires.ranged.settled c.requires.settled c.index-kept.ensures

pub returns-in-Err-clause-goes : goal.returns-in-Err-clause-goes
returns-in-Err-clause-goes c w needs answers now h =
    passes_not w needs c.args.code.now answers c.args.course.now now (settled_of c.index-kept.result.now) c.in-Err.halt
    (record_at c.args.course.now.pace.point.settled.items c.args.course.now.met c.index-kept.result.now c.requires.settled c.index-kept.ensures) c.in-Err.ensures h

pub returns-clause-goes : goal.returns-clause-goes
returns-clause-goes c w needs answers now h =
    passes_on w needs c.args.code.now answers c.args.course.now _ now (settled_of c.index-kept.result.now) c.in-Ok.answered
    (record_at c.args.course.now.pace.point.settled.items c.args.course.now.met c.index-kept.result.now c.requires.settled c.index-kept.ensures) c.in-Ok.ensures
    c.sets.ensures.is c.dimension-rows.ensures.rows c.dimension-rows.ensures.independent refl h
