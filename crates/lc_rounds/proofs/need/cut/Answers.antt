use Rattle.std.proofs.Common.{refl}
use Rattle.lc_rounds.proofs.NeedLaws.{anew_ranged, anew_long}
use Rattle.lc_rounds.proofs.need.cut.Goals as goal

pub returns-clause-ranged : goal.returns-clause-ranged
returns-clause-ranged c = anew_ranged c.args.course.now _ c.truncate.ensures.items refl (record { keep = refl; told = refl; last = refl; slice = refl; longest = refl; turn = refl; script = refl; budget = refl }) refl refl c.requires.ranged

pub returns-clause-long : goal.returns-clause-long
returns-clause-long c = anew_long c.args.course.now _ c.truncate.ensures.items c.requires.ranged
