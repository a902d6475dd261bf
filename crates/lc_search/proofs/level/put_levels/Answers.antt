use Rattle.std.proofs.Common.{rules}
use Rattle.lc_search.proofs.LevelLaws.{levels_more, level_made}
use Rattle.lc_search.proofs.level.put_levels.Goals as goal

pub loop-j-preserved : goal.loop-j-preserved
loop-j-preserved c =
    let i = c.loop-j.invariant in
    let o = c.open_phase-level.ensures in
    let w = c.level_of.ensures in (
      search rules,
      levels_more c.args.sets.now c.args.blocks c.loop-j.j _ c.loop-j.levels (search rules) i.1
          (level_made c.args.sets.now c.args.plan.now c.args.blocks _ _ c.loop-j.j _ c.requires.plan o.level.0 o.level.1 o.set o.listed o.first (search rules) w.before w.after),
    )
