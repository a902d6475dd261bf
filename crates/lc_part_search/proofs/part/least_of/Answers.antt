use Rattle.std.proofs.Common.{refl}
use Rattle.lc_parts.specs.Part.{found_in}
use Rattle.lc_part_search.proofs.PartLaws.{part_true}
use Rattle.lc_part_search.proofs.part.least_of.Goals as goal

pub returns-clause-is_true : goal.returns-clause-is_true
unfolding found_in
returns-clause-is_true g c =
    let r = c.in_ok-found.found.best in
    part_true c.args.blocks.now.sets.now (record { start = c.args.start; count = c.args.count; weight = r.weight; place = r.place }) (record { weight = r.weight; place = r.place }) c.args.start c.args.count c.args.first c.requires.first.0 refl refl refl c.in_ok-found.ensures.found.pair
