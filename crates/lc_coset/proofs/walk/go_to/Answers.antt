use Rattle.std.proofs.lemmas.List.{with_items_is}
use Rattle.std.proofs.Common.{◌≡◌, ◌+◌, suc, ◌∙◌, arith}
use Rattle.lc_place.specs.Place.{spot_message}
use Rattle.lc_coset.specs.Near.{walk_matrix}
use Rattle.lc_coset.proofs.WalkLaws.{walk_rows, walk_starts, gone_inside, gone_message, code_message, walk_to}
use Rattle.lc_coset.proofs.walk.go_to.Goals as goal

pub go_to-requires-clause-inside : goal.go_to-requires-clause-inside
go_to-requires-clause-inside c = gone_inside c.args.walk.now.sets.now c.args.plan.now c.args.level c.args.rank c.requires.plan c.requires.inside

pub refresh-requires-clause-message : goal.refresh-requires-clause-message
refresh-requires-clause-message c = gone_message c.args.walk.now.sets.now c.args.plan.now c.args.level c.args.rank c.go_to.new.spot c.requires.plan c.go_to.ensures.at c.go_to.ensures.level

pub refresh-requires-clause-walk : goal.refresh-requires-clause-walk
refresh-requires-clause-walk c =
    let rows = walk_rows c.args.walk.now.sets.now c.args.walk.now.left.now c.args.walk.now.set c.dimension-k.ensures.rows c.dimension-k.ensures.independent c.requires.set c.requires.left in
    rw c.deref_mut.ensures.value (walk_starts c.args.walk.now.sets.now c.args.walk.now.left.now c.args.walk.now.set c.go_to.new.spot c.args.room.now rows c.requires.room)

pub returns : goal.returns
returns c =
    let C = c.args.walk.now.sets.now in
    let up : c.args.level + 1 ≡ suc c.args.level = omega arith in
    record {
      at = record {
        message = code_message C c.args.plan.now c.args.level c.args.rank (spot_message c.go_to.new.spot) c.requires.plan c.go_to.ensures.at;
        level = c.go_to.ensures.level ∙ up;
        walk = walk_to (walk_matrix C c.args.walk.now.left.now c.args.walk.now.set) c.go_to.new.spot (c.args.level + 1) (suc c.args.level) c.refresh.new.sums _ up (with_items_is c.args.room.now.sums c.refresh.new.sums (c.refresh.auto.sums ∙ c.deref_mut.ensures.len)) c.refresh.ensures.walk;
        places = c.go_to.ensures.room ∙ c.requires.room.places;
      };
    }
