use Rattle.std.proofs.lemmas.List.{with_items_is}
use Rattle.std.proofs.Common.{◌≡◌, ◌+◌, suc, is_some, sym, ap, ◌∙◌, arith}
use Rattle.std.proofs.lemmas.Bool.{false≢true}
use Rattle.lc_coset.specs.Near.{walk_matrix}
use Rattle.lc_coset.proofs.WalkLaws.{walk_again, plan_message, next_message, walk_to}
use Rattle.lc_coset.proofs.walk.step.Goals as goal

pub step-requires : goal.step-requires
step-requires c = plan_message c.args.walk.now.sets.now c.args.walk.now.left.now c.args.walk.now.set c.args.level c.args.rank c.args.room.now c.args.plan.now c.requires.plan c.requires.at

pub unreachable-requires : goal.unreachable-requires
unreachable-requires c = false≢true (sym (ap is_some c.in_default.is) ∙ (next_message c.args.walk.now.sets.now c.args.walk.now.left.now c.args.walk.now.set c.args.level c.args.rank c.args.room.now c.args.plan.now c.step.new.spot (is_some c.step.result) c.requires.plan c.requires.at c.requires.inside c.step.ensures.next).0)

pub refresh-requires-clause-walk : goal.refresh-requires-clause-walk
refresh-requires-clause-walk c =
    rw c.deref_mut.ensures.value (walk_again (walk_matrix c.args.walk.now.sets.now c.args.walk.now.left.now c.args.walk.now.set) c.args.room.now.spot c.step.new.spot _ c.in-Some.first c.args.room.now.sums.items (sym c.requires.at.level) c.requires.at.walk c.in-Some.ensures.change)

pub overflow_add-level : goal.overflow_add-level
overflow_add-level c = omega (arith, c.requires.level, c.dimension-k.ensures.is, c.dimension-k.ensures.most, c.length-n.ensures.is, c.length-n.ensures.most)

pub returns : goal.returns
returns c =
    let C = c.args.walk.now.sets.now in
    let up : c.args.level + 1 ≡ suc c.args.level = omega arith in
    record {
      at = record {
        message = (next_message C c.args.walk.now.left.now c.args.walk.now.set c.args.level c.args.rank c.args.room.now c.args.plan.now c.step.new.spot (is_some c.step.result) c.requires.plan c.requires.at c.requires.inside c.step.ensures.next).1;
        level = c.step.ensures.level ∙ c.requires.at.level;
        walk = walk_to (walk_matrix C c.args.walk.now.left.now c.args.walk.now.set) c.step.new.spot (c.args.level + 1) (suc c.args.level) c.refresh.new.sums _ up (with_items_is c.args.room.now.sums c.refresh.new.sums (c.refresh.auto.sums ∙ c.deref_mut.ensures.len)) c.refresh.ensures.walk;
        places = c.step.ensures.room ∙ c.requires.at.places;
      };
    }
