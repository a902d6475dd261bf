use Rattle.std.proofs.Common.{◌≡◌, ◌++◌, ◌-◌, length, is_some, ap, ◌∙◌, arith}
use Rattle.lc_enumeration.specs.Message.{numbers_from}
use Rattle.lc_kernel.specs.Packed.{head_of}
use Rattle.lc_kernel.proofs.FrontLaws.{entries_are}
use Rattle.lc_kernel.proofs.RunLaws.{last_is_message, last_long, next_offset}
use Rattle.lc_kernel.proofs.runs.next_head.Goals.{After-to_last_places}
use Rattle.lc_kernel.proofs.runs.next_head.Goals as goal

-- the places of the last message of the run
last_places : (c : After-to_last_places) → c.to_last_places.new.self.support ≡ head_of c.args.table.now.tail c.args.spot.now ++ numbers_from (length c.args.block.now.sets.now.rows - c.args.table.now.tail) c.args.table.now.tail
last_places c =
    let t = c.args.table.now.tail in
    c.to_last_places.ensures.support ∙ ap (λ k. head_of t c.args.spot.now ++ numbers_from (k - t) t) c.dimension-k.ensures.is

pub to_last_places-requires-clause-places : goal.to_last_places-requires-clause-places
to_last_places-requires-clause-places c = omega (arith, c.dimension-k.ensures.is, c.requires.level, (entries_are c.args.block.now.sets.now c.args.spot.now c.requires.at.message).few)

pub step-first-requires : goal.step-first-requires
step-first-requires c =
    let C = c.args.block.now.sets.now in
    let s = c.args.spot.now in
    let table = c.args.table.now in
    let t = table.tail in
    let support = last_places (goal.at.step-first-requires c).After-to_last_places in
    last_is_message C c.args.block.now.plan.now t s c.to_last_places.new.self table.starts.items c.requires.end.0 c.args.block.now.planned c.requires.table.field (omega (arith, c.requires.table.least)) c.requires.level c.requires.table.starts c.requires.at.message c.requires.end.1 support c.to_last_places.ensures.coefficients

pub returns-clause-at : goal.returns-clause-at
returns-clause-at c =
    let C = c.args.block.now.sets.now in
    let s = c.args.spot.now in
    let table = c.args.table.now in
    let t = table.tail in
    let last = c.to_last_places.new.self in
    let e = c.step-first.ensures in
    let support = last_places (goal.at.returns-clause-at c).After-to_last_places in
    next_offset C c.args.block.now.plan.now t c.args.block.now.number c.args.from c.args.done s last c.step-first.new.spot table.starts.items (is_some c.step-first.result) c.args.block.now.planned c.requires.table.field (omega (arith, c.requires.table.least)) c.requires.level c.requires.table.starts c.requires.at c.requires.end c.requires.later c.requires.inside support c.to_last_places.ensures.coefficients c.to_last_places.ensures.set e.next e.message e.level e.set

pub returns-clause-level : goal.returns-clause-level
returns-clause-level c =
    let C = c.args.block.now.sets.now in
    let s = c.args.spot.now in
    let t = c.args.table.now.tail in
    let last = c.to_last_places.new.self in
    let support = last_places (goal.at.returns-clause-level c).After-to_last_places in
    c.step-first.ensures.level ∙ last_long C t s last c.requires.level support
