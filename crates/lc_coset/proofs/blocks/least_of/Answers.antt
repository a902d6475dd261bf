use Rattle.std.proofs.Common.{◌≡◌, ◌+◌, ◌-◌, ◌*◌, ◌<◌, min, length, [], slice_index_or, refl, sym, arith}
use Rattle.lc_algebra.specs.Field.{size}
use Rattle.lc_enumeration.specs.NearWord.{pattern_count}
use Rattle.lc_enumeration.specs.Plan.{place_of}
use Rattle.lc_coset.specs.Near.{IsAtRank}
use Rattle.lc_coset.proofs.ValueLaws.{one_value, more_values}
use Rattle.lc_coset.proofs.WalkLaws.{inside_walk, room_of_walk, top_word}
use Rattle.lc_coset.proofs.PhaseLaws.{block_begins}
use Rattle.lc_coset.proofs.BlockLaws.{set_of, left_of_phase, default_left, rests, item_value, block_least}
use Rattle.lc_coset.proofs.blocks.least_of.Goals as goal

pub index-requires : goal.index-requires
index-requires c = let s = (set_of c.args.frame.now c.args.phase c.requires.phase).set in omega (arith, s, c.requires.frame.firsts.many, c.args.frame.now.lefts.ok.0)

pub go_to-requires-clause-set : goal.go_to-requires-clause-set
go_to-requires-clause-set c = (set_of c.args.frame.now c.args.phase c.requires.phase).set

pub go_to-requires-clause-level : goal.go_to-requires-clause-level
go_to-requires-clause-level c = (set_of c.args.frame.now c.args.phase c.requires.phase).level

pub go_to-requires-clause-left : goal.go_to-requires-clause-left
go_to-requires-clause-left c = (left_of_phase c.args.frame.now c.args.phase c.index.result.now c.index.result.now c.requires.frame c.requires.phase c.index.ensures).word

pub go_to-requires-clause-inside : goal.go_to-requires-clause-inside
go_to-requires-clause-inside c = (block_begins c.args.frame.now c.args.phase c.args.block c.requires.phase c.requires.block).counted

pub value_here-least-requires-clause-inside : goal.value_here-least-requires-clause-inside
value_here-least-requires-clause-inside c = omega (arith, inside_walk c.args.frame.now.sets c.index.result.now c.args.phase.set c.args.phase.level _ c.go_to.new.room (left_of_phase c.args.frame.now c.args.phase c.index.result.now c.index.result.now c.requires.frame c.requires.phase c.index.ensures).rows c.go_to.ensures.at)

pub value_here-least-requires-clause-few : goal.value_here-least-requires-clause-few
value_here-least-requires-clause-few c = omega (arith, (top_word c.args.frame.now.sets c.index.result.now c.args.phase.set c.args.phase.level _ c.go_to.new.room (left_of_phase c.args.frame.now c.args.phase c.index.result.now c.index.result.now c.requires.frame c.requires.phase c.index.ensures).rows c.go_to.ensures.at).long, c.requires.frame.short)

pub overflow_sub-phase : goal.overflow_sub-phase
overflow_sub-phase c = omega (arith, (block_begins c.args.frame.now c.args.phase c.args.block c.requires.phase c.requires.block).patterns)

pub loop-offset-init : goal.loop-offset-init
loop-offset-init c =
    let fr = c.args.frame.now in
    let ph = c.args.phase in
    let b = c.args.block in
    let none : b * 4096 + 0 ≡ b * 4096 = omega arith in
    let at0 : IsAtRank fr.sets c.index.result.now ph.set ph.level (b * 4096 + 0) c.go_to.new.room = rw none c.go_to.ensures.at in
    record {
      at = rw (default_left c.args.frame.now.lefts.items c.args.phase.set c.index.result.now (left_of_phase c.args.frame.now c.args.phase c.index.result.now c.index.result.now c.requires.frame c.requires.phase c.index.ensures).inside c.index.ensures) at0;
      least = one_value (place_of (ph.first + b) 0) (rests fr ph b) c.value_here-least.result (item_value fr ph b 0 c.index.result.now c.go_to.new.room c.value_here-least.result ((ph.first + b) * 4096) c.requires.frame c.requires.phase c.requires.block (omega arith) (omega (arith, (block_begins c.args.frame.now c.args.phase c.args.block c.requires.phase c.requires.block).counted)) (left_of_phase c.args.frame.now c.args.phase c.index.result.now c.index.result.now c.requires.frame c.requires.phase c.index.ensures).is (left_of_phase c.args.frame.now c.args.phase c.index.result.now c.index.result.now c.requires.frame c.requires.phase c.index.ensures).rows at0 c.value_here-least.ensures.is (omega arith));
    }

pub step-requires-clause-set : goal.step-requires-clause-set
step-requires-clause-set c = (set_of c.args.frame.now c.args.phase c.requires.phase).set

pub step-requires-clause-level : goal.step-requires-clause-level
step-requires-clause-level c = (set_of c.args.frame.now c.args.phase c.requires.phase).level

pub step-requires-clause-left : goal.step-requires-clause-left
step-requires-clause-left c = (left_of_phase c.args.frame.now c.args.phase c.index.result.now c.index.result.now c.requires.frame c.requires.phase c.index.ensures).word

pub step-requires-clause-at : goal.step-requires-clause-at
step-requires-clause-at c = rw (sym (default_left c.args.frame.now.lefts.items c.args.phase.set c.index.result.now (left_of_phase c.args.frame.now c.args.phase c.index.result.now c.index.result.now c.requires.frame c.requires.phase c.index.ensures).inside c.index.ensures)) c.loop-offset.invariant.at

pub value_here-requires-clause-inside : goal.value_here-requires-clause-inside
value_here-requires-clause-inside c = omega (arith, inside_walk c.args.frame.now.sets c.index.result.now c.args.phase.set c.args.phase.level _ c.step.new.room (left_of_phase c.args.frame.now c.args.phase c.index.result.now c.index.result.now c.requires.frame c.requires.phase c.index.ensures).rows c.step.ensures.at)

pub value_here-requires-clause-few : goal.value_here-requires-clause-few
value_here-requires-clause-few c = omega (arith, (top_word c.args.frame.now.sets c.index.result.now c.args.phase.set c.args.phase.level _ c.step.new.room (left_of_phase c.args.frame.now c.args.phase c.index.result.now c.index.result.now c.requires.frame c.requires.phase c.index.ensures).rows c.step.ensures.at).long, c.requires.frame.short)

pub loop-offset-preserved : goal.loop-offset-preserved
loop-offset-preserved c =
    let fr = c.args.frame.now in
    let ph = c.args.phase in
    let b = c.args.block in
    let n = c.loop-offset.offset in
    let few : n < 4096 = omega (arith, c.loop-offset-test.true, c.min-offset-end.ensures) in
    let inside : b * 4096 + n < pattern_count (length fr.sets.rows) (size fr.sets.field) ph.level = omega (arith, c.loop-offset-test.true, c.min-offset-end.ensures, c.requires.phase.counted) in
    let next : b * 4096 + (n - 1) + 1 ≡ b * 4096 + n = omega (arith, c.loop-offset.auto.offset) in
    let back : n + 1 - 1 ≡ n = omega arith in
    let at : IsAtRank fr.sets c.index.result.now ph.set ph.level (b * 4096 + n) c.step.new.room = rw next at c.step.ensures.at in
    record {
      at = rw (back, (default_left c.args.frame.now.lefts.items c.args.phase.set c.index.result.now (left_of_phase c.args.frame.now c.args.phase c.index.result.now c.index.result.now c.requires.frame c.requires.phase c.index.ensures).inside c.index.ensures)) at;
      least = rw c.min-least.ensures (more_values (place_of (ph.first + b) 0) (rests fr ph b) n c.loop-offset.least c.value_here.result c.loop-offset.invariant.least (item_value fr ph b n c.index.result.now c.step.new.room c.value_here.result ((ph.first + b) * 4096 + n) c.requires.frame c.requires.phase c.requires.block few inside (left_of_phase c.args.frame.now c.args.phase c.index.result.now c.index.result.now c.requires.frame c.requires.phase c.index.ensures).is (left_of_phase c.args.frame.now c.args.phase c.index.result.now c.index.result.now c.requires.frame c.requires.phase c.index.ensures).rows at c.value_here.ensures.is refl));
    }

pub returns-clause-room : goal.returns-clause-room
returns-clause-room c = room_of_walk c.args.frame.now.sets _ c.args.phase.set c.args.phase.level _ c.loop-offset.room (left_of_phase c.args.frame.now c.args.phase (slice_index_or c.args.frame.now.lefts.items c.args.phase.set []) [] c.requires.frame c.requires.phase refl).rows c.loop-offset.invariant.at

pub returns-clause-is : goal.returns-clause-is
returns-clause-is c =
    let all : c.loop-offset.offset ≡ min 4096 (pattern_count (length c.args.frame.now.sets.rows) (size c.args.frame.now.sets.field) c.args.phase.level - 4096 * c.args.block) = omega (arith, c.loop-offset-test.false, c.loop-offset.auto.offset-end, c.min-offset-end.ensures, c.requires.phase.counted, (block_begins c.args.frame.now c.args.phase c.args.block c.requires.phase c.requires.block).counted, (block_begins c.args.frame.now c.args.phase c.args.block c.requires.phase c.requires.block).small) in
    block_least c.args.frame.now c.args.phase c.args.block c.loop-offset.offset c.loop-offset.least c.requires.phase c.requires.block all c.loop-offset.invariant.least
