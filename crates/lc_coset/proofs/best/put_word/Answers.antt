use Rattle.std.proofs.Common.{◌≡◌, ◌+◌, suc, length, [], slice_index_or, sym, ap, ◌∙◌, arith}
use Rattle.lc_algebra.specs.Word.{scale}
use Rattle.lc_algebra.proofs.FieldLaws.{one_inside}
use Rattle.lc_algebra.proofs.WordLaws.{length_scale, length_word_sum}
use Rattle.lc_coset.proofs.WalkLaws.{inside_walk, room_of_walk, top_word}
use Rattle.lc_coset.proofs.BlockLaws.{set_of, left_of_phase}
use Rattle.lc_coset.proofs.BestLaws.{place_parts, word_put}
use Rattle.lc_coset.proofs.best.put_word.Goals as goal

pub index-requires : goal.index-requires
index-requires c = let s = (set_of c.args.frame.now c.args.phase c.requires.phase).set in omega (arith, s, c.requires.frame.firsts.many, c.args.frame.now.lefts.ok.0)

pub go_to-requires-clause-set : goal.go_to-requires-clause-set
go_to-requires-clause-set c = (set_of c.args.frame.now c.args.phase c.requires.phase).set

pub go_to-requires-clause-level : goal.go_to-requires-clause-level
go_to-requires-clause-level c = (set_of c.args.frame.now c.args.phase c.requires.phase).level

pub go_to-requires-clause-left : goal.go_to-requires-clause-left
go_to-requires-clause-left c = (left_of_phase c.args.frame.now c.args.phase c.index.result.now c.index.result.now c.requires.frame c.requires.phase c.index.ensures).word

pub go_to-requires-clause-small : goal.go_to-requires-clause-small
go_to-requires-clause-small c = (place_parts c.args.frame.now c.args.phase c.args.place c.requires.phase (c.requires.there (λ e. c.if-place-best.false e))).small

pub go_to-requires-clause-inside : goal.go_to-requires-clause-inside
go_to-requires-clause-inside c = (place_parts c.args.frame.now c.args.phase c.args.place c.requires.phase (c.requires.there (λ e. c.if-place-best.false e))).counted

pub top-requires : goal.top-requires
top-requires c = record { inside = omega (arith, inside_walk c.args.frame.now.sets c.index.result.now c.args.phase.set c.args.phase.level _ c.go_to.new.room (left_of_phase c.args.frame.now c.args.phase c.index.result.now c.index.result.now c.requires.frame c.requires.phase c.index.ensures).rows c.go_to.ensures.at) }

pub neg-requires : goal.neg-requires
neg-requires c = record { element = one_inside c.field-field.result.now }

pub put_sum-requires-clause-lengths : goal.put_sum-requires-clause-lengths
put_sum-requires-clause-lengths c = ap length c.symbols.ensures.are ∙ c.requires.frame.given.long ∙ sym (ap length (c.symbols-rest.ensures.are ∙ c.top.ensures.is) ∙ (top_word c.args.frame.now.sets c.index.result.now c.args.phase.set c.args.phase.level _ c.go_to.new.room (left_of_phase c.args.frame.now c.args.phase c.index.result.now c.index.result.now c.requires.frame c.requires.phase c.index.ensures).rows c.go_to.ensures.at).long)

pub put_sum-requires-clause-from : goal.put_sum-requires-clause-from
put_sum-requires-clause-from c = rw (c.symbols-rest.ensures.are ∙ c.top.ensures.is, c.field-field.ensures.is) (top_word c.args.frame.now.sets c.index.result.now c.args.phase.set c.args.phase.level _ c.go_to.new.room (left_of_phase c.args.frame.now c.args.phase c.index.result.now c.index.result.now c.requires.frame c.requires.phase c.index.ensures).rows c.go_to.ensures.at).fits

pub returns-clause-there : goal.returns-clause-there
returns-clause-there c =
    let up : c.args.phase.level + 1 ≡ suc c.args.phase.level = omega arith in
    word_put c.args.frame.now c.args.phase c.args.place c.index.result.now c.symbols-rest.result.now c.put_sum.new.self c.go_to.new.room c.requires.frame c.requires.phase (c.requires.there (λ e. c.if-place-best.false e)) (left_of_phase c.args.frame.now c.args.phase c.index.result.now c.index.result.now c.requires.frame c.requires.phase c.index.ensures).is (left_of_phase c.args.frame.now c.args.phase c.index.result.now c.index.result.now c.requires.frame c.requires.phase c.index.ensures).rows c.go_to.ensures.at
    (c.symbols-rest.ensures.are ∙ c.top.ensures.is ∙ ap (λ n. slice_index_or c.go_to.new.room.sums.items n []) up) (rw (c.symbols.ensures.are, c.neg.ensures.is, c.field-field.ensures.is) at c.put_sum.ensures.is)

pub returns-clause-room : goal.returns-clause-room
returns-clause-room c = room_of_walk c.args.frame.now.sets c.index.result.now c.args.phase.set c.args.phase.level _ c.go_to.new.room (left_of_phase c.args.frame.now c.args.phase c.index.result.now c.index.result.now c.requires.frame c.requires.phase c.index.ensures).rows c.go_to.ensures.at

pub returns-clause-long : goal.returns-clause-long
returns-clause-long c =
    let rest : length c.symbols-rest.result.now ≡ c.args.frame.now.sets.columns = ap length (c.symbols-rest.ensures.are ∙ c.top.ensures.is) ∙ (top_word c.args.frame.now.sets c.index.result.now c.args.phase.set c.args.phase.level _ c.go_to.new.room (left_of_phase c.args.frame.now c.args.phase c.index.result.now c.index.result.now c.requires.frame c.requires.phase c.index.ensures).rows c.go_to.ensures.at).long in
    let given : length c.symbols.result.now ≡ c.args.frame.now.sets.columns = ap length c.symbols.ensures.are ∙ c.requires.frame.given.long in
    ap length c.put_sum.ensures.is ∙ length_word_sum c.field-field.result.now c.symbols.result.now (scale c.field-field.result.now c.neg.result c.symbols-rest.result.now) (given ∙ sym (length_scale c.field-field.result.now c.neg.result c.symbols-rest.result.now ∙ rest)) ∙ length_scale c.field-field.result.now c.neg.result c.symbols-rest.result.now ∙ rest
