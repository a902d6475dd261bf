use Rattle.std.proofs.Common.{◌<◌, length, sym, ap, refl, ◌∙◌, arith}
use Rattle.lc_algebra.proofs.FieldLaws.{one_inside}
use Rattle.lc_enumeration.specs.Search.{set_count}
use Rattle.lc_coset.proofs.FrameLaws.{left_at, left_word}
use Rattle.lc_coset.proofs.BestLaws.{best_first}
use Rattle.lc_coset.proofs.best.first_best.Goals as goal

pub neg-requires : goal.neg-requires
neg-requires c = record { element = one_inside c.field-field.result.now }

pub put_sum-requires-clause-lengths : goal.put_sum-requires-clause-lengths
put_sum-requires-clause-lengths c =
    let some : 0 < set_count c.args.sets.now = omega (arith, c.count-some.ensures.is, c.count-some.ensures.least) in
    let left = c.symbols-left.ensures.are ∙ c.index-lefts-0.is ∙ left_at c.args.sets.now c.args.word.now c.args.lefts.now 0 c.index-lefts-0.result c.requires.lefts some in
    ap length c.symbols.ensures.are ∙ c.requires.word.long ∙ sym (left_word c.args.sets.now c.args.word.now 0 c.symbols-left.result.now c.dimension-k.ensures.rows c.dimension-k.ensures.independent c.requires.word some left).long

pub put_sum-requires-clause-from : goal.put_sum-requires-clause-from
put_sum-requires-clause-from c =
    let some : 0 < set_count c.args.sets.now = omega (arith, c.count-some.ensures.is, c.count-some.ensures.least) in
    let left = c.symbols-left.ensures.are ∙ c.index-lefts-0.is ∙ left_at c.args.sets.now c.args.word.now c.args.lefts.now 0 c.index-lefts-0.result c.requires.lefts some in
    rw c.field-field.ensures.is (left_word c.args.sets.now c.args.word.now 0 c.symbols-left.result.now c.dimension-k.ensures.rows c.dimension-k.ensures.independent c.requires.word some left).fits

pub returns-clause-best : goal.returns-clause-best
returns-clause-best c =
    let some : 0 < set_count c.args.sets.now = omega (arith, c.count-some.ensures.is, c.count-some.ensures.least) in
    let left = c.symbols-left.ensures.are ∙ c.index-lefts-0.is ∙ left_at c.args.sets.now c.args.word.now c.args.lefts.now 0 c.index-lefts-0.result c.requires.lefts some in
    best_first c.args.sets.now c.args.word.now c.symbols-left.result.now c.put_sum.new.self _ c.dimension-k.ensures.rows c.dimension-k.ensures.independent (omega (arith, c.length-n.ensures.is, c.length-n.ensures.most)) c.requires.word left
    (rw (c.symbols.ensures.are, c.neg.ensures.is, c.field-field.ensures.is) at c.put_sum.ensures.is) c.weight.ensures.is refl refl
