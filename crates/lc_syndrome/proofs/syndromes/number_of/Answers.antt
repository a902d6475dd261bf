use Rattle.std.proofs.Common.{◌+◌, ◌*◌, ◌<◌, ap, ◌∙◌, arith}
use Rattle.lc_algebra.specs.Word.{word_dot}
use Rattle.lc_syndrome.specs.Syndrome.{coset_count}
use Rattle.lc_syndrome.proofs.NumberLaws.{number_room}
use Rattle.lc_syndrome.proofs.syndromes.number_of.Goals as goal

pub overflow_mul-number : goal.overflow_mul-number
overflow_mul-number c =
    let room : c.dot.result + c.size-q.result * c.loop-t.number < coset_count c.args.checks.now =
    number_room c.args.checks.now c.field-field.result.now c.rows-m.result c.loop-t.t c.loop-t.number c.dot.result c.size-q.result c.args.word.now c.rows-m.ensures.is c.loop-t-test.true c.loop-t.invariant c.field-field.ensures.is c.size-q.ensures.is (c.dot.ensures.is ∙ ap (λ row. word_dot c.field-field.result.now row c.args.word.now) c.row.ensures.is) in
    omega (arith, room, c.requires.few)

pub overflow_add-number : goal.overflow_add-number
overflow_add-number c =
    let room : c.dot.result + c.size-q.result * c.loop-t.number < coset_count c.args.checks.now =
    number_room c.args.checks.now c.field-field.result.now c.rows-m.result c.loop-t.t c.loop-t.number c.dot.result c.size-q.result c.args.word.now c.rows-m.ensures.is c.loop-t-test.true c.loop-t.invariant c.field-field.ensures.is c.size-q.ensures.is (c.dot.ensures.is ∙ ap (λ row. word_dot c.field-field.result.now row c.args.word.now) c.row.ensures.is) in
    omega (arith, room, c.requires.few)
