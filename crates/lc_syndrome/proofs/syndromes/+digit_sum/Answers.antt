use Rattle.std.proofs.Common.{◌+◌, ◌*◌, ◌^◌, ◌<◌, arith}
use Rattle.lc_algebra.specs.Field.{size}
use Rattle.lc_syndrome.proofs.NumberLaws.{digits_room, power_less}
use Rattle.lc_syndrome.proofs.syndromes.+digit_sum.Goals as goal

pub digit_sum-rest-requires : goal.digit_sum-rest-requires
digit_sum-rest-requires t c = (omega arith, power_less c.args.field.now c.args.m (2 ^ 20) c.requires.few)

pub overflow_mul-result : goal.overflow_mul-result
overflow_mul-result t c =
    let room : c.add.result + c.size-q.result * c.digit_sum-rest.result < size c.args.field.now ^ c.args.m =
    digits_room c.args.field.now c.args.m c.args.a c.args.b c.size-q.result c.add.result c.digit_sum-rest.result c.if-m-eq0.false c.size-q.ensures.is c.digit_sum-rest.ensures.is c.add.ensures.is in
    omega (arith, room, c.requires.few)

pub overflow_add-result : goal.overflow_add-result
overflow_add-result t c =
    let room : c.add.result + c.size-q.result * c.digit_sum-rest.result < size c.args.field.now ^ c.args.m =
    digits_room c.args.field.now c.args.m c.args.a c.args.b c.size-q.result c.add.result c.digit_sum-rest.result c.if-m-eq0.false c.size-q.ensures.is c.digit_sum-rest.ensures.is c.add.ensures.is in
    omega (arith, room, c.requires.few)

pub returns-clause-below : goal.returns-clause-below
returns-clause-below t c = digits_room c.args.field.now c.args.m c.args.a c.args.b c.size-q.result c.add.result c.digit_sum-rest.result c.if-m-eq0.false c.size-q.ensures.is c.digit_sum-rest.ensures.is c.add.ensures.is
