use Rattle.std.proofs.Common.{◌<◌, ◌+◌, ◌*◌, ◌%◌, arith, sym, mod-lt}
use Rattle.lc_field.proofs.TableLaws.{combined_none, combined_step, power_down_small, power_least, digit_product, digits_below}
use Rattle.lc_field.proofs.digits.+combine.Goals as goal

pub returns-then-s-eq0-clause-is : goal.returns-then-s-eq0-clause-is
returns-then-s-eq0-clause-is t c = rw c.if-s-eq0.true (sym (combined_none c.args.p c.args.c c.args.a c.args.b))

pub overflow_mul-lowest : goal.overflow_mul-lowest
overflow_mul-lowest t c = omega (arith, digit_product c.args.p c.args.s c.args.c c.args.b (omega arith) (omega (arith, c.requires.prime)) c.requires.small c.requires.residue)

pub overflow_add-lowest : goal.overflow_add-lowest
overflow_add-lowest t c = let d : c.args.a % c.args.p < c.args.p = mod-lt c.args.a (omega (arith, c.requires.prime)) in omega (arith, d, c.requires.small, power_least c.args.p c.args.s (omega arith) (omega (arith, c.requires.prime)), digit_product c.args.p c.args.s c.args.c c.args.b (omega arith) (omega (arith, c.requires.prime)) c.requires.small c.requires.residue)

pub combine-requires : goal.combine-requires
combine-requires t c = (omega (arith, c.decreases), (c.requires.prime, (power_down_small c.args.p c.args.s (omega arith) c.requires.prime c.requires.small, c.requires.residue)))

pub overflow_mul-result : goal.overflow_mul-result
overflow_mul-result t c = omega (arith, c.requires.small, digits_below c.args.p c.args.s 0 c.combine.result (omega arith) (omega (arith, c.requires.prime)) c.combine.ensures.below)

pub overflow_add-result : goal.overflow_add-result
overflow_add-result t c = omega (arith, c.requires.small, digits_below c.args.p c.args.s _ c.combine.result (omega arith) (mod-lt (c.args.a % c.args.p + c.args.c * (c.args.b % c.args.p)) (omega (arith, c.requires.prime))) c.combine.ensures.below)

pub returns-clause-is : goal.returns-clause-is
returns-clause-is t c = rw c.combine.ensures.is (sym (combined_step c.args.p c.args.s c.args.c c.args.a c.args.b (omega arith)))

pub returns-clause-below : goal.returns-clause-below
returns-clause-below t c = digits_below c.args.p c.args.s _ c.combine.result (omega arith) (mod-lt (c.args.a % c.args.p + c.args.c * (c.args.b % c.args.p)) (omega (arith, c.requires.prime))) c.combine.ensures.below
