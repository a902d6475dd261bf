use Rattle.std.proofs.Common.{◌+◌, ap, arith}
use Rattle.lc_coset.proofs.LedBlocks.{start_at, led_small, led_value}
use Rattle.lc_coset.proofs.led.least_led.Goals as goal

pub overflow_add-at : goal.overflow_add-at
overflow_add-at c = omega (arith, led_small c.args.led.now c.args.phase c.args.block c.requires.whole, start_at c.args.led.now c.args.phase c.args.block c.index.result.now c.requires.whole c.index.ensures)

pub overflow_sub-result : goal.overflow_sub-result
overflow_sub-result c = omega (arith, c.count-count.ensures.is, (led_value c.args.frame.now c.args.phase c.args.block (c.index.result.now + c.args.block) c.least-value.result c.args.led.now c.requires.frame c.requires.phase c.requires.block c.requires.led c.requires.whole (ap (λ n. n + c.args.block) (start_at c.args.led.now c.args.phase c.args.block c.index.result.now c.requires.whole c.index.ensures)) c.least-value.ensures.is).low)

pub overflow_mul-result-2 : goal.overflow_mul-result-2
overflow_mul-result-2 c = omega (arith, led_small c.args.led.now c.args.phase c.args.block c.requires.whole, start_at c.args.led.now c.args.phase c.args.block c.index.result.now c.requires.whole c.index.ensures)

pub overflow_sub-result-2 : goal.overflow_sub-result-2
overflow_sub-result-2 c = omega (arith, c.count-count.ensures.is, (led_value c.args.frame.now c.args.phase c.args.block (c.index.result.now + c.args.block) c.least-value.result c.args.led.now c.requires.frame c.requires.phase c.requires.block c.requires.led c.requires.whole (ap (λ n. n + c.args.block) (start_at c.args.led.now c.args.phase c.args.block c.index.result.now c.requires.whole c.index.ensures)) c.least-value.ensures.is).low)

pub returns-clause-is : goal.returns-clause-is
returns-clause-is c = rw c.count-count.ensures.is ((led_value c.args.frame.now c.args.phase c.args.block (c.index.result.now + c.args.block) c.least-value.result c.args.led.now c.requires.frame c.requires.phase c.requires.block c.requires.led c.requires.whole (ap (λ n. n + c.args.block) (start_at c.args.led.now c.args.phase c.args.block c.index.result.now c.requires.whole c.index.ensures)) c.least-value.ensures.is).is)
