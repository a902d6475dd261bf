use Rattle.lc_arguments.proofs.NumberLaws.{within_above, within_is}
use Rattle.lc_arguments.proofs.numbers.number_within.Goals as goal

pub returns-then-n-high-clause-is : goal.returns-then-n-high-clause-is
returns-then-n-high-clause-is c = within_above c.args.low c.args.high c.in_ok-n.n c.args.text.now c.as_bytes.result.now c.as_bytes.ensures.value c.in_ok-n.ensures c.if-n-high.true

pub returns-clause-is : goal.returns-clause-is
returns-clause-is c = within_is c.args.low c.args.high c.in_ok-n.n c.args.text.now c.as_bytes.result.now c.as_bytes.ensures.value c.in_ok-n.ensures c.if-n-low.false c.if-n-high.false
