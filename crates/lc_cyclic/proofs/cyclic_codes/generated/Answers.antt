use Rattle.std.proofs.Common.{◌∙◌}
use Rattle.lc_cyclic.proofs.CyclicLaws.{divisor_nonzero, divisor_low, generated_rows, generated_code}
use Rattle.lc_cyclic.proofs.cyclic_codes.generated.Goals as goal

pub shifts-requires-clause-room : goal.shifts-requires-clause-room
shifts-requires-clause-room c = divisor_low c.args.field.now c.args.n c.args.polynomial.now c.requires.least c.requires.polynomial c.requires.divides

pub shifts-requires-clause-nonzero : goal.shifts-requires-clause-nonzero
shifts-requires-clause-nonzero c = divisor_nonzero c.args.field.now c.args.n c.args.polynomial.now c.requires.least c.requires.polynomial c.requires.divides

pub from_rows-requires-clause-rows : goal.from_rows-requires-clause-rows
from_rows-requires-clause-rows c =
    generated_rows c.args.field.now c.args.n c.args.polynomial.now c.deref.result.now c.requires.least c.requires.polynomial c.requires.divides (c.deref.ensures.value ∙ c.in_ok-rows.ensures.are)

pub returns : goal.returns
returns c = record {
  code = generated_code c.args.field.now c.args.n c.args.polynomial.now c.deref.result.now c.in_ok-from_rows.field-0 c.requires.least c.requires.polynomial c.requires.divides (c.deref.ensures.value ∙ c.in_ok-rows.ensures.are) c.in_ok-from_rows.ensures.code;
}
