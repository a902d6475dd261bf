use Rattle.std.proofs.Common.{◌∙◌}
use Rattle.lc_combine.proofs.SubcodeLaws.{even_checks, even_code}
use Rattle.lc_combine.proofs.subcodes.even_words.Goals as goal

pub from_checks-requires-clause-checks : goal.from_checks-requires-clause-checks
from_checks-requires-clause-checks c =
    even_checks c.args.code.now c.in_ok-dual.dual c.field.result.now c.length.result c.deref.result.now c.in_ok-dual.ensures.code c.field.ensures.is c.length.ensures.is (c.deref.ensures.value ∙ c.in_ok-checks.ensures.are)

pub returns : goal.returns
returns c = record {
  code = even_code c.args.code.now c.in_ok-dual.dual c.in_ok-from_checks.field-0 c.field.result.now c.length.result c.deref.result.now c.requires.binary c.matrix-matrix.ensures.rows c.matrix-matrix.ensures.reduced c.in_ok-dual.ensures.code c.field.ensures.is c.length.ensures.is
      (c.deref.ensures.value ∙ c.in_ok-checks.ensures.are)
      c.in_ok-from_checks.ensures.code;
}
