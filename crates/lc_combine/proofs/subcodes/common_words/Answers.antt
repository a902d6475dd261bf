use Rattle.std.proofs.Common.{◌∙◌}
use Rattle.lc_combine.proofs.SubcodeLaws.{common_checks, common_code}
use Rattle.lc_combine.proofs.subcodes.common_words.Goals as goal

pub from_checks-requires-clause-checks : goal.from_checks-requires-clause-checks
from_checks-requires-clause-checks c =
    common_checks c.args.a.now c.args.b.now c.in_ok-left.left c.in_ok-right.right c.field.result.now c.length.result c.deref.result.now c.requires.field c.requires.columns c.in_ok-left.ensures.code c.in_ok-right.ensures.code c.field.ensures.is c.length.ensures.is (c.deref.ensures.value ∙ c.in_ok-checks.ensures.are)

pub returns : goal.returns
returns c = record {
  code = common_code c.args.a.now c.args.b.now c.in_ok-left.left c.in_ok-right.right c.in_ok-from_checks.field-0 c.field.result.now c.length.result c.deref.result.now c.requires.field c.requires.columns c.matrix-first.ensures.rows c.matrix-first.ensures.reduced c.matrix-second.ensures.rows c.matrix-second.ensures.reduced c.in_ok-left.ensures.code c.in_ok-right.ensures.code c.field.ensures.is c.length.ensures.is
      (c.deref.ensures.value ∙ c.in_ok-checks.ensures.are)
      c.in_ok-from_checks.ensures.code;
}
