use Rattle.std.proofs.Common.{◌∙◌}
use Rattle.lc_extend.proofs.ComplementLaws.{complement_words, complement_code}
use Rattle.lc_extend.proofs.construction.complement.Goals as goal

pub from_checks-requires-clause-checks : goal.from_checks-requires-clause-checks
from_checks-requires-clause-checks c =
    complement_words c.args.c.now c.args.d.now c.in_ok-dual.dual c.field.result.now c.length.result c.deref.result.now
    c.requires.field c.requires.columns c.matrix-part.ensures.rows c.in_ok-dual.ensures.code c.field.ensures.is c.length.ensures.is
    (c.deref.ensures.value ∙ c.in_ok-checks.ensures.are)

pub returns : goal.returns
returns c = record {
  code = complement_code c.args.c.now c.args.d.now c.in_ok-dual.dual c.in_ok-from_checks.field-0 c.field.result.now c.length.result c.deref.result.now
      c.requires.field c.requires.columns c.matrix-whole.ensures.rows c.matrix-whole.ensures.reduced c.matrix-part.ensures.rows
      c.in_ok-dual.ensures.code c.field.ensures.is c.length.ensures.is
      (c.deref.ensures.value ∙ c.in_ok-checks.ensures.are)
      c.in_ok-from_checks.ensures.code;
}
