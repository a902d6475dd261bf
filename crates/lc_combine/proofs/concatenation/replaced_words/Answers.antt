use Rattle.std.proofs.Common.{◌*◌, ap₂}
use Rattle.lc_combine.proofs.ConcatenatedLaws.{concatenated_rows, concatenated_code}
use Rattle.lc_combine.proofs.concatenation.replaced_words.Goals as goal

pub from_rows-requires-clause-rows : goal.from_rows-requires-clause-rows
from_rows-requires-clause-rows c =
    concatenated_rows c.args.outer.now c.args.inner.now c.field.result.now (c.length.result * c.length-2.result) c.in_ok-rows.rows.items c.deref.result.now c.matrix-first.ensures.rows c.matrix-second.ensures.rows c.field.ensures.is (ap₂ (λ x y. x * y) c.length.ensures.is c.length-2.ensures.is) c.in_ok-rows.ensures.are c.deref.ensures.value

pub returns : goal.returns
returns c = record {
  code = concatenated_code c.args.outer.now c.args.inner.now c.in_ok-from_rows.field-0 c.field.result.now (c.length.result * c.length-2.result) c.in_ok-rows.rows.items c.deref.result.now c.field-large.ensures.symbol c.requires.degree c.matrix-first.ensures.rows c.matrix-second.ensures.rows c.field.ensures.is
      (ap₂ (λ x y. x * y) c.length.ensures.is c.length-2.ensures.is)
      c.in_ok-rows.ensures.are
      c.deref.ensures.value
      c.in_ok-from_rows.ensures.code;
}
