use Rattle.std.proofs.Common.{◌+◌, ap₂, ◌∙◌}
use Rattle.lc_extend.proofs.ConstructionLaws.{tails_count, extended_words, extended_code}
use Rattle.lc_extend.proofs.construction.extended_words.Goals as goal

pub from_rows-requires-clause-rows : goal.from_rows-requires-clause-rows
from_rows-requires-clause-rows c =
    extended_words c.args.c.now c.args.d.now c.args.e.now c.in_ok-complement.complement c.field.result.now (c.length.result + c.length-2.result) c.deref.result.now
    c.requires.field c.requires.columns c.requires.tail_field c.matrix-part.ensures.rows c.matrix-tail.ensures.rows c.in_ok-complement.ensures.code
    c.field.ensures.is (ap₂ (λ n m. n + m) c.length.ensures.is c.length-2.ensures.is)
    (c.deref.ensures.value ∙ c.in_ok-rows.ensures.are)

pub returns : goal.returns
returns c =
    let C = c.args.c.now in
    let D = c.args.d.now in
    let E = c.args.e.now in
    let B = c.in_ok-complement.complement in
    record {
      code = extended_code C D E B c.in_ok-from_rows.field-0 c.field.result.now (c.length.result + c.length-2.result) c.deref.result.now
          c.requires.field c.requires.columns c.requires.tail_field c.matrix-part.ensures.rows c.matrix-tail.ensures.rows c.in_ok-complement.ensures.code
          (tails_count C D E B c.requires.field c.requires.columns c.matrix-whole.ensures.rows c.matrix-whole.ensures.reduced c.matrix-part.ensures.rows c.matrix-part.ensures.reduced c.requires.inside c.requires.dimension c.in_ok-complement.ensures.code)
          c.field.ensures.is (ap₂ (λ n m. n + m) c.length.ensures.is c.length-2.ensures.is)
          (c.deref.ensures.value ∙ c.in_ok-rows.ensures.are)
          c.in_ok-from_rows.ensures.code;
    }
