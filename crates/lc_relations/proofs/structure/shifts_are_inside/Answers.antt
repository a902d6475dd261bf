use Rattle.std.proofs.Common.{◌∙◌, [], sym, ap, length, subst, arith}
use Rattle.lc_algebra.specs.Word.{IsWord}
use Rattle.lc_constructions.specs.Code.{InCode}
use Rattle.lc_language.specs.Relations.{shifted}
use Rattle.lc_relations.proofs.RowLaws.{all_more, all_told}
use Rattle.lc_relations.proofs.StructureLaws.{shift_word}
use Rattle.lc_relations.proofs.structure.shifts_are_inside.Goals as goal

pub contains-requires-clause-word : goal.contains-requires-clause-word
contains-requires-clause-word c =
    let C = c.args.code.now in
    subst (IsWord C.field C.columns) (sym c.put_shifted.ensures.is) (shift_word C.field C.columns c.row.result.now c.row.ensures.word)

pub loop-i-preserved : goal.loop-i-preserved
loop-i-preserved c =
    let C = c.args.code.now in (
      all_more (λ row. InCode C (shifted row)) C.rows c.loop-i.i c.row.result.now []
          (omega (arith, c.loop-i-test.true, c.loop-i.auto.i-end, c.dimension-i-end.ensures.is))
          c.row.ensures.is c.loop-i.invariant.0
          (subst (InCode C) c.put_shifted.ensures.is (c.contains.ensures.is.0 c.if-not-contains.false)),
      ap (λ u. length u) c.put_shifted.ensures.is ∙ (shift_word C.field C.columns c.row.result.now c.row.ensures.word).long,
      c.contains.ensures.length ∙ c.loop-i.invariant.2,
    )

pub returns : goal.returns
returns c = record {
  is = all_told (λ row. InCode c.args.code.now (shifted row)) c.args.code.now.rows c.loop-i.i (omega (arith, c.loop-i-test.false, c.loop-i.auto.i-end, c.dimension-i-end.ensures.is)) c.loop-i.invariant.0;
}
