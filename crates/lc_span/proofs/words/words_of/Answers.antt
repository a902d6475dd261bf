use Rattle.std.proofs.Common.{refl, ap, ◌∙◌, arith}
use Rattle.lc_algebra.specs.Word.{zero_word}
use Rattle.lc_span.proofs.WordLaws.{rows_none, rows_more, between_are_rows}
use Rattle.lc_span.proofs.words.words_of.Goals as goal

pub loop-i-init : goal.loop-i-init
loop-i-init c = record {
  least = c.requires.from;
  most = omega arith;
  are = rows_none c.args.rows.now.field c.args.rows.now.columns c.args.to c.args.rows.now.rows c.in_ok-list.list.items c.push.new.self.items c.in_ok-zero.field-0 c.in_ok-list.ensures.items (c.in_ok-zero.ensures.is ∙ ap zero_word c.cols.ensures.is) c.in_ok-push.ensures.items;
}

pub with_row-requires-clause-words : goal.with_row-requires-clause-words
with_row-requires-clause-words c =
    let C = c.args.rows.now in
    between_are_rows C.field c.field.result.now C.columns c.loop-i.i c.args.to c.row.result.now C.rows c.loop-i.list.items c.loop-i.list.items c.rows-words.ensures.words c.field.ensures.is c.row.ensures.word.long refl c.loop-i.invariant.are

pub loop-i-preserved : goal.loop-i-preserved
loop-i-preserved c =
    let C = c.args.rows.now in
    record {
      least = omega (arith, c.loop-i-test.true);
      most = omega (arith, c.loop-i.invariant.most);
      are = rows_more C.field c.field.result.now C.columns c.loop-i.i c.args.to c.row.result.now C.rows c.loop-i.list.items c.loop-i.list.items c.in_ok-list-2.list.items (omega (arith, c.loop-i-test.true)) c.loop-i.invariant.most c.requires.to c.field.ensures.is c.row.ensures.is refl c.loop-i.invariant.are c.in_ok-list-2.ensures.are;
    }
