use Rattle.std.proofs.Common.{◌%◌, length, ap, ◌∙◌, arith}
use Rattle.lc_algebra.specs.Residue.{digits}
use Rattle.lc_algebra.specs.Field.{size}
use Rattle.lc_algebra.specs.Span.{combine}
use Rattle.lc_combine.proofs.ReplacedLaws.{combine_none, zero_is_word, combine_next, combine_word_next, combine_all}
use Rattle.lc_combine.proofs.concatenation.combine.Goals as goal

pub loop-t-init : goal.loop-t-init
loop-t-init c = record {
  word = zero_is_word c.args.inner.now.field c.args.inner.now.columns c.args.image.now c.requires.zero;
  sum = combine_none c.args.inner.now.field c.args.inner.now.columns (size c.args.inner.now.field) (length c.args.inner.now.rows) c.args.x c.args.image.now c.args.inner.now.rows c.matrix-matrix.ensures.rows c.requires.zero;
}

pub loop-t-preserved : goal.loop-t-preserved
loop-t-preserved c = record {
  word = combine_word_next c.args.inner.now.field c.field-in-loop-t.result.now c.args.inner.now.columns (c.loop-t.rest % c.size-q.result) c.loop-t.image c.add_scaled.new.to c.row-row.result.now c.field-in-loop-t.ensures.is c.loop-t.invariant.word c.row-row.ensures.word c.add_scaled.ensures.is;
  sum = combine_next c.args.inner.now.field c.field-in-loop-t.result.now c.args.inner.now.columns c.size-q.result c.loop-t.t c.loop-t.rest c.loop-t.image c.add_scaled.new.to c.row-row.result.now c.args.inner.now.rows (combine c.args.inner.now.field c.args.inner.now.columns (digits (size c.args.inner.now.field) (length c.args.inner.now.rows) c.args.x) c.args.inner.now.rows) c.field-in-loop-t.ensures.is (c.size-q.ensures.is ∙ ap size c.field.ensures.is) (omega (arith, c.loop-t-test.true, c.dimension-t-end.ensures.is)) c.row-row.ensures.is c.add_scaled.ensures.is c.loop-t.invariant.sum;
}

pub returns : goal.returns
returns c = record {
  is = combine_all c.args.inner.now.field c.args.inner.now.columns (size c.args.inner.now.field) c.loop-t.t c.loop-t.rest c.loop-t.image c.args.inner.now.rows (combine c.args.inner.now.field c.args.inner.now.columns (digits (size c.args.inner.now.field) (length c.args.inner.now.rows) c.args.x) c.args.inner.now.rows) (omega (arith, c.loop-t-test.false, c.loop-t.auto.t-end, c.dimension-t-end.ensures.is)) c.loop-t.invariant.word c.loop-t.invariant.sum;
}
