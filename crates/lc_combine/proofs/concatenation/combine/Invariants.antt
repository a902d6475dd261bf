use Rattle.std.proofs.Common.{◌≡◌, ◌-◌, length, drop}
use Rattle.lc_algebra.specs.Residue.{digits}
use Rattle.lc_algebra.specs.Field.{size}
use Rattle.lc_algebra.specs.Word.{IsWord, word_sum}
use Rattle.lc_algebra.specs.Span.{combine}
use Rattle.lc_combine.proofs.concatenation.combine.Given as goal

abbrev pub invariant-loop-t : goal.invariant-loop-t
invariant-loop-t l = record {
  word : IsWord l.inner.field l.inner.columns l.image;
  sum : word_sum l.inner.field l.image (combine l.inner.field l.inner.columns (digits (size l.inner.field) (length l.inner.rows - l.t) l.rest) (drop l.t l.inner.rows)) ≡ combine l.inner.field l.inner.columns (digits (size l.inner.field) (length l.inner.rows) l.x) l.inner.rows;
}
