use Rattle.std.proofs.Common.{◌≡◌, ◌++◌, [], slice_index_or}
use Rattle.lc_algebra.specs.Field.{shape_of, pow}
use Rattle.lc_algebra.specs.Word.{IsWord, scale}
use Rattle.lc_trace.specs.Traces.{traced_multiples}
use Rattle.lc_trace.proofs.trace.push_multiples.Given as goal

abbrev pub invariant-loop-t : goal.invariant-loop-t
invariant-loop-t l = record {
  word : l.word.items ≡ scale l.code.field (pow l.code.field (shape_of l.code.field).primitive l._t) (slice_index_or l.code.rows l.i []);
  fits : IsWord l.code.field l.code.columns l.word.items;
  rows : l.rows.items ≡ l.initial.rows.items ++ traced_multiples l.code.field l._t l.traces (slice_index_or l.code.rows l.i []);
}
