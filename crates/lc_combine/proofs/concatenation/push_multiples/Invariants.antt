use Rattle.std.proofs.Common.{◌≡◌, List, ℕ, ◌++◌, slice_index_or, []}
use Rattle.lc_algebra.specs.Field.{shape_of, pow}
use Rattle.lc_algebra.specs.Word.{IsWord, scale}
use Rattle.lc_linear_laws.specs.Powers.{power_multiples}
use Rattle.lc_combine.specs.Replaced.{AreReplaced}
use Rattle.lc_combine.proofs.concatenation.push_multiples.Given as goal

abbrev pub invariant-loop-t : goal.invariant-loop-t
invariant-loop-t l = record {
  fits : IsWord l.outer.field l.outer.columns l.word.items;
  word : l.word.items ≡ scale l.outer.field (pow l.outer.field (shape_of l.outer.field).primitive l._t) (slice_index_or l.outer.rows l.i []);
  rows : (us : List (List ℕ)) → AreReplaced l.outer l.inner us l.initial.rows.items → AreReplaced l.outer l.inner (us ++ power_multiples l.outer.field l._t (slice_index_or l.outer.rows l.i [])) l.rows.items;
}
