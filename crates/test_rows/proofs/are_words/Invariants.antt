use Rattle.std.proofs.Common.{ℕ, ◌<◌, [], slice_index_or}
use Rattle.lc_algebra.specs.Word.{IsWord}
use Rattle.test_rows.proofs.are_words.Given as goal

abbrev pub invariant-loop-word : goal.invariant-loop-word
invariant-loop-word l = (k : ℕ) → k < l.word-index → IsWord l.field l.n (slice_index_or l.words k [])
