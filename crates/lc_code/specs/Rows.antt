-- Rows of a code, made longer.
--   left_rows n us         each word, followed by n zeros
use Rattle.std.specs.Prelude.{ℕ, List, ◌++◌, map}
use Rattle.lc_algebra.specs.Word.{zero_word}

abbrev pub left_rows : ℕ → List (List ℕ) → List (List ℕ)
left_rows n us = map (λ u. u ++ zero_word n) us
