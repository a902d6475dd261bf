-- Rows that generate or check the codes of construction X; the clauses of private functions alone speak of these.
--   lead_word row          1 where the row begins, and 0 elsewhere
--   side_rows us vs        each word of the first list, followed by that of the second
use Rattle.std.specs.Prelude.{ℕ, List, [], ◌∷◌, ◌++◌, length, set, Option, Some, None}
use Rattle.lc_algebra.specs.Word.{zero_word, first_nonzero}

abbrev pub marked : Option ℕ → List ℕ → List ℕ
marked None w = w
marked (Some p) w = set w p 1

unfoldable pub lead_word : List ℕ → List ℕ
lead_word row = marked (first_nonzero row) (zero_word (length row))

unfoldable pub side_rows : List (List ℕ) → List (List ℕ) → List (List ℕ)
side_rows (u ∷ us) (v ∷ vs) = (u ++ v) ∷ side_rows us vs
side_rows _ _ = []
