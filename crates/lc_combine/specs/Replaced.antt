-- The words that generate a concatenated code: the replaced words of the multiples of the outer rows by 1, γ, ..., γ^(s-1), where γ
-- is the primitive element of the outer field, which are `outer_rows` of `lc_linear_laws` (MacWilliams and Sloane, chapter 10).
--   AreReplaced C D us ws      each of the words ws is the word of us at the same index with each symbol replaced
use Rattle.std.specs.Prelude.{◌≡◌, ℕ, List, [], ◌∷◌}
use Rattle.lc_algebra.specs.Matrix.{Matrix}
use Rattle.lc_constructions.specs.Concatenated.{IsReplacedWord}

abbrev pub AreReplaced : Matrix → Matrix → List (List ℕ) → List (List ℕ) → Type 0
AreReplaced C D [] ws = ws ≡ []
AreReplaced C D (u ∷ us) ws = (w : List ℕ) × ((rest : List (List ℕ)) × IsReplacedWord C D u w × AreReplaced C D us rest × (ws ≡ w ∷ rest))
