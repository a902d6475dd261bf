-- Systems of linear equations over a field (any textbook's elimination on the augmented matrix).
--   augmented rows right          each row, with its right side after it
--   Solves f rows right w         the dot of w with row i is the right side's symbol i, for each i
--   IsSolutionWord f n ps e w     w has n symbols: at place i the symbol of row i of e at column n, and 0 elsewhere
--   IsSolutionTo f n ps e i w     w is written so far as the first i places
use Rattle.std.specs.Prelude.{◌≡◌, ℕ, ◌<◌, List, [], ◌∷◌, ◌++◌, length, slice_index, slice_index_or, Contains}
use Rattle.lc_algebra.specs.declared.FieldName.{FieldName}
use Rattle.lc_algebra.specs.Word.{IsWord, word_dot}
use Rattle.lc_algebra.specs.Matrix.{entry}

unfoldable pub augmented : List (List ℕ) → List ℕ → List (List ℕ)
augmented [] right = []
augmented (row ∷ rows) [] = []
augmented (row ∷ rows) (b ∷ right) = (row ++ b ∷ []) ∷ augmented rows right

abbrev pub Solves : FieldName → List (List ℕ) → List ℕ → List ℕ → Type 0
Solves f rows right w = (i : ℕ) → i < length rows → word_dot f (slice_index_or rows i []) w ≡ slice_index right i

pub record IsSolutionWord (f : FieldName) (n : ℕ) (ps : List ℕ) (e : List (List ℕ)) (w : List ℕ) : Type 0 where
  pub word : IsWord f n w
  pub places : (i : ℕ) → i < length ps → slice_index w (slice_index ps i) ≡ entry e i n
  pub others : (c : ℕ) → (Contains ps c → ⊥) → slice_index w c ≡ 0

pub record IsSolutionTo (f : FieldName) (n : ℕ) (ps : List ℕ) (e : List (List ℕ)) (i : ℕ) (w : List ℕ) : Type 0 where
  pub word : IsWord f n w
  pub places : (k : ℕ) → k < i → slice_index w (slice_index ps k) ≡ entry e k n
  pub others : (c : ℕ) → (Contains ps c → ⊥) → slice_index w c ≡ 0
