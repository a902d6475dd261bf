-- The order of messages, and their vectors.
--   ListLess u v          u comes before v, lexicographically
--   MessageLess a b       a comes before b: by its support, and if the supports are equal by its coefficients
--   IsLeadingVector k q w v      v has length k, entries below q, w of them not 0, and the first of these is 1
use Rattle.std.specs.Prelude.{◌≡◌, ◌≢◌, ◌⊎◌, ℕ, ◌<◌, List, [], ◌∷◌, length, slice_index}
use Rattle.lc_algebra.specs.Word.{weight}
use Rattle.lc_enumeration.specs.Message.{Message}

abbrev pub ListLess : List ℕ → List ℕ → Type 0
ListLess [] v = ⊥
ListLess (a ∷ u) [] = ⊥
ListLess (a ∷ u) (b ∷ v) = (a < b) ⊎ ((a ≡ b) × ListLess u v)

abbrev pub MessageLess : Message → Message → Type 0
MessageLess a b = ListLess a.support b.support ⊎ ((a.support ≡ b.support) × ListLess a.coefficients b.coefficients)

-- a vector of length k over q elements with w nonzero entries, the first one 1
pub record IsLeadingVector (k q w : ℕ) (v : List ℕ) : Type 0 where
  pub many : length v ≡ k
  pub entries : (i : ℕ) → i < k → slice_index v i < q
  pub weighs : weight v ≡ w
  pub leads : (i : ℕ) → slice_index v i ≢ 0 → ((j : ℕ) → j < i → slice_index v j ≡ 0) → slice_index v i ≡ 1
