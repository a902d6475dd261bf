-- Coset leaders, by the numbers of their syndromes, and their first nonzero symbols.
--   Leads H e               e is the first word with its syndrome, by weight and then lexicographically
--   HasLeaders H            each syndrome of a word is that of such a leader
--   Starts i e              e has zeros before coordinate i
--   IsFirst n i e           i is the coordinate of the first nonzero symbol of e, and n if e has none
--   IsStep H i c e          besides, c is its symbol there, 0 if there is none
use Rattle.std.specs.Prelude.{◌≡◌, ℕ, ◌<◌, List, slice_index}
use Rattle.lc_algebra.specs.Word.{IsWord, ComesNoLater}
use Rattle.lc_algebra.specs.Matrix.{Matrix}
use Rattle.lc_syndrome.specs.Syndrome.{syndrome_number}

pub record Leads (H : Matrix) (e : List ℕ) : Type 0 where
  pub word : IsWord H.field H.columns e
  pub first : (d : List ℕ) → IsWord H.field H.columns d → syndrome_number H d ≡ syndrome_number H e → ComesNoLater e d

abbrev pub HasLeaders : Matrix → Type 0
HasLeaders H = (x : List ℕ) → IsWord H.field H.columns x → (e : List ℕ) × Leads H e × (syndrome_number H e ≡ syndrome_number H x)

abbrev pub Starts : ℕ → List ℕ → Type 0
Starts i e = (k : ℕ) → k < i → slice_index e k ≡ 0

pub record IsFirst (n i : ℕ) (e : List ℕ) : Type 0 where
  pub starts : Starts i e
  pub ends : slice_index e i ≡ 0 → i ≡ n

pub record IsStep (H : Matrix) (i c : ℕ) (e : List ℕ) : Type 0 where
  pub at : IsFirst H.columns i e
  pub symbol : slice_index e i ≡ c
