-- The words of messages over more than 2 elements that end with the same two rows.
--   tail_count C            how many pairs of nonzero elements the field has
--   tail_pair q t           pair t of nonzero elements of q, in lexicographic order
--   tail_word C j a b t     the sum of the multiples by pair t of rows a and b of set j
--   tails_in C              how many tails a set has
--   AreTails C j n ws       the negatives of the first n tails: by the pairs of rows, and then by the pairs of elements
--   ArePlanesOf cols n ws bits      the first n planes of some words at some columns, plane by plane
--   AreTailPlanes C j cols n bits      those of the negatives of all tails
--   tail_index C s          the index of the last two coefficients of a spot
use Rattle.std.specs.Prelude.{◌≡◌, ℕ, ◌+◌, ◌-◌, ◌*◌, ◌/◌, ◌%◌, ◌<◌, List, [], ◌∷◌, length, Some, slice_get, slice_index, slice_index_or}
use Rattle.lc_algebra.specs.Field.{size}
use Rattle.lc_algebra.specs.Word.{IsWord, word_sum, scale}
use Rattle.lc_algebra.specs.Matrix.{Matrix}
use Rattle.lc_enumeration.specs.Message.{supports_from}
use Rattle.lc_enumeration.specs.Search.{generator_at}
use Rattle.lc_place.specs.Place.{SpotState}
use Rattle.lc_planes.specs.Planes.{plane_at, negative}

abbrev pub tail_count : Matrix → ℕ
tail_count C = (size C.field - 1) * (size C.field - 1)

abbrev pub tail_pair : ℕ → ℕ → List ℕ
tail_pair q t = (t / (q - 1) + 1) ∷ (t % (q - 1) + 1) ∷ []

abbrev pub tail_word : Matrix → ℕ → ℕ → ℕ → ℕ → List ℕ
tail_word C j a b t = word_sum C.field (scale C.field (t / (size C.field - 1) + 1) (slice_index_or (generator_at C j) a [])) (scale C.field (t % (size C.field - 1) + 1) (slice_index_or (generator_at C j) b []))

abbrev pub tails_in : Matrix → ℕ
tails_in C = length (supports_from 0 (length C.rows) 2) * tail_count C

pub record AreTails (C : Matrix) (j n : ℕ) (ws : List (List ℕ)) : Type 0 where
  pub long : length ws ≡ n
  pub is : (e a b : ℕ) → e < n → slice_get (supports_from 0 (length C.rows) 2) (e / tail_count C) ≡ Some (a ∷ b ∷ []) → slice_index_or ws e [] ≡ negative C.field (tail_word C j a b (e % tail_count C))
  pub words : (e : ℕ) → e < n → IsWord C.field C.columns (slice_index_or ws e [])

pub record ArePlanesOf (cols : List ℕ) (n : ℕ) (ws : List (List ℕ)) (bits : List ℕ) : Type 0 where
  pub long : length bits ≡ n * length ws
  pub is : (p e : ℕ) → p < n → e < length ws → slice_index bits (p * length ws + e) ≡ plane_at p cols (slice_index_or ws e [])

-- what the runs need of the planes of all tails
pub record AreTailPlanes (C : Matrix) (j : ℕ) (cols : List ℕ) (n : ℕ) (bits : List ℕ) : Type 0 where
  pub long : length bits ≡ n * tails_in C
  pub is : (p e a b : ℕ) → p < n → e < tails_in C → slice_get (supports_from 0 (length C.rows) 2) (e / tail_count C) ≡ Some (a ∷ b ∷ []) → slice_index bits (p * tails_in C + e) ≡ plane_at p cols (negative C.field (tail_word C j a b (e % tail_count C)))

abbrev pub tail_index : Matrix → SpotState → ℕ
tail_index C s = (slice_index s.coefficients (length s.support - 2) - 1) * (size C.field - 1) + (slice_index s.coefficients (length s.support - 1) - 1)
