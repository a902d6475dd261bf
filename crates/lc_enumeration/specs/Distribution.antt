-- The weight distribution of a code, and its words that are 0 on some coordinates or outside them (MacWilliams and Sloane,
-- chapter 5).
--   count_of_weight f n rows w         how many members of the list of words have weight w
--   weight_distribution f n rows       these numbers for the weights 0 to n
--   distribution_of C                  that of a code
--   NoDistribution                     the dimension k and n - k of a code whose distribution isn't computed
--   distribution_refusal q n k         that, if q^k is above 2^24, and besides q^(n-k) is above 2^24 or q^n above 2^63
--   IsZeroOn set w, IsZeroOutside set w      w is 0 at each coordinate of the set; at each of its coordinates outside it
--   is_zero_on set w, is_zero_outside set w  the same as tests
--   zero_on f n rows set, zero_outside f n rows set      the words that are 0 on the set; those that are 0 outside it
use Rattle.std.specs.Prelude.{◌≡◌, ℕ, suc, ◌-◌, ◌^◌, ◌<◌, Bool, nat_lt, ◌==◌, ◌&&◌, ◌||◌, if◌then◌else◌, List, length, map, filter, slice_index, count_by, All, Contains, Option, Some, None}
use Rattle.std.specs.List.{list_all}
use Rattle.lc_algebra.specs.declared.FieldName.{FieldName}
use Rattle.lc_algebra.specs.Word.{weight}
use Rattle.lc_algebra.specs.Span.{below, words}
use Rattle.lc_algebra.specs.Matrix.{Matrix}
use Rattle.lc_enumeration.specs.InformationSet.{is_member}

unfoldable pub count_of_weight : FieldName → ℕ → List (List ℕ) → ℕ → ℕ
count_of_weight f n rows w = count_by (λ v. weight v == w) (words f n rows)

unfoldable pub weight_distribution : FieldName → ℕ → List (List ℕ) → List ℕ
weight_distribution f n rows = map (count_of_weight f n rows) (below (suc n))

unfoldable pub distribution_of : Matrix → List ℕ
distribution_of C = weight_distribution C.field C.columns C.rows

pub record NoDistribution : Type 0 where
  pub dimension : ℕ
  pub codimension : ℕ

unfoldable pub distribution_refusal : ℕ → ℕ → ℕ → Option NoDistribution
distribution_refusal q n k = (if nat_lt (2 ^ 24) (q ^ k) && (nat_lt (2 ^ 24) (q ^ (n - k)) || nat_lt (2 ^ 63) (q ^ n)) then Some (record { dimension = k; codimension = n - k }) else None)

abbrev pub IsZeroOn : List ℕ → List ℕ → Type 0
IsZeroOn set w = All (λ p. slice_index w p ≡ 0) set

abbrev pub IsZeroOutside : List ℕ → List ℕ → Type 0
IsZeroOutside set w = (p : ℕ) → p < length w → ¬ Contains set p → slice_index w p ≡ 0

unfoldable pub is_zero_on : List ℕ → List ℕ → Bool
is_zero_on set w = list_all (λ p. slice_index w p == 0) set

unfoldable pub is_zero_outside : List ℕ → List ℕ → Bool
is_zero_outside set w = list_all (λ p. is_member set p || (slice_index w p == 0)) (below (length w))

unfoldable pub zero_on : FieldName → ℕ → List (List ℕ) → List ℕ → List (List ℕ)
zero_on f n rows set = filter (is_zero_on set) (words f n rows)

unfoldable pub zero_outside : FieldName → ℕ → List (List ℕ) → List ℕ → List (List ℕ)
zero_outside f n rows set = filter (is_zero_outside set) (words f n rows)
