-- Check rows and syndromes of an alternant form (MacWilliams and Sloane, chapter 12).
--   AreCheckRows K xs ys m rows      the rows are the first m check rows: row j has the products y_i x_i^j
--   AreSyndromes f form x m s        s are the first m syndromes of x: entry j is the sum of the products of x and check row j
--   IsPointed K xs ys                distinct points of the field, and as many nonzero multipliers
--   IsReach form t                   t is half of the number of checks, rounded down, or the number of points if that is less
use Rattle.std.specs.Prelude.{◌≡◌, ◌≢◌, ℕ, ◌/◌, ◌<◌, List, [], length, slice_index, slice_index_or, EachIndex, AllPairs, min}
use Rattle.lc_algebra.specs.declared.FieldName.{FieldName}
use Rattle.lc_algebra.specs.Word.{Fits}
use Rattle.lc_constructions.specs.Alternant.{AlternantForm, check_row, syndrome_at}

pub record AreCheckRows (K : FieldName) (xs ys : List ℕ) (m : ℕ) (rows : List (List ℕ)) : Type 0 where
  pub count : length rows ≡ m
  pub each : (j : ℕ) → j < m → slice_index_or rows j [] ≡ check_row K xs ys j

pub record AreSyndromes (f : FieldName) (form : AlternantForm) (x : List ℕ) (m : ℕ) (s : List ℕ) : Type 0 where
  pub count : length s ≡ m
  pub are : (j : ℕ) → j < m → slice_index s j ≡ syndrome_at f form x j

pub record IsPointed (K : FieldName) (xs ys : List ℕ) : Type 0 where
  pub points : Fits K xs
  pub distinct : AllPairs (λ a b. a ≢ b) xs
  pub count : length ys ≡ length xs
  pub multipliers : Fits K ys
  pub nonzero : EachIndex ys (λ i. 0 < slice_index ys i)

abbrev pub IsReach : AlternantForm → ℕ → Type 0
IsReach form t = t ≡ min (form.r / 2) (length form.points)
