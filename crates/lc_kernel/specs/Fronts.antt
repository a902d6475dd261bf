-- Sums of the first entries of a message by their planes.
--   ArePlanes cols n w x           the first n numbers of a list are planes of a word at some columns
--   AreRowPlanes C j cols n m rows      those of the first m nonzero multiples of the rows of set j
--   AreFrontPlanes C s b n m fronts      those of the sums of up to m entries, at part b of the columns outside the basis
--   IsKept C j b n rows            what these sums need of set j at part b
use Rattle.std.specs.Prelude.{◌≡◌, ℕ, ◌+◌, ◌-◌, ◌*◌, ◌/◌, ◌%◌, ◌^◌, ◌<◌, ◌≤◌, List, [], length, slice_index, slice_index_or}
use Rattle.lc_algebra.specs.Field.{size}
use Rattle.lc_algebra.specs.Word.{scale}
use Rattle.lc_algebra.specs.Matrix.{Matrix}
use Rattle.lc_enumeration.specs.Search.{generator_at}
use Rattle.lc_place.specs.Place.{SpotState}
use Rattle.lc_kernel.specs.Packed.{others}
use Rattle.lc_planes.specs.Planes.{part_at, plane_at}
use Rattle.lc_kernel.specs.Sums.{front_word}

abbrev pub ArePlanes : List ℕ → ℕ → List ℕ → List ℕ → Type 0
ArePlanes cols n w x = (p : ℕ) → p < n → slice_index x p ≡ plane_at p cols w

pub record AreRowPlanes (C : Matrix) (j : ℕ) (cols : List ℕ) (n m : ℕ) (rows : List (List ℕ)) : Type 0 where
  pub count : length rows ≡ m
  pub are : (i p : ℕ) → i < m → p < n → slice_index (slice_index_or rows i []) p ≡ plane_at p cols (scale C.field (i % (size C.field - 1) + 1) (slice_index_or (generator_at C j) (i / (size C.field - 1)) []))

abbrev pub AreFrontPlanes : Matrix → SpotState → ℕ → ℕ → ℕ → List (List ℕ) → Type 0
AreFrontPlanes C s b n m fronts = (i p : ℕ) → i ≤ m → p < n → slice_index (slice_index_or fronts i []) p ≡ plane_at p (part_at (others C s.set) b) (front_word C s i)

pub record IsKept (C : Matrix) (j b n : ℕ) (rows : List (List ℕ)) : Type 0 where
  pub fits : size C.field ≤ 2 ^ n
  pub few : n ≤ 4
  pub multiples : AreRowPlanes C j (part_at (others C j) b) n (length C.rows * (size C.field - 1)) rows
