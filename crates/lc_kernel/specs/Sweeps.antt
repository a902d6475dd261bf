-- The messages with one support, and the words of their first entries.
--   list_count C w              how many lists of coefficients w places have, the first one 1
--   TooManyHeads C w            a support of level w has more than 1,024 heads, or at least 4,096 with one coefficient more
--   listed_spot C j u y         a spot of set j at support u, with list y of coefficients
--   IsListedAt C m b n j u y    that spot is at message n of block b, in one of the first m sets
--   IsListed w n u y            the spot of the sweep's set at support u, with list y, is at message n of its block
--   head_word C j u i x         the word of the first i places of a support, with list x of i coefficients
--   IsGrown f d a rows heads new e      head e of one place more: the sum of a head and a multiple of row a
--   AreHeads C j u b n i heads      the n planes of these words, list by list, at part b of the columns outside the basis
--   AreHeadsOf w u i heads      they are that for the set of a sweep and its part of the columns
--   AreHalvesOf C j u b a       the words of set j with support u as heads and tails, at that part of the columns
use Rattle.std.specs.Prelude.{◌≡◌, ◌⊎◌, ℕ, ◌+◌, ◌-◌, ◌*◌, ◌/◌, ◌%◌, ◌^◌, ◌<◌, ◌≤◌, List, [], ◌∷◌, length, Some, slice_get, slice_index, slice_index_or, Contains}
use Rattle.lc_algebra.specs.declared.FieldName.{FieldName}
use Rattle.lc_algebra.specs.Field.{size}
use Rattle.lc_algebra.specs.Matrix.{Matrix}
use Rattle.lc_enumeration.specs.Message.{supports_from, leading_lists}
use Rattle.lc_place.specs.Place.{SpotState}
use Rattle.lc_kernel.specs.Values.{IsSpotAt}
use Rattle.lc_kernel.specs.Packed.{others}
use Rattle.lc_planes.specs.Planes.{part_at, plane_at}
use Rattle.lc_distances.specs.Planes.{IsPlaneSum}
use Rattle.lc_kernel.specs.Sums.{front_word}
use Rattle.lc_distances.specs.declared.halves.Halves.{Halves}
use Rattle.lc_distances.specs.Halves.{AreHalves}
use Rattle.lc_kernel.specs.declared.sweeps.Sweep.{Sweep}
use Rattle.lc_kernel.specs.Grid.{tail_count, tails_in, AreTailPlanes}

abbrev pub list_count : Matrix → ℕ → ℕ
list_count C w = (size C.field - 1) ^ (w - 1)

abbrev pub TooManyHeads : Matrix → ℕ → Type 0
TooManyHeads C w = (1024 < list_count C (w - 2)) ⊎ (4096 ≤ list_count C (w - 2) * (size C.field - 1))

abbrev pub listed_spot : Matrix → ℕ → List ℕ → ℕ → SpotState
listed_spot C j u y = record { set = j; support = u; coefficients = slice_index_or (leading_lists (size C.field) (length u)) y []; room = 0 }

pub record IsListedAt (C : Matrix) (m b n j : ℕ) (u : List ℕ) (y : ℕ) : Type 0 where
  pub at : IsSpotAt C m b n (listed_spot C j u y)
  pub rises : Contains (supports_from 0 (length C.rows) (length u)) u
  pub inside : y < list_count C (length u)
  pub level : 3 ≤ length u

abbrev pub IsListed : Sweep → ℕ → List ℕ → ℕ → Type 0
IsListed w n u y = IsListedAt w.block.sets.now w.block.plan.now.m w.block.number n w.set u y

abbrev pub head_word : Matrix → ℕ → List ℕ → ℕ → ℕ → List ℕ
head_word C j u i x = front_word C (record { set = j; support = u; coefficients = slice_index_or (leading_lists (size C.field) i) x []; room = 0 }) i

abbrev pub AreHeads : Matrix → ℕ → List ℕ → ℕ → ℕ → ℕ → List (List ℕ) → Type 0
AreHeads C j u b n i heads = (x p : ℕ) → x < list_count C i → p < n → slice_index (slice_index_or heads x []) p ≡ plane_at p (part_at (others C j) b) (head_word C j u i x)

abbrev pub AreHeadsOf : Sweep → List ℕ → ℕ → List (List ℕ) → Type 0
AreHeadsOf w u i heads = AreHeads w.block.sets.now w.set u w.part w.grid.now.planes i heads

abbrev pub IsGrown : FieldName → ℕ → ℕ → List (List ℕ) → List (List ℕ) → List (List ℕ) → ℕ → Type 0
IsGrown f d a rows heads new e = IsPlaneSum f (slice_index_or heads (e / d) []) (slice_index_or rows (a * d + e % d) []) (slice_index_or new e [])

pub record AreHalvesOf (C : Matrix) (j : ℕ) (u : List ℕ) (b : ℕ) (a : Halves) : Type 0 where
  pub are : AreHalves a
  pub fits : size C.field ≤ 2 ^ a.planes
  pub many : a.words ≡ tails_in C
  pub tails : a.tails ≡ tail_count C
  pub heads : AreHeads C j u b a.planes (length u - 2) a.heads.now
  pub all : length a.heads.now ≡ list_count C (length u - 2)
  pub packed : AreTailPlanes C j (part_at (others C j) b) a.planes a.bits.now
  pub pair : (r : ℕ) × (slice_get (supports_from 0 (length C.rows) 2) r ≡ Some (slice_index u (length u - 2) ∷ slice_index u (length u - 1) ∷ [])) × (a.start ≡ r * tail_count C)
