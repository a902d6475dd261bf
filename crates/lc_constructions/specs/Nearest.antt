-- Decoding (MacWilliams and Sloane, chapters 1 and 12): the words of a code near to a received word x.
--   IsNearest C x w          w is x less the first error, by weight and then lexicographically, that leads into the code
--   IsWithin C x t w         w is a word of the code at distance at most t from x
--   IsDecoded C form x o     o is the one word within half of the form's number of checks, rounded down; None if there is no such word
use Rattle.std.specs.Prelude.{◌≡◌, ℕ, ◌/◌, ◌≤◌, List, Option, Some, None}
use Rattle.lc_algebra.specs.Word.{difference, distance, ComesNoLater}
use Rattle.lc_algebra.specs.Matrix.{Matrix}
use Rattle.lc_constructions.specs.Code.{InCode}
use Rattle.lc_constructions.specs.Alternant.{AlternantForm}

pub record IsNearest (C : Matrix) (x w : List ℕ) : Type 0 where
  pub inside : InCode C w
  pub first : (v : List ℕ) → InCode C v → ComesNoLater (difference C.field x w) (difference C.field x v)

abbrev pub IsWithin : Matrix → List ℕ → ℕ → List ℕ → Type 0
IsWithin C x t w = InCode C w × (distance C.field x w ≤ t)

abbrev pub IsDecoded : Matrix → AlternantForm → List ℕ → Option (List ℕ) → Type 0
IsDecoded C form x None = (w : List ℕ) → ¬ IsWithin C x (form.r / 2) w
IsDecoded C form x (Some w) = IsWithin C x (form.r / 2) w × ((v : List ℕ) → IsWithin C x (form.r / 2) v → v ≡ w)
