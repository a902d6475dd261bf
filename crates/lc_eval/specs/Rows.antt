-- Numbers of a script as symbols of words. A number above 255 is no element of a field; it stands as 255, which is none of a field
-- of at most 16 elements.
--   clamped u             the numbers, each above 255 as 255
--   clamped_rows rows     so of each row
--   has_wide u            a number is above 255
use Rattle.std.specs.Prelude.{ℕ, min, Bool, nat_lt, List, map}
use Rattle.std.specs.List.{list_any}

abbrev pub clamped : List ℕ → List ℕ
clamped u = map (λ a. min a 255) u

abbrev pub clamped_rows : List (List ℕ) → List (List ℕ)
clamped_rows rows = map clamped rows

abbrev pub has_wide : List ℕ → Bool
has_wide u = list_any (nat_lt 255) u
