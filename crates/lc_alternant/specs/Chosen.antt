-- Entries at the coordinates at which a list of values is 0.
--   chosen vs zs      the entries of zs at these coordinates, in their order
--   spread vs zs      the list that has the entries of zs there, in their order, and 0 at each other coordinate; 0 also where zs is short
--   HasSums K xs ys z s      the sums of z_i y_i x_i^j are s_j for each entry s_j
--   IsZeroBut vs z    z is 0 at each coordinate at which vs isn't 0
use Rattle.std.specs.Prelude.{◌≡◌, ◌≢◌, ℕ, zero, suc, ◌<◌, List, [], ◌∷◌, length, slice_index}
use Rattle.lc_algebra.specs.declared.FieldName.{FieldName}
use Rattle.lc_algebra.specs.Word.{word_dot}
use Rattle.lc_constructions.specs.Alternant.{check_row}

unfoldable pub chosen : List ℕ → List ℕ → List ℕ
chosen [] zs = []
chosen (v ∷ vs) [] = []
chosen (zero ∷ vs) (z ∷ zs) = z ∷ chosen vs zs
chosen (suc v ∷ vs) (z ∷ zs) = chosen vs zs

unfoldable pub spread : List ℕ → List ℕ → List ℕ
spread [] zs = []
spread (zero ∷ vs) [] = 0 ∷ spread vs []
spread (zero ∷ vs) (z ∷ zs) = z ∷ spread vs zs
spread (suc v ∷ vs) zs = 0 ∷ spread vs zs

abbrev pub HasSums : FieldName → List ℕ → List ℕ → List ℕ → List ℕ → Type 0
HasSums K xs ys z s = (j : ℕ) → j < length s → word_dot K z (check_row K xs ys j) ≡ slice_index s j

abbrev pub IsZeroBut : List ℕ → List ℕ → Type 0
IsZeroBut vs z = (i : ℕ) → i < length vs → slice_index vs i ≢ 0 → slice_index z i ≡ 0
