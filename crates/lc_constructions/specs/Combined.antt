-- Which words the combinators put into their codes (GUAVA manual, "Manipulating codes"; MacWilliams and Sloane, chapters 1, 2
-- and 18). C and D are codes.
--   InDual C w                    dot 0 with each word of C
--   InExtended C w                a word of C followed by minus the sum of its symbols
--   symbol_sum f w                the sum of the symbols of w
--   without coordinates w         w without the symbols at these coordinates; in without_from the first symbol of w has coordinate i
--   InPunctured C coordinates w   some word of C without these coordinates
--   InShortened C coordinates w   some word of C that is 0 at these coordinates, without them
--   InEvenWeight C w              a word of C of even weight; C is binary
--   InDirectSum C D w             a word u of C followed by a word v of D
--   InUuv C D w                   a word u of C followed by u + v, v a word of D
--   tensor f u v                  the word with u_i v_j at coordinate i times the length of v, plus j
--   InDirectProduct C D w         a sum of multiples of such words, u in C and v in D
--   InIntersection C D w          a word of both
use Rattle.std.specs.Prelude.{◌≡◌, ℕ, suc, ◌*◌, ◌%◌, ◌==◌, cond, List, [], ◌∷◌, ◌++◌, flat_map, slice_index, All}
use Rattle.std.specs.List.{list_any}
use Rattle.lc_algebra.specs.declared.FieldName.{FieldName}
use Rattle.lc_algebra.specs.Field.{add, neg}
use Rattle.lc_algebra.specs.Word.{word_sum, scale, weight, word_dot}
use Rattle.lc_algebra.specs.Span.{InSpan}
use Rattle.lc_algebra.specs.Matrix.{Matrix}
use Rattle.lc_constructions.specs.Code.{InCode}

abbrev pub InDual : Matrix → List ℕ → Type 0
InDual C w = (v : List ℕ) → InCode C v → word_dot C.field v w ≡ 0

unfoldable pub symbol_sum : FieldName → List ℕ → ℕ
symbol_sum f [] = 0
symbol_sum f (a ∷ w) = add f a (symbol_sum f w)

abbrev pub InExtended : Matrix → List ℕ → Type 0
InExtended C w = (u : List ℕ) × InCode C u × (w ≡ u ++ neg C.field (symbol_sum C.field u) ∷ [])

-- the symbols of w at none of the coordinates; the first symbol of w has coordinate i
unfoldable pub without_from : ℕ → List ℕ → List ℕ → List ℕ
without_from i coordinates [] = []
without_from i coordinates (a ∷ w) = cond (list_any (λ p. i == p) coordinates) (without_from (suc i) coordinates w) (a ∷ without_from (suc i) coordinates w)

unfoldable pub without : List ℕ → List ℕ → List ℕ
without coordinates w = without_from 0 coordinates w

abbrev pub InPunctured : Matrix → List ℕ → List ℕ → Type 0
InPunctured C coordinates w = (u : List ℕ) × InCode C u × (w ≡ without coordinates u)

abbrev pub InShortened : Matrix → List ℕ → List ℕ → Type 0
InShortened C coordinates w = (u : List ℕ) × InCode C u × All (λ p. slice_index u p ≡ 0) coordinates × (w ≡ without coordinates u)

abbrev pub InEvenWeight : Matrix → List ℕ → Type 0
InEvenWeight C w = InCode C w × (weight w % 2 ≡ 0)

abbrev pub InDirectSum : Matrix → Matrix → List ℕ → Type 0
InDirectSum C D w = (u : List ℕ) × ((v : List ℕ) × InCode C u × InCode D v × (w ≡ u ++ v))

abbrev pub InUuv : Matrix → Matrix → List ℕ → Type 0
InUuv C D w = (u : List ℕ) × ((v : List ℕ) × InCode C u × InCode D v × (w ≡ u ++ word_sum C.field u v))

unfoldable pub tensor : FieldName → List ℕ → List ℕ → List ℕ
tensor f u v = flat_map (λ a. scale f a v) u

-- w is a sum of multiples of some list of words u_i v_j
abbrev pub InDirectProduct : Matrix → Matrix → List ℕ → Type 0
InDirectProduct C D w = (rows : List (List ℕ)) × All (λ row. (u : List ℕ) × ((v : List ℕ) × InCode C u × InCode D v × (row ≡ tensor C.field u v))) rows × InSpan C.field (C.columns * D.columns) rows w

abbrev pub InIntersection : Matrix → Matrix → List ℕ → Type 0
InIntersection C D w = InCode C w × InCode D w
