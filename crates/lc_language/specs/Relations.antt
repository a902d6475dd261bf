-- What calls on words, on a code and a word, and on two codes say (MacWilliams and Sloane, chapter 1; GUAVA manual, "Codewords" and
-- "Codes"). C and D are codes.
--   hamming_distance x y      the number of coordinates in which x and y differ
--   IsSubcode C D             each word of C is a word of D
--   IsSameCode C D            C and D have the same words
--   IsSelfOrthogonal C        each word of C has dot 0 with each word of C
--   IsSelfDual C              the words of C are those of its dual
--   shifted w                 the cyclic shift of w: its last symbol, followed by the others
--   IsCyclic C                the cyclic shift of each word of C is a word of C
--   IsMessageOf C c u         u is the only word of as many symbols as C has rows for which c is the sum of u_i times row i
--   InAugmented C rows w      w is the sum of a word of C and of a sum of multiples of the rows
--   InUnion C D w             w is the sum of a word of C and of a word of D
-- When they are refused:
--   add_refusals f x y        sums of words: 17, 12, 3 with 1, 3 with 2
--   scale_refusals f c x      multiples of a word: 17, 3 with 1, 3 with 2
--   distance_refusals x y     12
--   message_refusals C u      of a list that should have as many symbols as C has rows: 12, 3 with 2
--   augmented_refusals C rows      of rows that should be words of the length of C: 12, 3 with 2
--   not_codeword C x          50: x is no word of C
use Rattle.std.specs.Prelude.{◌≡◌, ℕ, ◌↔◌, not, nat_lt, ◌==◌, List, [], ◌∷◌, length, count_by, Option}
use Rattle.std.specs.List.{list_all, zip}
use Rattle.lc_algebra.specs.declared.FieldName.{FieldName}
use Rattle.lc_algebra.specs.Field.{size}
use Rattle.lc_algebra.specs.Residue.{top, up}
use Rattle.lc_algebra.specs.Word.{IsWord, word_sum}
use Rattle.lc_algebra.specs.Span.{combine, InSpan}
use Rattle.lc_algebra.specs.Matrix.{Matrix}
use Rattle.lc_constructions.specs.declared.refusal.CodeRefusal.{CodeRefusal}
use Rattle.lc_constructions.specs.declared.refusal.CodeRefusal.TheVariants.{LengthsDiffer}
use Rattle.lc_constructions.specs.Code.{InCode}
use Rattle.lc_constructions.specs.Combined.{InDual}
use Rattle.lc_constructions.specs.Refusal.{refuse_if}
use Rattle.lc_constructions.specs.Refusals.{are_elements, have_elements, too_large, bad_argument}
use Rattle.lc_enumeration.specs.InformationSet.{in_span}
use Rattle.lc_language.specs.Refusal.{Refusal, refuse, when}

abbrev pub hamming_distance : List ℕ → List ℕ → ℕ
hamming_distance x y = count_by (λ p. not (p.0 == p.1)) (zip x y)

-- ---- codes

abbrev pub IsSubcode : Matrix → Matrix → Type 0
IsSubcode C D = (w : List ℕ) → InCode C w → InCode D w

abbrev pub IsSameCode : Matrix → Matrix → Type 0
IsSameCode C D = (w : List ℕ) → InCode C w ↔ InCode D w

abbrev pub IsSelfOrthogonal : Matrix → Type 0
IsSelfOrthogonal C = (w : List ℕ) → InCode C w → InDual C w

abbrev pub IsSelfDual : Matrix → Type 0
IsSelfDual C = (w : List ℕ) → IsWord C.field C.columns w → InCode C w ↔ InDual C w

-- `top` is the last symbol, and `up` moves the others one coordinate on
unfoldable pub shifted : List ℕ → List ℕ
shifted w = up (top 0 w) w

abbrev pub IsCyclic : Matrix → Type 0
IsCyclic C = (w : List ℕ) → InCode C w → InCode C (shifted w)

-- ---- messages

pub record IsMessageOf (C : Matrix) (c u : List ℕ) : Type 0 where
  pub word : IsWord C.field (length C.rows) u
  pub encoded : combine C.field C.columns u C.rows ≡ c
  pub only : (v : List ℕ) → IsWord C.field (length C.rows) v → combine C.field C.columns v C.rows ≡ c → v ≡ u

-- ---- sums of codes

abbrev pub InAugmented : Matrix → List (List ℕ) → List ℕ → Type 0
InAugmented C rows w = (u : List ℕ) × ((v : List ℕ) × InCode C u × InSpan C.field C.columns rows v × (w ≡ word_sum C.field u v))

abbrev pub InUnion : Matrix → Matrix → List ℕ → Type 0
InUnion C D w = (u : List ℕ) × ((v : List ℕ) × InCode C u × InCode D v × (w ≡ word_sum C.field u v))

-- ---- refusals

unfoldable pub add_refusals : FieldName → List ℕ → List ℕ → List (Option CodeRefusal)
add_refusals f x y = too_large f ∷ refuse_if (not (length x == length y)) LengthsDiffer ∷ bad_argument (not (are_elements f x)) 1 ∷ bad_argument (not (are_elements f y)) 2 ∷ []

unfoldable pub scale_refusals : FieldName → ℕ → List ℕ → List (Option CodeRefusal)
scale_refusals f c x = too_large f ∷ bad_argument (not (nat_lt c (size f))) 1 ∷ bad_argument (not (are_elements f x)) 2 ∷ []

unfoldable pub distance_refusals : List ℕ → List ℕ → List (Option CodeRefusal)
distance_refusals x y = refuse_if (not (length x == length y)) LengthsDiffer ∷ []

unfoldable pub message_refusals : Matrix → List ℕ → List (Option CodeRefusal)
message_refusals C u = refuse_if (not (length u == length C.rows)) LengthsDiffer ∷ bad_argument (not (are_elements C.field u)) 2 ∷ []

unfoldable pub augmented_refusals : Matrix → List (List ℕ) → List (Option CodeRefusal)
augmented_refusals C rows = refuse_if (not (list_all (λ row. length row == C.columns) rows)) LengthsDiffer ∷ bad_argument (not (have_elements C.field rows)) 2 ∷ []

unfoldable pub not_codeword : Matrix → List ℕ → Option Refusal
not_codeword C x = when (not (in_span C.field C.columns C.rows x)) (refuse 50 [])
