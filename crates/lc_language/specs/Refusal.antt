-- Refusals of calls: with which number a call is refused, and which numbers the refusal carries. Which call has which is in `Calls`.
-- What a constructor or a combinator of codes refuses is listed in `lc_constructions`. Besides, a number that is the size of no field is
-- refused with 1, and the least word of too many words with 16.
--   Refusal                 the number, and the numbers that are printed after it
--   when test r             the refusal, if the test passes
--   first_of rs             the first refusal of some that are in order
--   refusal_from e          a constructor's refusal as that of a call; from_codes rs those of a list
--   word_refusals C x       of a list that should be a word of the length of C over its field: 12, then 3 with 2
--   coset_refusal C         15 with n - k: there are too many cosets
--   no_form form            18: there is no alternant form
--   not_attained C form x   19 with the weight and r + 1: x is no word of the code of weight r + 1
--   no_distribution C       47 with k and n - k: the weight distribution isn't computed
use Rattle.std.specs.Prelude.{ℕ, ◌+◌, Bool, not, ◌==◌, ◌&&◌, if◌then◌else◌, List, [], ◌∷◌, length, map, Option, Some, None, is_some, option_map}
use Rattle.lc_algebra.specs.Field.{size}
use Rattle.lc_algebra.specs.Word.{weight}
use Rattle.lc_algebra.specs.Matrix.{Matrix}
use Rattle.lc_constructions.specs.declared.refusal.CodeRefusal.{CodeRefusal}
use Rattle.lc_constructions.specs.declared.refusal.CodeRefusal.TheVariants.{BadArgument, LengthsDiffer}
use Rattle.lc_constructions.specs.Refusal.{refusal_number, refusal_values, refuse_if}
use Rattle.lc_constructions.specs.Refusals.{are_elements}
use Rattle.lc_constructions.specs.Alternant.{AlternantForm}
use Rattle.lc_constructions.specs.Coset.{too_many_cosets}
use Rattle.lc_enumeration.specs.InformationSet.{in_span}
use Rattle.lc_enumeration.specs.Distribution.{distribution_refusal}

pub record Refusal : Type 0 where
  pub number : ℕ
  pub values : List ℕ

unfoldable pub refuse : ℕ → List ℕ → Refusal
refuse n values = record { number = n; values = values }

unfoldable pub when : Bool → Refusal → Option Refusal
when test r = (if test then Some r else None)

unfoldable pub first_of : List (Option Refusal) → Option Refusal
first_of [] = None
first_of (None ∷ rs) = first_of rs
first_of (Some r ∷ rs) = Some r

unfoldable pub refusal_from : CodeRefusal → Refusal
refusal_from e = refuse (refusal_number e) (refusal_values e)

unfoldable pub from_codes : List (Option CodeRefusal) → List (Option Refusal)
from_codes rs = map (option_map refusal_from) rs

unfoldable pub word_refusals : Matrix → List ℕ → List (Option CodeRefusal)
word_refusals C x = refuse_if (not (length x == C.columns)) LengthsDiffer ∷ refuse_if (not (are_elements C.field x)) (BadArgument 2) ∷ []

unfoldable pub coset_refusal : Matrix → Option Refusal
coset_refusal C = option_map (λ n. refuse 15 (n ∷ [])) (too_many_cosets C)

unfoldable pub no_form : Option AlternantForm → Option Refusal
no_form form = when (not (is_some form)) (refuse 18 [])

-- x is no word of the code of weight r + 1
unfoldable pub not_attained : Matrix → Option AlternantForm → List ℕ → Option Refusal
not_attained C None x = None
not_attained C (Some form) x = when (not (in_span C.field C.columns C.rows x && (weight x == form.r + 1))) (refuse 19 (weight x ∷ (form.r + 1) ∷ []))

unfoldable pub no_distribution : Matrix → Option Refusal
no_distribution C = option_map (λ r. refuse 47 (r.dimension ∷ r.codimension ∷ [])) (distribution_refusal (size C.field) C.columns (length C.rows))
