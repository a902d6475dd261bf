-- Values that calls give. Which call gives which is in `Calls`.
--   IsCodeValue f n P form v      v is the code over f of length n of the words that meet P, with this alternant form or none
--   Made f n P v                  v is such a code with no alternant form
--   MadeWith f n P form v         v is such a code with this form
--   IsGolay f n g v, IsExtendedGolay f n g v      a Golay code with the generator polynomial g, and its extension
--   IsBch f n b d v               the BCH code over f of length n with d - 1 zeros from b on, in the least field that holds f and an
--                                 element of order n; b counts modulo n
--   IsReedSolomon n d v           the Reed-Solomon code of length n, over n + 1 elements, with the designed distance d
--   decoded o                     a decoder's answer as a value: the word, or nothing
use Rattle.std.specs.Prelude.{◌≡◌, ℕ, ◌+◌, ◌%◌, IsTrue, List, Option, Some, None}
use Rattle.lc_algebra.specs.declared.FieldName.{FieldName}
use Rattle.lc_algebra.specs.Field.{size, is_symbol}
use Rattle.lc_algebra.specs.Matrix.{Matrix}
use Rattle.lc_constructions.specs.Code.{IsCode}
use Rattle.lc_constructions.specs.Cyclic.{IsMultipleOf, locator_field, IsBchWord, IsReedSolomonWord}
use Rattle.lc_constructions.specs.Alternant.{AlternantForm, bch_form}
use Rattle.lc_constructions.specs.Combined.{InExtended}
use Rattle.lc_language.specs.Value.{Value, numbers, code, nothing}

pub record IsCodeValue (f : FieldName) (n : ℕ) (P : List ℕ → Type 0) (form : Option AlternantForm) (v : Value) : Type 0 where
  pub code_is : (C : Matrix) × IsCode f n P C × (v ≡ code C form)

abbrev pub Made : FieldName → ℕ → (List ℕ → Type 0) → Value → Type 0
Made f n P v = IsCodeValue f n P None v

abbrev pub MadeWith : FieldName → ℕ → (List ℕ → Type 0) → AlternantForm → Value → Type 0
MadeWith f n P form v = IsCodeValue f n P (Some form) v

abbrev pub IsGolay : FieldName → ℕ → List ℕ → Value → Type 0
IsGolay f n g v = Made f n (IsMultipleOf f n g) v

abbrev pub IsExtendedGolay : FieldName → ℕ → List ℕ → Value → Type 0
IsExtendedGolay f n g v = (C : Matrix) × IsCode f n (IsMultipleOf f n g) C × Made f (n + 1) (InExtended C) v

abbrev pub IsBch : FieldName → ℕ → ℕ → ℕ → Value → Type 0
IsBch f n b d v = (K : FieldName) × (locator_field f n ≡ Some K) × MadeWith f n (IsBchWord f K n (b % n) d) (bch_form K n (b % n) d) v

abbrev pub IsReedSolomon : ℕ → ℕ → Value → Type 0
IsReedSolomon n d v = (f : FieldName) × (size f ≡ n + 1) × IsTrue (is_symbol f) × MadeWith f n (IsReedSolomonWord f d) (bch_form f n 1 d) v

-- a decoder's answer as a value
unfoldable pub decoded : Option (List ℕ) → Value
decoded None = nothing
decoded (Some w) = numbers w
