-- When cyclic codes are refused, whatever says whether the polynomial divides.
--   cyclic_large, cyclic_length, cyclic_entries, cyclic_zero      the refusals before the division
--   cyclic_divides         two tests that say whether it divides are equal
--   no_divisor             the polynomial doesn't divide
--   cyclic_fine            nothing is refused
use Rattle.std.proofs.Common.{◌≡◌, ◌≢◌, ℕ, ◌↔◌, Bool, true, false, not, ◌==◌, List, [], ◌∷◌, length, Some, None, refl, sym, ap, ◌∙◌}
use Rattle.std.specs.Prelude.{IsTrue}
use Rattle.std.proofs.lemmas.Bool.{eq-eqb, ne_eqb}
use Rattle.lc_algebra.specs.declared.FieldName.{FieldName}
use Rattle.lc_algebra.specs.Field.{is_symbol}
use Rattle.lc_algebra.specs.Polynomial.{trimmed, x_power_minus_one, Divides}
use Rattle.lc_constructions.specs.declared.refusal.CodeRefusal.TheVariants.{BadLength, BadArgument, NotADivisor, FieldTooLarge}
use Rattle.lc_constructions.specs.Code.{is_length}
use Rattle.lc_constructions.specs.Refusal.{refuse_if, first_refusal}
use Rattle.lc_constructions.specs.Refusals.{are_elements, too_large, bad_length, bad_argument, DividesPowerLess, cyclic_refusals}

pub cyclic_large : (f : FieldName) (x : List ℕ) (n : ℕ) (d : Bool) → is_symbol f ≡ false → first_refusal (cyclic_refusals f x n d) ≡ Some FieldTooLarge
unfolding first_refusal refuse_if too_large cyclic_refusals
cyclic_large f x n d a = rw a refl

pub cyclic_length : (f : FieldName) (x : List ℕ) (n : ℕ) (d : Bool) → is_symbol f ≡ true → is_length n ≡ false → first_refusal (cyclic_refusals f x n d) ≡ Some BadLength
unfolding first_refusal refuse_if too_large bad_length cyclic_refusals
cyclic_length f x n d a b = rw (a, b) refl

pub cyclic_entries : (f : FieldName) (x : List ℕ) (n : ℕ) (d : Bool) → is_symbol f ≡ true → is_length n ≡ true → are_elements f x ≡ false → first_refusal (cyclic_refusals f x n d) ≡ Some (BadArgument 1)
unfolding first_refusal refuse_if too_large bad_length bad_argument cyclic_refusals
cyclic_entries f x n d a b e = rw (a, b, e) refl

pub cyclic_zero : (f : FieldName) (x : List ℕ) (n : ℕ) (d : Bool) → is_symbol f ≡ true → is_length n ≡ true → are_elements f x ≡ true → length (trimmed x) ≡ 0 → first_refusal (cyclic_refusals f x n d) ≡ Some (BadArgument 1)
unfolding first_refusal refuse_if too_large bad_length bad_argument cyclic_refusals
cyclic_zero f x n d a b e z = let t : (length (trimmed x) == 0) ≡ true = eq-eqb (length (trimmed x)) 0 z in rw (a, b, e, t) refl

both_say : (P : Type 0) (b d : Bool) → IsTrue b ↔ P → IsTrue d ↔ P → d ≡ b
both_say P true true s t = refl
both_say P true false s t = t.1 (s.0 refl)
both_say P false true s t = sym (s.1 (t.0 refl))
both_say P false false s t = refl

pub cyclic_divides : (f : FieldName) (x : List ℕ) (n : ℕ) (b d : Bool) → IsTrue b ↔ Divides f (trimmed x) (x_power_minus_one f n) → DividesPowerLess f x n d → d ≡ b
cyclic_divides f x n b d s t = both_say (Divides f (trimmed x) (x_power_minus_one f n)) b d s t

refused_last : (f : FieldName) (x : List ℕ) (n : ℕ) (d : Bool) → is_symbol f ≡ true → is_length n ≡ true → are_elements f x ≡ true → (length (trimmed x) == 0) ≡ false → first_refusal (cyclic_refusals f x n d) ≡ first_refusal (refuse_if (not d) NotADivisor ∷ [])
unfolding first_refusal refuse_if too_large bad_length bad_argument cyclic_refusals
refused_last f x n d a b e z = rw (a, b, e, z) refl

pub no_divisor : (f : FieldName) (x : List ℕ) (n : ℕ) (b d : Bool) → is_symbol f ≡ true → is_length n ≡ true → are_elements f x ≡ true → length (trimmed x) ≢ 0 → b ≡ false → IsTrue b ↔ Divides f (trimmed x) (x_power_minus_one f n) → DividesPowerLess f x n d → first_refusal (cyclic_refusals f x n d) ≡ Some NotADivisor
unfolding first_refusal refuse_if
no_divisor f x n b d s l e z k says t =
    let m : d ≡ false = cyclic_divides f x n b d says t ∙ k in
    refused_last f x n d s l e (ne_eqb (length (trimmed x)) 0 z) ∙ ap (λ y. first_refusal (refuse_if (not y) NotADivisor ∷ [])) m

pub cyclic_fine : (f : FieldName) (x : List ℕ) (n : ℕ) (b d : Bool) → is_symbol f ≡ true → is_length n ≡ true → are_elements f x ≡ true → length (trimmed x) ≢ 0 → b ≡ true → IsTrue b ↔ Divides f (trimmed x) (x_power_minus_one f n) → DividesPowerLess f x n d → first_refusal (cyclic_refusals f x n d) ≡ None
unfolding first_refusal refuse_if
cyclic_fine f x n b d s l e z k says t =
    let m : d ≡ true = cyclic_divides f x n b d says t ∙ k in
    refused_last f x n d s l e (ne_eqb (length (trimmed x)) 0 z) ∙ ap (λ y. first_refusal (refuse_if (not y) NotADivisor ∷ [])) m

pub ruleset check_cyclic_laws = (cyclic_large, cyclic_length, cyclic_entries, cyclic_zero, no_divisor, cyclic_fine)
