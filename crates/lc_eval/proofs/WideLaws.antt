-- Lists that hold a number above 255, which is an element of no field.
--   wide_outside                 not all of the numbers are elements
--   narrow_kept                  other lists are the same as symbols
--   goppa_points, form_multipliers      the list that a refusal names
use Rattle.std.proofs.Common.{◌≡◌, ℕ, ◌≤◌, min, Bool, true, false, nat_lt, nat_le, ◌&&◌, ◌||◌, List, [], ◌∷◌, length, Some, refl, sym, ◌∙◌, ⊎_elim, true≢false, arith}
use Rattle.std.specs.List.{list_all}
use Rattle.std.proofs.lemmas.Bool.{cases_Bool, and_parts, or_parts}
use Rattle.std.proofs.lemmas.Bool.Decides.{nat_tests}
use Rattle.lc_algebra.specs.declared.FieldName.{FieldName}
use Rattle.lc_algebra.specs.Field.{size, is_symbol}
use Rattle.lc_algebra.specs.Embedding.{is_subfield}
use Rattle.lc_algebra.specs.Polynomial.{trimmed}
use Rattle.lc_constructions.specs.declared.refusal.CodeRefusal.TheVariants.{BadArgument}
use Rattle.lc_constructions.specs.Code.{is_length}
use Rattle.lc_constructions.specs.Refusal.{first_refusal}
use Rattle.lc_constructions.specs.Refusals.{are_elements, is_goppa_polynomial, goppa_refusals, form_refusals}
use Rattle.lc_field.proofs.RowLaws.{size_most}
use Rattle.lc_goppa.proofs.GoppaRefusals.{goppa_bad_points}
use Rattle.lc_goppa.proofs.RefusalLaws.{form_bad_multipliers}
use Rattle.lc_eval.specs.Rows.{clamped, has_wide}

wide_first : (q a : ℕ) (b rest : Bool) → q ≤ 256 → (nat_lt 255 a || b) ≡ true → (b ≡ true → rest ≡ false) → (nat_lt a q && rest) ≡ false
wide_first q a true rest s h k = let t : rest ≡ false = k refl in rw t (grind (arith, nat_tests))
wide_first q a false rest s h k = let t : nat_lt a q ≡ false = grind (arith, nat_tests) in rw t refl

wide_all : (q : ℕ) (u : List ℕ) → q ≤ 256 → has_wide u ≡ true → list_all (λ a. nat_lt a q) u ≡ false
wide_all q [] s h = absurd (true≢false (sym h))
wide_all q (a ∷ u) s h = wide_first q a (has_wide u) (list_all (λ b. nat_lt b q) u) s h (λ k. wide_all q u s k)

pub wide_outside : (f : FieldName) (u : List ℕ) → has_wide u ≡ true → are_elements f u ≡ false
unfolding are_elements
wide_outside f u h = wide_all (size f) u (size_most f) h

pub narrow_kept : (u : List ℕ) → has_wide u ≡ false → clamped u ≡ u
narrow_kept [] h = refl
narrow_kept (a ∷ u) h =
    let p = or_parts (nat_lt 255 a) (has_wide u) h in
    let l : a ≤ 255 = grind (arith, nat_tests, p.0) in
    let e : min a 255 ≡ a = omega (arith, l) in
    rw (e, narrow_kept u p.1) refl

-- the other list is the wide one
other_wide : (f : FieldName) (u v : List ℕ) → are_elements f u ≡ true → (has_wide u || has_wide v) ≡ true → are_elements f v ≡ false
other_wide f u v e h =
    ⊎_elim
    (λ (t : has_wide u ≡ true). absurd (true≢false (sym e ∙ wide_outside f u t)))
    (λ (t : has_wide u ≡ false). wide_outside f v (rw t at h))
    (cases_Bool (has_wide u))

pub goppa_points : (f K : FieldName) (g xs : List ℕ) → is_symbol f ≡ true → is_subfield f K ≡ true → is_length (length xs) ≡ true → is_goppa_polynomial K g ≡ true → (has_wide g || has_wide xs) ≡ true → first_refusal (goppa_refusals f K g xs) ≡ Some (BadArgument 2)
unfolding is_goppa_polynomial
goppa_points f K g xs a c d e h =
    let n = length (trimmed g) in
    let p = and_parts (are_elements K g) (nat_le 2 n && nat_le n 256) e in
    goppa_bad_points f K g xs a c d e (other_wide K g xs p.0 h)

pub form_multipliers : (f K : FieldName) (b : Bool) (xs ys : List ℕ) → is_symbol f ≡ true → is_subfield f K ≡ true → is_length (length xs) ≡ true → length xs ≡ length ys → b ≡ false → are_elements K xs ≡ true → (has_wide xs || has_wide ys) ≡ true → first_refusal (form_refusals f K b xs ys) ≡ Some (BadArgument 3)
form_multipliers f K b xs ys a c d e g h k =
    let t : are_elements K ys ≡ false = other_wide K xs ys h k in
    form_bad_multipliers f K b xs ys a c d e g h (rw t refl)
