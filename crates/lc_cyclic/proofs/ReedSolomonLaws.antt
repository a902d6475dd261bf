-- Reed-Solomon codes by their forms.
--   too_short, too_long    no symbol field has 1 element, or more than 16
--   size_there             some field has the size of a symbol field
--   no_field, bad_delta, accepted      the first refusal
--   reed_solomon_fine      the form is one
--   reed_solomon_code      the code of the form is the Reed-Solomon code
--   own_size, own_code, own_form       the same, over the field that the code has
use Rattle.std.proofs.Common.{◌≡◌, ◌≢◌, ℕ, ◌+◌, ◌-◌, ◌%◌, ◌<◌, ◌≤◌, true, false, nat_le, nat_lt, ◌||◌, ◌&&◌, ◌==◌, List, length, slice_index_or, Some, None, refl, sym, ap, subst, ◌∙◌, ⊎_elim, arith}
use Rattle.std.specs.Prelude.{IsTrue}
use Rattle.std.proofs.Math.Nat.{mod_self}
use Rattle.std.proofs.lemmas.Bool.{cases_Bool, and_parts, eqb-true, leb-true}
use Rattle.lc_algebra.specs.declared.FieldName.{FieldName}
use Rattle.lc_algebra.specs.declared.FieldName.TheVariants.{Gf2}
use Rattle.lc_algebra.specs.Field.{shape, shape_of, size, is_symbol}
use Rattle.lc_algebra.specs.Matrix.{Matrix}
use Rattle.lc_algebra.proofs.SpanSearch.{any_contains}
use Rattle.lc_constructions.specs.declared.refusal.CodeRefusal.TheVariants.{BadDelta, NoFieldOfLength}
use Rattle.lc_constructions.specs.Code.{is_length, IsCode}
use Rattle.lc_constructions.specs.Cyclic.{all_fields, IsBchWord, IsReedSolomonWord}
use Rattle.lc_constructions.specs.Alternant.{AlternantForm, IsForm, IsAlternantWord, bch_form}
use Rattle.lc_constructions.specs.Refusal.{refuse_if, first_refusal}
use Rattle.lc_constructions.specs.Refusals.{is_size_of_symbol_field, reed_solomon_refusals}
use Rattle.lc_constructions.proofs.FormLaws.{bch_is_form, reed_solomon_is_bch, own_subfield}
use Rattle.lc_code.proofs.CodeLaws.{same_code}
use Rattle.lc_cyclic.proofs.FieldLaws.{any_nowhere}
use Rattle.lc_cyclic.proofs.BchLaws.{bch_code}

pub too_short : (n : ℕ) → n < 1 → false ≡ is_size_of_symbol_field (n + 1)
unfolding shape shape_of size is_symbol all_fields is_size_of_symbol_field
too_short n l = let e : n ≡ 0 = omega (arith, l) in rw e refl

not_both : (s q : ℕ) → 16 < q → ((s == q) && nat_le s 16) ≡ false
not_both s q l =
    ⊎_elim
    (λ t. let p = and_parts (s == q) (nat_le s 16) t in absurd (omega (arith, l, eqb-true s q p.0, leb-true s 16 p.1)))
    (λ t. t)
    (cases_Bool ((s == q) && nat_le s 16))

pub too_long : (n : ℕ) → 15 < n → false ≡ is_size_of_symbol_field (n + 1)
unfolding is_size_of_symbol_field is_symbol
too_long n l = sym (any_nowhere (λ f. (size f == n + 1) && is_symbol f) all_fields Gf2 (λ k m. not_both (size (slice_index_or all_fields k Gf2)) (n + 1) (omega (arith, l))))

pub size_there : (q : ℕ) → IsTrue (is_size_of_symbol_field q) → ((f : FieldName) → size f ≢ q) → ⊥
unfolding is_size_of_symbol_field
size_there q t none =
    let (f, here, found) = any_contains (λ f. (size f == q) && is_symbol f) all_fields t in
    let p = and_parts (size f == q) (is_symbol f) found in
    none f (eqb-true (size f) q p.0)

pub no_field : (n d : ℕ) → is_size_of_symbol_field (n + 1) ≡ false → first_refusal (reed_solomon_refusals n d) ≡ Some NoFieldOfLength
unfolding first_refusal refuse_if reed_solomon_refusals
no_field n d a = rw a refl

pub bad_delta : (n d : ℕ) → is_size_of_symbol_field (n + 1) ≡ true → (nat_lt n d || nat_lt d 1) ≡ true → first_refusal (reed_solomon_refusals n d) ≡ Some BadDelta
unfolding first_refusal refuse_if reed_solomon_refusals
bad_delta n d a b = rw (a, b) refl

pub accepted : (n d : ℕ) → is_size_of_symbol_field (n + 1) ≡ true → (nat_lt n d || nat_lt d 1) ≡ false → first_refusal (reed_solomon_refusals n d) ≡ None
unfolding first_refusal refuse_if reed_solomon_refusals
accepted n d a b = rw (a, b) refl

small_length : (n : ℕ) → 1 ≤ n → n ≤ 15 → IsTrue (is_length n)
unfolding is_length
small_length n l m = grind (arith, l, m)

small_symbol : (f : FieldName) → size f ≤ 16 → IsTrue (is_symbol f)
unfolding is_symbol
small_symbol f l = grind (arith, l)

own_order : (f : FieldName) (n : ℕ) → size f ≡ n + 1 → (size f - 1) % n ≡ 0
own_order f n e = let d : size f - 1 ≡ n = omega (arith, e) in ap (λ m. m % n) d ∙ mod_self n

pub reed_solomon_fine : (f : FieldName) (n d : ℕ) (form : AlternantForm) → 1 ≤ n → n ≤ 15 → size f ≡ n + 1 → form ≡ bch_form f n 1 d → IsForm f form
reed_solomon_fine f n d form l m e h =
    subst (IsForm f) (sym h) (bch_is_form f f n 1 d (small_symbol f (omega (arith, m, e))) (own_subfield f) (small_length n l m) (own_order f n e))

pub reed_solomon_code : (f : FieldName) (n d : ℕ) (form : AlternantForm) (C : Matrix) → size f ≡ n + 1 → form ≡ bch_form f n 1 d → IsCode f (length form.points) (IsAlternantWord f form) C → IsCode f n (IsReedSolomonWord f d) C
reed_solomon_code f n d form C e h c =
    let m : size f - 1 ≡ n = omega (arith, e) in
    same_code f n (IsBchWord f f n 1 d) (IsReedSolomonWord f d) C
    (λ w k.
    let t = reed_solomon_is_bch f d w in
    ((λ a. t.1 (subst (λ x. IsBchWord f f x 1 d w) (sym m) a)), (λ b. subst (λ x. IsBchWord f f x 1 d w) m (t.0 b))))
    (bch_code f f n 1 d form C h c)

pub own_size : (f : FieldName) (n : ℕ) (P : List ℕ → Type 0) (C : Matrix) → size f ≡ n + 1 → IsCode f n P C → size C.field ≡ n + 1
own_size f n P C e c = ap size c.over ∙ e

pub own_code : (f : FieldName) (n d : ℕ) (C : Matrix) → IsCode f n (IsReedSolomonWord f d) C → IsCode C.field n (IsReedSolomonWord C.field d) C
own_code f n d C c = subst (λ g. IsCode g n (IsReedSolomonWord g d) C) (sym c.over) c

pub own_form : (f : FieldName) (n d : ℕ) (P : List ℕ → Type 0) (form kept : AlternantForm) (C : Matrix) → form ≡ bch_form f n 1 d → kept ≡ form → IsCode f n P C → kept ≡ bch_form C.field n 1 d
own_form f n d P form kept C h k c = k ∙ h ∙ ap (λ g. bch_form g n 1 d) (sym c.over)

pub ruleset check_reed_solomon_laws = (no_field, bad_delta, accepted)

pub ruleset is_length_laws = (too_short, too_long)
