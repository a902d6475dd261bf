-- The first refusal of circulant and of quasi-cyclic codes.
--   no_length, length_within      which lengths a code has
--   too_short, too_high, none_long, too_many, length_told      words that are too short, too long, too many or none, and others
--   circulant_large, circulant_length, circulant_uneven, circulant_no_elements, circulant_fine      of one word
--   circulant_least, circulant_most      the length of a circulant code
--   quasi_large, quasi_length, quasi_uneven, quasi_no_elements, quasi_fine      of some words
--   quasi_least, quasi_most      the length of a quasi-cyclic code
use Rattle.std.proofs.Common.{◌≡◌, ◌≢◌, ℕ, zero, suc, ◌*◌, ◌<◌, ◌≤◌, ◌↔◌, true, false, nat_le, ◌==◌, Bool, IsTrue, Some, None, List, length, All, refl, sym, ap, ◌∙◌, arith}
use Rattle.std.specs.List.{list_all}
use Rattle.std.proofs.Math.Nat.{suc-mul, zero-mul, mul-zero, mul-suc}
use Rattle.std.proofs.lemmas.Bool.{eq-eqb, ne_eqb, le-leb}
use Rattle.lc_algebra.specs.declared.FieldName.{FieldName}
use Rattle.lc_algebra.specs.Field.{is_symbol}
use Rattle.lc_algebra.specs.Word.{Fits}
use Rattle.lc_constructions.specs.declared.refusal.CodeRefusal.TheVariants.{BadLength, BadArgument, LengthsDiffer, FieldTooLarge}
use Rattle.lc_constructions.specs.Code.{is_length}
use Rattle.lc_constructions.specs.Refusal.{refuse_if, first_refusal}
use Rattle.lc_constructions.specs.Refusals.{are_elements, have_elements, too_large, bad_length, bad_argument}
use Rattle.lc_constructions.proofs.RefusalLaws.{elements_told, long_length, product_least, product_most, rows_told}
use Rattle.lc_language.specs.Circulant.{circulant_refusals, quasi_cyclic_refusals}
use Rattle.lc_relations.proofs.RefusalLaws.{augmented_rows}

-- ---- lengths

pub no_length : (m : ℕ) → m ≡ 0 → false ≡ is_length m
unfolding is_length
no_length m e = rw e refl

pub too_short : (count n : ℕ) → n ≡ 0 → false ≡ is_length (count * n)
too_short count n e = no_length (count * n) (ap (λ m. count * m) e ∙ mul-zero count)

above : (count n : ℕ) → 0 < count → 255 < n → 255 < count * n
above zero n l m = absurd (omega (arith, l))
above (suc count) n l m = omega (arith, suc-mul count n, m)

pub too_high : (count n : ℕ) → 255 < n → false ≡ is_length (count * n)
too_high zero n l = no_length (zero * n) (zero-mul n)
too_high (suc count) n l = sym (long_length (suc count * n) (above (suc count) n (omega arith) l))

pub too_many : (count n : ℕ) → 255 < count → n ≢ 0 → false ≡ is_length (count * n)
too_many count zero l o = absurd (o refl)
too_many count (suc n) l o = sym (long_length (count * suc n) (omega (arith, mul-suc count n, l)))

pub none_long : (count n : ℕ) → count ≡ 0 → false ≡ is_length (count * n)
none_long count n e = no_length (count * n) (ap (λ m. m * n) e ∙ zero-mul n)

pub length_told : (count n : ℕ) → count ≢ 0 → n ≢ 0 → nat_le (count * n) 255 ≡ is_length (count * n)
unfolding is_length
length_told count n a b = rw (le-leb 1 (count * n) (product_least count n (omega (arith, a)) (omega (arith, b)))) refl

pub ruleset makes_length_laws = (too_short, too_high, none_long, too_many, length_told, product_most)

-- ---- one word

pub circulant_large : (f : FieldName) (x : List ℕ) (n : ℕ) → is_symbol f ≡ false → first_refusal (circulant_refusals f x n) ≡ Some FieldTooLarge
unfolding first_refusal refuse_if too_large bad_length bad_argument circulant_refusals
circulant_large f x n a = rw a refl

once : (n : ℕ) → 1 * n ≡ n
once n = omega (arith, suc-mul 0 n, zero-mul n)

pub circulant_length : (f : FieldName) (x : List ℕ) (n : ℕ) → is_symbol f ≡ true → is_length (1 * n) ≡ false → first_refusal (circulant_refusals f x n) ≡ Some BadLength
unfolding first_refusal refuse_if too_large bad_length bad_argument circulant_refusals
circulant_length f x n a b = let t : is_length n ≡ false = ap is_length (sym (once n)) ∙ b in rw (a, t) refl

pub circulant_uneven : (f : FieldName) (x : List ℕ) (n : ℕ) → is_symbol f ≡ true → is_length (1 * n) ≡ true → length x ≢ n → first_refusal (circulant_refusals f x n) ≡ Some LengthsDiffer
unfolding first_refusal refuse_if too_large bad_length bad_argument circulant_refusals
circulant_uneven f x n a b l = let t : is_length n ≡ true = ap is_length (sym (once n)) ∙ b in rw (a, t, ne_eqb (length x) n l) refl

pub circulant_no_elements : (f : FieldName) (x : List ℕ) (n : ℕ) (b : Bool) → is_symbol f ≡ true → is_length (1 * n) ≡ true → length x ≡ n → IsTrue b ↔ Fits f x → b ≡ false → first_refusal (circulant_refusals f x n) ≡ Some (BadArgument 1)
unfolding first_refusal refuse_if too_large bad_length bad_argument circulant_refusals
circulant_no_elements f x n b a m l h e =
    let t : is_length n ≡ true = ap is_length (sym (once n)) ∙ m in
    let s : are_elements f x ≡ false = sym (elements_told f x b h) ∙ e in
    rw (a, t, eq-eqb (length x) n l, s) refl

pub circulant_fine : (f : FieldName) (x : List ℕ) (n : ℕ) (b : Bool) → is_symbol f ≡ true → is_length (1 * n) ≡ true → length x ≡ n → IsTrue b ↔ Fits f x → b ≡ true → first_refusal (circulant_refusals f x n) ≡ None
unfolding first_refusal refuse_if too_large bad_length bad_argument circulant_refusals
circulant_fine f x n b a m l h e =
    let t : is_length n ≡ true = ap is_length (sym (once n)) ∙ m in
    let s : are_elements f x ≡ true = sym (elements_told f x b h) ∙ e in
    rw (a, t, eq-eqb (length x) n l, s) refl

pub length_within : (n : ℕ) → is_length n ≡ true → (1 ≤ n) × (n ≤ 255)
unfolding is_length
length_within n e = grind (arith, e)

pub circulant_least : (n : ℕ) → is_length (1 * n) ≡ true → 1 ≤ n
circulant_least n e = (length_within n (ap is_length (sym (once n)) ∙ e)).0

pub circulant_most : (n : ℕ) → is_length (1 * n) ≡ true → n ≤ 255
circulant_most n e = (length_within n (ap is_length (sym (once n)) ∙ e)).1

pub ruleset check_circulant_laws = (circulant_large, circulant_length, circulant_uneven, circulant_no_elements, circulant_fine, circulant_least, circulant_most)

-- ---- some words

pub quasi_large : (f : FieldName) (xs : List (List ℕ)) (n : ℕ) → is_symbol f ≡ false → first_refusal (quasi_cyclic_refusals f xs n) ≡ Some FieldTooLarge
unfolding first_refusal refuse_if too_large bad_length bad_argument quasi_cyclic_refusals
quasi_large f xs n a = rw a refl

pub quasi_length : (f : FieldName) (xs : List (List ℕ)) (n : ℕ) → is_symbol f ≡ true → is_length (length xs * n) ≡ false → first_refusal (quasi_cyclic_refusals f xs n) ≡ Some BadLength
unfolding first_refusal refuse_if too_large bad_length bad_argument quasi_cyclic_refusals
quasi_length f xs n a b = rw (a, b) refl

pub quasi_uneven : (f : FieldName) (xs : List (List ℕ)) (n : ℕ) → is_symbol f ≡ true → is_length (length xs * n) ≡ true → list_all (λ x. length x == n) xs ≡ false → first_refusal (quasi_cyclic_refusals f xs n) ≡ Some LengthsDiffer
unfolding first_refusal refuse_if too_large bad_length bad_argument quasi_cyclic_refusals
quasi_uneven f xs n a b l = rw (a, b, l) refl

pub quasi_no_elements : (f : FieldName) (xs : List (List ℕ)) (n : ℕ) (b : Bool) → is_symbol f ≡ true → is_length (length xs * n) ≡ true → list_all (λ x. length x == n) xs ≡ true → IsTrue b ↔ All (Fits f) xs → b ≡ false → first_refusal (quasi_cyclic_refusals f xs n) ≡ Some (BadArgument 1)
unfolding first_refusal refuse_if too_large bad_length bad_argument quasi_cyclic_refusals
quasi_no_elements f xs n b a m l h e = let t : have_elements f xs ≡ false = rows_told f xs b h ∙ e in rw (a, m, l, t) refl

pub quasi_fine : (f : FieldName) (xs : List (List ℕ)) (n : ℕ) (b : Bool) → is_symbol f ≡ true → is_length (length xs * n) ≡ true → list_all (λ x. length x == n) xs ≡ true → IsTrue b ↔ All (Fits f) xs → b ≡ true → first_refusal (quasi_cyclic_refusals f xs n) ≡ None
unfolding first_refusal refuse_if too_large bad_length bad_argument quasi_cyclic_refusals
quasi_fine f xs n b a m l h e = let t : have_elements f xs ≡ true = rows_told f xs b h ∙ e in rw (a, m, l, t) refl

pub quasi_least : (count n : ℕ) → is_length (count * n) ≡ true → 1 ≤ count * n
quasi_least count n e = (length_within (count * n) e).0

pub quasi_most : (count n : ℕ) → is_length (count * n) ≡ true → count * n ≤ 255
quasi_most count n e = (length_within (count * n) e).1

pub ruleset check_quasi_cyclic_laws = (quasi_large, quasi_length, quasi_uneven, quasi_no_elements, quasi_fine, quasi_least, quasi_most, augmented_rows)
