-- The zeros that the code tells are the least ones.
--   root_is, root_below        at a subfield, for the numbers that the code holds
--   value_none, value_step     the value of a polynomial, by Horner's rule on the digits of its number
--   embed_is                   the value at the zero is what the element stands for
use Rattle.std.proofs.Common.{◌≡◌, ℕ, zero, suc, ◌-◌, ◌/◌, ◌%◌, ◌<◌, Bool, true, ◌==◌, cond, ◌&&◌, nat_lt, refl, arith}
use Rattle.std.proofs.lemmas.Bool.Decides.{Decides-eqb, Decides-ltb}
use Rattle.std.proofs.lemmas.Bool.{and_parts}
use Rattle.lc_algebra.specs.declared.FieldName.{FieldName}
use Rattle.lc_algebra.specs.declared.FieldName.TheVariants.{Gf2}
use Rattle.lc_algebra.specs.Residue.{digits, number, plus, minus, times, top, up, times_x, product}
use Rattle.lc_algebra.specs.Field.{shape, shape_of, size, coefficients, add, mul}
use Rattle.lc_algebra.specs.Polynomial.{value_at}
use Rattle.lc_algebra.specs.Embedding.{IsSubfield, is_subfield, first_from, first_that, root, embed}
use Rattle.lc_algebra.proofs.EmbeddingTests.{names, each_of, each_name}
use Rattle.lc_algebra.proofs.EmbeddingLaws.{decides_subfield}
use Rattle.lc_field.specs.Roots.{root_by_size}

abbrev told : FieldName → FieldName → ℕ
told small large = root_by_size (shape_of small).degree (shape_of large).degree (size small) (shape_of large).characteristic

abbrev test : FieldName → FieldName → Bool
test small large = cond (is_subfield small large) ((told small large == root small large) && nat_lt (told small large) (size large)) true

root_tests : (large : FieldName) → each_of (λ small. test small large) names ≡ true
unfolding each_of names digits number plus minus times top up times_x product shape shape_of size coefficients add mul value_at first_from first_that root is_subfield
root_tests Gf2 = refl
root_tests _ = refl

root_test : (small large : FieldName) → test small large ≡ true
root_test small large = each_name (λ small. test small large) (root_tests large) small

pub root_both : (small large : FieldName) → IsSubfield small large → (told small large ≡ root small large) × (told small large < size large)
root_both small large s =
    let h : is_subfield small large ≡ true = (decides_subfield small large).1 s in
    let t : test small large ≡ true = root_test small large in
    let u : ((told small large == root small large) && nat_lt (told small large) (size large)) ≡ true = rw h at t in
    let (a, b) = and_parts _ _ u in
    ((Decides-eqb (told small large) (root small large)).0 a, (Decides-ltb (told small large) (size large)).0 b)

pub root_is : (small large : FieldName) (s l n p : ℕ) → IsSubfield small large → s ≡ (shape_of small).degree → l ≡ (shape_of large).degree → n ≡ size small → p ≡ (shape_of large).characteristic → root_by_size s l n p ≡ root small large
root_is small large s l n p i es el en ep = rw (es, el, en, ep) ((root_both small large i).0)

pub root_below : (small large : FieldName) (s l n p : ℕ) → IsSubfield small large → s ≡ (shape_of small).degree → l ≡ (shape_of large).degree → n ≡ size small → p ≡ (shape_of large).characteristic → root_by_size s l n p < size large
root_below small large s l n p i es el en ep = rw (es, el, en, ep) ((root_both small large i).1)

pub value_none : (f : FieldName) (p s a x : ℕ) → s ≡ 0 → 0 ≡ value_at f (digits p s a) x
unfolding value_at digits
value_none f p s a x e = rw e refl

value_suc : (f : FieldName) (p s a x : ℕ) → add f (a % p) (mul f x (value_at f (digits p s (a / p)) x)) ≡ value_at f (digits p (suc s) a) x
unfolding value_at digits
value_suc f p s a x = refl

pub value_step : (f : FieldName) (p s a x : ℕ) → 0 < s → add f (a % p) (mul f x (value_at f (digits p (s - 1) (a / p)) x)) ≡ value_at f (digits p s a) x
value_step f p zero a x l = absurd (omega arith)
value_step f p (suc s) a x l = let e : suc s - 1 ≡ s = omega arith in rw e (value_suc f p s a x)

pub embed_is : (small large : FieldName) (s a r : ℕ) → IsSubfield small large → s ≡ (shape_of small).degree → r ≡ root small large → value_at large (digits (shape_of large).characteristic s a) r ≡ embed small large a
unfolding embed coefficients
embed_is small large s a r i e z = rw (e, z, ← i.characteristic) refl
