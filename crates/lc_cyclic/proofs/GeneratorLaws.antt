-- The generator polynomial of a BCH code, one zero after another.
--   value_none, value_step      Horner's rule in the locator field
--   generator_none      without zeros it is 1
--   generator_kept         a zero that it has
--   generator_more         a zero that it lacks: times the minimal polynomial
--   generator_divides      it divides x^n - 1
--   generator_code         its multiples are the words of the BCH code
use Rattle.std.proofs.Common.{◌≡◌, ◌≢◌, ℕ, zero, suc, ◌+◌, ◌-◌, ◌<◌, ◌≤◌, ⊎_elim, List, [], ◌∷◌, map, length, slice_index, drop, refl, sym, ap, subst, ◌∙◌, arith}
use Rattle.std.proofs.Math.Nat.{mul_comm}
use Rattle.std.proofs.lemmas.Bool.{cases_eq}
use Rattle.std.proofs.lemmas.List.{drop_more}
use Rattle.std.proofs.lemmas.List.Elements.{All-contains}
use Rattle.lc_algebra.specs.declared.FieldName.{FieldName}
use Rattle.lc_algebra.specs.Field.{add, neg, mul, pow}
use Rattle.lc_algebra.specs.Polynomial.{value_at, trimmed, put_on, poly_product, x_power_minus_one, IsPolynomial, Divides}
use Rattle.lc_algebra.specs.Embedding.{IsSubfield, embed, IsMinimal}
use Rattle.lc_algebra.specs.Matrix.{Matrix}
use Rattle.lc_algebra.proofs.FieldLaws.{add_neg, mul_zero, zero_mul, zero_inside}
use Rattle.lc_algebra.proofs.PowerLaws.{one_pow, pow_mul}
use Rattle.lc_algebra.proofs.PolynomialLaws.{fits_product, product_commutes, product_same}
use Rattle.lc_algebra.proofs.WordLaws.{fits_one}
use Rattle.lc_constructions.specs.Code.{IsCode}
use Rattle.lc_constructions.specs.Cyclic.{IsLocatorField, root_of_unity, value_in, exponents_from, IsMultipleOf, IsBchWord}
use Rattle.lc_constructions.proofs.FormLaws.{all_exponents, contains_exponents}
use Rattle.lc_poly.proofs.TrimLaws.{trimmed_is}
use Rattle.lc_poly.proofs.DivisionLaws.{x_power_polynomial}
use Rattle.lc_poly.proofs.MinimalLaws.{value_x_power, embedded_x_power}
use Rattle.lc_poly.proofs.ConjugateLaws.{product_divides}
use Rattle.lc_poly.proofs.QuotientLaws.{trimmed_exists, value_embedded_same, value_embedded_product}
use Rattle.lc_poly.proofs.ZeroSetLaws.{one_times}
use Rattle.lc_code.proofs.CodeLaws.{same_code}
use Rattle.lc_cyclic.specs.Generator.{IsGenerator}
use Rattle.lc_cyclic.proofs.BchLaws.{root_in_locator, root_power}
use Rattle.lc_cyclic.proofs.CyclicLaws.{divisor_length, multiples_of_divisor}

pub value_none : (f K : FieldName) (u : List ℕ) (n x : ℕ) → n ≡ length u → 0 ≡ value_in f K (drop n u) x
unfolding value_in value_at
value_none f K [] zero x e = refl
value_none f K [] (suc n) x e = refl
value_none f K (a ∷ u) zero x e = absurd (omega (arith, e))
value_none f K (a ∷ u) (suc n) x e = value_none f K u n x (omega (arith, e))

value_cons : (f K : FieldName) (a : ℕ) (u : List ℕ) (x : ℕ) → value_in f K (a ∷ u) x ≡ add K (embed f K a) (mul K x (value_in f K u x))
unfolding value_in value_at
value_cons f K a u x = refl

pub value_step : (f K : FieldName) (u : List ℕ) (n x v c : ℕ) → 0 < n → n ≤ length u → v ≡ value_in f K (drop n u) x → c ≡ embed f K (slice_index u (n - 1)) → add K c (mul K x v) ≡ value_in f K (drop (n - 1) u) x
value_step f K u n x v c p l e h =
    let d : drop (n - 1) u ≡ slice_index u (n - 1) ∷ drop (n - 1 + 1) u = drop_more u (n - 1) 0 (omega arith) in
    let m : n - 1 + 1 ≡ n = omega arith in
    rw (d, m, e, h) (sym (value_cons f K (slice_index u (n - 1)) (drop n u) x))

trimmed_one : trimmed (1 ∷ []) ≡ 1 ∷ []
unfolding trimmed put_on
trimmed_one = refl

one_is_polynomial : (f : FieldName) → IsPolynomial f (1 ∷ [])
one_is_polynomial f = record { fits = fits_one f; leads = λ l. omega arith }

pub generator_none : (f K : FieldName) (x b : ℕ) (g : List ℕ) → g ≡ trimmed (1 ∷ []) → IsGenerator f K x b 0 g
generator_none f K x b g e =
    let h : g ≡ 1 ∷ [] = e ∙ trimmed_one in
    subst (IsGenerator f K x b 0) (sym h) (record {
      polynomial = one_is_polynomial f;
      zeros = λ j l. absurd (omega (arith, l));
      divides = λ v p z. (v, p, λ i. sym (product_commutes f v (1 ∷ []) i ∙ one_times f v i p.fits));
    })

pub generator_kept : (f K : FieldName) (x b m r : ℕ) (g : List ℕ) → IsGenerator f K x b m g → r ≡ pow K x (b + m) → value_in f K g r ≡ 0 → IsGenerator f K x b (m + 1) g
generator_kept f K x b m r g G e z = record {
  polynomial = G.polynomial;
  zeros = λ j l. ⊎_elim (λ d. ap (λ i. value_in f K g (pow K x (b + i))) d ∙ ap (value_in f K g) (sym e) ∙ z) (λ d. G.zeros j (omega (arith, l, d))) (cases_eq j m);
  divides = λ v p h. G.divides v p (λ j l. h j (omega (arith, l)));
}

pub generator_more : (f K : FieldName) (x b m r : ℕ) (g h u : List ℕ) → IsSubfield f K → IsGenerator f K x b m g → r ≡ pow K x (b + m) → value_in f K g r ≢ 0 → IsMinimal f K r u → h ≡ trimmed (poly_product f g u) → IsGenerator f K x b (m + 1) h
unfolding value_in
generator_more f K x b m r g h u sub G e n minimal t =
    let k = trimmed_is f (poly_product f g u) h (fits_product f g u) t in
    let V : List ℕ → ℕ → ℕ = λ w y. value_at K (map (embed f K) w) y in
    let told : (y : ℕ) → V h y ≡ mul K (V g y) (V u y) = λ y. sym (value_embedded_same f K sub (poly_product f g u) h y k.same) ∙ value_embedded_product f K sub g u y G.polynomial.fits minimal.polynomial.fits in
    record {
      polynomial = k.polynomial;
      zeros = λ j l.
          let y = pow K x (b + j) in
          ⊎_elim
          (λ d. let same : y ≡ r = ap (λ i. pow K x (b + i)) d ∙ sym e in told y ∙ ap (λ i. mul K (V g y) (V u i)) same ∙ ap (mul K (V g y)) minimal.zero_at ∙ mul_zero K (V g y))
          (λ d. told y ∙ ap (λ i. mul K i (V u y)) (G.zeros j (omega (arith, l, d))) ∙ zero_mul K (V u y))
          (cases_eq j m);
      divides = λ v p z.
          let (q, qp, s) = product_divides f K sub r g u v minimal G.polynomial.fits n (G.divides v p (λ j l. z j (omega (arith, l)))) (ap (V v) e ∙ z m (omega arith)) in
          (q, qp, λ i. s i ∙ product_same f q (poly_product f g u) h i k.same);
    }

power_zero : (f K : FieldName) (n x e : ℕ) → IsSubfield f K → 1 ≤ n → pow K x n ≡ 1 → value_in f K (x_power_minus_one f n) (pow K x e) ≡ 0
unfolding value_in
power_zero f K n x e sub l o =
    let one : pow K (pow K x e) n ≡ 1 = sym (pow_mul K x e n) ∙ ap (pow K x) (mul_comm e n) ∙ pow_mul K x n e ∙ ap (λ y. pow K y e) o ∙ one_pow K e in
    ap (λ u. value_at K u (pow K x e)) (embedded_x_power f K n sub l) ∙ value_x_power K n (pow K x e) l ∙ ap (λ y. add K y (neg K 1)) one ∙ add_neg K 1

pub generator_divides : (f K : FieldName) (n b m x : ℕ) (g : List ℕ) → 1 ≤ n → IsLocatorField f n K → x ≡ root_of_unity K n → IsGenerator f K x b m g → Divides f g (x_power_minus_one f n)
generator_divides f K n b m x g l h e G =
    let o : pow K x n ≡ 1 = ap (λ y. pow K y n) e ∙ root_power K n l (root_in_locator f K n h) in
    G.divides (x_power_minus_one f n) (x_power_polynomial f n) (λ j k. power_zero f K n x (b + j) h.subfield l o)

pub generator_code : (f K : FieldName) (n b d m x : ℕ) (g list : List ℕ) (C : Matrix) → 1 ≤ n → IsLocatorField f n K → x ≡ root_of_unity K n → m ≡ d - 1 → list ≡ g → IsGenerator f K x b m g → IsCode f n (IsMultipleOf f n list) C → IsCode f n (IsBchWord f K n b d) C
unfolding value_in
generator_code f K n b d m x g list C l h e em el G c =
    let X = x_power_minus_one f n in
    let dv = generator_divides f K n b m x g l h e G in
    let (a, _) = divisor_length f n g l G.polynomial dv in
    let V : List ℕ → ℕ → ℕ = λ w y. value_at K (map (embed f K) w) y in
    let es = exponents_from b (d - 1) in
    let at : (i : ℕ) → pow K x i ≡ pow K (root_of_unity K n) i = λ i. ap (λ y. pow K y i) e in
    same_code f n (IsMultipleOf f n g) (IsBchWord f K n b d) C (λ w k.
    let t = multiples_of_divisor f n g w l G.polynomial a dv k in
    let P : ℕ → Type 0 = λ i. V w (pow K (root_of_unity K n) i) ≡ 0 in (
      (λ s.
          let (q, fits, same) = t.0 s in
          all_exponents P b (d - 1) (λ j o.
          let y = pow K (root_of_unity K n) (b + j) in
          let z : V g y ≡ 0 = ap (V g) (sym (at (b + j))) ∙ G.zeros j (omega (arith, o, em)) in
          value_embedded_same f K h.subfield w (poly_product f q g) y same ∙ value_embedded_product f K h.subfield q g y fits G.polynomial.fits ∙ ap (mul K (V q y)) z ∙ mul_zero K (V q y))),
      (λ s.
          let (v, r) = trimmed_exists f w k.fits in
          let (q, qp, same) = G.divides v r.polynomial (λ j o.
          sym (value_embedded_same f K h.subfield w v (pow K x (b + j)) r.same) ∙ ap (V w) (at (b + j)) ∙ All-contains P es (b + j) s (contains_exponents b (d - 1) j (omega (arith, o, em)))) in
          t.1 (q, qp.fits, λ i. r.same i ∙ same i)),
    )) (subst (λ u. IsCode f n (IsMultipleOf f n u) C) el c)

pub ruleset value_in_laws = (value_none, value_step, zero_inside)
