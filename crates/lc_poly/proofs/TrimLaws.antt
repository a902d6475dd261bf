-- The polynomial of a list: the list without its last zeros.
--   IsTrimmed f u v        v has the coefficients of u and no last zeros
--   trimmed_is             the trimmed list of elements is such
--   is_trimmed             and the only one
--   trimmed_same, product_trimmed      lists with equal coefficients have one trimmed list
--   put_some, put_none, put_one        the length with one coefficient more in front
--   length_trimmed         the number of coefficients without the last zeros
use Rattle.std.proofs.Common.{◌≡◌, ℕ, zero, suc, ◌-◌, ◌<◌, ◌≤◌, List, [], ◌∷◌, length, slice_index, Result, Ok, Err, IfOk, refl, sym, ap, ap₂, subst, ◌∙◌, arith}
use Rattle.lc_algebra.specs.declared.FieldName.{FieldName}
use Rattle.lc_algebra.specs.Field.{size}
use Rattle.lc_algebra.specs.Word.{Fits}
use Rattle.lc_algebra.specs.Polynomial.{poly_product, put_on, trimmed, SamePolynomial, IsPolynomial}
use Rattle.lc_algebra.proofs.WordLaws.{fits_head, fits_tail, fits_cons}
use Rattle.lc_algebra.proofs.PolynomialLaws.{fits_product, only_polynomial}

pub record IsTrimmed (f : FieldName) (u v : List ℕ) : Type 0 where
  pub same : SamePolynomial u v
  pub polynomial : IsPolynomial f v

index_put_on : (a : ℕ) (u : List ℕ) (i : ℕ) → slice_index (a ∷ u) i ≡ slice_index (put_on a u) i
unfolding put_on
index_put_on zero [] zero = refl
index_put_on zero [] (suc i) = refl
index_put_on (suc a) [] i = refl
index_put_on zero (b ∷ u) i = refl
index_put_on (suc a) (b ∷ u) i = refl

more_leads : (a b : ℕ) (u : List ℕ) → (0 < length (b ∷ u) → 0 < slice_index (b ∷ u) (length (b ∷ u) - 1)) → 0 < length (a ∷ b ∷ u) → 0 < slice_index (a ∷ b ∷ u) (length (a ∷ b ∷ u) - 1)
more_leads a b u h l = let e : length (a ∷ b ∷ u) - 1 ≡ suc (length (b ∷ u) - 1) = omega arith in rw e (h (omega arith))

put_polynomial : (f : FieldName) (a : ℕ) (u : List ℕ) → a < size f → IsPolynomial f u → IsPolynomial f (put_on a u)
unfolding put_on
put_polynomial f zero [] l p = p
put_polynomial f (suc a) [] l p = record { fits = fits_cons f (suc a) [] l p.fits; leads = λ k. omega arith }
put_polynomial f zero (b ∷ u) l p = record { fits = fits_cons f 0 (b ∷ u) l p.fits; leads = more_leads 0 b u p.leads }
put_polynomial f (suc a) (b ∷ u) l p = record { fits = fits_cons f (suc a) (b ∷ u) l p.fits; leads = more_leads (suc a) b u p.leads }

pub trimmed_coefficients : (u : List ℕ) → SamePolynomial u (trimmed u)
unfolding trimmed
trimmed_coefficients [] i = refl
trimmed_coefficients (a ∷ u) zero = index_put_on a (trimmed u) 0
trimmed_coefficients (a ∷ u) (suc i) = trimmed_coefficients u i ∙ index_put_on a (trimmed u) (suc i)

pub trimmed_polynomial : (f : FieldName) (u : List ℕ) → Fits f u → IsPolynomial f (trimmed u)
unfolding trimmed
trimmed_polynomial f [] h = record { fits = h; leads = λ l. absurd (omega (arith, l)) }
trimmed_polynomial f (a ∷ u) h = put_polynomial f a (trimmed u) (fits_head f a u h) (trimmed_polynomial f u (fits_tail f a u h))

pub trimmed_is : (f : FieldName) (u v : List ℕ) → Fits f u → v ≡ trimmed u → IsTrimmed f u v
trimmed_is f u v h e = rw e (record { same = trimmed_coefficients u; polynomial = trimmed_polynomial f u h })

pub is_trimmed : (f : FieldName) (u v : List ℕ) → Fits f u → IsTrimmed f u v → v ≡ trimmed u
is_trimmed f u v h t = only_polynomial f v (trimmed u) t.polynomial (trimmed_polynomial f u h) (λ i. sym (t.same i) ∙ trimmed_coefficients u i)

pub trimmed_same : (f : FieldName) (u v w : List ℕ) → Fits f u → Fits f v → SamePolynomial u v → w ≡ trimmed u → w ≡ trimmed v
trimmed_same f u v w h k s e = e ∙ only_polynomial f (trimmed u) (trimmed v) (trimmed_polynomial f u h) (trimmed_polynomial f v k) (λ i. sym (trimmed_coefficients u i) ∙ s i ∙ trimmed_coefficients v i)

-- what is made of a product is made of any list with its coefficients
pub product_trimmed : {T E : Type 0} (f : FieldName) (coefficients : T → List ℕ) (r : Result T E) (given list u v x y : List ℕ) → given ≡ list → Fits f list → SamePolynomial list (poly_product f x y) → x ≡ u → y ≡ v → IfOk r (λ t. coefficients t ≡ trimmed given) → IfOk r (λ t. coefficients t ≡ trimmed (poly_product f u v))
product_trimmed f coefficients (Ok t) given list u v x y e h s p q i =
    trimmed_same f list (poly_product f u v) (coefficients t) h (fits_product f u v) (λ j. s j ∙ ap₂ (λ a b. slice_index (poly_product f a b) j) p q) (i ∙ ap trimmed e)
product_trimmed f coefficients (Err z) given list u v x y e h s p q i = tt

put_some : (a : ℕ) (v : List ℕ) → 0 < length v → length (put_on a v) ≡ suc (length v)
unfolding put_on
put_some a [] l = absurd (omega (arith, l))
put_some zero (b ∷ v) l = refl
put_some (suc a) (b ∷ v) l = refl

put_none : (a : ℕ) (v : List ℕ) → a ≡ 0 → length v ≡ 0 → length (put_on a v) ≡ 0
unfolding put_on
put_none zero [] e l = refl
put_none (suc a) v e l = absurd (omega (arith, e))
put_none zero (b ∷ v) e l = absurd (omega (arith, l))

put_one : (a : ℕ) (v : List ℕ) → 0 < a → length v ≡ 0 → length (put_on a v) ≡ 1
unfolding put_on
put_one zero v p l = absurd (omega (arith, p))
put_one (suc a) [] p l = refl
put_one (suc a) (b ∷ v) p l = absurd (omega (arith, l))

pub length_trimmed : (u : List ℕ) (n : ℕ) → n ≤ length u → (0 < n → 0 < slice_index u (n - 1)) → ((i : ℕ) → n ≤ i → slice_index u i ≡ 0) → n ≡ length (trimmed u)
unfolding trimmed
length_trimmed [] n l h z = omega (arith, l)
length_trimmed (a ∷ u) zero l h z =
    sym (put_none a (trimmed u) (z 0 (omega arith)) (sym (length_trimmed u 0 (omega arith) (λ p. absurd (omega (arith, p))) (λ i k. z (suc i) (omega arith)))))
length_trimmed (a ∷ u) (suc zero) l h z =
    sym (put_one a (trimmed u) (h (omega arith)) (sym (length_trimmed u 0 (omega arith) (λ p. absurd (omega (arith, p))) (λ i k. z (suc i) (omega arith)))))
length_trimmed (a ∷ u) (suc (suc n)) l h z =
    let e : suc (suc n) - 1 ≡ suc n = omega arith in
    let d : suc n - 1 ≡ n = omega arith in
    let t : suc n ≡ length (trimmed u) = length_trimmed u (suc n) (omega (arith, l)) (λ p. subst (λ k. 0 < slice_index u k) (sym d) (subst (λ k. 0 < slice_index (a ∷ u) k) e (h (omega arith)))) (λ i k. z (suc i) (omega (arith, k))) in
    ap suc t ∙ sym (put_some a (trimmed u) (omega (arith, t)))
