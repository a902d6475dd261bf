-- Zeros of a polynomial over a small field in a large one: with each zero its powers by the size of the small field.
--   power_sum                  the power by a power of the characteristic keeps sums
--   embed_pow, embed_fixed     powers of what stands for an element; the power by the size of the small field is itself
--   small_power_sum            the power by the size of the small field keeps sums
--   value_conjugate            the value at that power is that power of the value
--   conjugate_zero             so each power of a zero by powers of the size is a zero
--   cyclotomic_zeros           a zero a^i brings those of the cyclotomic set of i
--   product_divides            a divisor times a minimal polynomial whose zero it lacks
use Rattle.std.proofs.Common.{◌≡◌, ◌≢◌, ℕ, zero, suc, ◌*◌, ◌^◌, ◌<◌, ⊎_elim, List, [], ◌∷◌, map, Contains, sym, ap, ◌∙◌}
use Rattle.std.proofs.Math.Nat.{pow-suc, pow-zero}
use Rattle.lc_algebra.specs.declared.FieldName.{FieldName}
use Rattle.lc_algebra.specs.Field.{shape_of, size, add, mul, pow}
use Rattle.lc_algebra.specs.Word.{Fits}
use Rattle.lc_algebra.specs.Polynomial.{value_at, poly_product, Divides}
use Rattle.lc_algebra.specs.Embedding.{IsSubfield, embed, IsMinimal, IsCyclotomicSet}
use Rattle.lc_algebra.proofs.FieldLaws.{zero_inside, add_inside, mul_inside, no_zero_divisors}
use Rattle.lc_algebra.proofs.PowerLaws.{pow_zero, pow_suc, pow_inside, pow_one, zero_pow, pow_mul, mul_pow, pow_size, frobenius}
use Rattle.lc_algebra.proofs.OrderLaws.{power_of_rest}
use Rattle.lc_algebra.proofs.EmbeddingLaws.{embed_inside, embed_one, embed_mul}
use Rattle.lc_algebra.proofs.WordLaws.{fits_head, fits_tail}
use Rattle.lc_algebra.proofs.PolynomialLaws.{product_commutes, product_associates, product_same, same_product, value_inside}
use Rattle.lc_poly.proofs.QuotientLaws.{value_embedded_same, value_embedded_product, minimal_divides}
use Rattle.lc_poly.proofs.ZeroLaws.{value_cons, value_none}

pub power_sum : (f : FieldName) (a b s : ℕ) → a < size f → b < size f → pow f (add f a b) ((shape_of f).characteristic ^ s) ≡ add f (pow f a ((shape_of f).characteristic ^ s)) (pow f b ((shape_of f).characteristic ^ s))
power_sum f a b zero l m =
    let p = (shape_of f).characteristic in
    rw (pow-zero p) (cc (pow_one f (add f a b) (add_inside f a b), pow_one f a l, pow_one f b m))
power_sum f a b (suc s) l m =
    let p = (shape_of f).characteristic in
    rw (pow-suc p s)
    (cc (pow_mul f (add f a b) (p ^ s) p, power_sum f a b s l m, pow_mul f a (p ^ s) p, pow_mul f b (p ^ s) p, frobenius f (pow f a (p ^ s)) (pow f b (p ^ s)) (pow_inside f a (p ^ s)) (pow_inside f b (p ^ s))))

module _ (small large : FieldName) (sub : IsSubfield small large) where
  pub embed_pow : (c n : ℕ) → c < size small → embed small large (pow small c n) ≡ pow large (embed small large c) n
  embed_pow c zero l = cc (pow_zero small c, pow_zero large (embed small large c), embed_one small large sub)
  embed_pow c (suc n) l = cc (pow_suc small c n, pow_suc large (embed small large c) n, embed_mul small large c (pow small c n) sub l (pow_inside small c n), embed_pow c n l)

  pub embed_fixed : (c : ℕ) → c < size small → pow large (embed small large c) (size small) ≡ embed small large c
  embed_fixed c l = sym (embed_pow c (size small) l) ∙ ap (embed small large) (pow_size small c l)

  size_is : size small ≡ (shape_of large).characteristic ^ (shape_of small).degree
  unfolding size
  size_is = ap (λ p. p ^ (shape_of small).degree) sub.characteristic

  pub small_power_sum : (a b : ℕ) → a < size large → b < size large → pow large (add large a b) (size small) ≡ add large (pow large a (size small)) (pow large b (size small))
  small_power_sum a b l m =
      let q = (shape_of large).characteristic ^ (shape_of small).degree in
      let e : size small ≡ q = size_is in
      ap (pow large (add large a b)) e ∙ power_sum large a b (shape_of small).degree l m ∙ cc (ap (pow large a) e, ap (pow large b) e)

  pub value_conjugate : (u : List ℕ) (x : ℕ) → Fits small u → x < size large → value_at large (map (embed small large) u) (pow large x (size small)) ≡ pow large (value_at large (map (embed small large) u) x) (size small)
  value_conjugate [] x h l = cc (value_none large (pow large x (size small)), value_none large x, zero_pow large (size small) (zero_inside small))
  value_conjugate (c ∷ u) x h l =
      let q = size small in
      let e = embed small large c in
      let U = value_at large (map (embed small large) u) x in
      cc (value_cons large e (map (embed small large) u) (pow large x q), value_cons large e (map (embed small large) u) x, value_conjugate u x (fits_tail small c u h) l, small_power_sum e (mul large x U) (embed_inside small large c) (mul_inside large x U), embed_fixed c (fits_head small c u h), mul_pow large x U q)

  pub conjugate_zero : (u : List ℕ) (x j : ℕ) → Fits small u → x < size large → value_at large (map (embed small large) u) x ≡ 0 → value_at large (map (embed small large) u) (pow large x (size small ^ j)) ≡ 0
  conjugate_zero u x zero h l z = rw (pow-zero (size small), pow_one large x l) z
  conjugate_zero u x (suc j) h l z =
      let y = pow large x (size small ^ j) in
      rw (pow-suc (size small) j, pow_mul large x (size small ^ j) (size small))
      (value_conjugate u y h (pow_inside large x (size small ^ j)) ∙ ap (λ w. pow large w (size small)) (conjugate_zero u x j h l z) ∙ zero_pow large (size small) (zero_inside small))

  pub cyclotomic_zeros : (u : List ℕ) (a n i : ℕ) (xs : List ℕ) → Fits small u → pow large a n ≡ 1 → IsCyclotomicSet n (size small) i xs → value_at large (map (embed small large) u) (pow large a i) ≡ 0 → (k : ℕ) → Contains xs k → value_at large (map (embed small large) u) (pow large a k) ≡ 0
  cyclotomic_zeros u a n i xs h o s z k c =
      let t = (s.members k).0 c in
      let e : pow large a k ≡ pow large (pow large a i) (size small ^ t.0) = ap (pow large a) t.1 ∙ power_of_rest large a n (i * size small ^ t.0) o ∙ pow_mul large a i (size small ^ t.0) in
      ap (value_at large (map (embed small large) u)) e ∙ conjugate_zero u (pow large a i) t.0 h (pow_inside large a i) z

  pub product_divides : (a : ℕ) (g u v : List ℕ) → IsMinimal small large a u → Fits small g → value_at large (map (embed small large) g) a ≢ 0 → Divides small g v → value_at large (map (embed small large) v) a ≡ 0 → Divides small (poly_product small g u) v
  product_divides a g u v m fg n d z =
      let h = d.0 in
      let e : mul large (value_at large (map (embed small large) h) a) (value_at large (map (embed small large) g) a) ≡ 0 = sym (value_embedded_same small large sub v (poly_product small h g) a d.2 ∙ value_embedded_product small large sub h g a d.1.fits fg) ∙ z in
      let zh : value_at large (map (embed small large) h) a ≡ 0 = ⊎_elim (λ s. s) (λ s. absurd (n s)) (no_zero_divisors large _ _ (value_inside large (map (embed small large) h) a) (value_inside large (map (embed small large) g) a) e) in
      let k = minimal_divides small large sub a u h m d.1 zh in
      (k.0, k.1, λ i. d.2 i ∙ same_product small h (poly_product small k.0 u) g i k.2 ∙ product_associates small k.0 u g i ∙ product_same small k.0 (poly_product small u g) (poly_product small g u) i (product_commutes small u g))
