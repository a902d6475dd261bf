-- The dimension of a BCH code: its length less the number of exponents of its zeros.
--   zeros_conjugate        the zeros come with their powers by the size of the field
--   bch_zeros              a word of the code is 0 at all of them
--   zero_code_dimension    so the dimension is that of the cyclic code of the polynomial with these zeros
--   bch_dimension          the same, of BCH codes
--   exponents_apart        the exponents from b on are distinct
--   power_of_own           a power of the size of a field with n + 1 elements is 1 modulo n, so each exponent is alone in its set
--   reed_solomon_dimension
use Rattle.std.proofs.Common.{◌≡◌, ◌≢◌, ℕ, zero, suc, ◌+◌, ◌-◌, ◌*◌, ◌%◌, ◌^◌, ◌<◌, ◌≤◌, ◌↔◌, ⊎_elim, List, [], ◌∷◌, map, length, Contains, All, AllPairs, refl, sym, ap, subst, ◌∙◌, arith, mod-lt, pow-suc}
use Rattle.std.proofs.Math.Nat.{mul_comm, pow-zero, mod_self, mod-eq_of_lt, add-mul-mod_self_right}
use Rattle.std.proofs.lemmas.Nat.{mul-mod_first}
use Rattle.std.proofs.lemmas.List.{length-map}
use Rattle.std.proofs.lemmas.List.Elements.{All-contains}
use Rattle.lc_algebra.specs.declared.FieldName.{FieldName}
use Rattle.lc_algebra.specs.Field.{shape_of, size, add, neg, mul, pow, HasOrder}
use Rattle.lc_algebra.specs.Polynomial.{value_at, poly_product, x_power_minus_one, Divides}
use Rattle.lc_algebra.specs.Embedding.{IsSubfield, embed}
use Rattle.lc_algebra.specs.Word.{Fits}
use Rattle.lc_algebra.specs.Matrix.{Matrix}
use Rattle.lc_algebra.proofs.FieldLaws.{add_neg, mul_zero}
use Rattle.lc_algebra.proofs.PowerLaws.{pow_inside, one_pow, pow_mul}
use Rattle.lc_algebra.proofs.OrderLaws.{power_of_rest, distinct_powers, order_of_element}
use Rattle.lc_algebra.proofs.SpanLaws.{contains_head, contains_tail, contains_cases, contains_map, map_contains}
use Rattle.lc_algebra.proofs.DimensionLaws.{AreDistinct, distinct_from_pairs, distinct_map}
use Rattle.lc_constructions.specs.Code.{IsCode}
use Rattle.lc_constructions.specs.Cyclic.{IsLocatorField, root_of_unity, exponents_from, value_in, HasZeros, IsMultipleOf, IsBchWord, IsReedSolomonWord}
use Rattle.lc_constructions.proofs.FormLaws.{reed_solomon_is_bch, root_order}
use Rattle.lc_poly.proofs.MinimalLaws.{value_x_power, embedded_x_power}
use Rattle.lc_poly.proofs.DivisionLaws.{x_power_fits}
use Rattle.lc_poly.proofs.ConjugateLaws.{conjugate_zero}
use Rattle.lc_poly.proofs.QuotientLaws.{value_embedded_same, value_embedded_product}
use Rattle.lc_poly.proofs.ZeroSetLaws.{AreConjugate, zero_polynomial, zeros_divide}
use Rattle.lc_code.proofs.CodeLaws.{same_code}
use Rattle.lc_cyclic.specs.Exponents.{IsZeroExponent}
use Rattle.lc_cyclic.proofs.CyclicLaws.{divisor_length, multiples_of_divisor, generator_dimension}

all_of_contains : (P : ℕ → Type 0) (xs : List ℕ) → ((x : ℕ) → Contains xs x → P x) → All P xs
all_of_contains P [] h k d l = absurd (omega (arith, l))
all_of_contains P (x ∷ xs) h zero d l = h x (contains_head x xs)
all_of_contains P (x ∷ xs) h (suc k) d l = all_of_contains P xs (λ y c. h y (contains_tail x y xs c)) k d (omega (arith, l))

module _ (small large : FieldName) (n root : ℕ) (es xs : List ℕ) (sub : IsSubfield small large) (order : HasOrder large root n) (apart : AreDistinct xs) (told : (k : ℕ) → Contains xs k ↔ IsZeroExponent (size small) n es k) where
  abbrev zeros : List ℕ
  zeros = map (pow large root) xs

  abbrev values : List ℕ → ℕ → ℕ
  values u x = value_at large (map (embed small large) u) x

  inside : (k : ℕ) → Contains xs k → k < n
  inside k c = let (i, a, (j, e)) = (told k).0 c in subst (λ y. y < n) (sym e) (mod-lt (i * size small ^ j) (omega (arith, order.positive)))

  zeros_conjugate : AreConjugate small large zeros
  zeros_conjugate = record {
    inside = λ r c. let (k, a, e) = contains_map (pow large root) xs r c in subst (λ y. y < size large) (sym e) (pow_inside large root k);
    distinct = distinct_map (pow large root) xs (λ x y a b e. distinct_powers large root n x y order (inside x a) (inside y b) e) apart;
    powers = λ r c.
        let (k, a, e) = contains_map (pow large root) xs r c in
        let (i, b, (j, d)) = (told k).0 a in
        let next = (i * size small ^ suc j) % n in
        let member : Contains xs next = (told next).1 (i, b, (suc j, refl)) in
        let m : k * size small % n ≡ next = ap (λ y. y * size small % n) d ∙ mul-mod_first (i * size small ^ j) (size small) n ∙ ap (λ y. y % n) (rw (pow-suc (size small) j) (omega arith)) in
        let same : pow large r (size small) ≡ pow large root next = ap (λ y. pow large y (size small)) e ∙ sym (pow_mul large root k (size small)) ∙ sym (power_of_rest large root n (k * size small) order.one) ∙ ap (pow large root) m in
        subst (Contains zeros) (sym same) (map_contains (pow large root) xs next member);
  }

  bch_zeros : (w : List ℕ) → Fits small w → ((i : ℕ) → Contains es i → values w (pow large root i) ≡ 0) → (r : ℕ) → Contains zeros r → values w r ≡ 0
  bch_zeros w h z r c =
      let (k, a, e) = contains_map (pow large root) xs r c in
      let (i, b, (j, d)) = (told k).0 a in
      let same : r ≡ pow large (pow large root i) (size small ^ j) = e ∙ ap (pow large root) d ∙ power_of_rest large root n (i * size small ^ j) order.one ∙ pow_mul large root i (size small ^ j) in
      ap (values w) same ∙ conjugate_zero small large sub w (pow large root i) j h (pow_inside large root i) (z i b)

  zero_of_power : (r : ℕ) → Contains zeros r → values (x_power_minus_one small n) r ≡ 0
  zero_of_power r c =
      let (k, a, e) = contains_map (pow large root) xs r c in
      let one : pow large r n ≡ 1 = ap (λ y. pow large y n) e ∙ sym (pow_mul large root k n) ∙ ap (pow large root) (mul_comm k n) ∙ pow_mul large root n k ∙ ap (λ y. pow large y k) order.one ∙ one_pow large k in
      ap (λ u. value_at large u r) (embedded_x_power small large n sub order.positive) ∙ value_x_power large n r order.positive ∙ ap (λ y. add large y (neg large 1)) one ∙ add_neg large 1

  exponent_there : (i : ℕ) → Contains es i → (k : ℕ) × Contains zeros k × (pow large root i ≡ k)
  exponent_there i c =
      let e : i * size small ^ 0 ≡ i = ap (λ y. i * y) (pow-zero (size small)) ∙ omega arith in
      let member : Contains xs (i % n) = (told (i % n)).1 (i, c, (0, ap (λ y. y % n) (sym e))) in
      (pow large root (i % n), map_contains (pow large root) xs (i % n) member, sym (power_of_rest large root n i order.one))

  pub zero_code_dimension : (C : Matrix) → IsCode small n (λ w. HasZeros small large root w es) C → length C.rows ≡ n - length xs
  unfolding value_in
  zero_code_dimension C c =
      let rs = zeros in
      let conjugate = zeros_conjugate in
      let (g, p, e, z) = zero_polynomial small large sub rs conjugate in
      let d : Divides small g (x_power_minus_one small n) = zeros_divide small large sub rs g (x_power_minus_one small n) conjugate p e z (x_power_fits small n) zero_of_power in
      let (a, b) = divisor_length small n g order.positive p d in
      let code : IsCode small n (IsMultipleOf small n g) C = same_code small n (λ w. HasZeros small large root w es) (IsMultipleOf small n g) C (λ w k.
      let m = multiples_of_divisor small n g w order.positive p a d k in (
        (λ h.
            let (t, q, s) = zeros_divide small large sub rs g w conjugate p e z k.fits (bch_zeros w k.fits (λ i o. All-contains (λ i. values w (pow large root i) ≡ 0) es i h o)) in
            m.1 (t, q.fits, s)),
        (λ h.
            let (t, q, s) = m.0 h in
            all_of_contains (λ i. values w (pow large root i) ≡ 0) es (λ i o.
            let (r, v, same) = exponent_there i o in
            ap (values w) same ∙ value_embedded_same small large sub w (poly_product small t g) r s ∙ value_embedded_product small large sub t g r q p.fits ∙ ap (mul large (values t r)) (z r v) ∙ mul_zero large (values t r))),
      )) c in
      omega (arith, generator_dimension small n g C order.positive p d code, e, length-map xs (pow large root))

pub bch_dimension : (small large : FieldName) (n b d : ℕ) (xs : List ℕ) (C : Matrix) → 1 ≤ n → IsLocatorField small n large → AllPairs (λ x y. x ≢ y) xs → ((k : ℕ) → Contains xs k ↔ IsZeroExponent (size small) n (exponents_from b (d - 1)) k) → IsCode small n (IsBchWord small large n b d) C → length C.rows ≡ n - length xs
bch_dimension small large n b d xs C l h apart told c =
    let (root, o) = h.order in
    let order : HasOrder large (root_of_unity large n) n = root_order large n l (order_of_element large root n o) in
    zero_code_dimension small large n (root_of_unity large n) (exponents_from b (d - 1)) xs h.subfield order (distinct_from_pairs xs apart) told C c

-- ---- Reed-Solomon codes

length_exponents : (b m : ℕ) → length (exponents_from b m) ≡ m
unfolding exponents_from
length_exponents b zero = refl
length_exponents b (suc m) = ap suc (length_exponents (suc b) m)

exponent_range : (b m k : ℕ) → Contains (exponents_from b m) k → (b ≤ k) × (k < b + m)
unfolding exponents_from
exponent_range b zero k c = absurd (omega (arith, c.1))
exponent_range b (suc m) k c =
    ⊎_elim
    (λ e. (omega (arith, e), omega (arith, e)))
    (λ t. let r = exponent_range (suc b) m k t in (omega (arith, r.0), omega (arith, r.1)))
    (contains_cases b k (exponents_from (suc b) m) c)

exponents_apart : (b m : ℕ) → AreDistinct (exponents_from b m)
unfolding exponents_from
exponents_apart b zero = tt
exponents_apart b (suc m) = ((λ c. omega (arith, (exponent_range (suc b) m b c).0)), exponents_apart (suc b) m)

power_of_own : (q n i j : ℕ) → q ≡ n + 1 → (i * q ^ j) % n ≡ i % n
power_of_own q n i zero e = ap (λ y. y % n) (rw (pow-zero q) (omega arith))
power_of_own q n i (suc j) e =
    let a : i * q ^ suc j ≡ i * q ^ j + i * q ^ j * n = rw (pow-suc q j) (spread i (q ^ j) q n e) in
    ap (λ y. y % n) a ∙ add-mul-mod_self_right (i * q ^ j) (i * q ^ j) n ∙ power_of_own q n i j e
  where
    spread : (i p q n : ℕ) → q ≡ n + 1 → i * (p * q) ≡ i * p + i * p * n
    spread i p q n e = ap (λ y. i * (p * y)) e ∙ grind arith

pub reed_solomon_dimension : (f : FieldName) (n d : ℕ) (C : Matrix) → size f ≡ n + 1 → 1 ≤ d → d ≤ n → IsCode f n (IsReedSolomonWord f d) C → length C.rows ≡ n - d + 1
reed_solomon_dimension f n d C e l m c =
    let k : size f - 1 ≡ n = omega (arith, e) in
    let es = exponents_from 1 (d - 1) in
    let own : IsSubfield f f = record { characteristic = refl; degree = mod_self (shape_of f).degree } in
    let order : HasOrder f (root_of_unity f n) n = root_order f n (omega (arith, l, m)) (ap (λ y. y % n) k ∙ mod_self n) in
    let told : (x : ℕ) → Contains es x ↔ IsZeroExponent (size f) n es x = λ x. (
      (λ a. let r = exponent_range 1 (d - 1) x a in (x, a, (0, sym (power_of_own (size f) n x 0 e ∙ mod-eq_of_lt (omega (arith, r.1, l, m)))))),
      (λ h.
          let (i, a, (j, t)) = h in
          let r = exponent_range 1 (d - 1) i a in
          subst (Contains es) (sym (t ∙ power_of_own (size f) n i j e ∙ mod-eq_of_lt (omega (arith, r.1, l, m)))) a),
    ) in
    let code : IsCode f n (IsBchWord f f n 1 d) C = same_code f n (IsReedSolomonWord f d) (IsBchWord f f n 1 d) C (λ w word.
    let t = reed_solomon_is_bch f d w in
    ((λ h. subst (λ y. IsBchWord f f y 1 d w) k (t.0 h)), (λ h. t.1 (subst (λ y. IsBchWord f f y 1 d w) (sym k) h)))) c in
    omega (arith, zero_code_dimension f f n (root_of_unity f n) es es own order (exponents_apart 1 (d - 1)) told C code, length_exponents 1 (d - 1), l, m)
