-- The product of polynomials modulo a monic polynomial, by Horner's rule, is linear in each of its factors, and two
-- factors may change places before a third. All lists are as long as the lower part of the monic polynomial.
--   up_plus, up_times            moving one place up keeps sums and multiples
--   top_plus, top_times          so does the last coefficient
--   times_x_plus, times_x_times  so does multiplying by x
--   product_plus, product_times, product_times_x      and the product, in its second factor
--   product_swap                 u (v w) is v (u w)
--   zeros_plus_zeros, up_zeros, top_zeros, times_x_zeros, product_zeros      zeros stay
--   length-up, length-times_x, length-product, residues_product              lengths, and residues come out
use Rattle.std.proofs.Common.{◌≡◌, ℕ, zero, suc, ◌+◌, ◌*◌, ◌%◌, ◌<◌, List, [], ◌∷◌, length, replicate, refl, sym, ap, ◌∙◌, arith, mul-zero}
use Rattle.std.proofs.Math.Nat.{zero-mod}
use Rattle.std.proofs.lemmas.List.{length-replicate}
use Rattle.lc_algebra.specs.Residue.{plus, minus, times, top, up, times_x, product}
use Rattle.lc_algebra.proofs.ResidueLaws.{Residues, plus_middle, times_plus, plus_times, times_times, times_swap, times_none, times_zero, length-plus, length-times, length-minus, residues_plus, residues_zeros}

-- x times a polynomial

pub up_plus : (p a b : ℕ) (u v : List ℕ) → up ((a + b) % p) (plus p u v) ≡ plus p (up a u) (up b v)
unfolding up plus
up_plus p a b [] v = refl
up_plus p a b (c ∷ u) [] = refl
up_plus p a b (c ∷ u) (d ∷ v) = cc (up_plus p c d u v)

pub up_times : (p c a : ℕ) (u : List ℕ) → up ((c * a) % p) (times p c u) ≡ times p c (up a u)
unfolding up times
up_times p c a [] = refl
up_times p c a (b ∷ u) = cc (up_times p c b u)

pub top_plus : (p a b : ℕ) (u v : List ℕ) → length u ≡ length v → top ((a + b) % p) (plus p u v) ≡ (top a u + top b v) % p
unfolding top plus
top_plus p a b [] [] e = refl
top_plus p a b [] (d ∷ v) e = cc
top_plus p a b (c ∷ u) [] e = cc
top_plus p a b (c ∷ u) (d ∷ v) e = top_plus p c d u v (omega arith)

pub top_times : (p c a : ℕ) (u : List ℕ) → top ((c * a) % p) (times p c u) ≡ (c * top a u) % p
unfolding top times
top_times p c a [] = refl
top_times p c a (b ∷ u) = top_times p c b u

pub length-up : (c : ℕ) (u : List ℕ) → length (up c u) ≡ length u
unfolding up
length-up c [] = refl
length-up c (a ∷ u) = cc (length-up a u)

pub length-times_x : (p : ℕ) (m u : List ℕ) → length u ≡ length m → length (times_x p m u) ≡ length m
unfolding times_x
length-times_x p m u e =
    let lu : length (up 0 u) ≡ length u = length-up 0 u in
    let lm : length (times p (top 0 u) (minus p m)) ≡ length m = length-times p (top 0 u) (minus p m) ∙ length-minus p m in
    cc (length-plus p (up 0 u) (times p (top 0 u) (minus p m)) (cc))

pub times_x_plus : (p : ℕ) (m u v : List ℕ) → length u ≡ length v → times_x p m (plus p u v) ≡ plus p (times_x p m u) (times_x p m v)
unfolding times_x
times_x_plus p m u v e =
    let z : (0 + 0) % p ≡ 0 = zero-mod p in
    let t : top 0 (plus p u v) ≡ (top 0 u + top 0 v) % p = ap (λ x. top x (plus p u v)) (sym z) ∙ top_plus p 0 0 u v e in
    let w : up 0 (plus p u v) ≡ plus p (up 0 u) (up 0 v) = ap (λ x. up x (plus p u v)) (sym z) ∙ up_plus p 0 0 u v in
    cc (plus_times p (top 0 u) (top 0 v) (minus p m), plus_middle p (up 0 u) (up 0 v) (times p (top 0 u) (minus p m)) (times p (top 0 v) (minus p m)))

pub times_x_times : (p c : ℕ) (m u : List ℕ) → times_x p m (times p c u) ≡ times p c (times_x p m u)
unfolding times_x
times_x_times p c m u =
    let z : (c * 0) % p ≡ 0 = cc (mul-zero c, zero-mod p) in
    let t : top 0 (times p c u) ≡ (c * top 0 u) % p = ap (λ x. top x (times p c u)) (sym z) ∙ top_times p c 0 u in
    let w : up 0 (times p c u) ≡ times p c (up 0 u) = ap (λ x. up x (times p c u)) (sym z) ∙ up_times p c 0 u in
    cc (times_times p c (top 0 u) (minus p m), times_plus p c (up 0 u) (times p (top 0 u) (minus p m)))

-- zeros

pub zeros_plus_zeros : (p n : ℕ) → plus p (replicate n 0) (replicate n 0) ≡ replicate n 0
unfolding plus
zeros_plus_zeros p zero = refl
zeros_plus_zeros p (suc n) = let e : (0 + 0) % p ≡ 0 = zero-mod p in cc (zeros_plus_zeros p n)

pub up_zeros : (n : ℕ) → up 0 (replicate n 0) ≡ replicate n 0
unfolding up
up_zeros zero = refl
up_zeros (suc n) = cc (up_zeros n)

pub top_zeros : (n : ℕ) → top 0 (replicate n 0) ≡ 0
unfolding top
top_zeros zero = refl
top_zeros (suc n) = top_zeros n

pub times_x_zeros : (p : ℕ) (m : List ℕ) → times_x p m (replicate (length m) 0) ≡ replicate (length m) 0
unfolding times_x
times_x_zeros p m =
    cc (up_zeros (length m), top_zeros (length m), times_zero p (minus p m), length-minus p m, zeros_plus_zeros p (length m))

-- the product in its second factor

pub length-product : (p : ℕ) (m u v : List ℕ) → length v ≡ length m → length (product p m u v) ≡ length m
unfolding product
length-product p m [] v e = length-replicate (length m) 0
length-product p m (c ∷ u) v e =
    let a : length (times p c v) ≡ length m = length-times p c v ∙ e in
    let b : length (times_x p m (product p m u v)) ≡ length m = length-times_x p m (product p m u v) (length-product p m u v e) in
    length-plus p (times p c v) (times_x p m (product p m u v)) (a ∙ sym b) ∙ a

pub residues_product : (p : ℕ) (m u v : List ℕ) → 0 < p → Residues p (product p m u v)
unfolding product
residues_product p m [] v l = residues_zeros p (length m) l
residues_product p m (c ∷ u) v l = residues_plus p (times p c v) (times_x p m (product p m u v)) l

pub product_plus : (p : ℕ) (m u v w : List ℕ) → length v ≡ length m → length w ≡ length m → product p m u (plus p v w) ≡ plus p (product p m u v) (product p m u w)
unfolding product
product_plus p m [] v w e f = sym (zeros_plus_zeros p (length m))
product_plus p m (c ∷ u) v w e f =
    let a = product p m u v in
    let b = product p m u w in
    let same : length a ≡ length b = length-product p m u v e ∙ sym (length-product p m u w f) in
    cc (product_plus p m u v w e f, times_plus p c v w, times_x_plus p m a b same, plus_middle p (times p c v) (times p c w) (times_x p m a) (times_x p m b))

pub product_times : (p d : ℕ) (m u v : List ℕ) → product p m u (times p d v) ≡ times p d (product p m u v)
unfolding product
product_times p d m [] v = sym (times_none p d (length m))
product_times p d m (c ∷ u) v =
    cc (product_times p d m u v, times_swap p c d v, times_x_times p d m (product p m u v), times_plus p d (times p c v) (times_x p m (product p m u v)))

pub product_times_x : (p : ℕ) (m u v : List ℕ) → length v ≡ length m → product p m u (times_x p m v) ≡ times_x p m (product p m u v)
unfolding product
product_times_x p m [] v e = sym (times_x_zeros p m)
product_times_x p m (c ∷ u) v e =
    let a = product p m u v in
    let b : length (times p c v) ≡ length m = length-times p c v ∙ e in
    let d : length (times_x p m a) ≡ length m = length-times_x p m a (length-product p m u v e) in
    cc (product_times_x p m u v e, times_x_times p c m v, times_x_plus p m (times p c v) (times_x p m a) (b ∙ sym d))

pub product_zeros : (p : ℕ) (m u : List ℕ) → product p m u (replicate (length m) 0) ≡ replicate (length m) 0
unfolding product
product_zeros p m [] = refl
product_zeros p m (c ∷ u) =
    cc (product_zeros p m u, times_none p c (length m), times_x_zeros p m, zeros_plus_zeros p (length m))

-- the product in its first factor

-- two factors change places

pub product_swap : (p : ℕ) (m u v w : List ℕ) → length w ≡ length m → product p m u (product p m v w) ≡ product p m v (product p m u w)
unfolding product
product_swap p m [] v w e = sym (product_zeros p m v)
product_swap p m (c ∷ u) v w e =
    let a = product p m u w in
    let la : length a ≡ length m = length-product p m u w e in
    let b : length (times p c w) ≡ length m = length-times p c w ∙ e in
    let d : length (times_x p m a) ≡ length m = length-times_x p m a la in
    cc (product_swap p m u v w e, product_times p c m v w, product_times_x p m v a la, product_plus p m v (times p c w) (times_x p m a) b d)
