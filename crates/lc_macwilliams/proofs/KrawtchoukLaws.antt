-- The MacWilliams identity with Krawtchouk polynomials (MacWilliams and Sloane, chapter 5).
--   part, parts                a term of a Krawtchouk polynomial, and the sum of the terms with coefficients
--   parts_zero, parts_other    for words that have a symbol more in front: 0, or another one
--   is_even, is_odd            1 for even and for odd numbers, else 0
--   even_is, odd_is            the even and the odd part as such sums
--   even_zero, odd_zero, even_other, odd_other, even_first, odd_first, none_even, none_odd      how these grow
--   has_weight k e             1 for the words of weight k, else 0
--   weight_transform           its transform is the Krawtchouk polynomial
--   macwilliams                the identity
--   dual_of_dual               so it holds with a code and its dual exchanged
use Rattle.std.proofs.Common.{◌≡◌, ℕ, zero, suc, ◌+◌, ◌-◌, ◌*◌, ◌^◌, ◌%◌, ◌<◌, ◌≤◌, Bool, true, false, cond, ◌==◌, List, [], ◌∷◌, length, sum_by, refl, sym, ap, ◌∙◌, arith}
use Rattle.std.proofs.Math.Nat.{pow-suc, pow-zero, mul_comm}
use Rattle.std.proofs.lemmas.Bool.{eq-eqb, ne_eqb, eqb-true}
use Rattle.std.proofs.lemmas.List.Sums.{sum_by_push}
use Rattle.lc_algebra.specs.declared.FieldName.{FieldName}
use Rattle.lc_algebra.specs.Field.{size}
use Rattle.lc_algebra.specs.Word.{weight}
use Rattle.lc_algebra.specs.Span.{below, words}
use Rattle.lc_algebra.specs.Matrix.{AreRows, IsReduced, IsReducedGenerator, IsOrthogonal}
use Rattle.lc_matrix.proofs.DualLaws.{orthogonal_to_kernel}
use Rattle.lc_algebra.proofs.CommonLaws.{same_test}
use Rattle.lc_algebra.proofs.WordLaws.{weight_zero_head, weight_other_head, weight_at_most_length}
use Rattle.lc_algebra.proofs.SpanLaws.{contains_below, span_word, word_of_member}
use Rattle.lc_enumeration.specs.Message.{choose}
use Rattle.lc_enumeration.specs.Distribution.{count_of_weight}
use Rattle.lc_enumeration.proofs.ChooseLaws.{choose_next, choose_nothing, choose_none}
use Rattle.lc_macwilliams.specs.Krawtchouk.{krawtchouk_term, krawtchouk_even, krawtchouk_odd}
use Rattle.lc_macwilliams.proofs.CountLaws.{sum_same, sum_none, sum_plus, sum_times, sum_first, sum_grouped}
use Rattle.lc_macwilliams.proofs.TransformLaws.{HasTransform, transform_none, transform_empty, transform_step, sum_over_dual}

abbrev pub part : ℕ → ℕ → ℕ → ℕ → ℕ → ℕ
part q k x m s = (q - 1) ^ (k - s) * choose x s * choose m (k - s)

abbrev pub parts : (ℕ → ℕ) → ℕ → ℕ → ℕ → ℕ → ℕ
parts p q k x m = sum_by (λ s. p s * part q k x m s) (below (suc k))

part_zero : (q k x m s : ℕ) → s < suc k → part q (suc k) x (suc m) s ≡ part q (suc k) x m s + (q - 1) * part q k x m s
part_zero q k x m s l =
    let e : suc k - s ≡ suc (k - s) = omega (arith, l) in
    rw (e, choose_next m (k - s), pow-suc (q - 1) (k - s)) (omega arith)

part_last : (q k x m : ℕ) → part q (suc k) x (suc m) (suc k) ≡ part q (suc k) x m (suc k)
part_last q k x m =
    let e : suc k - suc k ≡ 0 = omega arith in
    rw (e, choose_nothing (suc m), choose_nothing m) refl

spread : (p a r b : ℕ) → p * (a + r * b) ≡ p * a + r * (p * b)
spread p a r b = omega arith

apart : (p a b : ℕ) → p * (a + b) ≡ p * a + p * b
apart p a b = omega arith

pub parts_zero : (p : ℕ → ℕ) (q k x m : ℕ) → parts p q (suc k) x (suc m) ≡ parts p q (suc k) x m + (q - 1) * parts p q k x m
unfolding below
parts_zero p q k x m =
    let more : sum_by (λ s. p s * part q (suc k) x (suc m) s) (below (suc k)) ≡ sum_by (λ s. p s * part q (suc k) x m s) (below (suc k)) + (q - 1) * parts p q k x m =
    sum_same (λ s. p s * part q (suc k) x (suc m) s) (λ s. p s * part q (suc k) x m s + (q - 1) * (p s * part q k x m s)) (below (suc k)) (λ s c.
    ap (λ t. p s * t) (part_zero q k x m s (contains_below (suc k) s c)) ∙ spread (p s) (part q (suc k) x m s) (q - 1) (part q k x m s))
    ∙ sum_plus (λ s. p s * part q (suc k) x m s) (λ s. (q - 1) * (p s * part q k x m s)) (below (suc k))
    ∙ ap (λ t. sum_by (λ s. p s * part q (suc k) x m s) (below (suc k)) + t) (sum_times (q - 1) (λ s. p s * part q k x m s) (below (suc k))) in
    omega (arith, more, sum_by_push (λ s. p s * part q (suc k) x (suc m) s) (below (suc k)) (suc k), sum_by_push (λ s. p s * part q (suc k) x m s) (below (suc k)) (suc k), ap (λ t. p (suc k) * t) (part_last q k x m))

part_first : (q k x m : ℕ) → part q (suc k) (suc x) m 0 ≡ part q (suc k) x m 0
part_first q k x m = rw (choose_nothing (suc x), choose_nothing x) refl

part_other : (q k x m s : ℕ) → part q (suc k) (suc x) m (suc s) ≡ part q (suc k) x m (suc s) + part q k x m s
part_other q k x m s =
    let e : suc k - suc s ≡ k - s = omega arith in
    rw (e, choose_next x s) (omega arith)

pub parts_other : (p : ℕ → ℕ) (q k x m : ℕ) → parts p q (suc k) (suc x) m ≡ parts p q (suc k) x m + parts (λ s. p (suc s)) q k x m
parts_other p q k x m =
    let more : sum_by (λ s. p (suc s) * part q (suc k) (suc x) m (suc s)) (below (suc k)) ≡ sum_by (λ s. p (suc s) * part q (suc k) x m (suc s)) (below (suc k)) + parts (λ s. p (suc s)) q k x m =
    sum_same (λ s. p (suc s) * part q (suc k) (suc x) m (suc s)) (λ s. p (suc s) * part q (suc k) x m (suc s) + p (suc s) * part q k x m s) (below (suc k)) (λ s c.
    ap (λ t. p (suc s) * t) (part_other q k x m s) ∙ apart (p (suc s)) (part q (suc k) x m (suc s)) (part q k x m s))
    ∙ sum_plus (λ s. p (suc s) * part q (suc k) x m (suc s)) (λ s. p (suc s) * part q k x m s) (below (suc k)) in
    omega (arith, more, sum_first (λ s. p s * part q (suc k) (suc x) m s) (suc k), sum_first (λ s. p s * part q (suc k) x m s) (suc k), ap (λ t. p 0 * t) (part_first q k x m))

abbrev pub is_even : ℕ → ℕ
is_even s = cond (s % 2 == 0) 1 0

abbrev pub is_odd : ℕ → ℕ
is_odd s = cond (s % 2 == 1) 1 0

even_next : (s : ℕ) → is_even (suc s) ≡ is_odd s
even_next s = ap (λ b. cond b 1 0) (same_test (suc s % 2 == 0) (s % 2 == 1) (λ t. eq-eqb (s % 2) 1 (omega (arith, eqb-true (suc s % 2) 0 t))) (λ t. eq-eqb (suc s % 2) 0 (omega (arith, eqb-true (s % 2) 1 t))))

odd_next : (s : ℕ) → is_odd (suc s) ≡ is_even s
odd_next s = ap (λ b. cond b 1 0) (same_test (suc s % 2 == 1) (s % 2 == 0) (λ t. eq-eqb (s % 2) 0 (omega (arith, eqb-true (suc s % 2) 1 t))) (λ t. eq-eqb (suc s % 2) 1 (omega (arith, eqb-true (s % 2) 0 t))))

chosen : (b : Bool) (t : ℕ) → cond b t 0 ≡ cond b 1 0 * t
chosen true t = omega arith
chosen false t = omega arith

pub even_is : (q n k x : ℕ) → krawtchouk_even q n k x ≡ parts is_even q k x (n - x)
unfolding krawtchouk_even krawtchouk_term
even_is q n k x = sum_same (λ s. cond (s % 2 == 0) (part q k x (n - x) s) 0) (λ s. is_even s * part q k x (n - x) s) (below (suc k)) (λ s _. chosen (s % 2 == 0) (part q k x (n - x) s))

pub odd_is : (q n k x : ℕ) → krawtchouk_odd q n k x ≡ parts is_odd q k x (n - x)
unfolding krawtchouk_odd krawtchouk_term
odd_is q n k x = sum_same (λ s. cond (s % 2 == 1) (part q k x (n - x) s) 0) (λ s. is_odd s * part q k x (n - x) s) (below (suc k)) (λ s _. chosen (s % 2 == 1) (part q k x (n - x) s))

pub even_zero : (q n k x : ℕ) → x ≤ n → krawtchouk_even q (suc n) (suc k) x ≡ krawtchouk_even q n (suc k) x + (q - 1) * krawtchouk_even q n k x
even_zero q n k x l =
    let e : suc n - x ≡ suc (n - x) = omega (arith, l) in
    rw (even_is q (suc n) (suc k) x, even_is q n (suc k) x, even_is q n k x, e) (parts_zero is_even q k x (n - x))

pub odd_zero : (q n k x : ℕ) → x ≤ n → krawtchouk_odd q (suc n) (suc k) x ≡ krawtchouk_odd q n (suc k) x + (q - 1) * krawtchouk_odd q n k x
odd_zero q n k x l =
    let e : suc n - x ≡ suc (n - x) = omega (arith, l) in
    rw (odd_is q (suc n) (suc k) x, odd_is q n (suc k) x, odd_is q n k x, e) (parts_zero is_odd q k x (n - x))

turned : (p o : ℕ → ℕ) (q k x m : ℕ) → ((s : ℕ) → p (suc s) ≡ o s) → parts (λ s. p (suc s)) q k x m ≡ parts o q k x m
turned p o q k x m h = sum_same (λ s. p (suc s) * part q k x m s) (λ s. o s * part q k x m s) (below (suc k)) (λ s _. ap (λ t. t * part q k x m s) (h s))

pub even_other : (q n k x : ℕ) → krawtchouk_even q (suc n) (suc k) (suc x) ≡ krawtchouk_even q n (suc k) x + krawtchouk_odd q n k x
even_other q n k x =
    let e : suc n - suc x ≡ n - x = omega arith in
    rw (even_is q (suc n) (suc k) (suc x), even_is q n (suc k) x, odd_is q n k x, e) (parts_other is_even q k x (n - x) ∙ ap (λ t. parts is_even q (suc k) x (n - x) + t) (turned is_even is_odd q k x (n - x) even_next))

pub odd_other : (q n k x : ℕ) → krawtchouk_odd q (suc n) (suc k) (suc x) ≡ krawtchouk_odd q n (suc k) x + krawtchouk_even q n k x
odd_other q n k x =
    let e : suc n - suc x ≡ n - x = omega arith in
    rw (odd_is q (suc n) (suc k) (suc x), odd_is q n (suc k) x, even_is q n k x, e) (parts_other is_odd q k x (n - x) ∙ ap (λ t. parts is_odd q (suc k) x (n - x) + t) (turned is_odd is_even q k x (n - x) odd_next))

parts_first : (p : ℕ → ℕ) (q x m : ℕ) → parts p q 0 x m ≡ p 0
unfolding below
parts_first p q x m =
    let one : part q 0 x m 0 ≡ 1 =
    let e : 0 - 0 ≡ 0 = omega arith in
    rw (e, pow-zero (q - 1), choose_nothing x, choose_nothing m) refl in
    sum_first (λ s. p s * part q 0 x m s) 0 ∙ ap (λ t. p 0 * t + 0) one ∙ omega arith

pub even_first : (q n x : ℕ) → krawtchouk_even q n 0 x ≡ 1
even_first q n x = even_is q n 0 x ∙ parts_first is_even q x (n - x)

pub odd_first : (q n x : ℕ) → krawtchouk_odd q n 0 x ≡ 0
odd_first q n x = odd_is q n 0 x ∙ parts_first is_odd q x (n - x)

part_none : (q k s : ℕ) → part q (suc k) 0 0 s ≡ 0
part_none q k zero =
    let e : suc k - 0 ≡ suc k = omega arith in
    rw (e, choose_none 0 (suc k) (omega arith)) (omega arith)
part_none q k (suc s) = rw (choose_none 0 (suc s) (omega arith)) (omega arith)

parts_none : (p : ℕ → ℕ) (q k : ℕ) → parts p q (suc k) 0 0 ≡ 0
parts_none p q k = sum_none (λ s. p s * part q (suc k) 0 0 s) (below (suc (suc k))) (λ s _. ap (λ t. p s * t) (part_none q k s) ∙ omega arith)

pub none_even : (q k : ℕ) → krawtchouk_even q 0 (suc k) 0 ≡ 0
none_even q k = even_is q 0 (suc k) 0 ∙ parts_none is_even q k

pub none_odd : (q k : ℕ) → krawtchouk_odd q 0 (suc k) 0 ≡ 0
none_odd q k = odd_is q 0 (suc k) 0 ∙ parts_none is_odd q k

abbrev pub has_weight : ℕ → List ℕ → ℕ
has_weight k e = cond (weight e == k) 1 0

zero_weight : (k : ℕ) (u : List ℕ) → has_weight k (0 ∷ u) ≡ has_weight k u
zero_weight k u = ap (λ x. cond (x == k) 1 0) (weight_zero_head u)

other_weight : (k c : ℕ) (u : List ℕ) → 0 < c → has_weight (suc k) (c ∷ u) ≡ has_weight k u
other_weight k c u p =
    let w : weight (c ∷ u) ≡ suc (weight u) = weight_other_head c u p in
    ap (λ b. cond b 1 0) (same_test (weight (c ∷ u) == suc k) (weight u == k) (λ t. eq-eqb (weight u) k (omega (arith, w, eqb-true (weight (c ∷ u)) (suc k) t))) (λ t. eq-eqb (weight (c ∷ u)) (suc k) (omega (arith, w, eqb-true (weight u) k t))))

no_weight : (c : ℕ) (u : List ℕ) → 0 < c → has_weight 0 (c ∷ u) ≡ 0
no_weight c u p = ap (λ b. cond b 1 0) (ne_eqb (weight (c ∷ u)) 0 (λ e. omega (arith, e, weight_other_head c u p)))

pub weight_transform : (f : FieldName) (n k : ℕ) → HasTransform f n (has_weight k) (λ w. krawtchouk_even (size f) n k (weight w)) (λ w. krawtchouk_odd (size f) n k (weight w))
weight_transform f zero zero =
    transform_empty f (has_weight 0) (λ w. krawtchouk_even (size f) 0 0 (weight w)) (λ w. krawtchouk_odd (size f) 0 0 (weight w)) (rw (even_first (size f) 0 0, odd_first (size f) 0 0) refl)
weight_transform f zero (suc k) =
    transform_empty f (has_weight (suc k)) (λ w. krawtchouk_even (size f) 0 (suc k) (weight w)) (λ w. krawtchouk_odd (size f) 0 (suc k) (weight w))
    (let none : has_weight (suc k) [] ≡ 0 = ap (λ b. cond b 1 0) (ne_eqb 0 (suc k) (λ e. omega (arith, e))) in rw (none_even (size f) k, none_odd (size f) k, none) (omega arith))
weight_transform f (suc n) zero =
    let q : ℕ = size f in
    transform_step f n (has_weight 0) (has_weight 0) (λ _. 0) (λ w. krawtchouk_even q n 0 (weight w)) (λ w. krawtchouk_odd q n 0 (weight w)) (λ _. 0) (λ _. 0) (λ w. krawtchouk_even q (suc n) 0 (weight w)) (λ w. krawtchouk_odd q (suc n) 0 (weight w))
    (record { zero = λ u _. zero_weight 0 u; other = λ c u _ p. no_weight c u p })
    (weight_transform f n zero) (transform_none f n)
    (λ v _. omega (arith, even_first q (suc n) (weight (0 ∷ v)), odd_first q (suc n) (weight (0 ∷ v)), even_first q n (weight v), odd_first q n (weight v)))
    (λ a v _ _. omega (arith, even_first q (suc n) (weight (a ∷ v)), odd_first q (suc n) (weight (a ∷ v)), even_first q n (weight v), odd_first q n (weight v)))
weight_transform f (suc n) (suc k) =
    let q : ℕ = size f in
    transform_step f n (has_weight (suc k)) (has_weight (suc k)) (has_weight k) (λ w. krawtchouk_even q n (suc k) (weight w)) (λ w. krawtchouk_odd q n (suc k) (weight w)) (λ w. krawtchouk_even q n k (weight w)) (λ w. krawtchouk_odd q n k (weight w)) (λ w. krawtchouk_even q (suc n) (suc k) (weight w)) (λ w. krawtchouk_odd q (suc n) (suc k) (weight w))
    (record { zero = λ u _. zero_weight (suc k) u; other = λ c u _ p. other_weight k c u p })
    (weight_transform f n (suc k)) (weight_transform f n k)
    (λ v i.
    let l : weight v ≤ n = omega (arith, weight_at_most_length v, i.long) in
    rw (weight_zero_head v) (omega (arith, even_zero q n k (weight v) l, odd_zero q n k (weight v) l)))
    (λ a v _ p. rw (weight_other_head a v p) (omega (arith, even_other q n k (weight v), odd_other q n k (weight v))))

grouped : (f : FieldName) (n : ℕ) (rows : List (List ℕ)) (h : ℕ → ℕ) → AreRows f n rows → sum_by (λ w. h (weight w)) (words f n rows) ≡ sum_by (λ j. count_of_weight f n rows j * h j) (below (suc n))
unfolding count_of_weight
grouped f n rows h r =
    sum_grouped weight h (suc n) (words f n rows) (λ w c. omega (arith, weight_at_most_length w, (span_word f n rows w r (word_of_member f n rows w c)).long))
    ∙ sum_same (λ j. h j * count_of_weight f n rows j) (λ j. count_of_weight f n rows j * h j) (below (suc n)) (λ j _. mul_comm (h j) (count_of_weight f n rows j))

pub macwilliams : (f : FieldName) (n k : ℕ) (rows checks : List (List ℕ)) → AreRows f n rows → IsReducedGenerator f n (IsOrthogonal f rows) checks → size f ^ length rows * count_of_weight f n checks k + sum_by (λ j. count_of_weight f n rows j * krawtchouk_odd (size f) n k j) (below (suc n)) ≡ sum_by (λ j. count_of_weight f n rows j * krawtchouk_even (size f) n k j) (below (suc n))
unfolding count_of_weight
macwilliams f n k rows checks r d =
    let law : size f ^ length rows * count_of_weight f n checks k + sum_by (λ w. krawtchouk_odd (size f) n k (weight w)) (words f n rows) ≡ sum_by (λ w. krawtchouk_even (size f) n k (weight w)) (words f n rows) =
    sum_over_dual f n (has_weight k) (λ w. krawtchouk_even (size f) n k (weight w)) (λ w. krawtchouk_odd (size f) n k (weight w)) rows checks (weight_transform f n k) r d in
    ap (λ x. size f ^ length rows * count_of_weight f n checks k + x) (sym (grouped f n rows (krawtchouk_odd (size f) n k) r)) ∙ law ∙ grouped f n rows (krawtchouk_even (size f) n k) r

-- a code is the dual of its dual
pub dual_of_dual : (f : FieldName) (n : ℕ) (rows checks : List (List ℕ)) → AreRows f n rows → IsReduced n rows → IsReducedGenerator f n (IsOrthogonal f rows) checks → IsReducedGenerator f n (IsOrthogonal f checks) rows
dual_of_dual f n rows checks r h d = record {
  members = λ w. (
    (λ i. let k = span_word f n rows w r i in (k, (orthogonal_to_kernel f n rows checks w r h d k).1 i)),
    (λ m. (orthogonal_to_kernel f n rows checks w r h d m.0).0 m.1),
  );
  reduced = h;
  words = r;
}
