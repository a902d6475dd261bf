-- The steps by which the equations of the moments are solved.
--   terms_are, dual_terms      the sum of terms is a moment
--   terms_first, terms_next, terms_rise      it grows term by term, and no part is more than the whole
--   sum_next, sum_fits         so does the sum that is kept, which fits
--   moment_last                the last term of a moment is the number of words of that weight
--   moment_small               how large a moment is
--   dual_dimension             the dimensions of a code and of its dual sum up to the length
--   Step, step_made            what is known at the step for one weight
--   count_small                how large a number of words is
--   solved_first, solved_next, solved_end      no weight; one weight more; all weights
--   power_first, power_next, power_fits        a product is a power; it fits
--   power_laws                 these together
use Rattle.std.proofs.Common.{◌≡◌, ℕ, zero, suc, ◌+◌, ◌-◌, ◌*◌, ◌/◌, ◌%◌, ◌^◌, ◌<◌, ◌≤◌, ◌==◌, List, [], ◌∷◌, ◌++◌, length, map, slice_index, sum_by, refl, sym, ap, ◌∙◌, arith}
use Rattle.std.proofs.Math.Nat.{pow-suc, pow-zero, one-le-pow, pow-le-pow_left, pow-le-pow_right, mul-div_cancel_left, div-le_self, mul-le-mul_right, le-mul_of_pos_right}
use Rattle.std.proofs.lemmas.Nat.{mul-le, pow-add, div-mul-add, mod-mul-add}
use Rattle.std.proofs.lemmas.List.{length-map, map-append}
use Rattle.std.proofs.lemmas.List.Sums.{sum_by-le, sum_by_push, count_by-le-length}
use Rattle.lc_algebra.specs.declared.FieldName.{FieldName}
use Rattle.lc_algebra.specs.Field.{size}
use Rattle.lc_algebra.specs.Word.{weight}
use Rattle.lc_algebra.specs.Span.{below, words}
use Rattle.lc_algebra.specs.Matrix.{Matrix, AreRows, IsReduced, IsReducedGenerator, IsOrthogonal}
use Rattle.lc_algebra.proofs.FieldLaws.{one_inside}
use Rattle.lc_algebra.proofs.SpanLaws.{contains_below, length_below, index_below, length_words, same_span_reflexive}
use Rattle.lc_algebra.proofs.DimensionLaws.{exponent_at_most}
use Rattle.lc_enumeration.specs.Message.{choose}
use Rattle.lc_enumeration.specs.Distribution.{count_of_weight, weight_distribution, distribution_of}
use Rattle.lc_enumeration.proofs.GreedyLaws.{each_contained}
use Rattle.lc_matrix.proofs.RankLaws.{rank_of_kernel}
use Rattle.lc_place.specs.Tables.{IsTable}
use Rattle.lc_macwilliams.specs.Solving.{IsDualDistribution, choose_at, terms, IsSolved}
use Rattle.lc_macwilliams.proofs.CountLaws.{sum_same}
use Rattle.lc_macwilliams.proofs.MomentLaws.{moment, by_weight, moments}
use Rattle.lc_macwilliams.proofs.PascalLaws.{choose_small, choose_whole}

listed : (h : ℕ → ℕ) (d j : ℕ) → j < d → slice_index (map h (below d)) j ≡ h j
listed h d j l = read (below d) j (omega (arith, length_below d, l)) ∙ ap h (index_below d j 0 l)
  where
    read : (xs : List ℕ) (i : ℕ) → i < length xs → slice_index (map h xs) i ≡ h (slice_index xs i)
    read [] i m = absurd (omega (arith, m))
    read (x ∷ xs) zero m = refl
    read (x ∷ xs) (suc i) m = read xs i (omega (arith, m))

pub terms_are : (f : FieldName) (n v m d : ℕ) (rows : List (List ℕ)) → m ≤ d → terms (map (count_of_weight f n rows) (below d)) n v m ≡ moment f n rows v m
unfolding terms
terms_are f n v m d rows l =
    sum_same (λ j. choose (n - j) v * slice_index (map (count_of_weight f n rows) (below d)) j) (λ j. choose (n - j) v * count_of_weight f n rows j) (below m) (λ j c.
    ap (λ x. choose (n - j) v * x) (listed (count_of_weight f n rows) d j (omega (arith, contains_below m j c, l))))

pub dual_terms : (f : FieldName) (n v m : ℕ) (rows : List (List ℕ)) → m ≤ suc n → terms (weight_distribution f n rows) n v m ≡ moment f n rows v m
unfolding weight_distribution
dual_terms f n v m rows l = terms_are f n v m (suc n) rows l

pub terms_first : (counts : List ℕ) (n v : ℕ) → terms counts n v 0 ≡ 0
unfolding terms below
terms_first counts n v = refl

pub terms_next : (counts : List ℕ) (n v j : ℕ) → terms counts n v (j + 1) ≡ terms counts n v j + choose (n - j) v * slice_index counts j
unfolding terms below
terms_next counts n v j =
    let e : j + 1 ≡ suc j = omega arith in
    rw e (sum_by_push (λ i. choose (n - i) v * slice_index counts i) (below j) j)

terms_more : (counts : List ℕ) (n v j d : ℕ) → terms counts n v j ≤ terms counts n v (j + d)
terms_more counts n v j zero = let e : j + zero ≡ j = omega arith in rw e (omega arith)
terms_more counts n v j (suc d) = let e : j + suc d ≡ j + d + 1 = omega arith in rw e (omega (arith, terms_next counts n v (j + d), terms_more counts n v j d))

pub terms_rise : (counts : List ℕ) (n v j m : ℕ) → j ≤ m → terms counts n v j ≤ terms counts n v m
terms_rise counts n v j m l = let e : m ≡ j + (m - j) = omega (arith, l) in rw e (terms_more counts n v j (m - j))

pub moment_last : (f : FieldName) (n t v : ℕ) (rows : List (List ℕ)) → t + v ≡ n → moment f n rows v (suc t) ≡ moment f n rows v t + count_of_weight f n rows t
unfolding below
moment_last f n t v rows e =
    let s : n - t ≡ v = omega (arith, e) in
    let last : choose (n - t) v * count_of_weight f n rows t ≡ count_of_weight f n rows t = ap (λ x. x * count_of_weight f n rows t) (ap (λ x. choose x v) s ∙ choose_whole v) ∙ omega arith in
    sum_by_push (λ j. choose (n - j) v * count_of_weight f n rows j) (below t) t ∙ ap (λ x. moment f n rows v t + x) last

pub moment_small : (f : FieldName) (n u v : ℕ) (rows : List (List ℕ)) → u + v ≡ n → AreRows f n rows → moment f n rows v (suc u) ≤ size f ^ length rows * 2 ^ n
moment_small f n u v rows e r =
    let each : (x : ℕ) → choose (n - x) v ≤ 2 ^ n = λ x. omega (arith, choose_small (n - x) v, pow-le-pow_right {n = 2} (omega arith) {i = n - x} {j = n} (omega arith)) in
    let all : sum_by (λ w. choose (n - weight w) v) (words f n rows) ≤ length (words f n rows) * 2 ^ n = sum_by-le (λ w. choose (n - weight w) v) (2 ^ n) (words f n rows) (each_contained (λ w. choose (n - weight w) v ≤ 2 ^ n) (words f n rows) (λ w _. each (weight w))) in
    omega (arith, all, by_weight f n u v rows e r, ap (λ x. x * 2 ^ n) (length_words f n rows))

pub dual_dimension : (C : Matrix) (checks : List (List ℕ)) → AreRows C.field C.columns C.rows → IsReduced C.columns C.rows → IsReducedGenerator C.field C.columns (IsOrthogonal C.field C.rows) checks → length checks + length C.rows ≡ C.columns
dual_dimension C checks r h d = rank_of_kernel C.field C.columns C.rows C.rows checks r (record { same = same_span_reflexive C.field C.columns C.rows; reduced = h; words = r }) d

pub count_small : (f : FieldName) (n t : ℕ) (rows : List (List ℕ)) → count_of_weight f n rows t ≤ size f ^ length rows
unfolding count_of_weight
count_small f n t rows = omega (arith, count_by-le-length (λ v. weight v == t) (words f n rows), length_words f n rows)

-- at the step for weight t, with n - t = v: q and k are the size of the field and the dimension, a is the number to be found
pub record Step (n q k t v a : ℕ) (counts found : List ℕ) : Type 0 where
  pub short : n < 64
  pub many : v + 1 ≤ length counts
  pub long : t ≤ length found
  pub right : terms counts n t (v + 1) ≤ 2 ^ 126
  pub left_small : terms found n v t ≤ 2 ^ 126
  pub power_k : q ^ k ≤ 2 ^ 63
  pub power_v : q ^ v ≤ 2 ^ 63
  pub whole : terms counts n t (v + 1) * q ^ k ≤ 2 ^ 126
  pub positive : 0 < q ^ v
  pub left : terms found n v t ≤ terms counts n t (v + 1) * q ^ k / q ^ v
  pub next : terms counts n t (v + 1) * q ^ k / q ^ v - terms found n v t ≡ a
  pub few : a ≤ 2 ^ 63

whole_small : (q c k n r : ℕ) → c + k ≡ n → 1 < q → q ^ n ≤ 2 ^ 63 → r ≤ q ^ c * 2 ^ n → r * q ^ k ≤ 2 ^ 126
whole_small q c k n r e l small b =
    let two : 2 ^ n ≤ q ^ n = pow-le-pow_left l n in
    let up : q ^ c * q ^ k ≡ q ^ n = sym (pow-add q c k) ∙ ap (λ m. q ^ m) e in
    let grown : r * q ^ k ≤ q ^ c * 2 ^ n * q ^ k = mul-le-mul_right (q ^ k) b in
    let turned : q ^ c * 2 ^ n * q ^ k ≡ q ^ c * q ^ k * 2 ^ n = omega arith in
    let both : q ^ n * 2 ^ n ≤ 2 ^ 63 * 2 ^ 63 = mul-le (q ^ n) (2 ^ n) (2 ^ 63) (2 ^ 63) small (omega (arith, two, small)) in
    omega (arith, grown, turned, ap (λ m. m * 2 ^ n) up, both)

step_of : (q k t v n a r l : ℕ) (counts found : List ℕ) → t + v ≡ n → 1 < q → k ≤ n → q ^ n ≤ 2 ^ 63 → n < 64 → length counts ≡ n + 1 → length found ≡ t → terms counts n t (v + 1) ≡ r → terms found n v t ≡ l → q ^ v * (l + a) ≡ q ^ k * r → r * q ^ k ≤ 2 ^ 126 → a ≤ q ^ k → Step n q k t v a counts found
step_of q k t v n a r l counts found e one few small short many long right left law whole at_most =
    let positive : 0 < q ^ v = omega (arith, one-le-pow v q (omega (arith, one))) in
    let positive-k : 0 < q ^ k = omega (arith, one-le-pow k q (omega (arith, one))) in
    let power_k : q ^ k ≤ 2 ^ 63 = omega (arith, small, pow-le-pow_right {n = q} (omega (arith, one)) {i = k} {j = n} few) in
    let power_v : q ^ v ≤ 2 ^ 63 = omega (arith, small, pow-le-pow_right {n = q} (omega (arith, one)) {i = v} {j = n} (omega (arith, e))) in
    let law' : r * q ^ k ≡ q ^ v * (l + a) = omega (arith, law) in
    let quotient : r * q ^ k / q ^ v ≡ l + a = ap (λ x. x / q ^ v) law' ∙ mul-div_cancel_left (l + a) positive in
    let r-small : r ≤ 2 ^ 126 = omega (arith, whole, le-mul_of_pos_right {m = q ^ k} r positive-k) in
    let l-small : l ≤ 2 ^ 126 = omega (arith, whole, quotient, div-le_self (r * q ^ k) (q ^ v)) in
    record {
      short = short;
      many = omega (arith, many, e);
      long = omega (arith, long);
      right = rw right r-small;
      left_small = rw left l-small;
      power_k = power_k;
      power_v = power_v;
      whole = rw right whole;
      positive = positive;
      left = rw (right, left, quotient) (omega arith);
      next = rw (right, left, quotient) (omega arith);
      few = omega (arith, at_most, power_k);
    }

short_length : (q n : ℕ) → 1 < q → q ^ n ≤ 2 ^ 63 → n < 64
short_length q n l small =
    let two : 2 ^ n ≤ 2 ^ 63 = omega (arith, small, pow-le-pow_left l n) in
    omega (arith, exponent_at_most 2 n 63 (omega arith) two)

pub step_made : (C : Matrix) (n q k t : ℕ) (counts found : List ℕ) → n ≡ C.columns → q ≡ size C.field → k ≡ length C.rows → AreRows C.field C.columns C.rows → IsReduced C.columns C.rows → IsDualDistribution C counts → size C.field ^ C.columns ≤ 2 ^ 63 → t ≤ C.columns → IsSolved C t found → Step n q k t (n - t) (count_of_weight C.field C.columns C.rows t) counts found
unfolding weight_distribution
step_made C n q k t counts found a b c r h d small l s =
    let f : FieldName = C.field in
    let m : ℕ = C.columns in
    let v : ℕ = m - t in
    let e : t + v ≡ m = omega (arith, l) in
    let one : 1 < size f = one_inside f in
    let dual : length d.checks + length C.rows ≡ m = dual_dimension C d.checks r h d.generator in
    let right : terms counts m t (v + 1) ≡ moment f m d.checks t (suc v) =
    let up : v + 1 ≡ suc v = omega arith in
    rw (d.are, up) (dual_terms f m t (suc v) d.checks (omega (arith, e))) in
    let left : terms found m v t ≡ moment f m C.rows v t = rw s (terms_are f m v t t C.rows (omega arith)) in
    let law : size f ^ v * (moment f m C.rows v t + count_of_weight f m C.rows t) ≡ size f ^ length C.rows * moment f m d.checks t (suc v) =
    ap (λ x. size f ^ v * x) (sym (moment_last f m t v C.rows e)) ∙ moments f m t v C.rows d.checks e r d.generator in
    let many : length counts ≡ m + 1 = ap (λ (xs : List ℕ). length xs) d.are ∙ length-map (below (suc m)) (count_of_weight f m d.checks) ∙ length_below (suc m) ∙ omega arith in
    let long : length found ≡ t = ap (λ (xs : List ℕ). length xs) s ∙ length-map (below t) (count_of_weight f m C.rows) ∙ length_below t in
    let whole : moment f m d.checks t (suc v) * size f ^ length C.rows ≤ 2 ^ 126 =
    whole_small (size f) (length d.checks) (length C.rows) m (moment f m d.checks t (suc v)) dual one small (moment_small f m v t d.checks (omega (arith, e)) d.generator.words) in
    rw (a, b, c) (step_of (size f) (length C.rows) t v m (count_of_weight f m C.rows t) (moment f m d.checks t (suc v)) (moment f m C.rows v t) counts found e one (omega (arith, dual)) small (short_length (size f) m one small) many long right left law whole (count_small f m t C.rows))

pub solved_first : (C : Matrix) (found : List ℕ) → found ≡ [] → IsSolved C 0 found
unfolding below
solved_first C found e = e

pub solved_next : (C : Matrix) (t a : ℕ) (found new : List ℕ) → IsSolved C t found → a ≡ count_of_weight C.field C.columns C.rows t → new ≡ found ++ a ∷ [] → IsSolved C (t + 1) new
unfolding below
solved_next C t a found new s e n =
    let up : t + 1 ≡ suc t = omega arith in
    rw (up, n, s, e) (sym (map-append (count_of_weight C.field C.columns C.rows) (below t) (t ∷ [])))

pub solved_end : (C : Matrix) (t n : ℕ) (found : List ℕ) → n ≡ C.columns → t ≡ n + 1 → IsSolved C t found → found ≡ distribution_of C
unfolding distribution_of weight_distribution
solved_end C t n found e m s =
    let up : t ≡ suc C.columns = omega (arith, e, m) in
    s ∙ ap (λ x. map (count_of_weight C.field C.columns C.rows) (below x)) up

pub power_first : (q : ℕ) → 1 ≡ q ^ 0
power_first q = sym (pow-zero q)

pub power_next : (q c p : ℕ) → p ≡ q ^ c → p * q ≡ q ^ (c + 1)
power_next q c p e = let up : c + 1 ≡ suc c = omega arith in rw (e, up) (sym (pow-suc q c))

pub power_fits : (q c e p : ℕ) → 1 < q → c < e → q ^ e ≤ 2 ^ 63 → p ≡ q ^ c → p * q < 2 ^ 128
power_fits q c e p l m small h = omega (arith, power_next q c p h, small, pow-le-pow_right {n = q} (omega (arith, l)) {i = c + 1} {j = e} (omega (arith, m)))

pub ruleset power_laws = (power_first, power_next, power_fits)

-- one term more of a sum: a is the entry of the table, b that of the list
pub sum_next : (table counts : List ℕ) (n v m j s a b : ℕ) → IsTable choose_at 4096 table → n < 64 → v ≤ n → m ≤ n + 1 → j < m → s ≡ terms counts n v j → a ≡ slice_index table ((n - j) * 64 + v) → b ≡ slice_index counts j → s + a * b ≡ terms counts n v (j + 1)
sum_next table counts n v m j s a b t short inside all l e x y =
    let row : ((n - j) * 64 + v) / 64 ≡ n - j = div-mul-add (n - j) 64 v (omega (arith, short, inside)) in
    let column : ((n - j) * 64 + v) % 64 ≡ v = mod-mul-add (n - j) 64 v (omega (arith, short, inside)) in
    let entry : slice_index table ((n - j) * 64 + v) ≡ choose_at ((n - j) * 64 + v) = t.entry ((n - j) * 64 + v) (omega (arith, short, inside)) in
    let is : choose_at ((n - j) * 64 + v) ≡ choose (n - j) v = rw (row, column) refl in
    let term : a * b ≡ choose (n - j) v * slice_index counts j = cc (x, entry, is, y) in
    omega (arith, e, term, terms_next counts n v j)

pub sum_fits : (table counts : List ℕ) (n v m j s a b : ℕ) → IsTable choose_at 4096 table → n < 64 → v ≤ n → m ≤ n + 1 → terms counts n v m ≤ 2 ^ 126 → j < m → s ≡ terms counts n v j → a ≡ slice_index table ((n - j) * 64 + v) → b ≡ slice_index counts j → s + a * b < 2 ^ 128
sum_fits table counts n v m j s a b t short inside all small l e x y =
    omega (arith, sum_next table counts n v m j s a b t short inside all l e x y, terms_rise counts n v (j + 1) m (omega (arith, l)), small)
