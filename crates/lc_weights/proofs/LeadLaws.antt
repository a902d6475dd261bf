-- Sums over the words of some rows, up to multiples.
--   sum_scaled        a nonzero multiple of each word in its place
--   sum_of_leads      a sum of what a word and its nonzero multiples share, by the words whose first coefficient is 1
--   leads_more, leads_all      these words, row by row
use Rattle.std.proofs.Common.{◌≡◌, ℕ, suc, ◌+◌, ◌-◌, ◌*◌, ◌<◌, ◌≤◌, List, [], ◌∷◌, ◌++◌, length, map, take, drop, sum_by, slice_index_or, Contains, refl, sym, ap, ap₂, subst, ◌∙◌, arith, rules}
use Rattle.std.proofs.Math.Nat.{mul-add, mul-zero}
use Rattle.std.proofs.Math.Seq.{drop-cons}
use Rattle.std.proofs.lemmas.List.{append_assoc}
use Rattle.std.proofs.lemmas.List.Elements.{All-tail}
use Rattle.std.proofs.lemmas.List.Sums.{sum_by-cons, sum_by-append}
use Rattle.lc_algebra.specs.declared.FieldName.{FieldName}
use Rattle.lc_algebra.specs.Field.{size, mul}
use Rattle.lc_algebra.specs.Word.{IsWord, zero_word, word_sum, scale}
use Rattle.lc_algebra.specs.Matrix.{AreRows}
use Rattle.lc_algebra.specs.Span.{below, words}
use Rattle.lc_algebra.proofs.FieldLaws.{mul_inside, mul_comm, mul_assoc, one_mul, inverse_of, inverse_nonzero, one_inside}
use Rattle.lc_algebra.proofs.WordLaws.{scale_sum, scale_scale, scale_zero, zero_scale, zero_sum, IsWord_sum}
use Rattle.lc_algebra.proofs.SpanLaws.{contains_below, below_contains, contains_map, length_below, span_word, word_of_member}
use Rattle.lc_algebra.proofs.DimensionLaws.{distinct_map, distinct_below}
use Rattle.lc_macwilliams.proofs.CountLaws.{sum_same, sum_map, sum_flat_map, sum_at_most, sum_from_first, sum_constant}
use Rattle.lc_weights.specs.Leads.{leads}

elements_at_most : (f : FieldName) (c : ℕ) (h : ℕ → ℕ) → c < size f → 0 < c → sum_by (λ d. h (mul f c d)) (below (size f)) ≤ sum_by h (below (size f))
elements_at_most f c h l some =
    let q : ℕ = size f in
    let i = inverse_of f c l some in
    let back : (d : ℕ) → d < q → mul f i.0 (mul f c d) ≡ d = λ d k. cc (mul_assoc f i.0 c d, mul_comm f i.0 c, i.1.one, one_mul f d k) in
    let apart = distinct_map (mul f c) (below q) (λ x y a b e. sym (back x (contains_below q x a)) ∙ ap (mul f i.0) e ∙ back y (contains_below q y b)) (distinct_below q) in
    let inside : (x : ℕ) → Contains (map (mul f c) (below q)) x → Contains (below q) x = λ x a.
    let m = contains_map (mul f c) (below q) x a in
    below_contains q x (subst (λ z. z < q) (sym m.2) (mul_inside f c m.0)) in
    omega (arith, sum_map h (mul f c) (below q), sum_at_most h (map (mul f c) (below q)) (below q) apart inside)

-- over all elements
sum_elements : (f : FieldName) (c : ℕ) (h : ℕ → ℕ) → c < size f → 0 < c → sum_by (λ d. h (mul f c d)) (below (size f)) ≡ sum_by h (below (size f))
sum_elements f c h l some =
    let q : ℕ = size f in
    let i = inverse_of f c l some in
    let there = elements_at_most f c h l some in
    let back = elements_at_most f i.0 (λ d. h (mul f c d)) i.1.inside (inverse_nonzero f c i.0 i.1) in
    let same = sum_same (λ d. h (mul f c (mul f i.0 d))) h (below q) (λ d k. ap h (cc (mul_assoc f c i.0 d, i.1.one, one_mul f d (contains_below q d k)))) in
    omega (arith, there, back, same)

pub sum_scaled : (f : FieldName) (n c : ℕ) (rows : List (List ℕ)) (g : List ℕ → ℕ) → c < size f → 0 < c → sum_by (λ w. g (scale f c w)) (words f n rows) ≡ sum_by g (words f n rows)
unfolding words
sum_scaled f n c [] g l some =
    sum_by-cons (λ w. g (scale f c w)) (zero_word n) [] ∙ ap (λ w. g w + 0) (scale_zero f c n) ∙ sym (sum_by-cons g (zero_word n) [])
sum_scaled f n c (x ∷ rows) g l some =
    let q : ℕ = size f in
    let h = λ (d : ℕ) (v : List ℕ). word_sum f (scale f d x) v in
    let inner = λ (d : ℕ). sum_by (λ v. g (h d v)) (words f n rows) in
    sum_flat_map (λ w. g (scale f c w)) (λ d. map (h d) (words f n rows)) (below q)
    ∙ sum_same (λ d. sum_by (λ w. g (scale f c w)) (map (h d) (words f n rows))) (λ d. inner (mul f c d)) (below q) (λ d _.
    sum_map (λ w. g (scale f c w)) (h d) (words f n rows)
    ∙ sum_same (λ v. g (scale f c (h d v))) (λ v. g (h (mul f c d) (scale f c v))) (words f n rows) (λ v _. ap g (scale_sum f c (scale f d x) v ∙ ap (λ u. word_sum f u (scale f c v)) (scale_scale f c d x)))
    ∙ sum_scaled f n c rows (λ v. g (h (mul f c d) v)) l some)
    ∙ sum_elements f c inner l some
    ∙ sym (sum_flat_map g (λ d. map (h d) (words f n rows)) (below q) ∙ sum_same (λ d. sum_by g (map (h d) (words f n rows))) inner (below q) (λ d _. sum_map g (h d) (words f n rows)))

pub sum_of_leads : (f : FieldName) (n : ℕ) (rows : List (List ℕ)) (g : List ℕ → ℕ) → AreRows f n rows → ((c : ℕ) (w : List ℕ) → c < size f → 0 < c → IsWord f n w → g (scale f c w) ≡ g w) → sum_by g (words f n rows) ≡ g (zero_word n) + (size f - 1) * sum_by g (leads f n rows)
unfolding words leads
sum_of_leads f n [] g r shared =
    let none : sum_by g [] ≡ 0 = refl in
    omega (arith, sum_by-cons g (zero_word n) [], ap (λ s. (size f - 1) * s) none, mul-zero (size f - 1))
sum_of_leads f n (x ∷ rows) g r shared =
    let q : ℕ = size f in
    let ws = words f n rows in
    let rest : AreRows f n rows = All-tail (IsWord f n) x rows r in
    let row : IsWord f n x = r 0 [] (omega arith) in
    let word = λ (u : List ℕ) (k : Contains ws u). span_word f n rows u rest (word_of_member f n rows u k) in
    let inner = λ (c : ℕ). sum_by (λ u. g (word_sum f (scale f c x) u)) ws in
    let m : ℕ = sum_by (λ u. g (word_sum f x u)) ws in
    let whole : sum_by g (words f n (x ∷ rows)) ≡ sum_by inner (below q) =
    sum_flat_map g (λ c. map (λ v. word_sum f (scale f c x) v) ws) (below q) ∙ sum_same (λ c. sum_by g (map (λ v. word_sum f (scale f c x) v) ws)) inner (below q) (λ c _. sum_map g (λ v. word_sum f (scale f c x) v) ws) in
    let first : inner 0 ≡ sum_by g ws = sum_same (λ u. g (word_sum f (scale f 0 x) u)) g ws (λ u k. ap g (ap (λ z. word_sum f z u) (zero_scale f n x row.long) ∙ zero_sum f n u (word u k))) in
    let other : (c : ℕ) → c < q → 0 < c → inner c ≡ m = λ c l some.
    sym (sum_scaled f n c rows (λ u. g (word_sum f (scale f c x) u)) l some)
    ∙ sum_same (λ u. g (word_sum f (scale f c x) (scale f c u))) (λ u. g (word_sum f x u)) ws (λ u k. ap g (sym (scale_sum f c x u)) ∙ shared c (word_sum f x u) l some (IsWord_sum f n x u row.long (word u k).long)) in
    let parts = sum_from_first inner q (omega (arith, one_inside f)) in
    let others : sum_by (λ s. inner (suc s)) (below (q - 1)) ≡ length (below (q - 1)) * m = sum_constant (λ s. inner (suc s)) m (below (q - 1)) (λ s k. other (suc s) (omega (arith, contains_below (q - 1) s k)) (omega arith)) in
    let count : length (below (q - 1)) * m ≡ (q - 1) * m = ap (λ z. z * m) (length_below (q - 1)) in
    let listed : sum_by g (leads f n (x ∷ rows)) ≡ m + sum_by g (leads f n rows) = sum_by-append g (map (word_sum f x) ws) (leads f n rows) ∙ ap (λ z. z + sum_by g (leads f n rows)) (sum_map g (word_sum f x) ws) in
    let times : (q - 1) * sum_by g (leads f n (x ∷ rows)) ≡ (q - 1) * m + (q - 1) * sum_by g (leads f n rows) = ap (λ z. (q - 1) * z) listed ∙ mul-add (q - 1) m (sum_by g (leads f n rows)) in
    omega (arith, whole, parts, first, others, count, times, sum_of_leads f n rows g rest shared)

-- the leads of the rows from place i up to the one before `to`, after those before
pub leads_more : (f g : FieldName) (n i to : ℕ) (row : List ℕ) (rows ws shown now after whole : List (List ℕ)) → i < to → to ≤ length rows → g ≡ f → row ≡ slice_index_or rows i [] → shown ≡ ws → ws ≡ words f n (take (to - (i + 1)) (drop (i + 1) rows)) → after ≡ now ++ map (word_sum g row) shown
    → now ++ leads f n (take (to - i) (drop i rows)) ≡ whole → after ++ leads f n (take (to - (i + 1)) (drop (i + 1) rows)) ≡ whole
unfolding leads
leads_more f g n i to row rows ws shown now after whole l inside same is seen e push before =
    let m = to - (i + 1) in
    let rest = take m (drop (i + 1) rows) in
    let long : to - i ≡ suc m = omega (arith, l) in
    let next : suc i ≡ i + 1 = omega arith in
    let r = slice_index_or rows i [] in
    let cut : take (to - i) (drop i rows) ≡ r ∷ rest = ap₂ (λ k xs. take k xs) long (drop-cons rows i [] (omega (arith, l, inside))) ∙ ap (λ k. r ∷ take m (drop k rows)) next in
    let pushed : after ≡ now ++ map (word_sum f r) (words f n rest) = push ∙ rw (same, is, seen, e) refl in
    ap (λ z. z ++ leads f n rest) pushed ∙ append_assoc now (map (word_sum f r) (words f n rest)) (leads f n rest) ∙ ap (λ z. now ++ leads f n z) (sym cut) ∙ before

pub leads_all : (f : FieldName) (n i to : ℕ) (rows now whole : List (List ℕ)) → to ≤ i → now ++ leads f n (take (to - i) (drop i rows)) ≡ whole → now ≡ whole
unfolding leads
leads_all f n i to rows now whole l e =
    let none : to - i ≡ 0 = omega (arith, l) in
    let end : now ++ leads f n (take (to - i) (drop i rows)) ≡ now ++ [] = ap (λ m. now ++ leads f n (take m (drop i rows))) none in
    let same : now ≡ now ++ [] = search rules in
    same ∙ sym end ∙ e
