-- The sum of a function over the dual code, by its transform over the code (MacWilliams and Sloane, chapter 5: the lemma on
-- transforms from which their identities follow).
--   every_word                 the list of all words of a length
--   every_is_word, word_is_every, every_distinct      it has exactly these, each once
--   are_orthogonal             the test for dot 0 with each row
--   orthogonal_from_test, test_from_orthogonal        what it tests
--   meets                      1 for two words with dot 0, else 0
--   one_solution               c a + b = 0 has one solution c for a nonzero a
--   met_count                  how many words of some rows have dot 0 with a word, taken q times
--   met_sum                    the sum of a function over the words that have dot 0 with a word
--   HasTransform f n h E O     E less O is the transform of h: q times met_sum at w and (q - 1) O w are the sum of h and (q - 1) E w
--   sum_over_dual              its sum over the dual code, times the size of the code, is that of its transform over the code
--   transform_none             the transform of what is 0 everywhere
--   transform_plus             of a sum
--   transform_empty            of a function on the empty word
--   HasParts f n h k l         h is k with 0 in front of a word, and l with another symbol
--   transform_step             of a function on longer words, from those of its two parts: with 0 in front, and with another symbol
use Rattle.std.proofs.Common.{◌≡◌, ℕ, zero, suc, ◌+◌, ◌-◌, ◌*◌, ◌^◌, ◌<◌, Bool, true, false, cond, ◌==◌, ◌&&◌, List, [], ◌∷◌, length, map, flat_map, sum_by, count_by, Contains, refl, sym, ap, subst, ◌∙◌, ⊎_elim, arith}
use Rattle.std.specs.List.{list_all}
use Rattle.std.proofs.Math.Nat.{mul-add, add-mul, mul-one, zero-mul, pow-suc, pow-zero, eq_of_mul-eq-mul_left}
use Rattle.std.proofs.lemmas.Bool.{cases_eq, cases_lt, eq-eqb, ne_eqb, eqb-true, and_parts}
use Rattle.std.proofs.lemmas.List.Elements.{All-nil, All-cons, All-head, All-tail, All-contains}
use Rattle.std.proofs.lemmas.List.Sums.{sum_by-cons}
use Rattle.lc_algebra.specs.declared.FieldName.{FieldName}
use Rattle.lc_algebra.specs.Field.{size, add, neg, mul}
use Rattle.lc_algebra.specs.Word.{IsWord, zero_word, word_sum, scale, word_dot}
use Rattle.lc_algebra.specs.Span.{below, words}
use Rattle.lc_algebra.specs.Matrix.{AreRows, IsReducedGenerator, IsOrthogonal}
use Rattle.lc_algebra.proofs.FieldLaws.{zero_inside, one_inside, neg_inside, mul_inside, zero_add, neg_add, add_cancel, mul_comm as field_mul_comm, mul_assoc as field_mul_assoc, mul_one as field_mul_one, mul_zero as field_mul_zero, zero_mul as field_zero_mul, inverse_of}
use Rattle.lc_algebra.proofs.WordLaws.{length_scale, word_head, word_tail, word_cons, sum_dot, scale_dot, zero_dot, dot_inside, dot_cons}
use Rattle.lc_algebra.proofs.SpanLaws.{contains_head, contains_cases, contains_below, below_contains, length_below, contains_map, map_contains, contains_flat_map, flat_map_contains, span_word, word_of_member, member_of_word, length_words}
use Rattle.lc_algebra.proofs.DimensionLaws.{AreDistinct, distinct_map, distinct_flat_map, distinct_below, words_distinct}
use Rattle.lc_algebra.proofs.DivisorLaws.{each_passes, no_member}
use Rattle.lc_algebra.proofs.ReducedLaws.{reduced_independent}
use Rattle.lc_macwilliams.proofs.CountLaws.{sum_same, sum_none, sum_constant, sum_plus, sum_times, sum_swap, sum_map, sum_flat_map, sum_from_first, sum_symbols, count_one, sum_passing}

unfoldable pub every_word : FieldName → ℕ → List (List ℕ)
every_word f zero = [] ∷ []
every_word f (suc n) = flat_map (λ c. map (λ u. c ∷ u) (every_word f n)) (below (size f))

pub word_is_every : (f : FieldName) (n : ℕ) (w : List ℕ) → IsWord f n w → Contains (every_word f n) w
unfolding every_word
word_is_every f zero [] h = contains_head [] []
word_is_every f zero (a ∷ w) h = absurd (omega (arith, h.long))
word_is_every f (suc n) [] h = absurd (omega (arith, h.long))
word_is_every f (suc n) (a ∷ w) h =
    flat_map_contains (λ c. map (λ u. c ∷ u) (every_word f n)) (below (size f)) a (a ∷ w) (below_contains (size f) a (word_head f (suc n) a w h))
    (map_contains (λ u. a ∷ u) (every_word f n) w (word_is_every f n w (word_tail f n a w h)))

pub every_is_word : (f : FieldName) (n : ℕ) (w : List ℕ) → Contains (every_word f n) w → IsWord f n w
unfolding every_word
every_is_word f zero w c = ⊎_elim (λ e. subst (IsWord f 0) e (record { long = refl; fits = λ i l. absurd (omega (arith, l)) })) (λ r. absurd (no_member w r)) (contains_cases [] w [] c)
every_is_word f (suc n) w c =
    let a = contains_flat_map (λ c. map (λ u. c ∷ u) (every_word f n)) (below (size f)) w c in
    let u = contains_map (λ u. a.0 ∷ u) (every_word f n) w a.2 in
    subst (IsWord f (suc n)) (sym u.2) (word_cons f n a.0 u.0 (contains_below (size f) a.0 a.1) (every_is_word f n u.0 u.1))

pub every_distinct : (f : FieldName) (n : ℕ) → AreDistinct (every_word f n)
unfolding every_word
every_distinct f zero = ((λ c. no_member [] c), tt)
every_distinct f (suc n) =
    distinct_flat_map (λ c. map (λ u. c ∷ u) (every_word f n)) (below (size f))
    (λ c _. distinct_map (λ u. c ∷ u) (every_word f n) (λ u v _ _ e. cc e) (every_distinct f n))
    (λ c d w _ _ s t.
    let u = contains_map (λ u. c ∷ u) (every_word f n) w s in
    let v = contains_map (λ u. d ∷ u) (every_word f n) w t in
    let e : c ∷ u.0 ≡ d ∷ v.0 = sym u.2 ∙ v.2 in
    cc e)
    (distinct_below (size f))

abbrev pub are_orthogonal : FieldName → List (List ℕ) → List ℕ → Bool
are_orthogonal f rows w = list_all (λ row. word_dot f row w == 0) rows

pub orthogonal_from_test : (f : FieldName) (rows : List (List ℕ)) (w : List ℕ) → are_orthogonal f rows w ≡ true → IsOrthogonal f rows w
orthogonal_from_test f [] w h = All-nil (λ row. word_dot f row w ≡ 0)
orthogonal_from_test f (g ∷ rows) w h =
    let s = and_parts (word_dot f g w == 0) (are_orthogonal f rows w) h in
    All-cons (λ row. word_dot f row w ≡ 0) g rows (eqb-true (word_dot f g w) 0 s.0) (orthogonal_from_test f rows w s.1)

pub test_from_orthogonal : (f : FieldName) (rows : List (List ℕ)) (w : List ℕ) → IsOrthogonal f rows w → are_orthogonal f rows w ≡ true
test_from_orthogonal f rows w h = each_passes (λ row. word_dot f row w == 0) rows (λ row l. eq-eqb (word_dot f row w) 0 (All-contains (λ r. word_dot f r w ≡ 0) rows row h l))

abbrev pub meets : FieldName → List ℕ → List ℕ → ℕ
meets f w e = cond (word_dot f w e == 0) 1 0

pub one_solution : (f : FieldName) (a b : ℕ) → a < size f → 0 < a → b < size f → count_by (λ c. add f (mul f c a) b == 0) (below (size f)) ≡ 1
one_solution f a b l p m =
    let i = inverse_of f a l p in
    let c : ℕ = mul f (neg f b) i.0 in
    let back : (d : ℕ) → d < size f → mul f (mul f d a) i.0 ≡ d = λ d k. cc (field_mul_assoc f d a i.0, i.1.one, field_mul_one f d k) in
    let at : mul f c a ≡ neg f b = cc (field_mul_assoc f (neg f b) i.0 a, field_mul_comm f i.0 a, i.1.one, field_mul_one f (neg f b) (neg_inside f b)) in
    let is : add f (mul f c a) b ≡ 0 = ap (λ x. add f x b) at ∙ neg_add f b in
    count_one (λ c. add f (mul f c a) b == 0) c (size f) (mul_inside f (neg f b) i.0) (eq-eqb _ 0 is) (λ d k t.
    let e : mul f d a ≡ mul f c a = add_cancel f (mul f d a) (mul f c a) b (mul_inside f d a) (mul_inside f c a) (eqb-true _ 0 t ∙ sym is) in
    sym (back d k) ∙ ap (λ x. mul f x i.0) e ∙ back c (mul_inside f (neg f b) i.0))

-- the words of some rows that have dot 0 with e, one row more
met_more : (f : FieldName) (n : ℕ) (g : List ℕ) (rows : List (List ℕ)) (e : List ℕ) → AreRows f n (g ∷ rows) → sum_by (λ w. meets f w e) (words f n (g ∷ rows)) ≡ sum_by (λ v. count_by (λ c. add f (mul f c (word_dot f g e)) (word_dot f v e) == 0) (below (size f))) (words f n rows)
unfolding words
met_more f n g rows e r =
    let term : ℕ → List ℕ → ℕ = λ c v. cond (add f (mul f c (word_dot f g e)) (word_dot f v e) == 0) 1 0 in
    sum_flat_map (λ w. meets f w e) (λ c. map (λ v. word_sum f (scale f c g) v) (words f n rows)) (below (size f))
    ∙ sum_same (λ c. sum_by (λ w. meets f w e) (map (λ v. word_sum f (scale f c g) v) (words f n rows))) (λ c. sum_by (term c) (words f n rows)) (below (size f)) (λ c _.
    sum_map (λ w. meets f w e) (λ v. word_sum f (scale f c g) v) (words f n rows)
    ∙ sum_same (λ v. meets f (word_sum f (scale f c g) v) e) (term c) (words f n rows) (λ v m.
    let tail = All-tail (IsWord f n) g rows r in
    let long : length (scale f c g) ≡ length v = length_scale f c g ∙ (All-head (IsWord f n) g rows r).long ∙ sym (span_word f n rows v tail (word_of_member f n rows v m)).long in
    ap (λ x. cond (x == 0) 1 0) (sum_dot f (scale f c g) v e long ∙ ap (λ x. add f x (word_dot f v e)) (scale_dot f c g e))))
    ∙ sum_swap term (below (size f)) (words f n rows)

positive : (a : ℕ) → (a ≡ 0 → ⊥) → 0 < a
positive a h = ⊎_elim (λ l. l) (λ l. absurd (h (omega (arith, l)))) (cases_lt 0 a)

met_none : (f : FieldName) (n : ℕ) (e : List ℕ) → size f * sum_by (λ w. meets f w e) (words f n []) ≡ size f ^ length {A = List ℕ} [] + (size f - 1) * (size f ^ length {A = List ℕ} [] * cond (are_orthogonal f [] e) 1 0)
unfolding words
met_none f n e =
    let one : sum_by (λ w. meets f w e) (zero_word n ∷ []) ≡ 1 = sum_by-cons (λ w. meets f w e) (zero_word n) [] ∙ ap (λ x. cond (x == 0) 1 0 + 0) (zero_dot f n e) in
    let power : size f ^ length {A = List ℕ} [] ≡ 1 = pow-zero (size f) in
    let test : cond {A = ℕ} (are_orthogonal f [] e) 1 0 ≡ 1 = refl in
    rw (one, power, test) (omega (arith, zero_inside f))

met_algebra : (q k m b : ℕ) → q * m ≡ q ^ k + (q - 1) * (q ^ k * b) → q * (q * m) ≡ q ^ suc k + (q - 1) * (q ^ suc k * b)
met_algebra q k m b h =
    let up : q ^ suc k ≡ q ^ k * q = pow-suc q k in
    let h' : q * (q * m) ≡ q * (q ^ k + (q - 1) * (q ^ k * b)) = ap (λ x. q * x) h in
    rw up (omega (arith, h'))

pub met_count : (f : FieldName) (n : ℕ) (rows : List (List ℕ)) (e : List ℕ) → AreRows f n rows → size f * sum_by (λ w. meets f w e) (words f n rows) ≡ size f ^ length rows + (size f - 1) * (size f ^ length rows * cond (are_orthogonal f rows e) 1 0)
met_count f n [] e r = met_none f n e
met_count f n (g ∷ rows) e r =
    let tail = All-tail (IsWord f n) g rows r in
    let q : ℕ = size f in
    let k : ℕ = length rows in
    ⊎_elim
    (λ z.
    let each : sum_by (λ w. meets f w e) (words f n (g ∷ rows)) ≡ q * sum_by (λ w. meets f w e) (words f n rows) =
    met_more f n g rows e r
    ∙ sum_same (λ v. count_by (λ c. add f (mul f c (word_dot f g e)) (word_dot f v e) == 0) (below q)) (λ v. q * meets f v e) (words f n rows) (λ v _.
    sum_constant (λ c. cond (add f (mul f c (word_dot f g e)) (word_dot f v e) == 0) 1 0) (meets f v e) (below q) (λ c _.
    ap (λ x. cond (x == 0) 1 0) (cc (z, field_mul_zero f c, zero_add f (word_dot f v e) (dot_inside f v e))))
    ∙ ap (λ m. m * meets f v e) (length_below q))
    ∙ sum_times q (λ v. meets f v e) (words f n rows) in
    let test : are_orthogonal f (g ∷ rows) e ≡ are_orthogonal f rows e = ap (λ b. b && are_orthogonal f rows e) (eq-eqb (word_dot f g e) 0 z) in
    rw (each, test) (met_algebra q k (sum_by (λ w. meets f w e) (words f n rows)) (cond (are_orthogonal f rows e) 1 0) (met_count f n rows e tail)))
    (λ z.
    let each : sum_by (λ w. meets f w e) (words f n (g ∷ rows)) ≡ q ^ k =
    met_more f n g rows e r
    ∙ sum_constant (λ v. count_by (λ c. add f (mul f c (word_dot f g e)) (word_dot f v e) == 0) (below q)) 1 (words f n rows) (λ v _.
    one_solution f (word_dot f g e) (word_dot f v e) (dot_inside f g e) (positive (word_dot f g e) z) (dot_inside f v e))
    ∙ mul-one (length (words f n rows)) ∙ length_words f n rows in
    let test : are_orthogonal f (g ∷ rows) e ≡ false = ap (λ b. b && are_orthogonal f rows e) (ne_eqb (word_dot f g e) 0 z) in
    rw (each, test) (omega (arith, pow-suc q k)))
    (cases_eq (word_dot f g e) 0)

abbrev pub met_sum : FieldName → ℕ → (List ℕ → ℕ) → List ℕ → ℕ
met_sum f n h w = sum_by (λ e. h e * meets f w e) (every_word f n)

pub record HasTransform (f : FieldName) (n : ℕ) (h E O : List ℕ → ℕ) : Type 0 where
  pub at : (w : List ℕ) → IsWord f n w → size f * met_sum f n h w + (size f - 1) * O w ≡ sum_by h (every_word f n) + (size f - 1) * E w

-- the sum over the words of the dual, as one over all words
dual_sum : (f : FieldName) (n : ℕ) (h : List ℕ → ℕ) (rows checks : List (List ℕ)) → IsReducedGenerator f n (IsOrthogonal f rows) checks → sum_by h (words f n checks) ≡ sum_by (λ e. h e * cond (are_orthogonal f rows e) 1 0) (every_word f n)
dual_sum f n h rows checks d =
    sum_passing h (are_orthogonal f rows) (words f n checks) (every_word f n)
    (words_distinct f n checks d.words (reduced_independent f n checks d.words d.reduced))
    (every_distinct f n)
    (λ w c. let m = (d.members w).0 (word_of_member f n checks w c) in (word_is_every f n w m.0, test_from_orthogonal f rows w m.1))
    (λ w c t. member_of_word f n checks w ((d.members w).1 (every_is_word f n w c, orthogonal_from_test f rows w t)))

-- the pairs of a word of the rows and a word that have dot 0, counted both ways
pairs : (f : FieldName) (n : ℕ) (h : List ℕ → ℕ) (rows checks : List (List ℕ)) → AreRows f n rows → IsReducedGenerator f n (IsOrthogonal f rows) checks → size f * sum_by (met_sum f n h) (words f n rows) ≡ size f ^ length rows * sum_by h (every_word f n) + (size f - 1) * (size f ^ length rows * sum_by h (words f n checks))
pairs f n h rows checks r d =
    let q : ℕ = size f in
    let g : ℕ = size f ^ length rows in
    let test : List ℕ → ℕ = λ e. cond (are_orthogonal f rows e) 1 0 in
    let count : List ℕ → ℕ = λ e. sum_by (λ w. meets f w e) (words f n rows) in
    let turned : sum_by (met_sum f n h) (words f n rows) ≡ sum_by (λ e. h e * count e) (every_word f n) =
    sum_swap (λ w e. h e * meets f w e) (words f n rows) (every_word f n)
    ∙ sum_same (λ e. sum_by (λ w. h e * meets f w e) (words f n rows)) (λ e. h e * count e) (every_word f n) (λ e _. sum_times (h e) (λ w. meets f w e) (words f n rows)) in
    let each : (e : List ℕ) → q * (h e * count e) ≡ g * h e + (q - 1) * (g * (h e * test e)) = λ e.
    let m : h e * (q * count e) ≡ h e * (g + (q - 1) * (g * test e)) = ap (λ x. h e * x) (met_count f n rows e r) in
    omega (arith, m) in
    let whole : q * sum_by (λ e. h e * count e) (every_word f n) ≡ g * sum_by h (every_word f n) + (q - 1) * (g * sum_by (λ e. h e * test e) (every_word f n)) =
    sym (sum_times q (λ e. h e * count e) (every_word f n))
    ∙ sum_same (λ e. q * (h e * count e)) (λ e. g * h e + (q - 1) * (g * (h e * test e))) (every_word f n) (λ e _. each e)
    ∙ sum_plus (λ e. g * h e) (λ e. (q - 1) * (g * (h e * test e))) (every_word f n)
    ∙ ap (λ x. x + sum_by (λ e. (q - 1) * (g * (h e * test e))) (every_word f n)) (sum_times g h (every_word f n))
    ∙ ap (λ x. g * sum_by h (every_word f n) + x) (sum_times (q - 1) (λ e. g * (h e * test e)) (every_word f n) ∙ ap (λ x. (q - 1) * x) (sum_times g (λ e. h e * test e) (every_word f n))) in
    ap (λ x. q * x) turned ∙ whole ∙ ap (λ x. g * sum_by h (every_word f n) + (q - 1) * (g * x)) (sym (dual_sum f n h rows checks d))

pub sum_over_dual : (f : FieldName) (n : ℕ) (h E O : List ℕ → ℕ) (rows checks : List (List ℕ)) → HasTransform f n h E O → AreRows f n rows → IsReducedGenerator f n (IsOrthogonal f rows) checks → size f ^ length rows * sum_by h (words f n checks) + sum_by O (words f n rows) ≡ sum_by E (words f n rows)
sum_over_dual f n h E O rows checks t r d =
    let q : ℕ = size f in
    let p : ℕ = size f - 1 in
    let a : ℕ = sum_by h (every_word f n) in
    let ws : List (List ℕ) = words f n rows in
    let each : sum_by (λ w. q * met_sum f n h w + p * O w) ws ≡ sum_by (λ w. a + p * E w) ws =
    sum_same (λ w. q * met_sum f n h w + p * O w) (λ w. a + p * E w) ws (λ w c. t.at w (span_word f n rows w r (word_of_member f n rows w c))) in
    let left : sum_by (λ w. q * met_sum f n h w + p * O w) ws ≡ q * sum_by (met_sum f n h) ws + p * sum_by O ws =
    sum_plus (λ w. q * met_sum f n h w) (λ w. p * O w) ws ∙ ap (λ x. x + sum_by (λ w. p * O w) ws) (sum_times q (met_sum f n h) ws) ∙ ap (λ x. q * sum_by (met_sum f n h) ws + x) (sum_times p O ws) in
    let right : sum_by (λ w. a + p * E w) ws ≡ size f ^ length rows * a + p * sum_by E ws =
    sum_plus (λ w. a) (λ w. p * E w) ws ∙ ap (λ x. x + sum_by (λ w. p * E w) ws) (sum_constant (λ w. a) a ws (λ w _. refl) ∙ ap (λ x. x * a) (length_words f n rows)) ∙ ap (λ x. size f ^ length rows * a + x) (sum_times p E ws) in
    let both : p * (size f ^ length rows * sum_by h (words f n checks)) + p * sum_by O ws ≡ p * sum_by E ws = omega (arith, each, left, right, pairs f n h rows checks r d) in
    eq_of_mul-eq-mul_left p (omega (arith, one_inside f)) (size f ^ length rows * sum_by h (words f n checks) + sum_by O ws) (sum_by E ws) (mul-add p (size f ^ length rows * sum_by h (words f n checks)) (sum_by O ws) ∙ both)

-- transforms of functions

pub transform_none : (f : FieldName) (n : ℕ) → HasTransform f n (λ _. 0) (λ _. 0) (λ _. 0)
transform_none f n = record {
  at = λ w _.
      let a : met_sum f n (λ _. 0) w ≡ 0 = sum_none (λ e. 0 * meets f w e) (every_word f n) (λ e _. zero-mul (meets f w e)) in
      let b : sum_by (λ _. 0) (every_word f n) ≡ 0 = sum_none (λ _. 0) (every_word f n) (λ e _. refl) in
      rw (a, b) (omega arith);
}

pub transform_plus : (f : FieldName) (n : ℕ) (h k E O D P : List ℕ → ℕ) → HasTransform f n h E O → HasTransform f n k D P → HasTransform f n (λ e. h e + k e) (λ w. E w + D w) (λ w. O w + P w)
transform_plus f n h k E O D P s t = record {
  at = λ w l.
      let a : met_sum f n (λ e. h e + k e) w ≡ met_sum f n h w + met_sum f n k w =
      sum_same (λ e. (h e + k e) * meets f w e) (λ e. h e * meets f w e + k e * meets f w e) (every_word f n) (λ e _. add-mul (h e) (k e) (meets f w e))
      ∙ sum_plus (λ e. h e * meets f w e) (λ e. k e * meets f w e) (every_word f n) in
      let b : sum_by (λ e. h e + k e) (every_word f n) ≡ sum_by h (every_word f n) + sum_by k (every_word f n) = sum_plus h k (every_word f n) in
      rw (a, b) (omega (arith, s.at w l, t.at w l));
}

empty_algebra : (q h o e : ℕ) → 0 < q → (q - 1) * e ≡ (q - 1) * (o + h) → q * h + (q - 1) * o ≡ h + (q - 1) * e
empty_algebra zero h o e l c = absurd (omega (arith, l))
empty_algebra (suc p) h o e l c =
    let m : suc p - 1 ≡ p = omega arith in
    let c' : p * e ≡ p * (o + h) = rw m at c in
    rw m (omega (arith, c'))

empty_at : (f : FieldName) (h E O : List ℕ → ℕ) (w : List ℕ) → length w ≡ 0 → E [] ≡ O [] + h [] → size f * met_sum f 0 h w + (size f - 1) * O w ≡ sum_by h (every_word f 0) + (size f - 1) * E w
unfolding every_word word_dot
empty_at f h E O [] l e =
    let a : met_sum f 0 h [] ≡ h [] = sum_by-cons (λ e. h e * meets f [] e) [] [] ∙ omega arith in
    let b : sum_by h (every_word f 0) ≡ h [] = sum_by-cons h [] [] ∙ omega arith in
    let c : (size f - 1) * E [] ≡ (size f - 1) * (O [] + h []) = ap (λ x. (size f - 1) * x) e in
    rw (a, b) (empty_algebra (size f) (h []) (O []) (E []) (zero_inside f) c)
empty_at f h E O (a ∷ w) l e = absurd (omega (arith, l))

pub transform_empty : (f : FieldName) (h E O : List ℕ → ℕ) → E [] ≡ O [] + h [] → HasTransform f 0 h E O
transform_empty f h E O e = record { at = λ w l. empty_at f h E O w l.long e }

-- a sum over the words of length n + 1, by their first symbols
by_first : (f : FieldName) (n : ℕ) (g : List ℕ → ℕ) → sum_by g (every_word f (suc n)) ≡ sum_by (λ u. sum_by (λ c. g (c ∷ u)) (below (size f))) (every_word f n)
unfolding every_word
by_first f n g =
    sum_flat_map g (λ c. map (λ u. c ∷ u) (every_word f n)) (below (size f))
    ∙ sum_same (λ c. sum_by g (map (λ u. c ∷ u) (every_word f n))) (λ c. sum_by (λ u. g (c ∷ u)) (every_word f n)) (below (size f)) (λ c _. sum_map g (λ u. c ∷ u) (every_word f n))
    ∙ sum_swap (λ c u. g (c ∷ u)) (below (size f)) (every_word f n)

-- h is k with 0 in front of a word, and l with another symbol
pub record HasParts (f : FieldName) (n : ℕ) (h k l : List ℕ → ℕ) : Type 0 where
  pub zero : (u : List ℕ) → IsWord f n u → h (0 ∷ u) ≡ k u
  pub other : (c : ℕ) (u : List ℕ) → IsWord f n u → 0 < c → h (c ∷ u) ≡ l u

whole_sum : (f : FieldName) (n : ℕ) (h k l : List ℕ → ℕ) → HasParts f n h k l → sum_by h (every_word f (suc n)) ≡ sum_by k (every_word f n) + (size f - 1) * sum_by l (every_word f n)
whole_sum f n h k l p =
    by_first f n h
    ∙ sum_same (λ u. sum_by (λ c. h (c ∷ u)) (below (size f))) (λ u. k u + (size f - 1) * l u) (every_word f n) (λ u m.
    let w = every_is_word f n u m in
    sum_symbols (λ c. h (c ∷ u)) (l u) (size f) (zero_inside f) (λ c d. p.other c u w d) (length_below (size f - 1)) ∙ ap (λ x. x + (size f - 1) * l u) (p.zero u w))
    ∙ sum_plus k (λ u. (size f - 1) * l u) (every_word f n)
    ∙ ap (λ x. sum_by k (every_word f n) + x) (sum_times (size f - 1) l (every_word f n))

meets_zero : (f : FieldName) (c : ℕ) (v u : List ℕ) → meets f (0 ∷ v) (c ∷ u) ≡ meets f v u
meets_zero f c v u = ap (λ x. cond (x == 0) 1 0) (dot_cons f 0 c v u ∙ cc (field_zero_mul f c, zero_add f (word_dot f v u) (dot_inside f v u)))

zero_sum : (f : FieldName) (n : ℕ) (h k l : List ℕ → ℕ) (v : List ℕ) → HasParts f n h k l → met_sum f (suc n) h (0 ∷ v) ≡ met_sum f n k v + (size f - 1) * met_sum f n l v
zero_sum f n h k l v p =
    by_first f n (λ e. h e * meets f (0 ∷ v) e)
    ∙ sum_same (λ u. sum_by (λ c. h (c ∷ u) * meets f (0 ∷ v) (c ∷ u)) (below (size f))) (λ u. k u * meets f v u + (size f - 1) * (l u * meets f v u)) (every_word f n) (λ u m.
    let w = every_is_word f n u m in
    let first : h (0 ∷ u) * meets f (0 ∷ v) (0 ∷ u) ≡ k u * meets f v u = cc (p.zero u w, meets_zero f 0 v u) in
    let rest : (c : ℕ) → 0 < c → h (c ∷ u) * meets f (0 ∷ v) (c ∷ u) ≡ l u * meets f v u = λ c d. cc (p.other c u w d, meets_zero f c v u) in
    sum_symbols (λ c. h (c ∷ u) * meets f (0 ∷ v) (c ∷ u)) (l u * meets f v u) (size f) (zero_inside f) rest (length_below (size f - 1)) ∙ ap (λ x. x + (size f - 1) * (l u * meets f v u)) first)
    ∙ sum_plus (λ u. k u * meets f v u) (λ u. (size f - 1) * (l u * meets f v u)) (every_word f n)
    ∙ ap (λ x. met_sum f n k v + x) (sum_times (size f - 1) (λ u. l u * meets f v u) (every_word f n))

-- for each word there is one first symbol that makes the dot 0, if the other word's is nonzero
one_first : (f : FieldName) (a : ℕ) (v u : List ℕ) → a < size f → 0 < a → sum_by (λ c. meets f (a ∷ v) (c ∷ u)) (below (size f)) ≡ 1
one_first f a v u l p =
    sum_same (λ c. meets f (a ∷ v) (c ∷ u)) (λ c. cond (add f (mul f c a) (word_dot f v u) == 0) 1 0) (below (size f)) (λ c _. ap (λ x. cond (x == 0) 1 0) (dot_cons f a c v u ∙ ap (λ x. add f x (word_dot f v u)) (field_mul_comm f a c)))
    ∙ one_solution f a (word_dot f v u) l p (dot_inside f v u)

meets_other : (f : FieldName) (a : ℕ) (v u : List ℕ) → meets f (a ∷ v) (0 ∷ u) ≡ meets f v u
meets_other f a v u = ap (λ x. cond (x == 0) 1 0) (dot_cons f a 0 v u ∙ cc (field_mul_zero f a, zero_add f (word_dot f v u) (dot_inside f v u)))

other_sum : (f : FieldName) (n : ℕ) (h k l : List ℕ → ℕ) (a : ℕ) (v : List ℕ) → HasParts f n h k l → a < size f → 0 < a → met_sum f (suc n) h (a ∷ v) + met_sum f n l v ≡ met_sum f n k v + sum_by l (every_word f n)
other_sum f n h k l a v p s t =
    let inner : List ℕ → ℕ = λ u. sum_by (λ c. h (c ∷ u) * meets f (a ∷ v) (c ∷ u)) (below (size f)) in
    let each : (u : List ℕ) → Contains (every_word f n) u → inner u + l u * meets f v u ≡ k u * meets f v u + l u = λ u m.
    let w = every_is_word f n u m in
    let rest : ℕ = sum_by (λ c. meets f (a ∷ v) (suc c ∷ u)) (below (size f - 1)) in
    let one : meets f v u + rest ≡ 1 = ap (λ x. x + rest) (sym (meets_other f a v u)) ∙ sym (sum_from_first (λ c. meets f (a ∷ v) (c ∷ u)) (size f) (zero_inside f)) ∙ one_first f a v u s t in
    let first : h (0 ∷ u) * meets f (a ∷ v) (0 ∷ u) ≡ k u * meets f v u = cc (p.zero u w, meets_other f a v u) in
    let others : sum_by (λ c. h (suc c ∷ u) * meets f (a ∷ v) (suc c ∷ u)) (below (size f - 1)) ≡ l u * rest =
    sum_same (λ c. h (suc c ∷ u) * meets f (a ∷ v) (suc c ∷ u)) (λ c. l u * meets f (a ∷ v) (suc c ∷ u)) (below (size f - 1)) (λ c _. ap (λ x. x * meets f (a ∷ v) (suc c ∷ u)) (p.other (suc c) u w (omega arith)))
    ∙ sum_times (l u) (λ c. meets f (a ∷ v) (suc c ∷ u)) (below (size f - 1)) in
    let split : inner u ≡ k u * meets f v u + l u * rest = sum_from_first (λ c. h (c ∷ u) * meets f (a ∷ v) (c ∷ u)) (size f) (zero_inside f) ∙ cc (first, others) in
    let times : l u * (meets f v u + rest) ≡ l u * 1 = ap (λ x. l u * x) one in
    omega (arith, split, times, mul-add (l u) (meets f v u) rest) in
    ap (λ x. x + met_sum f n l v) (by_first f n (λ e. h e * meets f (a ∷ v) e))
    ∙ sym (sum_plus inner (λ u. l u * meets f v u) (every_word f n))
    ∙ sum_same (λ u. inner u + l u * meets f v u) (λ u. k u * meets f v u + l u) (every_word f n) each
    ∙ sum_plus (λ u. k u * meets f v u) l (every_word f n)

zero_algebra : (q p m m0 m1 o o0 o1 e e0 e1 a a0 a1 : ℕ) → m ≡ m0 + p * m1 → a ≡ a0 + p * a1 → q * m0 + p * o0 ≡ a0 + p * e0 → q * m1 + p * o1 ≡ a1 + p * e1 → e + (o0 + p * o1) ≡ o + (e0 + p * e1) → q * m + p * o ≡ a + p * e
zero_algebra q p m m0 m1 o o0 o1 e e0 e1 a a0 a1 h k s t u =
    let t' : p * (q * m1 + p * o1) ≡ p * (a1 + p * e1) = ap (λ x. p * x) t in
    let u' : p * (e + (o0 + p * o1)) ≡ p * (o + (e0 + p * e1)) = ap (λ x. p * x) u in
    rw (h, k) (omega (arith, s, t', u'))

other_algebra : (q p m m0 m1 o o0 o1 e e0 e1 a a0 a1 : ℕ) → q ≡ suc p → m + m1 ≡ m0 + a1 → a ≡ a0 + p * a1 → q * m0 + p * o0 ≡ a0 + p * e0 → q * m1 + p * o1 ≡ a1 + p * e1 → e + (o0 + e1) ≡ o + (e0 + o1) → q * m + p * o ≡ a + p * e
other_algebra q p m m0 m1 o o0 o1 e e0 e1 a a0 a1 d h k s t u =
    let h' : q * (m + m1) ≡ q * (m0 + a1) = ap (λ x. q * x) h in
    let d' : q * a1 ≡ suc p * a1 = ap (λ x. x * a1) d in
    let u' : p * (e + (o0 + e1)) ≡ p * (o + (e0 + o1)) = ap (λ x. p * x) u in
    rw k (omega (arith, h', d', s, t, u'))

pub transform_step : (f : FieldName) (n : ℕ) (h k l E0 O0 E1 O1 E O : List ℕ → ℕ) → HasParts f n h k l → HasTransform f n k E0 O0 → HasTransform f n l E1 O1 → ((v : List ℕ) → IsWord f n v → E (0 ∷ v) + (O0 v + (size f - 1) * O1 v) ≡ O (0 ∷ v) + (E0 v + (size f - 1) * E1 v)) → ((a : ℕ) (v : List ℕ) → IsWord f n v → 0 < a → E (a ∷ v) + (O0 v + E1 v) ≡ O (a ∷ v) + (E0 v + O1 v)) → HasTransform f (suc n) h E O
transform_step f n h k l E0 O0 E1 O1 E O p s t x y = record { at = at_word }
  where
    at_word : (w : List ℕ) → IsWord f (suc n) w → size f * met_sum f (suc n) h w + (size f - 1) * O w ≡ sum_by h (every_word f (suc n)) + (size f - 1) * E w
    at_word [] i = absurd (omega (arith, i.long))
    at_word (zero ∷ v) i =
        let w = word_tail f n 0 v i in
        zero_algebra (size f) (size f - 1) (met_sum f (suc n) h (0 ∷ v)) (met_sum f n k v) (met_sum f n l v) (O (0 ∷ v)) (O0 v) (O1 v) (E (0 ∷ v)) (E0 v) (E1 v) (sum_by h (every_word f (suc n))) (sum_by k (every_word f n)) (sum_by l (every_word f n))
        (zero_sum f n h k l v p) (whole_sum f n h k l p) (s.at v w) (t.at v w) (x v w)
    at_word (suc a ∷ v) i =
        let w = word_tail f n (suc a) v i in
        other_algebra (size f) (size f - 1) (met_sum f (suc n) h (suc a ∷ v)) (met_sum f n k v) (met_sum f n l v) (O (suc a ∷ v)) (O0 v) (O1 v) (E (suc a ∷ v)) (E0 v) (E1 v) (sum_by h (every_word f (suc n))) (sum_by k (every_word f n)) (sum_by l (every_word f n))
        (omega (arith, zero_inside f)) (other_sum f n h k l (suc a) v p (word_head f (suc n) (suc a) v i) (omega arith)) (whole_sum f n h k l p) (s.at v w) (t.at v w) (y (suc a) v w (omega arith))
