-- The dimension of a quadratic residue code. The codes of the two periods have all words as sums, and the multiples of the word of ones in
-- common; and one is the other with its coordinates multiplied by a number that is no residue.
--   combine_units, units_independent, units_span       the unit words are independent, and their sums of multiples are all words
--   residue_dimension      the dimension is (n + 1) / 2
--   is_quadratic_residue   the code of the least period is a quadratic residue code
--   common_constant        the words that both codes have are the words of equal symbols
use Rattle.std.proofs.Common.{◌≡◌, ◌≢◌, ℕ, zero, suc, ◌+◌, ◌-◌, ◌*◌, ◌/◌, ◌%◌, ◌<◌, ◌≤◌, ◌==◌, ◌&&◌, ◌||◌, not, Bool, true, false, if◌then◌else◌, List, [], ◌∷◌, ◌++◌, length, map, replicate, slice_index, slice_index_or, All, IsTrue, refl, sym, ap, ap₂, subst, ◌∙◌, ⊎_elim, arith, true≢false}
use Rattle.std.proofs.Math.Nat.{mod-lt, mod-eq_of_lt, mul_comm, add-mod_right, mod_self, mul-div_cancel}
use Rattle.std.proofs.lemmas.Bool.{cases_lt, cases_eq, and_parts, ne_eqb, eq-eqb, not-true, or_cases}
use Rattle.std.proofs.lemmas.List.{length-map, length-append, get_or-map}
use Rattle.std.proofs.lemmas.List.Elements.{All-cons}
use Rattle.lc_algebra.specs.declared.FieldName.{FieldName}
use Rattle.lc_algebra.specs.Field.{size, is_symbol, add, neg, mul}
use Rattle.lc_algebra.specs.Word.{IsWord, zero_word, word_sum, scale, difference}
use Rattle.lc_algebra.specs.Span.{below, combine, InSpan, SameSpan, AreIndependent}
use Rattle.lc_algebra.specs.Matrix.{Matrix, AreRows, IsIdentityOn}
use Rattle.lc_algebra.proofs.FieldLaws.{add_inside, mul_inside, neg_inside, add_zero, add_assoc, add_comm, add_neg, add_mul, one_mul, mul_zero, mul_assoc, mul_comm as field_mul_comm, neg_neg, subtract_zero, inverse_of}
use Rattle.lc_algebra.proofs.FieldTests.{below as each_below, below_each}
use Rattle.lc_algebra.proofs.WordLaws.{length_scale, index_scale, index_word_sum, index_difference, length_difference, IsWord_scale, word_symbol, ones_word, index_zero_word}
use Rattle.lc_algebra.proofs.SpanLaws.{length_below, index_below, span_word, span_sum, span_scale, span_difference, span_within, combine_is_word, word_of_combination, same_span_transitive}
use Rattle.lc_algebra.proofs.ReducedLaws.{reduced_independent, symbol_of_combination}
use Rattle.lc_algebra.proofs.DimensionLaws.{dimension_unique, independent_at_most}
use Rattle.lc_basic.proofs.FamilyLaws.{one_row, no_rows, index_ones, ones_constant}
use Rattle.lc_code.proofs.CoordinateLaws.{told_all}
use Rattle.lc_constructions.specs.Code.{InCode, IsCode}
use Rattle.lc_constructions.specs.Basic.{IsConstant}
use Rattle.lc_constructions.proofs.ClosedLaws.{span_of_both}
use Rattle.lc_enumeration.specs.InformationSet.{unit_word}
use Rattle.lc_enumeration.proofs.GreedyLaws.{length_unit, index_unit}
use Rattle.lc_infoset.proofs.ExistLaws.{unit_is_word}
use Rattle.lc_infoset.proofs.GreedyLaws.{independent_cons}
use Rattle.lc_relations.proofs.UnionLaws.{extended, behind, second_of}
use Rattle.lc_language.specs.QuadraticResidues.{is_odd_prime, is_residue, is_residue_length, is_period, residue_word, cyclic_shift, residue_rows, InResidueCode, multiplied, period, IsQuadraticResidueCode}
use Rattle.lc_linear_laws.proofs.PartLaws.{span_parted, rows_append}
use Rattle.lc_linear_laws.proofs.LinearLaws.{image_span, span_image}
use Rattle.lc_residues.specs.Periods.{other_period}
use Rattle.lc_residues.proofs.ResidueTests.{prime_parts}
use Rattle.lc_residues.proofs.CodeLaws.{residue_word_is, residue_words}
use Rattle.lc_residues.proofs.PeriodLaws.{least_period}
use Rattle.lc_residues.proofs.KeptLaws.{words_of, residue_cyclic, residue_kept, residue_ones}
use Rattle.lc_residues.proofs.PickLaws.{same_picks, index_shift, length_shift, multiplied_linear, span_kept, shifts_linear}
use Rattle.lc_residues.proofs.ShiftLaws.{ones_in, shift_in}
use Rattle.lc_residues.proofs.CharacterLaws.{square_below, residue_by_squares}
use Rattle.lc_residues.proofs.MultiplierLaws.{rows_exchanged}
use Rattle.lc_residues.proofs.ExchangeLaws.{other_inverse, multiplied_back}
use Rattle.lc_residues.proofs.PrimeFieldLaws.{periods_apart}
use Rattle.lc_residues.proofs.DualLaws.{unit_parts}
use Rattle.lc_residues.proofs.OrthogonalLaws.{other_twice, symbols_equal}

-- ---- unit words

abbrev units : ℕ → List (List ℕ)
units n = map (unit_word n) (below n)

units_are : (f : FieldName) (n : ℕ) → AreRows f n (units n)
units_are f n = told_all (IsWord f n) (unit_word n) n (λ k l. unit_is_word f n k)

length_units : (n : ℕ) → length (units n) ≡ n
length_units n = length-map (below n) (unit_word n) ∙ length_below n

unit_row : (n i : ℕ) → i < n → slice_index_or (units n) i [] ≡ unit_word n i
unit_row n i l = get_or-map (unit_word n) (below n) i 0 [] (omega (arith, l, length_below n)) ∙ ap (unit_word n) (index_below n i 0 l)

units_identity : (n : ℕ) → IsIdentityOn (below n) (units n)
units_identity n i j l m =
    let k : i < n = omega (arith, l, length_units n) in
    let r : j < n = omega (arith, m, length_below n) in
    ap (λ u. slice_index u (slice_index (below n) j)) (unit_row n i k) ∙ ap (slice_index (unit_word n i)) (index_below n j 0 r) ∙ index_unit n i j r

combine_units : (f : FieldName) (n : ℕ) (cs : List ℕ) → IsWord f n cs → combine f n cs (units n) ≡ cs
combine_units f n cs w =
    let long : length (units n) ≡ length (below n) = length_units n ∙ sym (length_below n) in
    let word : IsWord f (length (units n)) cs = subst (λ k. IsWord f k cs) (sym (length_units n)) w in
    same_picks n (combine f n cs (units n)) cs (combine_is_word f n cs (units n) (units_are f n)).long w.long (λ j l.
    sym (ap (slice_index (combine f n cs (units n))) (index_below n j 0 l)) ∙ symbol_of_combination f n (below n) (units n) cs j (units_are f n) long (units_identity n) word (omega (arith, l, length_below n)))

units_independent : (f : FieldName) (n : ℕ) → AreIndependent f n (units n)
units_independent f n cs w e =
    let word : IsWord f n cs = subst (λ k. IsWord f k cs) (length_units n) w in
    sym (combine_units f n cs word) ∙ e ∙ ap zero_word (sym (length_units n))

units_span : (f : FieldName) (n : ℕ) (w : List ℕ) → IsWord f n w → InSpan f n (units n) w
units_span f n w a =
    subst (InSpan f n (units n)) (combine_units f n w a) (word_of_combination f n (units n) w (subst (λ k. IsWord f k w) (sym (length_units n)) a))

-- ---- unit words as sums of words of both codes

slope : (f : FieldName) (s u v x : ℕ) → s < size f → x < size f → add f (add f s (mul f u x)) (neg f (add f s (mul f v x))) ≡ mul f (add f u (neg f v)) x
slope f s u v x l k =
    let q = add f s (mul f v x) in
    let r = mul f (add f u (neg f v)) x in
    let back : add f v (add f u (neg f v)) ≡ add f u 0 = sym (add_assoc f v u (neg f v)) ∙ ap (λ z. add f z (neg f v)) (add_comm f v u) ∙ add_assoc f u v (neg f v) ∙ ap (add f u) (add_neg f v) in
    let whole : add f q r ≡ add f s (mul f (add f u 0) x) = add_assoc f s (mul f v x) r ∙ ap (add f s) (sym (add_mul f v (add f u (neg f v)) x) ∙ ap (λ z. mul f z x) back) in
    let same : mul f (add f u 0) x ≡ mul f u x = add_mul f u 0 x ∙ ap (add f (mul f u x)) (field_mul_comm f 0 x ∙ mul_zero f x) ∙ add_zero f (mul f u x) (mul_inside f u x) in
    ap (λ z. add f z (neg f q)) (sym (whole ∙ ap (add f s) same) ∙ add_comm f q r) ∙ add_assoc f r q (neg f q) ∙ ap (add f r) (add_neg f q) ∙ add_zero f r (mul_inside f (add f u (neg f v)) x)

moved_unit : (n k i : ℕ) → k < n → i < n → slice_index (cyclic_shift n k (unit_word n 0)) i ≡ slice_index (unit_word n k) i
moved_unit n k i l h =
    let p : (i + (n - k)) % n < n = mod-lt (i + (n - k)) (omega (arith, l)) in
    index_shift n k (unit_word n 0) i h ∙ index_unit n 0 ((i + (n - k)) % n) p
    ∙ ⊎_elim
    (λ e.
    let a : i + (n - k) ≡ n = omega (arith, e, l) in
    let z : 0 ≡ (i + (n - k)) % n = sym (ap (λ j. j % n) a ∙ mod_self n) in
    ap (λ b. if b then 1 else 0) (eq-eqb 0 ((i + (n - k)) % n) z) ∙ sym (index_unit n k i h ∙ ap (λ b. if b then 1 else 0) (eq-eqb k i (sym e))))
    (λ z.
    let other : 0 ≢ (i + (n - k)) % n = λ q. ⊎_elim
    (λ m.
    let e : (i + (n - k)) % n ≡ i + (n - k) = mod-eq_of_lt (omega (arith, m, l)) in
    omega (arith, q, e, l))
    (λ m.
    let a : i + (n - k) ≡ i - k + n = omega (arith, m, l) in
    let e : (i + (n - k)) % n ≡ i - k = ap (λ j. j % n) a ∙ add-mod_right (i - k) n ∙ mod-eq_of_lt (omega (arith, h)) in
    z (omega (arith, q, e, m)))
    (cases_lt i k) in
    ap (λ b. if b then 1 else 0) (ne_eqb 0 ((i + (n - k)) % n) other) ∙ sym (index_unit n k i h ∙ ap (λ b. if b then 1 else 0) (ne_eqb k i (λ q. z (sym q)))))
    (cases_eq i k)

shift_parts : (f : FieldName) (n t k i : ℕ) → k < n → i < n → slice_index (cyclic_shift n k (residue_word f n t)) i ≡ add f (slice_index (cyclic_shift n k (residue_word f n 0)) i) (mul f (neg f t) (slice_index (unit_word n k) i))
shift_parts f n t k i l h =
    let S = residue_word f n 0 in
    let E = unit_word n 0 in
    let c = neg f t in
    let s = shifts_linear f n k in
    let even : length (cyclic_shift n k S) ≡ length (scale f c (cyclic_shift n k E)) = length_shift n k S ∙ sym (length_scale f c (cyclic_shift n k E) ∙ length_shift n k E) in
    ap (λ w. slice_index (cyclic_shift n k w) i) (unit_parts f n t)
    ∙ ap (λ w. slice_index w i) (s.sums S (scale f c E) (residue_word_is f n 0) (IsWord_scale f n c E (length_unit n 0)) ∙ ap (word_sum f (cyclic_shift n k S)) (s.multiples c E (unit_is_word f n 0)))
    ∙ index_word_sum f (cyclic_shift n k S) (scale f c (cyclic_shift n k E)) i even
    ∙ ap (add f (slice_index (cyclic_shift n k S) i)) (index_scale f c (cyclic_shift n k E) i ∙ ap (mul f c) (moved_unit n k i l h))

unit_in : (f : FieldName) (n t k : ℕ) (rows : List (List ℕ)) → t < size f → t ≢ other_period f t → k < n → InSpan f n rows (cyclic_shift n k (residue_word f n t)) → InSpan f n rows (cyclic_shift n k (residue_word f n (other_period f t))) → InSpan f n rows (unit_word n k)
unfolding other_period
unit_in f n t k rows m z l s r =
    let o = other_period f t in
    let u = neg f t in
    let v = neg f o in
    let c = add f u (neg f v) in
    let P = cyclic_shift n k (residue_word f n t) in
    let Q = cyclic_shift n k (residue_word f n o) in
    let inside : o < size f = neg_inside f (add f t 1) in
    let apart : c ≢ 0 = λ e. z (sym (neg_neg f t m) ∙ ap (neg f) (subtract_zero f u v (neg_inside f t) (neg_inside f o) e) ∙ neg_neg f o inside) in
    let positive : 0 < c = ⊎_elim (λ q. q) (λ q. absurd (apart (omega (arith, q)))) (cases_lt 0 c) in
    let (d, inv) = inverse_of f c (add_inside f u (neg f v)) positive in
    let even : length P ≡ length Q = length_shift n k (residue_word f n t) ∙ sym (length_shift n k (residue_word f n o)) in
    let same : scale f d (difference f P Q) ≡ unit_word n k = same_picks n (scale f d (difference f P Q)) (unit_word n k) (length_scale f d (difference f P Q) ∙ length_difference f P Q even ∙ length_shift n k (residue_word f n t)) (length_unit n k) (λ i h.
    let x = slice_index (unit_word n k) i in
    let b : x < size f = word_symbol f n (unit_word n k) (unit_is_word f n k) i in
    let a : slice_index (cyclic_shift n k (residue_word f n 0)) i < size f = word_symbol f n (cyclic_shift n k (residue_word f n 0)) ((shifts_linear f n k).word (residue_word f n 0) (residue_word_is f n 0)) i in
    index_scale f d (difference f P Q) i
    ∙ ap (mul f d) (index_difference f P Q i even ∙ ap₂ (λ y w. add f y (neg f w)) (shift_parts f n t k i l h) (shift_parts f n o k i l h) ∙ slope f (slice_index (cyclic_shift n k (residue_word f n 0)) i) u v x a b)
    ∙ sym (mul_assoc f d c x) ∙ ap (λ y. mul f y x) (field_mul_comm f d c ∙ inv.one) ∙ one_mul f x b) in
    subst (InSpan f n rows) same (span_scale f n rows d (difference f P Q) (span_difference f n rows P Q s r))

-- all words, if the rows have the words of both codes
pub all_in : (f : FieldName) (n t : ℕ) (rows : List (List ℕ)) (w : List ℕ) → t < size f → t ≢ other_period f t → AreRows f n rows → ((u : List ℕ) → InSpan f n (residue_rows f n t) u → InSpan f n rows u) → ((u : List ℕ) → InSpan f n (residue_rows f n (other_period f t)) u → InSpan f n rows u) → IsWord f n w → InSpan f n rows w
all_in f n t rows w m z r a b h =
    span_within f n (units n) rows w r
    (told_all (InSpan f n rows) (unit_word n) n (λ k l. unit_in f n t k rows m z l (a (cyclic_shift n k (residue_word f n t)) (shift_in f n t k l)) (b (cyclic_shift n k (residue_word f n (other_period f t))) (shift_in f n (other_period f t) k l))))
    (units_span f n w h)

-- ---- a number that is no residue

unfoldable other_below : ℕ → ℕ → Bool
other_below n zero = false
other_below n (suc a) = (not (a == 0) && not (square_below n a n)) || other_below n a

unfoldable other_test : ℕ → Bool
other_test n = not (is_odd_prime n) || other_below n n

other_tests : each_below other_test 256 ≡ true
unfolding each_below other_test other_below square_below is_odd_prime below
other_tests = refl

other_is : (n k : ℕ) → k ≤ n → other_below n k ≡ true → (a : ℕ) × (a < n) × (a ≢ 0) × (is_residue n a ≡ false)
unfolding other_below
other_is n zero l h = absurd (true≢false (sym h))
other_is n (suc k) l h =
    ⊎_elim
    (λ t.
    let (p, q) = and_parts (not (k == 0)) (not (square_below n k n)) t in
    let m : k < n = omega (arith, l) in
    let z : k ≢ 0 = λ e. true≢false (sym (eq-eqb k 0 e) ∙ not-true (k == 0) p) in
    (k, m, z, residue_by_squares n k m z ∙ not-true (square_below n k n) q))
    (λ t. other_is n k (omega (arith, l)) t)
    (or_cases (not (k == 0) && not (square_below n k n)) (other_below n k) h)

record Pair (n : ℕ) : Type 0 where
  first : ℕ
  second : ℕ
  first_other : is_residue n first ≡ false
  second_other : is_residue n second ≡ false
  first_nonzero : first % n ≢ 0
  second_nonzero : second % n ≢ 0
  inverse : first * second % n ≡ 1

-- a number that is no residue, and its inverse
pair_there : (n : ℕ) → n ≤ 255 → is_odd_prime n ≡ true → Pair n
unfolding other_test
pair_there n l h =
    let t : other_test n ≡ true = below_each other_test 256 other_tests n (omega (arith, l)) in
    let s : other_below n n ≡ true = rw h at t in
    let (a, m, z, r) = other_is n n (omega arith) s in
    let big = (prime_parts n h).0 in
    let p : 0 < n = omega (arith, big) in
    let nonzero : a % n ≢ 0 = λ e. z (sym (mod-eq_of_lt m) ∙ e) in
    let (b, one, other, q) = other_inverse n a l h nonzero r in
    record {
      first = a;
      second = b;
      first_other = r;
      second_other = q;
      first_nonzero = nonzero;
      second_nonzero = other;
      inverse = one;
    }

-- ---- the dimension

-- rows of one code, multiplied, have the words of the other one
images_span : (f : FieldName) (n t o a b : ℕ) (rows : List (List ℕ)) → n ≤ 255 → is_odd_prime n ≡ true → other_period f t ≡ o → other_period f o ≡ t → a % n ≢ 0 → is_residue n a ≡ false → b % n ≢ 0 → is_residue n b ≡ false → a * b % n ≡ 1 → AreRows f n rows → SameSpan f n rows (residue_rows f n t) → SameSpan f n (residue_rows f n o) (map (multiplied n a) rows)
images_span f n t o a b rows l h p q za ra zb rb e r s w =
    let to_other : (u : List ℕ) → InSpan f n (residue_rows f n t) u → InSpan f n (residue_rows f n o) (multiplied n a u) = λ u i. span_kept f n (multiplied n a) (residue_rows f n t) (residue_rows f n o) u (multiplied_linear f n a) (residue_words f n t) (residue_words f n o) (subst (λ x. All (λ row. InSpan f n (residue_rows f n x) (multiplied n a row)) (residue_rows f n t)) p (rows_exchanged f n t a l h za ra)) i in
    let from_other : (u : List ℕ) → InSpan f n (residue_rows f n o) u → InSpan f n (residue_rows f n t) (multiplied n b u) = λ u i. span_kept f n (multiplied n b) (residue_rows f n o) (residue_rows f n t) u (multiplied_linear f n b) (residue_words f n o) (residue_words f n t) (subst (λ x. All (λ row. InSpan f n (residue_rows f n x) (multiplied n b row)) (residue_rows f n o)) q (rows_exchanged f n o b l h zb rb)) i in (
      (λ i.
          let long = (span_word f n (residue_rows f n o) w (residue_words f n o) i).long in
          let inside : InSpan f n rows (multiplied n b w) = (s (multiplied n b w)).1 (from_other w i) in
          subst (InSpan f n (map (multiplied n a) rows)) (multiplied_back n a b w e long) (image_span f n n (multiplied n a) rows (multiplied n b w) (multiplied_linear f n a) r inside)),
      (λ i.
          let (u, k, m) = span_image f n n (multiplied n a) rows w (multiplied_linear f n a) r i in
          subst (InSpan f n (residue_rows f n o)) (sym m) (to_other u ((s u).0 k))),
    )

none_independent : (f : FieldName) (n : ℕ) → AreIndependent f n []
none_independent f n [] w e = refl
none_independent f n (c ∷ cs) w e = absurd (omega (arith, w.long))

only_ones : (P : List ℕ → Type 0) (n : ℕ) → P (replicate n 1) → All P (replicate n 1 ∷ [])
only_ones P n p = All-cons P (replicate n 1) [] p (λ k d l. absurd (omega (arith, l)))

ones_rows : (f : FieldName) (n : ℕ) → AreRows f n (replicate n 1 ∷ [])
ones_rows f n = one_row f n (replicate n 1) (ones_word f n)

ones_independent : (f : FieldName) (n : ℕ) → 0 < n → AreIndependent f n (replicate n 1 ∷ [])
ones_independent f n l =
    independent_cons f n (replicate n 1) [] (ones_word f n) (no_rows f n [] refl) (none_independent f n) (λ e.
    let z : slice_index (replicate n 1) 0 ≡ 0 = ap (λ w. slice_index w 0) e ∙ index_zero_word n 0 in
    let o : slice_index (replicate n 1) 0 ≡ 1 = index_ones n 0 l in
    omega (arith, z, o))

record Halves (f : FieldName) (n t o : ℕ) (base : List (List ℕ)) : Type 0 where
  added : List (List ℕ)
  words : AreRows f n added
  free : AreIndependent f n (added ++ replicate n 1 ∷ [])
  second : SameSpan f n (added ++ replicate n 1 ∷ []) (residue_rows f n o)
  whole : length added + length base ≡ n

-- the rows of the other code that make up for a basis of the first one, and the word of ones, are a basis of the other one
halves : (f : FieldName) (n t o : ℕ) (base : List (List ℕ)) → 0 < n → AreRows f n base → AreIndependent f n base → SameSpan f n base (residue_rows f n t)
    → ((w : List ℕ) → IsWord f n w → (rows : List (List ℕ)) → AreRows f n rows → ((u : List ℕ) → InSpan f n (residue_rows f n t) u → InSpan f n rows u) → ((u : List ℕ) → InSpan f n (residue_rows f n o) u → InSpan f n rows u) → InSpan f n rows w)
    → ((w : List ℕ) (m : ℕ) → m < n → InSpan f n (residue_rows f n t) w → InSpan f n (residue_rows f n o) w → slice_index w m ≡ slice_index w 0)
    → Halves f n t o base
halves f n t o base l r h s all equal =
    let J = replicate n 1 ∷ [] in
    let ones = ones_rows f n in
    let A = residue_rows f n t in
    let B = residue_rows f n o in
    let b = residue_words f n o in
    let ones_into : (w : List ℕ) → InSpan f n J w → InSpan f n base w = λ w i. span_within f n J base w r (only_ones (InSpan f n base) n ((s (replicate n 1)).1 (ones_in f n t))) i in
    let ones_other : (w : List ℕ) → InSpan f n J w → InSpan f n B w = λ w i. span_within f n J B w b (only_ones (InSpan f n B) n (ones_in f n o)) i in
    let x = extended f n base J B r ones b h (ones_independent f n l) ones_into in
    let rows = x.added ++ base in
    let rows_are = rows_append f n x.added base x.words r in
    let everything : (w : List ℕ) → IsWord f n w → InSpan f n rows w = λ w a. all w a rows rows_are (λ u i. behind f n x.added base u x.words r ((s u).1 i)) (λ u i. x.covers u i) in
    let same : SameSpan f n rows (units n) = λ w. ((λ i. units_span f n w (span_word f n rows w rows_are i)), (λ i. everything w (span_word f n (units n) w (units_are f n) i))) in
    let count = dimension_unique f n rows (units n) rows_are (units_are f n) x.free (units_independent f n) same in
    record {
      added = x.added;
      words = x.words;
      free = x.free_of_part;
      second = λ w. (
        (λ i.
            let (u, (v, p, q, e)) = span_parted f n x.added J w ones i in
            subst (InSpan f n B) (sym e) (span_sum f n B u v (x.inside u p) (ones_other v q))),
        (λ i.
            let (u, (v, p, q, e)) = span_parted f n x.added base w r (x.covers w i) in
            let wu = span_word f n x.added u x.words p in
            let wv = span_word f n base v r q in
            let in_other : InSpan f n B v = subst (InSpan f n B) (ap (λ y. word_sum f y (scale f (neg f 1) u)) e ∙ second_of f n u v wu wv) (span_sum f n B w (scale f (neg f 1) u) i (span_scale f n B (neg f 1) u (x.inside u p))) in
            let even : (m : ℕ) → m < n → slice_index v m ≡ slice_index v 0 = λ m k. equal v m k ((s v).0 q) in_other in
            let constant : InSpan f n J v = (ones_constant f n v l wv).1 (λ i j a c. even i (omega (arith, a, wv.long)) ∙ sym (even j (omega (arith, c, wv.long)))) in
            subst (InSpan f n (x.added ++ J)) (sym e) (span_of_both f n x.added J u v p constant wv)),
      );
      whole = sym (length-append x.added base) ∙ count ∙ length_units n;
    }

half : (k n : ℕ) → k + k ≡ n + 1 → k ≡ (n + 1) / 2
half k n e =
    let a : k * 2 ≡ n + 1 = omega (arith, e) in
    sym (mul-div_cancel k (omega arith)) ∙ ap (λ m. m / 2) a

pub residue_dimension : (f : FieldName) (n t : ℕ) (C : Matrix) → IsTrue (is_symbol f) → n ≤ 255 → IsTrue (is_residue_length (size f) n) → t < size f → is_period f n t ≡ true → IsCode f n (InResidueCode f n t) C → length C.rows ≡ (n + 1) / 2
unfolding is_residue_length
residue_dimension f n t C y l a m e c =
    let (h, q) = and_parts (is_odd_prime n) (is_residue n (size f)) a in
    let positive : 0 < n = omega (arith, (prime_parts n h).0) in
    let o = other_period f t in
    let (d, z) = periods_apart f n t y l a m e in
    let back = other_twice f t m in
    let rows = c.generator.words in
    let same : SameSpan f n C.rows (residue_rows f n t) = λ w. ((λ i. ((c.generator.members w).0 i).1), (λ i. (c.generator.members w).1 (span_word f n (residue_rows f n t) w (residue_words f n t) i, i))) in
    let x = halves f n t o C.rows positive rows (reduced_independent f n C.rows rows c.generator.reduced) same (λ w k others r u v. all_in f n t others w m z r u v k) (λ w j k i r. symbols_equal f n t j w l h m e d z k i r) in
    let J = replicate n 1 ∷ [] in
    let basis = x.added ++ J in
    let basis_rows = rows_append f n x.added J x.words (ones_rows f n) in
    let p = pair_there n l h in
    let turned : p.second * p.first % n ≡ 1 = ap (λ j. j % n) (mul_comm p.second p.first) ∙ p.inverse in
    let first_images = images_span f n t o p.first p.second C.rows l h refl back p.first_nonzero p.first_other p.second_nonzero p.second_other p.inverse rows same in
    let second_images = images_span f n o t p.second p.first basis l h back refl p.second_nonzero p.second_other p.first_nonzero p.first_other turned basis_rows x.second in
    let at_most : length basis ≤ length (map (multiplied n p.first) C.rows) = independent_at_most f n basis (map (multiplied n p.first) C.rows) basis_rows x.free (same_span_transitive f n basis (residue_rows f n o) (map (multiplied n p.first) C.rows) x.second first_images) in
    let at_least : length C.rows ≤ length (map (multiplied n p.second) basis) = independent_at_most f n C.rows (map (multiplied n p.second) basis) rows (reduced_independent f n C.rows rows c.generator.reduced) (same_span_transitive f n C.rows (residue_rows f n t) (map (multiplied n p.second) basis) same second_images) in
    half (length C.rows) n (omega (arith, at_most, at_least, length-map C.rows (multiplied n p.first), length-map basis (multiplied n p.second), length-append x.added J, x.whole))

-- ---- what the code is

pub is_quadratic_residue : (f : FieldName) (n : ℕ) (C : Matrix) → IsTrue (is_symbol f) → n ≤ 255 → IsTrue (is_residue_length (size f) n) → IsCode f n (InResidueCode f n (period f n)) C → IsQuadraticResidueCode f n C
unfolding is_residue_length
is_quadratic_residue f n C y l a c =
    let t = period f n in
    let (h, q) = and_parts (is_odd_prime n) (is_residue n (size f)) a in
    let (m, e) = least_period f n y l a in
    record {
      field = c.over;
      columns = c.length_is;
      prime = a;
      words = c.generator.words;
      reduced = c.generator.reduced;
      cyclic = residue_cyclic f n t C c;
      kept = λ r w k i. residue_kept f n t r C w l h k c i;
      ones = residue_ones f n t C c;
      dimension = residue_dimension f n t C y l a m e c;
    }

pub common_constant : (f : FieldName) (n t : ℕ) (C D : Matrix) (w : List ℕ) → IsTrue (is_symbol f) → n ≤ 255 → IsTrue (is_residue_length (size f) n) → t < size f → IsTrue (is_period f n t) → IsCode f n (InResidueCode f n t) C → IsCode f n (InResidueCode f n (other_period f t)) D → InCode C w → InCode D w → IsConstant w
unfolding is_residue_length
common_constant f n t C D w y l a m e c d i k =
    let (h, q) = and_parts (is_odd_prime n) (is_residue n (size f)) a in
    let (r, z) = periods_apart f n t y l a m e in
    let first = (words_of f n t C w c).0 i in
    let second = (words_of f n (other_period f t) D w d).0 k in
    let long = (span_word f n (residue_rows f n t) w (residue_words f n t) first).long in
    λ x j u v. symbols_equal f n t x w l h m e r z (omega (arith, u, long)) first second ∙ sym (symbols_equal f n t j w l h m e r z (omega (arith, v, long)) first second)
