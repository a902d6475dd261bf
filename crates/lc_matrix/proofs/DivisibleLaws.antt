-- Which weights a binary or ternary code has is determined by the weights and dots of its rows (MacWilliams and Sloane, chapters 1
-- and 19).
--   IsQuadratic f d              modulo d, the weight of a sum is the sum of the weights and twice the dot
--   IsDefinite f d               twice a nonzero element is no multiple of d
--   sum_mod                      sums modulo d
--   weight_of_sum                the weight of a sum of two words
--   binary_four, binary_two, ternary_three, four_definite, three_definite      over 2 elements modulo 4 and 2, over 3 modulo 3
--   RowsDivided d rows, RowsOrthogonal f rows      d divides the weight of each row; two rows have dot 0
--   words_divided, words_even    if so, d divides the weight of each word; 2 does if it divides those of the rows
--   rows_divided, rows_apart     and conversely
--   divisible_by, squares_told, two_told, divisible_told      what is tested, for each divisor that is asked for
--   ternary_name, possible_four, possible_two, possible_three, possible_cases      over which fields these are
--   divisor_four, divisor_two, divisor_three, divisor_odd, divisor_not_three, divisor_other      the divisor of the weights
--   divisor_of_rows              that of a code is that of its rows
use Rattle.std.proofs.Common.{◌≡◌, ◌≢◌, ℕ, zero, suc, ◌+◌, ◌*◌, ◌/◌, ◌%◌, ◌<◌, ◌≤◌, ◌⊎◌, inl, inr, ◌↔◌, ◌++◌, not, cond, ◌==◌, List, [], ◌∷◌, length, slice_index_or, All, AllPairs, Contains, refl, sym, ap, subst, ◌∙◌, ⊎_elim, arith}
use Rattle.std.proofs.Math.Nat.{mod-add-mod, add-mod-mod, mul-mod_left, mul-mod_right, zero-mod}
use Rattle.std.proofs.lemmas.Bool.{cases_lt}
use Rattle.std.proofs.lemmas.List.Elements.{All-head, All-tail, Contains-append_left, Contains-append_right}
use Rattle.lc_algebra.specs.declared.FieldName.{FieldName}
use Rattle.lc_algebra.specs.declared.FieldName.TheVariants.{Gf2, Gf3}
use Rattle.lc_algebra.specs.Residue.{digits, number, plus, times, top, up, minus, times_x, product}
use Rattle.lc_algebra.specs.Field.{shape, shape_of, size, coefficients, add, mul}
use Rattle.lc_algebra.specs.Word.{Fits, IsWord, word_sum, scale, weight, word_dot}
use Rattle.lc_algebra.specs.Span.{InSpan}
use Rattle.lc_algebra.specs.Matrix.{Matrix, AreRows, IsOrthogonal}
use Rattle.lc_algebra.specs.Divisor.{IsDivisible, possible_divisors, weight_divisor, divisor_of}
use Rattle.lc_algebra.proofs.FieldLaws.{mul_zero, mul_inside}
use Rattle.lc_algebra.proofs.WordLaws.{fits_head, fits_tail, weight_cons, weight_zero_word, weight_scale, zero_scale, scale_dot, dot_comm, dot_inside, IsWord_scale}
use Rattle.lc_algebra.proofs.SpanLaws.{span_word, span_row, span_sum, dot_span, contains_head, contains_tail, contains_cases}
use Rattle.lc_algebra.proofs.DivisorLaws.{multiple_from_mod, no_member, divisor_is, divisor_unique}
use Rattle.lc_algebra.proofs.EmbeddingTests.{told_by_size, two_elements}

abbrev bit : ℕ → ℕ
bit a = cond (not (a == 0)) 1 0

pub record IsQuadratic (f : FieldName) (d : ℕ) : Type 0 where
  pub symbols : (a b : ℕ) → a < size f → b < size f → bit (add f a b) % d ≡ (bit a + bit b + 2 * mul f a b) % d
  pub sums : (x y : ℕ) → x < size f → y < size f → (2 * add f x y) % d ≡ (2 * x + 2 * y) % d

abbrev pub IsDefinite : FieldName → ℕ → Type 0
IsDefinite f d = (x : ℕ) → x < size f → (2 * x) % d ≡ 0 → x ≡ 0

pub sum_mod : (d x y u v : ℕ) → x % d ≡ u % d → y % d ≡ v % d → (x + y) % d ≡ (u + v) % d
sum_mod d x y u v a b = sym (mod-add-mod x d y) ∙ ap (λ z. (z + y) % d) a ∙ mod-add-mod u d y ∙ sym (add-mod-mod u y d) ∙ ap (λ z. (u + z) % d) b ∙ add-mod-mod u v d

pub weight_of_sum : (f : FieldName) (d : ℕ) (u v : List ℕ) → IsQuadratic f d → length u ≡ length v → Fits f u → Fits f v → weight (word_sum f u v) % d ≡ (weight u + weight v + 2 * word_dot f u v) % d
unfolding word_sum word_dot
weight_of_sum f d [] [] q l h k = refl
weight_of_sum f d [] (b ∷ v) q l h k = absurd (omega (arith, l))
weight_of_sum f d (a ∷ u) [] q l h k = absurd (omega (arith, l))
weight_of_sum f d (a ∷ u) (b ∷ v) q l h k =
    let x = fits_head f a u h in
    let y = fits_head f b v k in
    let rest = weight_of_sum f d u v q (omega (arith, l)) (fits_tail f a u h) (fits_tail f b v k) in
    let m = mul f a b in
    let t = word_dot f u v in
    ap (λ z. z % d) (weight_cons (add f a b) (word_sum f u v))
    ∙ sum_mod d (bit (add f a b)) (weight (word_sum f u v)) (bit a + bit b + 2 * m) (weight u + weight v + 2 * t) (q.symbols a b x y) rest
    ∙ ap (λ z. z % d) (omega (arith, weight_cons a u, weight_cons b v))
    ∙ sum_mod d (weight (a ∷ u) + weight (b ∷ v)) (2 * m + 2 * t) (weight (a ∷ u) + weight (b ∷ v)) (2 * add f m t) refl (sym (q.sums m t (mul_inside f a b) (dot_inside f u v)))

two_numbers : (P : ℕ → Type 0) → P 0 → P 1 → (a : ℕ) → a < 2 → P a
two_numbers P x y zero l = x
two_numbers P x y (suc zero) l = y
two_numbers P x y (suc (suc a)) l = absurd (omega (arith, l))

three_numbers : (P : ℕ → Type 0) → P 0 → P 1 → P 2 → (a : ℕ) → a < 3 → P a
three_numbers P x y z zero l = x
three_numbers P x y z (suc zero) l = y
three_numbers P x y z (suc (suc zero)) l = z
three_numbers P x y z (suc (suc (suc a))) l = absurd (omega (arith, l))

pub binary_four : IsQuadratic Gf2 4
unfolding digits number plus minus times top up times_x product shape shape_of size coefficients add mul
binary_four = record {
  symbols = λ a b l m. two_numbers (λ a. (b : ℕ) → b < 2 → bit (add Gf2 a b) % 4 ≡ (bit a + bit b + 2 * mul Gf2 a b) % 4) (two_numbers _ refl refl) (two_numbers _ refl refl) a l b m;
  sums = λ a b l m. two_numbers (λ a. (b : ℕ) → b < 2 → (2 * add Gf2 a b) % 4 ≡ (2 * a + 2 * b) % 4) (two_numbers _ refl refl) (two_numbers _ refl refl) a l b m;
}

pub binary_two : IsQuadratic Gf2 2
unfolding digits number plus minus times top up times_x product shape shape_of size coefficients add mul
binary_two = record {
  symbols = λ a b l m. two_numbers (λ a. (b : ℕ) → b < 2 → bit (add Gf2 a b) % 2 ≡ (bit a + bit b + 2 * mul Gf2 a b) % 2) (two_numbers _ refl refl) (two_numbers _ refl refl) a l b m;
  sums = λ a b l m. two_numbers (λ a. (b : ℕ) → b < 2 → (2 * add Gf2 a b) % 2 ≡ (2 * a + 2 * b) % 2) (two_numbers _ refl refl) (two_numbers _ refl refl) a l b m;
}

pub ternary_three : IsQuadratic Gf3 3
unfolding digits number plus minus times top up times_x product shape shape_of size coefficients add mul
ternary_three = record {
  symbols = λ a b l m. three_numbers (λ a. (b : ℕ) → b < 3 → bit (add Gf3 a b) % 3 ≡ (bit a + bit b + 2 * mul Gf3 a b) % 3) (three_numbers _ refl refl refl) (three_numbers _ refl refl refl) (three_numbers _ refl refl refl) a l b m;
  sums = λ a b l m. three_numbers (λ a. (b : ℕ) → b < 3 → (2 * add Gf3 a b) % 3 ≡ (2 * a + 2 * b) % 3) (three_numbers _ refl refl refl) (three_numbers _ refl refl refl) (three_numbers _ refl refl refl) a l b m;
}

pub four_definite : IsDefinite Gf2 4
unfolding shape shape_of size
four_definite = two_numbers (λ x. (2 * x) % 4 ≡ 0 → x ≡ 0) (λ e. refl) (λ e. absurd (omega (arith, e)))

pub three_definite : IsDefinite Gf3 3
unfolding shape shape_of size
three_definite = three_numbers (λ x. (2 * x) % 3 ≡ 0 → x ≡ 0) (λ e. refl) (λ e. absurd (omega (arith, e))) (λ e. absurd (omega (arith, e)))

abbrev pub RowsDivided : ℕ → List (List ℕ) → Type 0
RowsDivided d rows = All (λ row. weight row % d ≡ 0) rows

abbrev pub RowsOrthogonal : FieldName → List (List ℕ) → Type 0
RowsOrthogonal f rows = AllPairs (λ u v. word_dot f u v ≡ 0) rows

multiple_divided : (f : FieldName) (n d c : ℕ) (g : List ℕ) → IsWord f n g → c < size f → weight g % d ≡ 0 → weight (scale f c g) % d ≡ 0
multiple_divided f n d c g is l h =
    ⊎_elim
    (λ p. ap (λ x. x % d) (weight_scale f c g l p is.fits) ∙ h)
    (λ p.
    let e : c ≡ 0 = omega (arith, p) in
    ap (λ x. weight (scale f x g) % d) e ∙ ap (λ w. weight w % d) (zero_scale f n g is.long) ∙ ap (λ x. x % d) (weight_zero_word n) ∙ zero-mod d)
    (cases_lt 0 c)

pairs_head : (f : FieldName) (g : List ℕ) (rows : List (List ℕ)) → RowsOrthogonal f (g ∷ rows) → IsOrthogonal f rows g
pairs_head f g rows h = λ i x l. dot_comm f (slice_index_or rows i x) g ∙ h 0 (suc i) x (omega arith) (omega (arith, l))

pairs_tail : (f : FieldName) (g : List ℕ) (rows : List (List ℕ)) → RowsOrthogonal f (g ∷ rows) → RowsOrthogonal f rows
pairs_tail f g rows h = λ i j x l m. h (suc i) (suc j) x (omega (arith, l)) (omega (arith, m))

pub words_divided : (f : FieldName) (n d : ℕ) (rows : List (List ℕ)) (w : List ℕ) → IsQuadratic f d → AreRows f n rows → RowsDivided d rows → RowsOrthogonal f rows → InSpan f n rows w → weight w % d ≡ 0
words_divided f n d [] w q r h o i = ap (λ v. weight v % d) i ∙ ap (λ x. x % d) (weight_zero_word n) ∙ zero-mod d
words_divided f n d (g ∷ rows) w q r h o i =
    let c = i.0 in
    let v = i.2.0 in
    let tail = All-tail (IsWord f n) g rows r in
    let head = All-head (IsWord f n) g rows r in
    let there : IsWord f n v = span_word f n rows v tail i.2.1 in
    let multiple : IsWord f n (scale f c g) = IsWord_scale f n c g head.long in
    let one = multiple_divided f n d c g head i.1 (All-head (λ row. weight row % d ≡ 0) g rows h) in
    let rest = words_divided f n d rows v q tail (All-tail (λ row. weight row % d ≡ 0) g rows h) (pairs_tail f g rows o) i.2.1 in
    let dot : word_dot f (scale f c g) v ≡ 0 = scale_dot f c g v ∙ ap (mul f c) (dot_comm f g v ∙ dot_span f n rows g v tail (pairs_head f g rows o) i.2.1) ∙ mul_zero f c in
    ap (λ u. weight u % d) i.2.2
    ∙ weight_of_sum f d (scale f c g) v q (multiple.long ∙ sym there.long) multiple.fits there.fits
    ∙ ap (λ x. (weight (scale f c g) + weight v + 2 * x) % d) dot
    ∙ ap (λ x. x % d) (omega arith)
    ∙ sum_mod d (weight (scale f c g)) (weight v) 0 0 (one ∙ sym (zero-mod d)) (rest ∙ sym (zero-mod d))
    ∙ zero-mod d

pub words_even : (f : FieldName) (n : ℕ) (rows : List (List ℕ)) (w : List ℕ) → IsQuadratic f 2 → AreRows f n rows → RowsDivided 2 rows → InSpan f n rows w → weight w % 2 ≡ 0
words_even f n [] w q r h i = ap (λ v. weight v % 2) i ∙ ap (λ x. x % 2) (weight_zero_word n)
words_even f n (g ∷ rows) w q r h i =
    let c = i.0 in
    let v = i.2.0 in
    let tail = All-tail (IsWord f n) g rows r in
    let head = All-head (IsWord f n) g rows r in
    let there : IsWord f n v = span_word f n rows v tail i.2.1 in
    let multiple : IsWord f n (scale f c g) = IsWord_scale f n c g head.long in
    let one = multiple_divided f n 2 c g head i.1 (All-head (λ row. weight row % 2 ≡ 0) g rows h) in
    let rest = words_even f n rows v q tail (All-tail (λ row. weight row % 2 ≡ 0) g rows h) i.2.1 in
    ap (λ u. weight u % 2) i.2.2
    ∙ weight_of_sum f 2 (scale f c g) v q (multiple.long ∙ sym there.long) multiple.fits there.fits
    ∙ sum_mod 2 (weight (scale f c g) + weight v) (2 * word_dot f (scale f c g) v) 0 0 (sum_mod 2 (weight (scale f c g)) (weight v) 0 0 one rest) (mul-mod_right 2 (word_dot f (scale f c g) v))

pub rows_divided : (f : FieldName) (n d : ℕ) (rows : List (List ℕ)) → AreRows f n rows → IsDivisible f n rows d → RowsDivided d rows
rows_divided f n d rows r h = λ i x l. let m = h (slice_index_or rows i x) (span_row f n rows r i x l) in ap (λ z. z % d) m.1 ∙ mul-mod_left m.0 d

pub rows_apart : (f : FieldName) (n d : ℕ) (rows : List (List ℕ)) → IsQuadratic f d → IsDefinite f d → AreRows f n rows → IsDivisible f n rows d → RowsOrthogonal f rows
rows_apart f n d rows q definite r h = λ i j x l m.
    let u = slice_index_or rows i x in
    let v = slice_index_or rows j x in
    let k : i < length rows = omega (arith, l, m) in
    let one = span_row f n rows r i x k in
    let other = span_row f n rows r j x m in
    let s = h (word_sum f u v) (span_sum f n rows u v one other) in
    let a = h u one in
    let b = h v other in
    let whole : (weight u + weight v + 2 * word_dot f u v) % d ≡ 0 = sym (weight_of_sum f d u v q ((r i x k).long ∙ sym (r j x m).long) (r i x k).fits (r j x m).fits) ∙ ap (λ z. z % d) s.1 ∙ mul-mod_left s.0 d in
    let left : (weight u + weight v) % d ≡ 0 = sum_mod d (weight u) (weight v) 0 0 (ap (λ z. z % d) a.1 ∙ mul-mod_left a.0 d ∙ sym (zero-mod d)) (ap (λ z. z % d) b.1 ∙ mul-mod_left b.0 d ∙ sym (zero-mod d)) ∙ zero-mod d in
    definite (word_dot f u v) (dot_inside f u v) (ap (λ z. z % d) (omega arith) ∙ sym (sum_mod d (weight u + weight v) (2 * word_dot f u v) 0 (2 * word_dot f u v) (left ∙ sym (zero-mod d)) refl) ∙ whole)

divisible_by : (f : FieldName) (n d : ℕ) (rows : List (List ℕ)) → ((w : List ℕ) → InSpan f n rows w → weight w % d ≡ 0) → IsDivisible f n rows d
divisible_by f n d rows h w i = (weight w / d, multiple_from_mod (weight w) d (h w i))

abbrev pub IsTold : FieldName → ℕ → ℕ → List (List ℕ) → Type 0
IsTold f n d rows = (RowsDivided d rows × ((d ≡ 2) ⊎ RowsOrthogonal f rows)) ↔ IsDivisible f n rows d

squares_told : (f : FieldName) (n d : ℕ) (rows : List (List ℕ)) → IsQuadratic f d → IsDefinite f d → 2 < d → AreRows f n rows → IsTold f n d rows
squares_told f n d rows q definite p r = (
  (λ h. ⊎_elim (λ e. absurd (omega (arith, e, p))) (λ o. divisible_by f n d rows (λ w i. words_divided f n d rows w q r h.0 o i)) h.1),
  (λ h. (rows_divided f n d rows r h, inr (rows_apart f n d rows q definite r h))),
)

two_told : (f : FieldName) (n : ℕ) (rows : List (List ℕ)) → IsQuadratic f 2 → AreRows f n rows → IsTold f n 2 rows
two_told f n rows q r = (
  (λ h. divisible_by f n 2 rows (λ w i. words_even f n rows w q r h.0 i)),
  (λ h. (rows_divided f n 2 rows r h, inl refl)),
)

pub divisible_told : (f : FieldName) (n d : ℕ) (rows : List (List ℕ)) → AreRows f n rows → Contains (possible_divisors f) d → IsTold f n d rows
unfolding possible_divisors
divisible_told Gf2 n d rows r l =
    ⊎_elim
    (λ e. subst (λ x. IsTold Gf2 n x rows) e (squares_told Gf2 n 4 rows binary_four four_definite (omega arith) r))
    (λ m. ⊎_elim (λ e. subst (λ x. IsTold Gf2 n x rows) e (two_told Gf2 n rows binary_two r)) (λ o. absurd (no_member d o)) (contains_cases 2 d [] m))
    (contains_cases 4 d (2 ∷ []) l)
divisible_told Gf3 n d rows r l =
    ⊎_elim
    (λ e. subst (λ x. IsTold Gf3 n x rows) e (squares_told Gf3 n 3 rows ternary_three three_definite (omega arith) r))
    (λ o. absurd (no_member d o))
    (contains_cases 3 d [] l)
divisible_told _ n d rows r l = absurd (no_member d l)

pub ternary_name : (f : FieldName) → size f ≡ 3 → f ≡ Gf3
unfolding shape shape_of size
ternary_name f e = told_by_size f Gf3 e

pub possible_four : (f : FieldName) → size f ≡ 2 → Contains (possible_divisors f) 4
unfolding possible_divisors
possible_four f e = subst (λ g. Contains (possible_divisors g) 4) (sym (two_elements f e)) (contains_head 4 (2 ∷ []))

pub possible_two : (f : FieldName) → size f ≡ 2 → Contains (possible_divisors f) 2
unfolding possible_divisors
possible_two f e = subst (λ g. Contains (possible_divisors g) 2) (sym (two_elements f e)) (contains_tail 4 2 (2 ∷ []) (contains_head 2 []))

pub possible_three : (f : FieldName) → size f ≡ 3 → Contains (possible_divisors f) 3
unfolding possible_divisors
possible_three f e = subst (λ g. Contains (possible_divisors g) 3) (sym (ternary_name f e)) (contains_head 3 [])

pub record IsPossible (f : FieldName) (e : ℕ) : Type 0 where
  pub size_and : ((size f ≡ 2) × (e ≡ 4)) ⊎ (((size f ≡ 2) × (e ≡ 2)) ⊎ ((size f ≡ 3) × (e ≡ 3)))

possible_cases : (f : FieldName) (e : ℕ) → Contains (possible_divisors f) e → IsPossible f e
unfolding possible_divisors shape shape_of size
possible_cases Gf2 e l = record { size_and = ⊎_elim (λ s. inl (refl, sym s)) (λ m. inr (inl (refl, ⊎_elim (λ s. sym s) (λ o. absurd (no_member e o)) (contains_cases 2 e [] m)))) (contains_cases 4 e (2 ∷ []) l) }
possible_cases Gf3 e l = record { size_and = inr (inr (refl, ⊎_elim (λ s. sym s) (λ o. absurd (no_member e o)) (contains_cases 3 e [] l))) }
possible_cases _ e l = absurd (no_member e l)

divisor_among : (f : FieldName) (n d : ℕ) (rows : List (List ℕ)) → Contains (possible_divisors f ++ 1 ∷ []) d → IsDivisible f n rows d → ((e : ℕ) → Contains (possible_divisors f) e → IsDivisible f n rows e → e ≤ d) → weight_divisor f n rows ≡ d
divisor_among f n d rows l h g = divisor_unique f n rows (weight_divisor f n rows) d (divisor_is f n rows) (record { possible = l; divides = h; greatest = g })

pub divisor_four : (f : FieldName) (n : ℕ) (rows : List (List ℕ)) → size f ≡ 2 → IsDivisible f n rows 4 → weight_divisor f n rows ≡ 4
divisor_four f n rows s h =
    divisor_among f n 4 rows (Contains-append_left (possible_divisors f) (1 ∷ []) 4 (possible_four f s)) h (λ e l k.
    ⊎_elim (λ a. omega (arith, a.1)) (⊎_elim (λ a. omega (arith, a.1)) (λ a. omega (arith, a.1))) (possible_cases f e l).size_and)

pub divisor_two : (f : FieldName) (n : ℕ) (rows : List (List ℕ)) → size f ≡ 2 → (IsDivisible f n rows 4 → ⊥) → IsDivisible f n rows 2 → weight_divisor f n rows ≡ 2
divisor_two f n rows s no_four h =
    divisor_among f n 2 rows (Contains-append_left (possible_divisors f) (1 ∷ []) 2 (possible_two f s)) h (λ e l k.
    ⊎_elim (λ a. absurd (no_four (subst (IsDivisible f n rows) a.1 k))) (⊎_elim (λ a. omega (arith, a.1)) (λ a. omega (arith, a.0, s))) (possible_cases f e l).size_and)

pub divisor_three : (f : FieldName) (n : ℕ) (rows : List (List ℕ)) → size f ≡ 3 → IsDivisible f n rows 3 → weight_divisor f n rows ≡ 3
divisor_three f n rows s h =
    divisor_among f n 3 rows (Contains-append_left (possible_divisors f) (1 ∷ []) 3 (possible_three f s)) h (λ e l k.
    ⊎_elim (λ a. omega (arith, a.0, s)) (⊎_elim (λ a. omega (arith, a.0, s)) (λ a. omega (arith, a.1))) (possible_cases f e l).size_and)

divisor_one : (f : FieldName) (n : ℕ) (rows : List (List ℕ)) → (size f ≡ 2 → IsDivisible f n rows 4 → ⊥) → (size f ≡ 2 → IsDivisible f n rows 2 → ⊥) → (size f ≡ 3 → IsDivisible f n rows 3 → ⊥) → weight_divisor f n rows ≡ 1
divisor_one f n rows four two three =
    divisor_among f n 1 rows (Contains-append_right (possible_divisors f) (1 ∷ []) 1 (contains_head 1 [])) (λ w i. (weight w, omega arith)) (λ e l k.
    ⊎_elim
    (λ a. absurd (four a.0 (subst (IsDivisible f n rows) a.1 k)))
    (⊎_elim (λ a. absurd (two a.0 (subst (IsDivisible f n rows) a.1 k))) (λ a. absurd (three a.0 (subst (IsDivisible f n rows) a.1 k))))
    (possible_cases f e l).size_and)

pub divisor_odd : (f : FieldName) (n : ℕ) (rows : List (List ℕ)) → size f ≡ 2 → (IsDivisible f n rows 4 → ⊥) → (IsDivisible f n rows 2 → ⊥) → weight_divisor f n rows ≡ 1
divisor_odd f n rows s four two = divisor_one f n rows (λ e. four) (λ e. two) (λ e. absurd (omega (arith, e, s)))

pub divisor_not_three : (f : FieldName) (n : ℕ) (rows : List (List ℕ)) → size f ≡ 3 → (IsDivisible f n rows 3 → ⊥) → weight_divisor f n rows ≡ 1
divisor_not_three f n rows s three = divisor_one f n rows (λ e. absurd (omega (arith, e, s))) (λ e. absurd (omega (arith, e, s))) (λ e. three)

pub divisor_other : (f : FieldName) (n : ℕ) (rows : List (List ℕ)) → size f ≢ 2 → size f ≢ 3 → weight_divisor f n rows ≡ 1
divisor_other f n rows two three = divisor_one f n rows (λ e k. two e) (λ e k. two e) (λ e k. three e)

pub divisor_of_rows : (C : Matrix) → divisor_of C ≡ weight_divisor C.field C.columns C.rows
unfolding divisor_of
divisor_of_rows C = refl

pub ruleset divisor_laws = (divisor_of_rows, divisor_other)

pub ruleset binary_divisor_laws = (possible_four, possible_two, divisor_four, divisor_two, divisor_odd)

pub ruleset ternary_divisor_laws = (possible_three, divisor_three, divisor_not_three)
