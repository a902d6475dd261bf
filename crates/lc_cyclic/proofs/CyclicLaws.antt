-- Cyclic codes by their polynomials.
--   IsPlainMultiple f g w      w is a multiple of the polynomial g
--   shifts_none, shifts_more      the shifts of a polynomial, one after another
--   shift_words            they are words
--   combine_shifts         their combinations are the polynomial's multiples
--   span_shifts            so their span is the multiples of low degree
--   multiples_of_divisor   which are the multiples modulo x^n - 1 of a divisor
--   checked_by_cofactor    and the words that the other factor checks
--   divisor_length, divisor_nonzero, divisor_low      a divisor has a degree, at most n
--   generated_rows, generated_code      the code of the shifts of a divisor
--   cofactor_told, cofactor_divides      the quotient of x^n - 1 by a divisor is another one
--   same_cyclic_code, checked_code      the code of a generator polynomial is that of the check polynomial
--   shifts_independent     the shifts are independent
--   generator_dimension, check_dimension      the dimensions of both kinds of codes
use Rattle.std.proofs.Common.{◌≡◌, ℕ, zero, suc, ◌+◌, ◌-◌, ◌<◌, ◌≤◌, ◌↔◌, ⊎_elim, List, [], ◌∷◌, ◌++◌, length, map, replicate, slice_index, refl, sym, ap, ap₂, subst, ◌∙◌, arith}
use Rattle.std.proofs.lemmas.Bool.{cases_lt}
use Rattle.std.proofs.lemmas.List.{append_assoc, length-append, length-replicate, length-map, map-append, get_or_past}
use Rattle.std.proofs.lemmas.List.Elements.{All-cons}
use Rattle.lc_algebra.specs.declared.FieldName.{FieldName}
use Rattle.lc_algebra.specs.Field.{size, add, neg, mul}
use Rattle.lc_algebra.specs.Word.{Fits, IsWord, zero_word, word_dot}
use Rattle.lc_algebra.specs.Polynomial.{poly_sum, poly_scale, poly_product, x_power_minus_one, SamePolynomial, IsPolynomial, IsDivision, Divides}
use Rattle.lc_algebra.specs.Span.{below, combine, InSpan, SameSpan, AreIndependent}
use Rattle.lc_algebra.specs.Matrix.{Matrix, AreRows, column}
use Rattle.lc_algebra.proofs.FieldLaws.{zero_inside, mul_inside, mul_zero, add_zero, zero_add, add_comm, add_assoc, add_neg, neg_one_mul}
use Rattle.lc_algebra.proofs.WordLaws.{fits_symbol, same_words, index_zero_word, IsWord_zero, dot_cons}
use Rattle.lc_algebra.proofs.SpanLaws.{span_word, word_of_combination, combination_of_word, length_combine, length_below}
use Rattle.lc_algebra.proofs.ReducedLaws.{index_combine, reduced_independent}
use Rattle.lc_algebra.proofs.DimensionLaws.{dimension_unique}
use Rattle.lc_algebra.proofs.PolynomialLaws.{index_sum, index_product_zero, index_product_suc, fits_sum, fits_multiple, fits_product, product_inside, sum_product, multiple_product, product_commutes, product_associates, product_same, same_product}
use Rattle.lc_constructions.specs.Code.{IsCode}
use Rattle.lc_constructions.specs.Basic.{GeneratedBy}
use Rattle.lc_constructions.specs.Cyclic.{IsMultipleOf, IsCheckedBy, exponents_from}
use Rattle.lc_constructions.proofs.FormLaws.{below_exponents}
use Rattle.lc_poly.proofs.QuotientLaws.{trimmed_exists}
use Rattle.lc_poly.proofs.DivisionLaws.{divides_exactly}
use Rattle.lc_poly.proofs.DegreeLaws.{low_factor, same_factor, divisor_degrees, listed, listed_word, listed_same}
use Rattle.lc_code.proofs.CodeLaws.{same_code}
use Rattle.lc_cyclic.specs.Shifts.{shifted, shifts, shift_count}

abbrev pub IsPlainMultiple : FieldName → List ℕ → List ℕ → Type 0
IsPlainMultiple f g w = (t : List ℕ) × Fits f t × SamePolynomial w (poly_product f t g)

-- ---- the rows

pub shifts_none : (g : List ℕ) (n : ℕ) (rows : List (List ℕ)) → rows ≡ [] → rows ≡ shifts g n 0
unfolding shifts below
shifts_none g n rows e = e

shifts_last : (g : List ℕ) (n i : ℕ) → shifts g n (i + 1) ≡ shifts g n i ++ shifted g n i ∷ []
unfolding shifts below
shifts_last g n i =
    let d : i + 1 ≡ suc i = omega arith in
    ap (λ k. map (shifted g n) (below k)) d ∙ map-append (shifted g n) (below i) (i ∷ [])

pub shifts_more : (g : List ℕ) (n i : ℕ) (rows new : List (List ℕ)) (row : List ℕ) → rows ≡ shifts g n i → row ≡ shifted g n i → new ≡ rows ++ row ∷ [] → new ≡ shifts g n (i + 1)
shifts_more g n i rows new row a b e = e ∙ ap₂ (λ u v. u ++ v ∷ []) a b ∙ sym (shifts_last g n i)

shifted_is : (g : List ℕ) (n i : ℕ) → shifted g n i ≡ replicate i 0 ++ (g ++ replicate (n - (i + length g)) 0)
unfolding shifted
shifted_is g n i = append_assoc (replicate i 0) g (replicate (n - (i + length g)) 0)

length_shifted : (g : List ℕ) (n i : ℕ) → i + length g ≤ n → length (shifted g n i) ≡ n
length_shifted g n i l =
    let z : List ℕ = replicate (n - (i + length g)) 0 in
    let a : length (shifted g n i) ≡ length (replicate {A = ℕ} i 0) + length (g ++ z) = ap (λ (u : List ℕ). length u) (shifted_is g n i) ∙ length-append (replicate i 0) (g ++ z) in
    omega (arith, a, length-append g z, length-replicate {A = ℕ} i 0, length-replicate {A = ℕ} (n - (i + length g)) 0, l)

followed : (g : List ℕ) (k j : ℕ) → slice_index (g ++ replicate k 0) j ≡ slice_index g j
followed [] k j = index_zero_word k j ∙ sym (get_or_past {X = ℕ} [] j 0 (omega arith))
followed (a ∷ g) k zero = refl
followed (a ∷ g) k (suc j) = followed g k j

index_after : (i j : ℕ) (u : List ℕ) → slice_index (replicate i 0 ++ u) (i + j) ≡ slice_index u j
index_after zero j u = let e : 0 + j ≡ j = omega arith in ap (slice_index u) e
index_after (suc i) j u = let e : suc i + j ≡ suc (i + j) = omega arith in ap (slice_index (replicate (suc i) 0 ++ u)) e ∙ index_after i j u

index_before : (i p : ℕ) (u : List ℕ) → p < i → slice_index (replicate i 0 ++ u) p ≡ 0
index_before zero p u l = absurd (omega (arith, l))
index_before (suc i) zero u l = refl
index_before (suc i) (suc p) u l = index_before i p u (omega (arith, l))

shifted_after : (g : List ℕ) (n i j : ℕ) → slice_index (shifted g n i) (i + j) ≡ slice_index g j
shifted_after g n i j = ap (λ u. slice_index u (i + j)) (shifted_is g n i) ∙ index_after i j (g ++ replicate (n - (i + length g)) 0) ∙ followed g (n - (i + length g)) j

shifted_before : (g : List ℕ) (n i p : ℕ) → p < i → slice_index (shifted g n i) p ≡ 0
shifted_before g n i p l = ap (λ u. slice_index u p) (shifted_is g n i) ∙ index_before i p (g ++ replicate (n - (i + length g)) 0) l

fits_shifted : (f : FieldName) (g : List ℕ) (n i : ℕ) → Fits f g → Fits f (shifted g n i)
fits_shifted f g n i h p l =
    ⊎_elim
    (λ b. rw (shifted_before g n i p b) (zero_inside f))
    (λ b.
    let e : p ≡ i + (p - i) = omega (arith, b) in
    subst (λ k. slice_index (shifted g n i) k < size f) (sym e) (rw (shifted_after g n i (p - i)) (fits_symbol f g h (p - i))))
    (cases_lt p i)

unfoldable rows_from : List ℕ → ℕ → ℕ → ℕ → List (List ℕ)
rows_from g n i k = map (shifted g n) (exponents_from i k)

from_first : (g : List ℕ) (n k : ℕ) → shifts g n k ≡ rows_from g n 0 k
unfolding shifts rows_from
from_first g n k = ap (map (shifted g n)) (below_exponents k)

from_words : (f : FieldName) (g : List ℕ) (n i k : ℕ) → Fits f g → i + k + length g ≤ suc n → AreRows f n (rows_from g n i k)
unfolding rows_from exponents_from
from_words f g n i zero h l = λ j d b. absurd (omega (arith, b))
from_words f g n i (suc k) h l =
    All-cons (IsWord f n) (shifted g n i) (rows_from g n (suc i) k) (record { long = length_shifted g n i (omega (arith, l)); fits = fits_shifted f g n i h }) (from_words f g n (suc i) k h (omega (arith, l)))

pub shift_words : (f : FieldName) (g : List ℕ) (n k : ℕ) → Fits f g → k + length g ≤ suc n → AreRows f n (shifts g n k)
shift_words f g n k h l = subst (AreRows f n) (sym (from_first g n k)) (from_words f g n 0 k h (omega (arith, l)))

-- ---- combinations of the rows

dot_none : (f : FieldName) (us : List ℕ) → word_dot f [] us ≡ 0
unfolding word_dot
dot_none f us = refl

from_more : (g : List ℕ) (n i k p : ℕ) → column (rows_from g n i (suc k)) p ≡ slice_index (shifted g n i) p ∷ column (rows_from g n (suc i) k) p
unfolding rows_from exponents_from
from_more g n i k p = refl

no_product : (f : FieldName) (g : List ℕ) (j : ℕ) → slice_index (poly_product f [] g) j ≡ 0
unfolding poly_product
no_product f g j = get_or_past {X = ℕ} [] j 0 (omega arith)

-- the rows after row p are 0 at p
dot_later : (f : FieldName) (g : List ℕ) (n i k p : ℕ) (cs : List ℕ) → length cs ≡ k → p < i → word_dot f cs (column (rows_from g n i k) p) ≡ 0
dot_later f g n i k p [] e l = dot_none f (column (rows_from g n i k) p)
dot_later f g n i zero p (c ∷ cs) e l = absurd (omega (arith, e))
dot_later f g n i (suc k) p (c ∷ cs) e l =
    ap (word_dot f (c ∷ cs)) (from_more g n i k p ∙ ap (λ a. a ∷ column (rows_from g n (suc i) k) p) (shifted_before g n i p l))
    ∙ dot_cons f c 0 cs (column (rows_from g n (suc i) k) p) ∙ cc (mul_zero f c, dot_later f g n (suc i) k p cs (omega (arith, e)) (omega (arith, l)), zero_add f 0 (zero_inside f))

dot_shifts : (f : FieldName) (g : List ℕ) (n i k j : ℕ) (cs : List ℕ) → length cs ≡ k → word_dot f cs (column (rows_from g n i k) (i + j)) ≡ slice_index (poly_product f cs g) j
dot_shifts f g n i k j [] e = dot_none f (column (rows_from g n i k) (i + j)) ∙ sym (no_product f g j)
dot_shifts f g n i zero j (c ∷ cs) e = absurd (omega (arith, e))
dot_shifts f g n i (suc k) zero (c ∷ cs) e =
    let D = word_dot f cs (column (rows_from g n (suc i) k) (i + 0)) in
    let z : D ≡ 0 = dot_later f g n (suc i) k (i + 0) cs (omega (arith, e)) (omega arith) in
    ap (word_dot f (c ∷ cs)) (from_more g n i k (i + 0) ∙ ap (λ a. a ∷ column (rows_from g n (suc i) k) (i + 0)) (shifted_after g n i 0))
    ∙ dot_cons f c (slice_index g 0) cs (column (rows_from g n (suc i) k) (i + 0))
    ∙ ap (add f (mul f c (slice_index g 0))) z ∙ add_zero f (mul f c (slice_index g 0)) (mul_inside f c (slice_index g 0)) ∙ sym (index_product_zero f c cs g)
dot_shifts f g n i (suc k) (suc j) (c ∷ cs) e =
    let p = i + suc j in
    let d : p ≡ suc i + j = omega arith in
    let rest : word_dot f cs (column (rows_from g n (suc i) k) p) ≡ slice_index (poly_product f cs g) j = ap (λ q. word_dot f cs (column (rows_from g n (suc i) k) q)) d ∙ dot_shifts f g n (suc i) k j cs (omega (arith, e)) in
    ap (word_dot f (c ∷ cs)) (from_more g n i k p ∙ ap (λ a. a ∷ column (rows_from g n (suc i) k) p) (shifted_after g n i (suc j)))
    ∙ dot_cons f c (slice_index g (suc j)) cs (column (rows_from g n (suc i) k) p)
    ∙ ap (add f (mul f c (slice_index g (suc j)))) rest ∙ sym (index_product_suc f c cs g j)

pub combine_shifts : (f : FieldName) (g : List ℕ) (n k : ℕ) (cs : List ℕ) → Fits f g → k + length g ≤ suc n → length cs ≡ k → SamePolynomial (combine f n cs (shifts g n k)) (poly_product f cs g)
combine_shifts f g n k cs h l e p =
    let z : p ≡ 0 + p = omega arith in
    index_combine f n cs (shifts g n k) p (shift_words f g n k h l) ∙ ap (λ rows. word_dot f cs (column rows p)) (from_first g n k) ∙ ap (λ q. word_dot f cs (column (rows_from g n 0 k) q)) z ∙ dot_shifts f g n 0 k p cs e

length_shifts : (g : List ℕ) (n k : ℕ) → length (shifts g n k) ≡ k
unfolding shifts
length_shifts g n k = length-map (below k) (shifted g n) ∙ length_below k

room : (g : List ℕ) (n : ℕ) → 0 < length g → length g ≤ n + 1 → shift_count g n + length g ≤ suc n
room g n l b = omega (arith, l, b)

pub span_shifts : (f : FieldName) (g : List ℕ) (n : ℕ) (w : List ℕ) → IsPolynomial f g → 0 < length g → length g ≤ n + 1 → InSpan f n (shifts g n (shift_count g n)) w ↔ (IsWord f n w × IsPlainMultiple f g w)
span_shifts f g n w p l b =
    let k = shift_count g n in
    let rows = shifts g n k in
    let r = room g n l b in
    let words : AreRows f n rows = shift_words f g n k p.fits r in
    let m : length rows ≡ k = length_shifts g n k in (
      (λ s.
          let (cs, c, e) = combination_of_word f n rows w s in
          (span_word f n rows w words s, (cs, c.fits, (λ i. ap (λ u. slice_index u i) e ∙ combine_shifts f g n k cs p.fits r (c.long ∙ m) i)))),
      (λ s.
          let (a, (t, h, e)) = s in
          let z : (i : ℕ) → k ≤ i → slice_index t i ≡ 0 = low_factor f t g k h p l (λ i c. sym (e i) ∙ get_or_past w i 0 (omega (arith, a.long, c, l, b))) in
          let cs = listed k t in
          let c : IsWord f k cs = listed_word f k t h in
          let same : w ≡ combine f n cs rows = same_words w (combine f n cs rows) (a.long ∙ sym (length_combine f n cs rows words)) (λ i. e i ∙ sym (same_product f cs t g i (listed_same k t z)) ∙ sym (combine_shifts f g n k cs p.fits r c.long i)) in
          subst (InSpan f n rows) (sym same) (word_of_combination f n rows cs (subst (λ j. IsWord f j cs) (sym m) c))),
    )

-- ---- multiples modulo x^n - 1

back_to_word : (f : FieldName) (a b : ℕ) → b < size f → add f (add f a b) (neg f a) ≡ b
back_to_word f a b l = cc (add_comm f a b, add_assoc f b a (neg f a), add_neg f a, add_zero f b l)

nothing_first : (f : FieldName) (n : ℕ) (w : List ℕ) → poly_sum f (poly_product f [] (x_power_minus_one f n)) w ≡ w
unfolding poly_sum poly_product
nothing_first f n w = refl

nothing_fits : (f : FieldName) → IsPolynomial f []
nothing_fits f = record { fits = λ i l. zero_inside f; leads = λ l. absurd (omega (arith, l)) }

pub multiples_of_divisor : (f : FieldName) (n : ℕ) (g w : List ℕ) → 1 ≤ n → IsPolynomial f g → 0 < length g → Divides f g (x_power_minus_one f n) → IsWord f n w → IsMultipleOf f n g w ↔ IsPlainMultiple f g w
multiples_of_divisor f n g w l p b (q, qp, d) word =
    let X = x_power_minus_one f n in (
      (λ s.
          let (a, c, r) = s in
          let (h, hp, e) = r.multiple in
          let u = poly_product f h q in
          let minus = poly_scale f (neg f 1) u in (
            poly_sum f a minus,
            fits_sum f a minus c.fits (fits_multiple f (neg f 1) u),
            (λ i.
                let P = slice_index (poly_product f h X) i in
                let W = slice_index w i in
                let first : slice_index (poly_product f a g) i ≡ add f P W = product_commutes f a g i ∙ e i ∙ index_sum f (poly_product f h X) w i (fits_product f h X) word.fits in
                let second : slice_index (poly_product f u g) i ≡ P = product_associates f h q g i ∙ sym (product_same f h X (poly_product f q g) i d) in
                sym (cc (sum_product f a minus g i, multiple_product f (neg f 1) u g i, first, second, neg_one_mul f P, back_to_word f P W (fits_symbol f w word.fits i)))),
          )),
      (λ s.
          let (t, h, e) = s in
          let z : (i : ℕ) → n ≤ i → slice_index t i ≡ 0 = low_factor f t g n h p b (λ i c. sym (e i) ∙ get_or_past w i 0 (omega (arith, word.long, c))) in
          let a = listed n t in (
            a,
            listed_word f n t h,
            record {
              word = word;
              multiple = ([], nothing_fits f, λ i. product_commutes f g a i ∙ same_product f a t g i (listed_same n t z) ∙ sym (e i) ∙ ap (λ u. slice_index u i) (sym (nothing_first f n w)));
            },
          )),
    )

with_zeros : (f : FieldName) (u : List ℕ) (n i : ℕ) → Fits f u → slice_index (poly_sum f u (zero_word n)) i ≡ slice_index u i
with_zeros f u n i h =
    index_sum f u (zero_word n) i h (IsWord_zero f n).fits ∙ ap (add f (slice_index u i)) (index_zero_word n i) ∙ add_zero f (slice_index u i) (fits_symbol f u h i)

pub checked_by_cofactor : (f : FieldName) (n : ℕ) (g x w : List ℕ) → IsPolynomial f x → 0 < length x → Fits f w → SamePolynomial (x_power_minus_one f n) (poly_product f g x) → IsPlainMultiple f g w ↔ IsCheckedBy f n x w
checked_by_cofactor f n g x w p b fits d =
    let X = x_power_minus_one f n in (
      (λ s.
          let (t, h, e) = s in
          let (u, k) = trimmed_exists f t h in
          record {
            word = IsWord_zero f n;
            multiple = (u, k.polynomial, λ i. same_product f w (poly_product f t g) x i e ∙ product_associates f t g x i ∙ sym (product_same f t X (poly_product f g x) i d) ∙ same_product f t u X i k.same ∙ sym (with_zeros f (poly_product f u X) n i (fits_product f u X)));
          }),
      (λ s.
          let (h, k, e) = s.multiple in
          let same : SamePolynomial (poly_product f w x) (poly_product f (poly_product f h g) x) = λ i. e i ∙ with_zeros f (poly_product f h X) n i (fits_product f h X) ∙ product_same f h X (poly_product f g x) i d ∙ sym (product_associates f h g x i) in
          (h, k.fits, same_factor f w (poly_product f h g) x fits (fits_product f h g) p b same)),
    )

-- ---- codes

pub divisor_length : (f : FieldName) (n : ℕ) (g : List ℕ) → 1 ≤ n → IsPolynomial f g → Divides f g (x_power_minus_one f n) → (0 < length g) × (length g ≤ n + 1)
divisor_length f n g l p (q, qp, d) =
    let (a, b, e) = divisor_degrees f n q g l qp p d in
    (b, omega (arith, e, a))

pub generated_code : (f : FieldName) (n : ℕ) (g : List ℕ) (rows : List (List ℕ)) (C : Matrix) → 1 ≤ n → IsPolynomial f g → Divides f g (x_power_minus_one f n) → rows ≡ shifts g n (shift_count g n) → IsCode f n (GeneratedBy f n rows) C → IsCode f n (IsMultipleOf f n g) C
generated_code f n g rows C l p d e c =
    let (a, b) = divisor_length f n g l p d in
    same_code f n (GeneratedBy f n rows) (IsMultipleOf f n g) C (λ w k.
    let s = span_shifts f g n w p a b in
    let m = multiples_of_divisor f n g w l p a d k in
    ((λ x. m.1 (s.0 (subst (λ r. InSpan f n r w) e x)).1), (λ x. subst (λ r. InSpan f n r w) (sym e) (s.1 (k, m.0 x))))) c

pub generated_rows : (f : FieldName) (n : ℕ) (g : List ℕ) (rows : List (List ℕ)) → 1 ≤ n → IsPolynomial f g → Divides f g (x_power_minus_one f n) → rows ≡ shifts g n (shift_count g n) → AreRows f n rows
generated_rows f n g rows l p d e =
    let (a, b) = divisor_length f n g l p d in
    subst (AreRows f n) (sym e) (shift_words f g n (shift_count g n) p.fits (room g n a b))

pub cofactor_divides : (f : FieldName) (n : ℕ) (g x : List ℕ) → IsPolynomial f x → SamePolynomial (x_power_minus_one f n) (poly_product f g x) → Divides f g (x_power_minus_one f n)
cofactor_divides f n g x p d = (x, p, λ i. d i ∙ product_commutes f g x i)

pub divisor_nonzero : (f : FieldName) (n : ℕ) (g : List ℕ) → 1 ≤ n → IsPolynomial f g → Divides f g (x_power_minus_one f n) → 0 < length g
divisor_nonzero f n g l p d = (divisor_length f n g l p d).0

pub divisor_low : (f : FieldName) (n : ℕ) (g : List ℕ) → 1 ≤ n → IsPolynomial f g → Divides f g (x_power_minus_one f n) → length g ≤ n + 1
divisor_low f n g l p d = (divisor_length f n g l p d).1

pub cofactor_told : (f g : FieldName) (n : ℕ) (x y p q r : List ℕ) → g ≡ f → y ≡ x → IsPolynomial f x → Divides f x (x_power_minus_one f n) → p ≡ x_power_minus_one f n → IsDivision g p y q r → SamePolynomial (x_power_minus_one f n) (poly_product f q x)
cofactor_told f g n x y p q r a b h d e t =
    let s : IsDivision f (x_power_minus_one f n) x q r = subst (λ k. IsDivision k (x_power_minus_one f n) x q r) a (subst (λ u. IsDivision g (x_power_minus_one f n) u q r) b (subst (λ u. IsDivision g u y q r) e t)) in
    let z : r ≡ [] = (divides_exactly f (x_power_minus_one f n) x q r h s).1 d in
    λ i. s.whole i ∙ index_sum f (poly_product f q x) r i (fits_product f q x) s.remainder.fits ∙ ap (λ u. add f (slice_index (poly_product f q x) i) (slice_index u i)) z
    ∙ ap (add f (slice_index (poly_product f q x) i)) (get_or_past {X = ℕ} [] i 0 (omega arith)) ∙ add_zero f (slice_index (poly_product f q x) i) (product_inside f q x i)

pub same_cyclic_code : (f : FieldName) (n : ℕ) (g x : List ℕ) (C : Matrix) → 1 ≤ n → IsPolynomial f g → IsPolynomial f x → SamePolynomial (x_power_minus_one f n) (poly_product f g x) → IsCode f n (IsMultipleOf f n g) C ↔ IsCode f n (IsCheckedBy f n x) C
same_cyclic_code f n g x C l p q d =
    let (a, b, e) = divisor_degrees f n g x l p q d in
    let same : (w : List ℕ) → IsWord f n w → IsMultipleOf f n g w ↔ IsCheckedBy f n x w = λ w k.
    let m = multiples_of_divisor f n g w l p a (cofactor_divides f n g x q d) k in
    let c = checked_by_cofactor f n g x w q b k.fits d in
    ((λ s. c.0 (m.0 s)), (λ s. m.1 (c.1 s))) in
    ((λ c. same_code f n (IsMultipleOf f n g) (IsCheckedBy f n x) C same c), (λ c. same_code f n (IsCheckedBy f n x) (IsMultipleOf f n g) C (λ w k. ((same w k).1, (same w k).0)) c))

pub checked_code : (f h : FieldName) (n : ℕ) (q g x : List ℕ) (C : Matrix) → 1 ≤ n → h ≡ f → IsPolynomial h q → IsPolynomial f x → g ≡ q → SamePolynomial (x_power_minus_one f n) (poly_product f q x) → IsCode f n (IsMultipleOf f n g) C → IsCode f n (IsCheckedBy f n x) C
checked_code f h n q g x C l a b p e s c =
    let t : SamePolynomial (x_power_minus_one f n) (poly_product f g x) = subst (λ u. SamePolynomial (x_power_minus_one f n) (poly_product f u x)) (sym e) s in
    (same_cyclic_code f n g x C l (subst (IsPolynomial f) (sym e) (subst (λ k. IsPolynomial k q) a b)) p t).0 c

-- ---- dimensions

shifts_independent : (f : FieldName) (g : List ℕ) (n k : ℕ) → IsPolynomial f g → 0 < length g → k + length g ≤ suc n → AreIndependent f n (shifts g n k)
shifts_independent f g n k p l r cs c z =
    let m : length (shifts g n k) ≡ k = length_shifts g n k in
    same_words cs (zero_word (length (shifts g n k))) (c.long ∙ sym (length-replicate {A = ℕ} (length (shifts g n k)) 0)) (λ i.
    low_factor f cs g 0 c.fits p l (λ j b. sym (combine_shifts f g n k cs p.fits r (c.long ∙ m) j) ∙ ap (λ u. slice_index u j) z ∙ index_zero_word n j) i (omega arith) ∙ sym (index_zero_word (length (shifts g n k)) i))

pub generator_dimension : (f : FieldName) (n : ℕ) (g : List ℕ) (C : Matrix) → 1 ≤ n → IsPolynomial f g → Divides f g (x_power_minus_one f n) → IsCode f n (IsMultipleOf f n g) C → length C.rows ≡ n - (length g - 1)
generator_dimension f n g C l p d c =
    let (a, b) = divisor_length f n g l p d in
    let k = shift_count g n in
    let rows = shifts g n k in
    let r = room g n a b in
    let words : AreRows f n rows = shift_words f g n k p.fits r in
    let G = c.generator in
    let same : SameSpan f n rows C.rows = λ w.
    let s = span_shifts f g n w p a b in (
      (λ x. let t = s.0 x in (G.members w).1 (t.0, (multiples_of_divisor f n g w l p a d t.0).1 t.1)),
      (λ x. let t = (G.members w).0 x in s.1 (t.0, (multiples_of_divisor f n g w l p a d t.0).0 t.1)),
    ) in
    let e : length rows ≡ length C.rows = dimension_unique f n rows C.rows words G.words (shifts_independent f g n k p a r) (reduced_independent f n C.rows G.words G.reduced) same in
    omega (arith, e, length_shifts g n k, a, b)

pub check_dimension : (f : FieldName) (n : ℕ) (x : List ℕ) (C : Matrix) → 1 ≤ n → IsPolynomial f x → Divides f x (x_power_minus_one f n) → IsCode f n (IsCheckedBy f n x) C → length C.rows ≡ length x - 1
check_dimension f n x C l p (g, q, d) c =
    let (a, b, e) = divisor_degrees f n g x l q p d in
    let m : length C.rows ≡ n - (length g - 1) = generator_dimension f n g C l q (cofactor_divides f n g x p d) ((same_cyclic_code f n g x C l q p d).1 c) in
    omega (arith, m, a, b, e)

pub ruleset shifts_laws = (shifts_none, shifts_more)
