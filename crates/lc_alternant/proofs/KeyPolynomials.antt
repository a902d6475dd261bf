-- Key polynomials from kernels, and how few zeros they have.
--   key_row              the dot of a key row and a polynomial's coefficients is the recurrence
--   recurrence_same      equal polynomials have the same recurrences
--   length_trimmed       a list has no fewer coefficients than its polynomial
--   words_of_keys        key rows are words
--   key_made             the polynomial of the first row of their kernel is a key polynomial
--   zero_chosen          at the elements that are chosen by the values of h, h is 0
--   few_chosen           so as few points are chosen by the values of a key polynomial as it allows errors
use Rattle.std.proofs.Common.{◌≡◌, ℕ, zero, suc, ◌+◌, ◌<◌, ◌≤◌, List, [], ◌∷◌, length, map, slice_index, slice_index_or, Contains, refl, sym, ap, subst, ◌∙◌, ⊎_elim, arith}
use Rattle.std.proofs.lemmas.Bool.{cases_eq}
use Rattle.std.proofs.lemmas.List.{get_or_default}
use Rattle.std.proofs.lemmas.List.Elements.{All-from_get_or}
use Rattle.lc_algebra.specs.declared.FieldName.{FieldName}
use Rattle.lc_algebra.specs.Field.{size}
use Rattle.lc_algebra.specs.Polynomial.{value_at, put_on, trimmed, SamePolynomial, IsPolynomial}
use Rattle.lc_algebra.specs.Word.{Fits, IsWord, word_dot}
use Rattle.lc_algebra.specs.Span.{InSpan}
use Rattle.lc_algebra.specs.Matrix.{AreRows, IsReducedGenerator, IsOrthogonal}
use Rattle.lc_algebra.proofs.FieldLaws.{zero_inside, zero_add, mul_zero}
use Rattle.lc_algebra.proofs.WordLaws.{fits_symbol}
use Rattle.lc_algebra.proofs.SpanLaws.{span_row, contains_cases}
use Rattle.lc_algebra.proofs.DimensionLaws.{AreDistinct, pairs_from_distinct}
use Rattle.lc_poly.proofs.TrimLaws.{trimmed_coefficients, trimmed_polynomial}
use Rattle.lc_poly.proofs.ZeroLaws.{zeros_at_most}
use Rattle.lc_alternant.specs.Key.{recurrence, IsKeyRow, AreKeyRows, IsKey, AreKeyValues}
use Rattle.lc_alternant.specs.Chosen.{chosen}
use Rattle.lc_alternant.proofs.ChosenLaws.{chosen_taken, chosen_left, chosen_within, distinct_chosen}

row_recurrence : (K : FieldName) (s row u : List ℕ) (j : ℕ) → length row ≡ length u → ((l : ℕ) → l < length u → slice_index row l ≡ slice_index s (j + l)) → word_dot K row u ≡ recurrence K s u j
unfolding word_dot recurrence
row_recurrence K s [] [] j e h = refl
row_recurrence K s [] (c ∷ u) j e h = absurd (omega (arith, e))
row_recurrence K s (a ∷ row) [] j e h = absurd (omega (arith, e))
row_recurrence K s (a ∷ row) (c ∷ u) j e h =
    let z : j + 0 ≡ j = omega arith in
    let first : a ≡ slice_index s j = h 0 (omega arith) ∙ ap (slice_index s) z in
    let rest = row_recurrence K s row u (suc j) (omega (arith, e)) (λ l m. let n : j + suc l ≡ suc j + l = omega arith in h (suc l) (omega (arith, m)) ∙ ap (slice_index s) n) in
    cc (first, rest)

key_row : (K : FieldName) (t j : ℕ) (s row u : List ℕ) → IsKeyRow t j s row → length u ≡ t + 1 → word_dot K row u ≡ recurrence K s u j
key_row K t j s row u h e = row_recurrence K s row u j (h.long ∙ sym e) (λ l m. h.symbols l (omega (arith, m, e)))

recurrence_zeros : (K : FieldName) (s u : List ℕ) (j : ℕ) → ((i : ℕ) → slice_index u i ≡ 0) → recurrence K s u j ≡ 0
unfolding recurrence
recurrence_zeros K s [] j h = refl
recurrence_zeros K s (c ∷ u) j h =
    let z : c ≡ 0 = h 0 in
    cc (z, recurrence_zeros K s u (suc j) (λ i. h (suc i)), mul_zero K (slice_index s j), zero_add K 0 (zero_inside K))

recurrence_same : (K : FieldName) (s u v : List ℕ) (j : ℕ) → SamePolynomial u v → recurrence K s u j ≡ recurrence K s v j
unfolding recurrence
recurrence_same K s [] v j h = sym (recurrence_zeros K s v j (λ i. sym (h i)))
recurrence_same K s (a ∷ u) [] j h = recurrence_zeros K s (a ∷ u) j h
recurrence_same K s (a ∷ u) (b ∷ v) j h =
    let z : a ≡ b = h 0 in
    cc (z, recurrence_same K s u v (suc j) (λ i. h (suc i)))

length_put_on : (a : ℕ) (v : List ℕ) → length (put_on a v) ≤ suc (length v)
unfolding put_on
length_put_on zero [] = omega arith
length_put_on (suc a) [] = omega arith
length_put_on zero (b ∷ v) = omega arith
length_put_on (suc a) (b ∷ v) = omega arith

length_trimmed : (u : List ℕ) → length (trimmed u) ≤ length u
unfolding trimmed
length_trimmed [] = omega arith
length_trimmed (a ∷ u) = omega (arith, length_put_on a (trimmed u), length_trimmed u)

pub words_of_keys : (K : FieldName) (t : ℕ) (s : List ℕ) (rows : List (List ℕ)) → Fits K s → AreKeyRows t t s rows → AreRows K (t + 1) rows
words_of_keys K t s rows f h =
    All-from_get_or (IsWord K (t + 1)) rows [] (λ j l.
    let r = h.each j (omega (arith, l, h.count)) in
    record { long = r.long; fits = λ i m. subst (λ a. a < size K) (sym (r.symbols i (omega (arith, m, r.long)))) (fits_symbol K s f (j + i)) })

pub key_made : (K : FieldName) (t : ℕ) (s p : List ℕ) (rows k : List (List ℕ)) → AreKeyRows t t s rows → IsReducedGenerator K (t + 1) (IsOrthogonal K rows) k → 0 < length k → p ≡ trimmed (slice_index_or k 0 []) → IsKey K t s p
key_made K t s p rows k h g l e =
    let u = slice_index_or k 0 [] in
    let inside : InSpan K (t + 1) k u = span_row K (t + 1) k g.words 0 [] l in
    let (w, orthogonal) = (g.members u).0 inside in
    let (ps, pivots) = g.reduced.pivots in
    let lead : slice_index u (slice_index ps 0) ≡ 1 = pivots.leads 0 l in
    let same : SamePolynomial u p = subst (SamePolynomial u) (sym e) (trimmed_coefficients u) in
    record {
      polynomial = subst (IsPolynomial K) (sym e) (trimmed_polynomial K u w.fits);
      nonzero = λ n. absurd (omega (arith, lead, same (slice_index ps 0), ap (λ v. slice_index v (slice_index ps 0)) n));
      at_most = omega (arith, length_trimmed u, ap length e, w.long);
      recurs = λ j m.
          sym (recurrence_same K s u p j same) ∙ sym (key_row K t j s (slice_index_or rows j []) u (h.each j m) w.long) ∙ orthogonal j [] (omega (arith, m, h.count));
    }

zero_chosen : (h : ℕ → ℕ) (xs : List ℕ) (a : ℕ) → Contains (chosen (map h xs) xs) a → h a ≡ 0
unfolding chosen
zero_chosen h [] a c = absurd (omega (arith, c.1))
zero_chosen h (x ∷ xs) a c =
    ⊎_elim
    (λ (e : h x ≡ 0).
    let d : Contains (x ∷ chosen (map h xs) xs) a = subst (λ u. Contains u a) (chosen_taken (h x) x (map h xs) xs e) c in
    ⊎_elim (λ q. ap h (sym q) ∙ e) (λ t. zero_chosen h xs a t) (contains_cases x a (chosen (map h xs) xs) d))
    (λ n. zero_chosen h xs a (subst (λ u. Contains u a) (chosen_left (h x) x (map h xs) xs n) c))
    (cases_eq (h x) 0)

contained_inside : (K : FieldName) (xs : List ℕ) (a : ℕ) → Fits K xs → Contains xs a → a < size K
contained_inside K xs a h (i, l, e) = subst (λ x. x < size K) (get_or_default xs i 0 a l ∙ e) (h i l)

pub few_chosen : (K : FieldName) (t : ℕ) (s xs vs : List ℕ) → Fits K xs → AreDistinct xs → AreKeyValues K t s xs vs → length (chosen vs xs) ≤ t
few_chosen K t s xs vs h d k =
    let (u, key, e) = k.polynomial in
    let points = chosen (map (value_at K u) xs) xs in
    let l : length points < length u = zeros_at_most K u points key.polynomial key.nonzero (pairs_from_distinct points (distinct_chosen (map (value_at K u) xs) xs d))
    (λ a c. (contained_inside K xs a h (chosen_within (map (value_at K u) xs) xs a c), zero_chosen (value_at K u) xs a c)) in
    omega (arith, l, key.at_most, ap (λ w. length (chosen w xs)) e)
