-- Words that are in a code and words that aren't, evaluated: what tells each definition from the nearest wrong one.
--   same_list u v, same_from_test, absent      a word that a list lacks
--   reed_solomon_outside, bch_outside, goppa_outside      words with one zero fewer than the code's
--   dual_inside, dual_outside             the dual of a code of length 3
--   intersection_inside, intersection_outside
--   extended_outside                      the sum appended in place of its negative
--   punctured_inside, punctured_outside   another coordinate left out
--   shortened_outside                     a word of the punctured code that no word with zeros gives
--   even_outside                          a word of odd weight
--   direct_sum_outside, uuv_inside, uuv_outside      (u | v) and (u | u + v)
--   concatenated_outside                  two symbols that aren't replaced alike
--   product_inside, no_single_product, product_outside       a sum of products that isn't one; a word that is no such sum
use Rattle.std.proofs.Common.{◌+◌, ap, Some, ◌≡◌, ℕ, zero, suc, ◌<◌, Bool, true, false, not, nat_lt, ◌==◌, ◌&&◌, List, [], ◌∷◌, ◌++◌, length, map, flat_map, slice_index, slice_index_or, All, Contains, refl, sym, subst, ◌∙◌, arith, true≢false}
use Rattle.std.specs.List.{list_any, list_all}
use Rattle.std.proofs.lemmas.List.Sums.{AllPass-from_list_all}
use Rattle.std.proofs.lemmas.List.{append-nil, length-append, get_or_append_left, get_or-append-add}
use Rattle.lc_constructions.proofs.ExpansionLaws.{expansion_once, passes}
use Rattle.std.proofs.lemmas.Bool.{and_parts, eqb-true, eq-eqb, ltb-true}
use Rattle.lc_algebra.specs.declared.FieldName.TheVariants.{Gf2, Gf3, Gf4, Gf5, Gf8, Gf9, Gf16}
use Rattle.lc_algebra.specs.Residue.{digits, number, plus, minus, times, top, up, times_x, product}
use Rattle.lc_algebra.specs.Field.{is_symbol, shape, shape_of, size, coefficients, add, neg, mul, pow}
use Rattle.lc_algebra.specs.Polynomial.{value_at}
use Rattle.lc_algebra.specs.Embedding.{first_from, first_that, root, embed}
use Rattle.lc_algebra.specs.Word.{IsWord, word_sum, scale, word_dot}
use Rattle.lc_algebra.specs.Span.{combine, below, words}
use Rattle.lc_algebra.specs.Matrix.{Matrix, AreRows, IsOrthogonal}
use Rattle.lc_algebra.proofs.SpanLaws.{dot_span, word_of_member, member_of_word, map_contains, flat_map_contains}
use Rattle.lc_algebra.proofs.SpanSearch.{contains_any}
use Rattle.lc_constructions.specs.Code.{InCode}
use Rattle.lc_constructions.specs.Cyclic.{root_of_unity, value_in, exponents_from, IsBchWord, IsReedSolomonWord}
use Rattle.lc_constructions.specs.Alternant.{inverse, check_row, goppa_multipliers, goppa_sum, IsGoppaWord}
use Rattle.lc_constructions.specs.Concatenated.{IsReplaced, IsReplacedWord, InConcatenated}
use Rattle.lc_constructions.specs.Refusals.{degree_over}
use Rattle.lc_constructions.specs.Combined.{InDual, symbol_sum, InExtended, without_from, without, InPunctured, InShortened, InEvenWeight, InDirectSum, InUuv, tensor, InDirectProduct, InIntersection}

-- ---- a word that a list lacks

unfoldable pub same_list : List ℕ → List ℕ → Bool
same_list [] [] = true
same_list (a ∷ u) (b ∷ v) = (a == b) && same_list u v
same_list _ _ = false

same_itself : (w : List ℕ) → same_list w w ≡ true
unfolding same_list
same_itself [] = refl
same_itself (a ∷ w) = rw (eq-eqb a a refl) (same_itself w)

pub same_from_test : (u v : List ℕ) → same_list u v ≡ true → u ≡ v
unfolding same_list
same_from_test [] [] h = refl
same_from_test [] (b ∷ v) h = absurd (true≢false (sym h))
same_from_test (a ∷ u) [] h = absurd (true≢false (sym h))
same_from_test (a ∷ u) (b ∷ v) h = let t = and_parts (a == b) (same_list u v) h in cc (eqb-true a b t.0, same_from_test u v t.1)

absent : (w : List ℕ) (ws : List (List ℕ)) → list_any (same_list w) ws ≡ false → Contains ws w → ⊥
absent w ws h c = true≢false (sym (contains_any (same_list w) ws w c (same_itself w)) ∙ h)

abbrev listed : Matrix → List (List ℕ)
listed C = words C.field C.columns C.rows

in_list : (C : Matrix) (w : List ℕ) → InCode C w → Contains (listed C) w
in_list C w h = member_of_word C.field C.columns C.rows w h

-- ---- zeros: one fewer than the code asks for

-- 3 + x is 0 at 2, and 2 at 4
pub reed_solomon_outside : IsReedSolomonWord Gf5 3 (3 ∷ 1 ∷ 0 ∷ 0 ∷ []) → ⊥
unfolding digits number plus minus times top up times_x product shape shape_of size coefficients add mul pow value_at first_from first_that root embed value_in exponents_from
reed_solomon_outside h = let t : ◌≡◌ {A = ℕ} 2 0 = h 1 0 (omega arith) in omega (arith, t)

-- 1 + x is 0 at 1, and 9 at an element of order 5 in the field of 16 elements
pub bch_outside : IsBchWord Gf4 Gf16 5 0 3 (1 ∷ 1 ∷ 0 ∷ 0 ∷ 0 ∷ []) → ⊥
unfolding digits number plus minus times top up times_x product shape shape_of size coefficients add mul pow value_at first_from first_that root embed value_in exponents_from root_of_unity
bch_outside h = let t : ◌≡◌ {A = ℕ} 9 0 = h 1 0 (omega arith) in omega (arith, t)

pub goppa_outside : IsGoppaWord Gf2 Gf8 (1 ∷ 1 ∷ 1 ∷ []) (0 ∷ 1 ∷ 2 ∷ 3 ∷ 4 ∷ 5 ∷ 6 ∷ 7 ∷ []) (0 ∷ 0 ∷ 0 ∷ 0 ∷ 0 ∷ 0 ∷ 1 ∷ 1 ∷ []) → ⊥
unfolding digits number plus minus times top up times_x product shape shape_of size coefficients add mul pow value_at first_from first_that root embed word_dot inverse check_row goppa_multipliers goppa_sum
goppa_outside h = let t : ◌≡◌ {A = ℕ} 2 0 = h 1 (omega arith) in omega (arith, t)

-- ---- combined codes

abbrev plane : Matrix
plane = record { field = Gf3; columns = 3; rows = (1 ∷ 0 ∷ 2 ∷ []) ∷ (0 ∷ 1 ∷ 1 ∷ []) ∷ [] }

abbrev ones : Matrix
ones = record { field = Gf3; columns = 3; rows = (1 ∷ 1 ∷ 1 ∷ []) ∷ [] }

abbrev pairs : Matrix
pairs = record { field = Gf2; columns = 3; rows = (1 ∷ 1 ∷ 0 ∷ []) ∷ [] }

abbrev mixed : Matrix
mixed = record { field = Gf2; columns = 3; rows = (1 ∷ 0 ∷ 0 ∷ []) ∷ (0 ∷ 1 ∷ 1 ∷ []) ∷ [] }

abbrev square : Matrix
square = record { field = Gf2; columns = 2; rows = (1 ∷ 0 ∷ []) ∷ (0 ∷ 1 ∷ []) ∷ [] }

abbrev twins : Matrix
twins = record { field = Gf2; columns = 2; rows = (1 ∷ 1 ∷ []) ∷ [] }

dual_test : list_all (λ v. word_dot Gf2 v (1 ∷ 1 ∷ 1 ∷ []) == 0) (listed pairs) ≡ true
unfolding digits number plus minus times top up times_x product shape shape_of size coefficients add mul word_sum scale word_dot below words
dual_test = refl

pub dual_inside : InDual pairs (1 ∷ 1 ∷ 1 ∷ [])
dual_inside v h = eqb-true (word_dot Gf2 v (1 ∷ 1 ∷ 1 ∷ [])) 0 (passes (λ v. word_dot Gf2 v (1 ∷ 1 ∷ 1 ∷ []) == 0) (listed pairs) v dual_test (in_list pairs v h))

pair_word : InCode pairs (1 ∷ 1 ∷ 0 ∷ [])
unfolding digits number plus minus times top up times_x product shape shape_of size coefficients add mul word_sum scale below words
pair_word = word_of_member Gf2 3 ((1 ∷ 1 ∷ 0 ∷ []) ∷ []) (1 ∷ 1 ∷ 0 ∷ []) (1, omega arith, refl)

pub dual_outside : InDual pairs (1 ∷ 0 ∷ 0 ∷ []) → ⊥
unfolding digits number plus minus times top up times_x product shape shape_of size coefficients add mul word_dot
dual_outside h = let t : ◌≡◌ {A = ℕ} 1 0 = h (1 ∷ 1 ∷ 0 ∷ []) pair_word in omega (arith, t)

-- the word (1, 0, 0) is in the first code and not in the second one, and (1, 1, 1) is in both
abbrev repeated : Matrix
repeated = record { field = Gf2; columns = 3; rows = (1 ∷ 1 ∷ 1 ∷ []) ∷ [] }

pub intersection_inside : InIntersection mixed repeated (1 ∷ 1 ∷ 1 ∷ [])
unfolding digits number plus minus times top up times_x product shape shape_of size coefficients add mul word_sum scale below words
intersection_inside = (word_of_member Gf2 3 ((1 ∷ 0 ∷ 0 ∷ []) ∷ (0 ∷ 1 ∷ 1 ∷ []) ∷ []) (1 ∷ 1 ∷ 1 ∷ []) (3, omega arith, refl), word_of_member Gf2 3 ((1 ∷ 1 ∷ 1 ∷ []) ∷ []) (1 ∷ 1 ∷ 1 ∷ []) (1, omega arith, refl))

pub intersection_outside : InIntersection mixed repeated (1 ∷ 0 ∷ 0 ∷ []) → ⊥
unfolding digits number plus minus times top up times_x product shape shape_of size coefficients add mul word_sum scale below words same_list
intersection_outside h = absent (1 ∷ 0 ∷ 0 ∷ []) (listed repeated) refl (in_list repeated (1 ∷ 0 ∷ 0 ∷ []) h.1)

abbrev extended_words : List (List ℕ)
extended_words = map (λ u. u ++ neg Gf3 (symbol_sum Gf3 u) ∷ []) (listed plane)

-- the sum of 2, 1, 2 is 2, and its negative is 1
pub extended_outside : InExtended plane (2 ∷ 1 ∷ 2 ∷ 2 ∷ []) → ⊥
unfolding digits number plus minus times top up times_x product shape shape_of size coefficients add neg mul word_sum scale below words symbol_sum same_list
extended_outside (u, h, e) =
    absent (2 ∷ 1 ∷ 2 ∷ 2 ∷ []) extended_words refl (subst (Contains extended_words) (sym e) (map_contains (λ u. u ++ neg Gf3 (symbol_sum Gf3 u) ∷ []) (listed plane) u (in_list plane u h)))

-- without coordinate 2 the word (1, 1, 0) is (1, 1); without coordinate 0 it would be (1, 0)
pub punctured_inside : InPunctured pairs (2 ∷ []) (1 ∷ 1 ∷ [])
unfolding without_from without
punctured_inside = (1 ∷ 1 ∷ 0 ∷ [], pair_word, refl)

abbrev punctured_words : List (List ℕ)
punctured_words = map (without (2 ∷ [])) (listed pairs)

pub punctured_outside : InPunctured pairs (2 ∷ []) (1 ∷ 0 ∷ []) → ⊥
unfolding digits number plus minus times top up times_x product shape shape_of size coefficients add mul word_sum scale below words without_from without same_list
punctured_outside (u, h, e) = absent (1 ∷ 0 ∷ []) punctured_words refl (subst (Contains punctured_words) (sym e) (map_contains (without (2 ∷ [])) (listed pairs) u (in_list pairs u h)))

clash : (a b : Bool) → a ≡ true → b ≡ true → not (a && b) ≡ true → ⊥
clash true true p q h = true≢false (sym h)
clash true false p q h = true≢false (sym q)
clash false b p q h = true≢false (sym p)

abbrev shortens : List ℕ → List ℕ → Bool
shortens w u = not ((slice_index u 0 == 0) && same_list w (without (0 ∷ []) u))

-- (0, 2) is the end of (1, 0, 2), which isn't 0 at coordinate 0
shortened_test : list_all (shortens (0 ∷ 2 ∷ [])) (listed plane) ≡ true
unfolding digits number plus minus times top up times_x product shape shape_of size coefficients add mul word_sum scale below words without_from without same_list
shortened_test = refl

pub shortened_outside : InShortened plane (0 ∷ []) (0 ∷ 2 ∷ []) → ⊥
shortened_outside (u, h, z, e) =
    clash (slice_index u 0 == 0) (same_list (0 ∷ 2 ∷ []) (without (0 ∷ []) u)) (eq-eqb (slice_index u 0) 0 (z 0 0 (omega arith)))
    (subst (λ w. same_list (0 ∷ 2 ∷ []) w ≡ true) e (same_itself (0 ∷ 2 ∷ [])))
    (passes (shortens (0 ∷ 2 ∷ [])) (listed plane) u shortened_test (in_list plane u h))

pub even_outside : InEvenWeight mixed (1 ∷ 0 ∷ 0 ∷ []) → ⊥
even_outside h = let t : ◌≡◌ {A = ℕ} 1 0 = h.1 in omega (arith, t)

abbrev sums_of_words : List (List ℕ)
sums_of_words = flat_map (λ u. map (λ v. u ++ v) (listed ones)) (listed plane)

pub direct_sum_outside : InDirectSum plane ones (2 ∷ 1 ∷ 2 ∷ 0 ∷ 2 ∷ 0 ∷ []) → ⊥
unfolding digits number plus minus times top up times_x product shape shape_of size coefficients add mul word_sum scale below words same_list
direct_sum_outside (u, (v, h, k, e)) =
    absent (2 ∷ 1 ∷ 2 ∷ 0 ∷ 2 ∷ 0 ∷ []) sums_of_words refl
    (subst (Contains sums_of_words) (sym e) (flat_map_contains (λ u. map (λ v. u ++ v) (listed ones)) (listed plane) u (u ++ v) (in_list plane u h) (map_contains (λ v. u ++ v) (listed ones) v (in_list ones v k))))

pub uuv_inside : InUuv plane ones (2 ∷ 1 ∷ 2 ∷ 0 ∷ 2 ∷ 0 ∷ [])
unfolding digits number plus minus times top up times_x product shape shape_of size coefficients add mul word_sum scale below words
uuv_inside = (2 ∷ 1 ∷ 2 ∷ [], (1 ∷ 1 ∷ 1 ∷ [], word_of_member Gf3 3 ((1 ∷ 0 ∷ 2 ∷ []) ∷ (0 ∷ 1 ∷ 1 ∷ []) ∷ []) (2 ∷ 1 ∷ 2 ∷ []) (7, omega arith, refl), word_of_member Gf3 3 ((1 ∷ 1 ∷ 1 ∷ []) ∷ []) (1 ∷ 1 ∷ 1 ∷ []) (1, omega arith, refl), refl))

abbrev uuv_words : List (List ℕ)
uuv_words = flat_map (λ u. map (λ v. u ++ word_sum Gf3 u v) (listed ones)) (listed plane)

pub uuv_outside : InUuv plane ones (2 ∷ 1 ∷ 2 ∷ 1 ∷ 1 ∷ 1 ∷ []) → ⊥
unfolding digits number plus minus times top up times_x product shape shape_of size coefficients add mul word_sum scale below words same_list
uuv_outside (u, (v, h, k, e)) =
    absent (2 ∷ 1 ∷ 2 ∷ 1 ∷ 1 ∷ 1 ∷ []) uuv_words refl
    (subst (Contains uuv_words) (sym e) (flat_map_contains (λ u. map (λ v. u ++ word_sum Gf3 u v) (listed ones)) (listed plane) u (u ++ word_sum Gf3 u v) (in_list plane u h) (map_contains (λ v. u ++ word_sum Gf3 u v) (listed ones) v (in_list ones v k))))

-- ---- direct products

abbrev tensors : Matrix → Matrix → List (List ℕ)
tensors C D = flat_map (λ u. map (λ v. tensor Gf2 u v) (listed D)) (listed C)

abbrev IsTensor : Matrix → Matrix → List ℕ → Type 0
IsTensor C D row = (u : List ℕ) × ((v : List ℕ) × InCode C u × InCode D v × (row ≡ tensor Gf2 u v))

tensor_listed : (C D : Matrix) (row : List ℕ) → IsTensor C D row → Contains (tensors C D) row
tensor_listed C D row (u, (v, h, k, e)) =
    subst (Contains (tensors C D)) (sym e) (flat_map_contains (λ u. map (λ v. tensor Gf2 u v) (listed D)) (listed C) u (tensor Gf2 u v) (in_list C u h) (map_contains (λ v. tensor Gf2 u v) (listed D) v (in_list D v k)))

first_unit : InCode square (1 ∷ 0 ∷ [])
unfolding digits number plus minus times top up times_x product shape shape_of size coefficients add mul word_sum scale below words
first_unit = word_of_member Gf2 2 ((1 ∷ 0 ∷ []) ∷ (0 ∷ 1 ∷ []) ∷ []) (1 ∷ 0 ∷ []) (2, omega arith, refl)

second_unit : InCode square (0 ∷ 1 ∷ [])
unfolding digits number plus minus times top up times_x product shape shape_of size coefficients add mul word_sum scale below words
second_unit = word_of_member Gf2 2 ((1 ∷ 0 ∷ []) ∷ (0 ∷ 1 ∷ []) ∷ []) (0 ∷ 1 ∷ []) (1, omega arith, refl)

two_tensors : All (IsTensor square square) ((1 ∷ 0 ∷ 0 ∷ 0 ∷ []) ∷ (0 ∷ 0 ∷ 0 ∷ 1 ∷ []) ∷ [])
unfolding digits number plus minus times top up times_x product shape shape_of coefficients mul scale tensor
two_tensors zero d l = (1 ∷ 0 ∷ [], (1 ∷ 0 ∷ [], first_unit, first_unit, refl))
two_tensors (suc zero) d l = (0 ∷ 1 ∷ [], (0 ∷ 1 ∷ [], second_unit, second_unit, refl))
two_tensors (suc (suc k)) d l = absurd (omega (arith, l))

pub product_inside : InDirectProduct square square (1 ∷ 0 ∷ 0 ∷ 1 ∷ [])
unfolding digits number plus minus times top up times_x product shape shape_of size coefficients add mul word_sum scale below words
product_inside = ((1 ∷ 0 ∷ 0 ∷ 0 ∷ []) ∷ (0 ∷ 0 ∷ 0 ∷ 1 ∷ []) ∷ [], two_tensors, word_of_member Gf2 4 ((1 ∷ 0 ∷ 0 ∷ 0 ∷ []) ∷ (0 ∷ 0 ∷ 0 ∷ 1 ∷ []) ∷ []) (1 ∷ 0 ∷ 0 ∷ 1 ∷ []) (3, omega arith, refl))

pub no_single_product : IsTensor square square (1 ∷ 0 ∷ 0 ∷ 1 ∷ []) → ⊥
unfolding digits number plus minus times top up times_x product shape shape_of size coefficients add mul word_sum scale below words tensor same_list
no_single_product h = absent (1 ∷ 0 ∷ 0 ∷ 1 ∷ []) (tensors square square) refl (tensor_listed square square (1 ∷ 0 ∷ 0 ∷ 1 ∷ []) h)

abbrev is_bit_word : List ℕ → Bool
is_bit_word row = (length row == 4) && list_all (λ a. nat_lt a (size Gf2)) row

bit_words : list_all is_bit_word (tensors twins square) ≡ true
unfolding digits number plus minus times top up times_x product shape shape_of size coefficients add mul word_sum scale below words tensor
bit_words = refl

checked_words : list_all (λ row. word_dot Gf2 row (1 ∷ 0 ∷ 1 ∷ 0 ∷ []) == 0) (tensors twins square) ≡ true
unfolding digits number plus minus times top up times_x product shape shape_of size coefficients add mul word_sum scale word_dot below words tensor
checked_words = refl

bit_word : (row : List ℕ) → is_bit_word row ≡ true → IsWord Gf2 4 row
bit_word row h =
    let t = and_parts (length row == 4) (list_all (λ a. nat_lt a (size Gf2)) row) h in
    record { long = eqb-true (length row) 4 t.0; fits = λ i l. ltb-true (slice_index row i) (size Gf2) (AllPass-from_list_all (λ a. nat_lt a (size Gf2)) row t.1 i 0 l) }

-- each word (v | v) has dot 0 with (1, 0, 1, 0), and (1, 0, 0, 1) hasn't
pub product_outside : InDirectProduct twins square (1 ∷ 0 ∷ 0 ∷ 1 ∷ []) → ⊥
unfolding digits number plus minus times top up times_x product shape shape_of size coefficients add mul word_dot
product_outside (rows, h, s) =
    let x : List ℕ = 1 ∷ 0 ∷ 1 ∷ 0 ∷ [] in
    let here : (k : ℕ) (d : List ℕ) → k < length rows → Contains (tensors twins square) (slice_index_or rows k d) = λ k d l. tensor_listed twins square (slice_index_or rows k d) (h k d l) in
    let r : AreRows Gf2 4 rows = λ k d l. bit_word (slice_index_or rows k d) (passes is_bit_word (tensors twins square) (slice_index_or rows k d) bit_words (here k d l)) in
    let o : IsOrthogonal Gf2 rows x = λ k d l. eqb-true (word_dot Gf2 (slice_index_or rows k d) x) 0 (passes (λ row. word_dot Gf2 row x == 0) (tensors twins square) (slice_index_or rows k d) checked_words (here k d l)) in
    let t : ◌≡◌ {A = ℕ} 1 0 = dot_span Gf2 4 rows x (1 ∷ 0 ∷ 0 ∷ 1 ∷ []) r o s in
    omega (arith, t)

-- ---- concatenated codes

abbrev nines : Matrix
nines = record { field = Gf9; columns = 2; rows = (1 ∷ 1 ∷ []) ∷ [] }

abbrev is_double : List ℕ → Bool
is_double u = (length u == 2) && (slice_index u 0 == slice_index u 1)

doubles : list_all is_double (listed nines) ≡ true
unfolding digits number plus minus times top up times_x product shape shape_of size coefficients add mul word_sum scale below words
doubles = refl

degree_two : degree_over (size Gf3) (size Gf9) ≡ Some 2
unfolding shape shape_of size degree_over
degree_two = refl

small_nine : is_symbol Gf9 ≡ true
unfolding shape shape_of size is_symbol
small_nine = refl

replaced_once : (a : ℕ) (v z : List ℕ) → IsReplaced nines plane a v → IsReplaced nines plane a z → v ≡ z
replaced_once a v z (cs, w, e, h) (ds, x, g, k) =
    h ∙ ap (λ t. combine Gf3 3 t plane.rows) (expansion_once Gf3 Gf9 2 a cs ds small_nine degree_two w x e g) ∙ sym k

halves : (u w : List ℕ) → is_double u ≡ true → IsReplacedWord nines plane u w → (v : List ℕ) × (w ≡ v ++ v)
halves [] w d h = absurd (omega (arith, eqb-true (length {A = ℕ} []) 2 (and_parts (length {A = ℕ} [] == 2) (slice_index [] 0 == slice_index [] 1) d).0))
halves (a ∷ []) w d h = absurd (omega (arith, eqb-true (length (a ∷ [])) 2 (and_parts (length (a ∷ []) == 2) (slice_index (a ∷ []) 0 == slice_index (a ∷ []) 1) d).0))
halves (a ∷ b ∷ c ∷ u) w d h = absurd (omega (arith, eqb-true (length (a ∷ b ∷ c ∷ u)) 2 (and_parts (length (a ∷ b ∷ c ∷ u) == 2) (slice_index (a ∷ b ∷ c ∷ u) 0 == slice_index (a ∷ b ∷ c ∷ u) 1) d).0))
halves (a ∷ b ∷ []) w d (v, (rest, i, (z, (more, j, k, l)), m)) =
    let e : a ≡ b = eqb-true a b (and_parts (length (a ∷ b ∷ []) == 2) (a == b) d).1 in
    let same : v ≡ z = replaced_once b v z (subst (λ x. IsReplaced nines plane x v) e i) j in
    (v, m ∙ ap (λ t. v ++ t) (l ∙ ap (λ t. z ++ t) k ∙ append-nil z ∙ sym same))

no_halves : (v : List ℕ) → 1 ∷ 2 ∷ 1 ∷ 0 ∷ 0 ∷ 0 ∷ [] ≡ v ++ v → ⊥
no_halves v e =
    let long : length v + length v ≡ 6 = sym (length-append v v) ∙ sym (ap (λ u. length u) e) in
    let three : length v ≡ 3 = omega (arith, long) in
    let first : slice_index (v ++ v) 0 ≡ slice_index v 0 = get_or_append_left v v 0 0 (omega (arith, three)) in
    let fourth : slice_index (v ++ v) (length v + 0) ≡ slice_index v 0 = get_or-append-add v v 0 0 in
    let one : ◌≡◌ {A = ℕ} 1 (slice_index v 0) = ap (λ u. slice_index u 0) e ∙ first in
    let none : ◌≡◌ {A = ℕ} 0 (slice_index v 0) = ap (λ u. slice_index u 3) e ∙ ap (λ i. slice_index (v ++ v) i) (omega (arith, three)) ∙ fourth in
    omega (arith, one, none)

-- (1, 2, 1) replaces 7, and the two symbols of a word of the outer code are equal
pub concatenated_outside : InConcatenated nines plane (1 ∷ 2 ∷ 1 ∷ 0 ∷ 0 ∷ 0 ∷ []) → ⊥
concatenated_outside (u, c, r) =
    let (v, e) = halves u (1 ∷ 2 ∷ 1 ∷ 0 ∷ 0 ∷ 0 ∷ []) (passes is_double (listed nines) u doubles (in_list nines u c)) r in
    no_halves v e
