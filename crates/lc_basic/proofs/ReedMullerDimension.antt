-- The dimension of a Reed-Muller code. Each monomial is 1 at a place where all monomials before it are 0, so they are independent;
-- and they are as many as the parts with at most r of the m variables.
--   independent_in_order       rows are independent where each is 1 at a place where the rows before it are 0
--   IsOn q vs                  the value at place q of the product of the variables vs
--   IsTop xs q i               product i is 1 at place q, and the products before it are 0
--   parts_placed               each product has such a place
--   monomial_entry, monomials_independent      so the rows are independent
--   parts_within n r           the sum of the binomial coefficients of n over 0 to r
--   within_none, within_more, within_pascal, count_parts      how many parts with at most r members there are
--   reed_muller_dimension      the dimension
use Rattle.std.proofs.Common.{◌≡◌, ◌≢◌, ℕ, zero, suc, ◌+◌, ◌-◌, ◌*◌, ◌/◌, ◌%◌, ◌^◌, ◌<◌, ◌≤◌, ◌==◌, ◌&&◌, Bool, true, false, if◌then◌else◌, List, [], ◌∷◌, ◌++◌, map, length, slice_index, slice_index_or, refl, sym, ap, subst, ◌∙◌, ⊎_elim, arith}
use Rattle.std.specs.List.{list_all, sum_by}
use Rattle.std.proofs.Math.Nat.{div-div-eq-div-mul, div-one, one-le-pow, pow-suc, pow-zero}
use Rattle.std.proofs.lemmas.List.{length-map, length-append, get_or-map, get_or_append_left, get_or-append_right, ext_get_or}
use Rattle.std.proofs.lemmas.List.Sums.{sum_by-append}
use Rattle.std.proofs.lemmas.Bool.{cases_lt}
use Rattle.lc_algebra.specs.declared.FieldName.{FieldName}
use Rattle.lc_algebra.specs.declared.FieldName.TheVariants.{Gf2}
use Rattle.lc_algebra.specs.Field.{mul}
use Rattle.lc_algebra.specs.Word.{IsWord, zero_word, word_dot}
use Rattle.lc_algebra.specs.Span.{below, combine, SameSpan, AreIndependent}
use Rattle.lc_algebra.specs.Matrix.{Matrix, AreRows, entry, column}
use Rattle.lc_algebra.proofs.FieldLaws.{mul_one, mul_zero, zero_mul}
use Rattle.lc_algebra.proofs.WordLaws.{length_zero_word, index_zero_word, word_symbol}
use Rattle.lc_algebra.proofs.SpanLaws.{length_below, span_word, index_below}
use Rattle.lc_algebra.proofs.ReducedLaws.{index_combine, reduced_independent}
use Rattle.lc_algebra.proofs.DimensionLaws.{dimension_unique}
use Rattle.lc_algebra.proofs.ColumnLaws.{entry_of_column}
use Rattle.lc_constructions.specs.Code.{IsCode}
use Rattle.lc_constructions.specs.Basic.{GeneratedBy, subsets, monomial, reed_muller_rows}
use Rattle.lc_enumeration.specs.Message.{choose}
use Rattle.lc_enumeration.proofs.ChooseLaws.{choose_next, choose_nothing}
use Rattle.lc_matrix.proofs.PlaceLaws.{dot_single, past_end}
use Rattle.lc_basic.specs.Product.{variables}
use Rattle.lc_basic.proofs.ProductLaws.{variables_below, monomials_rows}

-- independence

coefficient_zero : (f : FieldName) (n : ℕ) (rows : List (List ℕ)) (cs : List ℕ) (i p : ℕ) → AreRows f n rows → IsWord f (length rows) cs → combine f n cs rows ≡ zero_word n → i < length rows → entry rows i p ≡ 1 → ((j : ℕ) → j < i → entry rows j p ≡ 0) → ((j : ℕ) → i < j → slice_index cs j ≡ 0) → slice_index cs i ≡ 0
coefficient_zero f n rows cs i p r w z l one before after =
    let us = column rows p in
    let rest : (j : ℕ) → j ≢ i → mul f (slice_index cs j) (slice_index us j) ≡ 0 = λ j o. ⊎_elim
    (λ k. ap (mul f (slice_index cs j)) (entry_of_column rows p j (omega (arith, k, l)) ∙ before j k) ∙ mul_zero f (slice_index cs j))
    (λ k. ap (λ c. mul f c (slice_index us j)) (after j (⊎_elim (λ m. m) (λ m. absurd (o (omega (arith, k, m)))) (cases_lt i j))) ∙ zero_mul f (slice_index us j))
    (cases_lt j i) in
    let here : slice_index us i ≡ 1 = entry_of_column rows p i l ∙ one in
    let sum : word_dot f cs us ≡ slice_index cs i = dot_single f cs us i rest ∙ ap (mul f (slice_index cs i)) here ∙ mul_one f (slice_index cs i) (word_symbol f (length rows) cs w i) in
    sym sum ∙ sym (index_combine f n cs rows p r) ∙ ap (λ v. slice_index v p) z ∙ index_zero_word n p

coefficients_zero : (f : FieldName) (n : ℕ) (rows : List (List ℕ)) (cs : List ℕ) (d : ℕ) → AreRows f n rows → ((i : ℕ) → i < length rows → (p : ℕ) × (entry rows i p ≡ 1) × ((j : ℕ) → j < i → entry rows j p ≡ 0)) → IsWord f (length rows) cs → combine f n cs rows ≡ zero_word n → (i : ℕ) → length rows ≤ i + d → slice_index cs i ≡ 0
coefficients_zero f n rows cs zero r h w z i l = past_end cs i (omega (arith, l, w.long))
coefficients_zero f n rows cs (suc d) r h w z i l =
    ⊎_elim
    (λ m.
    let t = h i m in
    coefficient_zero f n rows cs i t.0 r w z m t.1 t.2 (λ j k. coefficients_zero f n rows cs d r h w z j (omega (arith, l, k))))
    (λ m. past_end cs i (omega (arith, m, w.long)))
    (cases_lt i (length rows))

pub independent_in_order : (f : FieldName) (n : ℕ) (rows : List (List ℕ)) → AreRows f n rows → ((i : ℕ) → i < length rows → (p : ℕ) × (entry rows i p ≡ 1) × ((j : ℕ) → j < i → entry rows j p ≡ 0)) → AreIndependent f n rows
independent_in_order f n rows r h cs w z =
    ext_get_or 0 cs (zero_word (length rows)) (w.long ∙ sym (length_zero_word (length rows))) (λ i l. coefficients_zero f n rows cs (length rows) r h w z i (omega arith) ∙ sym (index_zero_word (length rows) i))

-- places

abbrev IsOn : ℕ → List ℕ → Bool
IsOn q vs = list_all (λ v. q / 2 ^ v % 2 == 1) vs

record IsTop (xs : List (List ℕ)) (q i : ℕ) : Type 0 where
  on : IsOn q (slice_index_or xs i []) ≡ true
  off : (j : ℕ) → j < i → IsOn q (slice_index_or xs j []) ≡ false

higher : (q v k b : ℕ) → b < 2 → q / 2 ^ v ≡ 2 * k + b → q / 2 ^ suc v ≡ k
higher q v k b l e =
    let p : 2 ^ suc v ≡ 2 ^ v * 2 = omega (arith, pow-suc 2 v) in
    let h : (2 * k + b) / 2 ≡ k = omega (arith, l) in
    ap (λ x. q / x) p ∙ sym (div-div-eq-div-mul q (2 ^ v) 2) ∙ ap (λ x. x / 2) e ∙ h

bit_one : (q v k : ℕ) → q / 2 ^ v ≡ 2 * k + 1 → (q / 2 ^ v % 2 == 1) ≡ true
bit_one q v k e = let h : (2 * k + 1) % 2 ≡ 1 = omega arith in ap (λ x. x % 2 == 1) e ∙ ap (λ x. x == 1) h

bit_zero : (q v k : ℕ) → q / 2 ^ v ≡ 2 * k + 0 → (q / 2 ^ v % 2 == 1) ≡ false
bit_zero q v k e = let h : (2 * k + 0) % 2 ≡ 0 = omega arith in ap (λ x. x % 2 == 1) e ∙ ap (λ x. x == 1) h

-- the products with the variable v, and then those without
with_it : (v q k i : ℕ) (xs ys : List (List ℕ)) → i < length xs → q / 2 ^ v ≡ 2 * k + 1 → IsTop xs q i → IsTop (map (λ s. v ∷ s) xs ++ ys) q i
with_it v q k i xs ys l e t =
    let at : (j : ℕ) → j < length xs → IsOn q (slice_index_or (map (λ s. v ∷ s) xs ++ ys) j []) ≡ IsOn q (slice_index_or xs j []) = λ j m.
    ap (IsOn q) (get_or_append_left (map (λ s. v ∷ s) xs) ys [] j (omega (arith, m, length-map xs (λ s. v ∷ s))) ∙ get_or-map (λ s. v ∷ s) xs j [] [] m) ∙ ap (λ b. b && IsOn q (slice_index_or xs j [])) (bit_one q v k e) in
    record {
      on = at i l ∙ t.on;
      off = λ j m. at j (omega (arith, l, m)) ∙ t.off j m;
    }

without_it : (v q k i : ℕ) (xs ys : List (List ℕ)) → length xs ≤ i → q / 2 ^ v ≡ 2 * k + 0 → IsTop ys q (i - length xs) → IsTop (map (λ s. v ∷ s) xs ++ ys) q i
without_it v q k i xs ys l e t =
    let long : length (map (λ s. v ∷ s) xs) ≡ length xs = length-map xs (λ s. v ∷ s) in
    let behind : (j : ℕ) → length xs ≤ j → IsOn q (slice_index_or (map (λ s. v ∷ s) xs ++ ys) j []) ≡ IsOn q (slice_index_or ys (j - length xs) []) = λ j m.
    ap (IsOn q) (get_or-append_right (map (λ s. v ∷ s) xs) ys (length xs) j [] long m) in
    record {
      on = behind i l ∙ t.on;
      off = λ j m. ⊎_elim
          (λ h. ap (IsOn q) (get_or_append_left (map (λ s. v ∷ s) xs) ys [] j (omega (arith, h, long)) ∙ get_or-map (λ s. v ∷ s) xs j [] [] h) ∙ ap (λ b. b && IsOn q (slice_index_or xs j [])) (bit_zero q v k e))
          (λ h. behind j h ∙ t.off (j - length xs) (omega (arith, h, m)))
          (cases_lt j (length xs));
    }

alone : (q i : ℕ) (xs : List (List ℕ)) → xs ≡ [] ∷ [] → i < length xs → IsTop xs q i
alone q i xs e l =
    let z : zero ≡ i = omega (arith, l, ap length e) in
    record {
      on = ap (λ u. IsOn q (slice_index_or u i [])) e ∙ ap (λ k. IsOn q (slice_index_or ([] ∷ []) k [])) (sym z);
      off = λ j m. absurd (omega (arith, z, m));
    }

alone_there : (m i k : ℕ) (v : ℕ) (xs : List (List ℕ)) → k ≡ 0 → xs ≡ [] ∷ [] → i < length xs → (k : ℕ) × (k < 2 ^ m) × ((q : ℕ) → q / 2 ^ v ≡ k → IsTop xs q i)
alone_there m i k v xs z e l = (0, one-le-pow m 2 (omega arith), (λ q h. alone q i xs e l))

parts_placed : (left v r i : ℕ) → i < length (subsets (variables v left) r) → (k : ℕ) × (k < 2 ^ left) × ((q : ℕ) → q / 2 ^ v ≡ k → IsTop (subsets (variables v left) r) q i)
unfolding subsets variables
parts_placed zero v r i l = alone_there 0 i 0 v (subsets (variables v 0) r) refl refl l
parts_placed (suc left) v zero i l = alone_there (suc left) i 0 v (subsets (variables v (suc left)) 0) refl refl l
parts_placed (suc left) v (suc r) i l =
    let xs = subsets (variables (suc v) left) r in
    let ys = subsets (variables (suc v) left) (suc r) in
    let p : 2 ^ suc left ≡ 2 * 2 ^ left = omega (arith, pow-suc 2 left) in
    ⊎_elim
    (λ m.
    let t = parts_placed left (suc v) r i m in
    (2 * t.0 + 1, omega (arith, t.1, p), (λ q e. with_it v q t.0 i xs ys m e (t.2 q (higher q v t.0 1 (omega arith) e)))))
    (λ m.
    let n : i - length xs < length ys = omega (arith, l, m, length-append (map (λ s. v ∷ s) xs) ys, length-map xs (λ s. v ∷ s)) in
    let t = parts_placed left (suc v) (suc r) (i - length xs) n in
    (2 * t.0 + 0, omega (arith, t.1, p), (λ q e. without_it v q t.0 i xs ys m e (t.2 q (higher q v t.0 0 (omega arith) e)))))
    (cases_lt i (length xs))

monomial_entry : (r m i q : ℕ) → i < length (reed_muller_rows r m) → q < 2 ^ m → entry (reed_muller_rows r m) i q ≡ (if IsOn q (slice_index_or (subsets (below m) r) i []) then 1 else 0)
unfolding reed_muller_rows monomial
monomial_entry r m i q l h =
    let xs = subsets (below m) r in
    let row : ℕ → List ℕ → ℕ = λ place vs. if list_all (λ v. place / 2 ^ v % 2 == 1) vs then 1 else 0 in
    let vs = slice_index_or xs i [] in
    let a : slice_index_or (map (monomial m) xs) i [] ≡ monomial m vs = get_or-map (monomial m) xs i [] [] (omega (arith, l, length-map xs (monomial m))) in
    ap (λ w. slice_index w q) a ∙ get_or-map (λ place. row place vs) (below (2 ^ m)) q 0 0 (omega (arith, h, length_below (2 ^ m))) ∙ ap (λ place. row place vs) (index_below (2 ^ m) q 0 h)

length_monomials : (r m : ℕ) → length (reed_muller_rows r m) ≡ length (subsets (below m) r)
unfolding reed_muller_rows
length_monomials r m = length-map (subsets (below m) r) (monomial m)

place_zero : (q : ℕ) → q / 2 ^ 0 ≡ q
place_zero q = ap (λ k. q / k) (pow-zero 2) ∙ div-one q

pub monomials_independent : (r m : ℕ) → AreIndependent Gf2 (2 ^ m) (reed_muller_rows r m)
monomials_independent r m =
    let rows = reed_muller_rows r m in
    let xs = subsets (below m) r in
    let e : subsets (variables 0 m) r ≡ xs = ap (λ vs. subsets vs r) (variables_below m) in
    let long : length rows ≡ length xs = length_monomials r m in
    independent_in_order Gf2 (2 ^ m) rows (monomials_rows r m) (λ i l.
    let h : i < length (subsets (variables 0 m) r) = omega (arith, l, long, ap length e) in
    let t = parts_placed m 0 r i h in
    let top : IsTop xs t.0 i = subst (λ u. IsTop u t.0 i) e (t.2 t.0 (place_zero t.0)) in (
      t.0,
      monomial_entry r m i t.0 l t.1 ∙ ap (λ b. if b then 1 else 0) top.on,
      (λ j k. monomial_entry r m j t.0 (omega (arith, k, l)) t.1 ∙ ap (λ b. if b then 1 else 0) (top.off j k)),
    ))

-- how many rows there are

abbrev pub parts_within : ℕ → ℕ → ℕ
parts_within n r = sum_by (choose n) (below (suc r))

within_more : (n r : ℕ) → parts_within n (suc r) ≡ parts_within n r + choose n (suc r)
unfolding below
within_more n r =
    let e : 0 + choose n (suc r) ≡ choose n (suc r) = omega arith in
    sum_by-append (choose n) (below (suc r)) (suc r ∷ []) ∙ ap (λ k. parts_within n r + k) e

within_zero : (n : ℕ) → parts_within n 0 ≡ 1
unfolding below choose
within_zero zero = refl
within_zero (suc n) = refl

within_none : (r : ℕ) → parts_within 0 r ≡ 1
unfolding choose
within_none zero = within_zero 0
within_none (suc r) = omega (arith, within_more 0 r, within_none r)

within_pascal : (n r : ℕ) → parts_within (suc n) (suc r) ≡ parts_within n r + parts_within n (suc r)
within_pascal n zero =
    omega (arith, within_more (suc n) 0, within_zero (suc n), within_zero n, within_more n 0, choose_next n 0, choose_nothing n)
within_pascal n (suc r) =
    omega (arith, within_more (suc n) (suc r), within_pascal n r, within_more n r, within_more n (suc r), choose_next n (suc r))

count_parts : (vs : List ℕ) (r : ℕ) → length (subsets vs r) ≡ parts_within (length vs) r
unfolding subsets
count_parts [] r = sym (within_none r)
count_parts (v ∷ vs) zero = sym (within_zero (length (v ∷ vs)))
count_parts (v ∷ vs) (suc r) =
    let xs = subsets vs r in
    let ys = subsets vs (suc r) in
    omega (arith, length-append (map (λ s. v ∷ s) xs) ys, length-map xs (λ s. v ∷ s), count_parts vs r, count_parts vs (suc r), within_pascal (length vs) r)

pub reed_muller_dimension : (r m : ℕ) (C : Matrix) → IsCode Gf2 (2 ^ m) (GeneratedBy Gf2 (2 ^ m) (reed_muller_rows r m)) C → length C.rows ≡ sum_by (choose m) (below (r + 1))
reed_muller_dimension r m C c =
    let rows = reed_muller_rows r m in
    let n = 2 ^ m in
    let g = c.generator in
    let words : AreRows Gf2 n rows = monomials_rows r m in
    let same : SameSpan Gf2 n rows C.rows = λ w. ((λ t. (g.members w).1 (span_word Gf2 n rows w words t, t)), (λ t. ((g.members w).0 t).1)) in
    let d : length rows ≡ length C.rows = dimension_unique Gf2 n rows C.rows words g.words (monomials_independent r m) (reduced_independent Gf2 n C.rows g.words g.reduced) same in
    let k : length (subsets (below m) r) ≡ parts_within m r = count_parts (below m) r ∙ ap (λ x. parts_within x r) (length_below m) in
    let e : suc r ≡ r + 1 = omega arith in
    sym d ∙ length_monomials r m ∙ k ∙ ap (λ x. sum_by (choose m) (below x)) e

pub ruleset dimension_of_reed_muller_codes_laws = (monomials_independent, reed_muller_dimension)
