-- Systems of linear equations, told by the reduced matrix of the augmented rows.
-- Augmented rows
--   dot_behind             the dot of two words with one more symbol each
--   word_behind            a word with one more symbol is a word
--   length_augmented, row_of_augmented, augmented_rows      each augmented row is the row and its right side
--   dots_from_orthogonal, orthogonal_from_dots      a word w solves the system exactly if w and then -1 has dot 0 with
--                          each augmented row
-- The answer
--   solution_of            if the last column is no place, the solution solves the system
--   no_solution            if it is a place, nothing does
use Rattle.std.proofs.Common.{◌≡◌, ◌≢◌, ℕ, zero, suc, ◌+◌, ◌<◌, ◌↔◌, List, [], ◌∷◌, ◌++◌, length, slice_index, slice_index_or, Contains, refl, sym, ap, subst, ◌∙◌, ⊎_elim, arith}
use Rattle.std.proofs.lemmas.List.{length-append, get_or_append_left}
use Rattle.std.proofs.Math.Seq.{get_or-append_seam}
use Rattle.std.proofs.lemmas.List.Elements.{All-from_get_or}
use Rattle.std.proofs.lemmas.Bool.{cases_lt}
use Rattle.lc_algebra.specs.declared.FieldName.{FieldName}
use Rattle.lc_algebra.specs.Field.{size, add, neg, mul}
use Rattle.lc_algebra.specs.Word.{IsWord, word_dot}
use Rattle.lc_algebra.specs.Matrix.{entry, AreRows, HasPivots, IsEchelon, IsOrthogonal}
use Rattle.lc_algebra.proofs.FieldLaws.{neg_inside, add_comm, add_assoc, add_neg, subtract_zero, mul_comm, one_mul, zero_mul, mul_zero, neg_one_mul}
use Rattle.lc_algebra.proofs.WordLaws.{word_symbol, neg_one_nonzero, dot_inside}
use Rattle.lc_algebra.proofs.SpanLaws.{orthogonal_shared, same_span_symmetric}
use Rattle.lc_matrix.specs.Solve.{augmented, Solves, IsSolutionWord}
use Rattle.lc_matrix.proofs.PlaceLaws.{dot_single, past_end, place_at, at_place, balanced_orthogonal}

pub dot_behind : (f : FieldName) (u v : List ℕ) (a b : ℕ) → length u ≡ length v → word_dot f (u ++ a ∷ []) (v ++ b ∷ []) ≡ add f (word_dot f u v) (mul f a b)
unfolding word_dot
dot_behind f [] [] a b e = add_comm f (mul f a b) 0
dot_behind f [] (y ∷ v) a b e = absurd (omega (arith, e))
dot_behind f (x ∷ u) [] a b e = absurd (omega (arith, e))
dot_behind f (x ∷ u) (y ∷ v) a b e =
    ap (add f (mul f x y)) (dot_behind f u v a b (omega (arith, e))) ∙ sym (add_assoc f (mul f x y) (word_dot f u v) (mul f a b))

pub symbol_before : (w : List ℕ) (a c : ℕ) → c < length w → slice_index (w ++ a ∷ []) c ≡ slice_index w c
symbol_before w a c l = get_or_append_left w (a ∷ []) 0 c l

pub symbol_behind : (n : ℕ) (w : List ℕ) (a : ℕ) → length w ≡ n → slice_index (w ++ a ∷ []) n ≡ a
symbol_behind n w a e = ap (slice_index (w ++ a ∷ [])) (sym e) ∙ get_or-append_seam w a [] 0

pub word_behind : (f : FieldName) (n : ℕ) (w : List ℕ) (a : ℕ) → IsWord f n w → a < size f → IsWord f (n + 1) (w ++ a ∷ [])
word_behind f n w a q l =
    let long : length (w ++ a ∷ []) ≡ n + 1 = omega (arith, length-append w (a ∷ []), q.long) in
    record {
      long = long;
      fits = λ c m. ⊎_elim
          (λ k. rw (symbol_before w a c k) (q.fits c k))
          (λ k. let e : c ≡ n = omega (arith, m, k, long, q.long) in subst (λ x. x < size f) (sym (ap (slice_index (w ++ a ∷ [])) e ∙ symbol_behind n w a q.long)) l)
          (cases_lt c (length w));
    }

pub length_augmented : (rows : List (List ℕ)) (right : List ℕ) → length right ≡ length rows → length (augmented rows right) ≡ length rows
unfolding augmented
length_augmented [] right e = refl
length_augmented (g ∷ rows) [] e = absurd (omega (arith, e))
length_augmented (g ∷ rows) (b ∷ right) e = ap suc (length_augmented rows right (omega (arith, e)))

pub row_of_augmented : (rows : List (List ℕ)) (right : List ℕ) (i : ℕ) → length right ≡ length rows → i < length rows → slice_index_or (augmented rows right) i [] ≡ slice_index_or rows i [] ++ slice_index right i ∷ []
unfolding augmented
row_of_augmented [] right i e l = absurd (omega (arith, l))
row_of_augmented (g ∷ rows) [] i e l = absurd (omega (arith, e))
row_of_augmented (g ∷ rows) (b ∷ right) zero e l = refl
row_of_augmented (g ∷ rows) (b ∷ right) (suc i) e l = row_of_augmented rows right i (omega (arith, e)) (omega (arith, l))

pub augmented_rows : (f : FieldName) (n : ℕ) (rows : List (List ℕ)) (right : List ℕ) → AreRows f n rows → IsWord f (length rows) right → AreRows f (n + 1) (augmented rows right)
augmented_rows f n rows right r q =
    All-from_get_or (IsWord f (n + 1)) (augmented rows right) [] (λ i l.
    let m : i < length rows = omega (arith, l, length_augmented rows right q.long) in
    rw (row_of_augmented rows right i q.long m) (word_behind f n (slice_index_or rows i []) (slice_index right i) (r i [] m) (word_symbol f (length rows) right q i)))

dot_of_augmented : (f : FieldName) (n : ℕ) (rows : List (List ℕ)) (right w : List ℕ) (i : ℕ) → AreRows f n rows → IsWord f (length rows) right → length w ≡ n → i < length rows → word_dot f (slice_index_or (augmented rows right) i []) (w ++ neg f 1 ∷ []) ≡ add f (word_dot f (slice_index_or rows i []) w) (neg f (slice_index right i))
dot_of_augmented f n rows right w i r q long l =
    let g = slice_index_or rows i [] in
    let b = slice_index right i in
    let last : mul f b (neg f 1) ≡ neg f b = mul_comm f b (neg f 1) ∙ neg_one_mul f b in
    ap (λ x. word_dot f x (w ++ neg f 1 ∷ [])) (row_of_augmented rows right i q.long l) ∙ dot_behind f g w b (neg f 1) ((r i [] l).long ∙ sym long) ∙ ap (add f (word_dot f g w)) last

pub orthogonal_from_dots : (f : FieldName) (n : ℕ) (rows : List (List ℕ)) (right w : List ℕ) → AreRows f n rows → IsWord f (length rows) right → length w ≡ n → Solves f rows right w → IsOrthogonal f (augmented rows right) (w ++ neg f 1 ∷ [])
orthogonal_from_dots f n rows right w r q long s =
    All-from_get_or (λ row. word_dot f row (w ++ neg f 1 ∷ []) ≡ 0) (augmented rows right) [] (λ i l.
    let m : i < length rows = omega (arith, l, length_augmented rows right q.long) in
    dot_of_augmented f n rows right w i r q long m ∙ ap (λ x. add f x (neg f (slice_index right i))) (s i m) ∙ add_neg f (slice_index right i))

pub dots_from_orthogonal : (f : FieldName) (n : ℕ) (rows : List (List ℕ)) (right w : List ℕ) → AreRows f n rows → IsWord f (length rows) right → length w ≡ n → IsOrthogonal f (augmented rows right) (w ++ neg f 1 ∷ []) → Solves f rows right w
dots_from_orthogonal f n rows right w r q long o i l =
    let m : i < length (augmented rows right) = omega (arith, l, length_augmented rows right q.long) in
    subtract_zero f (word_dot f (slice_index_or rows i []) w) (slice_index right i) (dot_inside f (slice_index_or rows i []) w) (word_symbol f (length rows) right q i) (sym (dot_of_augmented f n rows right w i r q long l) ∙ o i [] m)

-- a place of a matrix of n + 1 columns that isn't the last
pub inner_place : (n : ℕ) (ps : List ℕ) (e : List (List ℕ)) (i : ℕ) → HasPivots (n + 1) ps e → (Contains ps n → ⊥) → i < length ps → slice_index ps i < n
inner_place n ps e i h o l =
    let a : slice_index ps i < n + 1 = h.inside i l in
    ⊎_elim (λ m. m) (λ m. let s : slice_index ps i ≡ n = omega (arith, a, m) in absurd (o (at_place ps i n l s))) (cases_lt (slice_index ps i) n)

pub solution_balances : (f : FieldName) (n : ℕ) (ps : List ℕ) (e : List (List ℕ)) (w : List ℕ) → AreRows f (n + 1) e → HasPivots (n + 1) ps e → (Contains ps n → ⊥) → IsSolutionWord f n ps e w → IsOrthogonal f e (w ++ neg f 1 ∷ [])
solution_balances f n ps e w r h o q =
    let v = w ++ neg f 1 ∷ [] in
    let last : slice_index v n ≡ neg f 1 = symbol_behind n w (neg f 1) q.word.long in
    balanced_orthogonal f (n + 1) ps e n v h (word_behind f n w (neg f 1) q.word (neg_inside f 1)) o
    (λ i l.
    let m : i < length ps = omega (arith, l, h.count) in
    let x = entry e i n in
    let a : slice_index v (slice_index ps i) ≡ x = symbol_before w (neg f 1) (slice_index ps i) (omega (arith, inner_place n ps e i h o m, q.word.long)) ∙ q.places i m in
    let b : mul f x (slice_index v n) ≡ neg f x = ap (mul f x) last ∙ mul_comm f x (neg f 1) ∙ neg_one_mul f x in
    ap (λ k. add f k (mul f x (slice_index v n))) a ∙ ap (add f x) b ∙ add_neg f x)
    (λ c a b. ⊎_elim
    (λ l. symbol_before w (neg f 1) c l ∙ q.others c b)
    (λ l. past_end v c (omega (arith, l, length-append w (neg f 1 ∷ []), q.word.long, a)))
    (cases_lt c (length w)))

pub solution_of : (f : FieldName) (n : ℕ) (ps : List ℕ) (rows e : List (List ℕ)) (right w : List ℕ) → AreRows f n rows → IsWord f (length rows) right → IsEchelon f (n + 1) (augmented rows right) e → HasPivots (n + 1) ps e → (Contains ps n → ⊥) → IsSolutionWord f n ps e w → Solves f rows right w
solution_of f n ps rows e right w r s p h o q =
    let balanced : IsOrthogonal f e (w ++ neg f 1 ∷ []) = solution_balances f n ps e w p.words h o q in
    dots_from_orthogonal f n rows right w r s q.word.long (orthogonal_shared f (n + 1) e (augmented rows right) (w ++ neg f 1 ∷ []) p.words (augmented_rows f n rows right r s) (same_span_symmetric f (n + 1) (augmented rows right) e p.same) balanced)

pub no_solution : (f : FieldName) (n : ℕ) (ps : List ℕ) (rows e : List (List ℕ)) (right w : List ℕ) → AreRows f n rows → IsWord f (length rows) right → IsEchelon f (n + 1) (augmented rows right) e → HasPivots (n + 1) ps e → Contains ps n → IsWord f n w → Solves f rows right w → ⊥
no_solution f n ps rows e right w r s p h t q d =
    let v = w ++ neg f 1 ∷ [] in
    let i = t.0 in
    let l : i < length e = omega (arith, t.1, h.count) in
    let at : slice_index ps i ≡ n = place_at ps n t in
    let o : IsOrthogonal f e v = orthogonal_shared f (n + 1) (augmented rows right) e v (augmented_rows f n rows right r s) p.words p.same (orthogonal_from_dots f n rows right w r s q.long d) in
    let rest : (c : ℕ) → c ≢ n → mul f (entry e i c) (slice_index v c) ≡ 0 = λ c a. ⊎_elim
    (λ m. ap (λ k. mul f k (slice_index v c)) (h.before i c l (omega (arith, m, at))) ∙ zero_mul f (slice_index v c))
    (λ m. ap (mul f (entry e i c)) (past_end v c (omega (arith, m, a, length-append w (neg f 1 ∷ []), q.long))) ∙ mul_zero f (entry e i c))
    (cases_lt c n) in
    let lead : entry e i n ≡ 1 = ap (entry e i) (sym at) ∙ h.leads i l in
    let value : word_dot f (slice_index_or e i []) v ≡ neg f 1 = dot_single f (slice_index_or e i []) v n rest ∙ ap (λ k. mul f k (slice_index v n)) lead ∙ ap (mul f 1) (symbol_behind n w (neg f 1) q.long) ∙ one_mul f (neg f 1) (neg_inside f 1) in
    omega (arith, neg_one_nonzero f, sym value ∙ o i [] l)
