-- Cyclic shifts of the rows of a quadratic residue code.
--   shifted_is             the cyclic shift is the one by 1
--   shift_after            a shift by k and then by 1 is one by k + 1
--   shift_round            a shift by n is one by 0
--   rows_all               what holds of the word of ones and of each shift holds of each row
--   shift_none             a shift by 0 changes nothing
--   ones_in, shift_in, shift_moved, word_in      words of the code
--   rows_shifted           the cyclic shift of each row is a word of the code
use Rattle.std.proofs.Common.{◌≡◌, ℕ, zero, suc, ◌+◌, ◌-◌, ◌%◌, ◌<◌, List, [], ◌∷◌, length, map, replicate, slice_index, All, refl, sym, ap, subst, ◌∙◌, ⊎_elim, arith}
use Rattle.std.proofs.Math.Nat.{add-mod_right, mod-add-mod, mod-eq_of_lt, mod-lt}
use Rattle.std.proofs.lemmas.Bool.{cases_lt}
use Rattle.std.proofs.lemmas.List.{length-replicate, get_or-replicate}
use Rattle.std.proofs.lemmas.List.Elements.{All-cons}
use Rattle.lc_algebra.specs.declared.FieldName.{FieldName}
use Rattle.lc_algebra.specs.Residue.{top, up}
use Rattle.lc_algebra.specs.Span.{below, InSpan}
use Rattle.lc_algebra.proofs.SpanLaws.{contains_head, contains_tail, map_contains, below_contains, span_of_member}
use Rattle.lc_code.proofs.CoordinateLaws.{told_all}
use Rattle.lc_relations.proofs.StructureLaws.{length_up}
use Rattle.lc_language.specs.Relations.{shifted}
use Rattle.lc_language.specs.QuadraticResidues.{residue_word, cyclic_shift, residue_rows}
use Rattle.lc_residues.proofs.CodeLaws.{residue_word_is, residue_words}
use Rattle.lc_residues.proofs.PickLaws.{same_picks, index_shift, length_shift}

top_last : (c : ℕ) (w : List ℕ) (m : ℕ) → length w ≡ suc m → top c w ≡ slice_index w m
unfolding top
top_last c [] m e = absurd (omega (arith, e))
top_last c (a ∷ []) zero e = refl
top_last c (a ∷ []) (suc m) e = absurd (omega (arith, e))
top_last c (a ∷ b ∷ w) zero e = absurd (omega (arith, e))
top_last c (a ∷ b ∷ w) (suc m) e = top_last a (b ∷ w) m (omega (arith, e))

up_first : (c : ℕ) (w : List ℕ) → 0 < length w → slice_index (up c w) 0 ≡ c
unfolding up
up_first c [] l = absurd (omega (arith, l))
up_first c (a ∷ w) l = refl

up_later : (c : ℕ) (w : List ℕ) (i : ℕ) → suc i < length w → slice_index (up c w) (suc i) ≡ slice_index w i
unfolding up
up_later c [] i l = absurd (omega (arith, l))
up_later c (a ∷ []) i l = absurd (omega (arith, l))
up_later c (a ∷ b ∷ w) zero l = refl
up_later c (a ∷ b ∷ w) (suc i) l = up_later a (b ∷ w) i (omega (arith, l))

index_shifted : (n : ℕ) (w : List ℕ) (i : ℕ) → length w ≡ n → i < n → slice_index (shifted w) i ≡ slice_index w ((i + (n - 1)) % n)
unfolding shifted
index_shifted n w zero e l =
    let z : 0 + (n - 1) ≡ n - 1 = omega arith in
    let m : (0 + (n - 1)) % n ≡ n - 1 = ap (λ k. k % n) z ∙ mod-eq_of_lt (omega (arith, l)) in
    let k : length w ≡ suc (n - 1) = omega (arith, e, l) in
    up_first (top 0 w) w (omega (arith, e, l)) ∙ top_last 0 w (n - 1) k ∙ sym (ap (slice_index w) m)
index_shifted n w (suc i) e l =
    let s : suc i + (n - 1) ≡ i + n = omega (arith, l) in
    let m : (suc i + (n - 1)) % n ≡ i = ap (λ k. k % n) s ∙ add-mod_right i n ∙ mod-eq_of_lt (omega (arith, l)) in
    up_later (top 0 w) w i (omega (arith, e, l)) ∙ sym (ap (slice_index w) m)

pub shifted_is : (n : ℕ) (w : List ℕ) → length w ≡ n → shifted w ≡ cyclic_shift n 1 w
unfolding shifted
shifted_is n w e =
    same_picks n (shifted w) (cyclic_shift n 1 w) (length_up (top 0 w) w ∙ e) (length_shift n 1 w) (λ i l. index_shifted n w i e l ∙ sym (index_shift n 1 w i l))

pub shift_after : (n k : ℕ) (w : List ℕ) → k < n → cyclic_shift n 1 (cyclic_shift n k w) ≡ cyclic_shift n (suc k) w
shift_after n k w h =
    same_picks n (cyclic_shift n 1 (cyclic_shift n k w)) (cyclic_shift n (suc k) w) (length_shift n 1 (cyclic_shift n k w)) (length_shift n (suc k) w) (λ i l.
    let s : i + (n - 1) + (n - k) ≡ i + (n - suc k) + n = omega (arith, h) in
    let e : ((i + (n - 1)) % n + (n - k)) % n ≡ (i + (n - suc k)) % n = mod-add-mod (i + (n - 1)) n (n - k) ∙ ap (λ m. m % n) s ∙ add-mod_right (i + (n - suc k)) n in
    index_shift n 1 (cyclic_shift n k w) i l ∙ index_shift n k w ((i + (n - 1)) % n) (mod-lt (i + (n - 1)) (omega (arith, l))) ∙ ap (slice_index w) e ∙ sym (index_shift n (suc k) w i l))

pub shift_round : (n : ℕ) (w : List ℕ) → cyclic_shift n n w ≡ cyclic_shift n 0 w
shift_round n w =
    same_picks n (cyclic_shift n n w) (cyclic_shift n 0 w) (length_shift n n w) (length_shift n 0 w) (λ i l.
    let a : i + (n - n) ≡ i = omega arith in
    let b : i + (n - 0) ≡ i + n = omega arith in
    let e : (i + (n - n)) % n ≡ (i + (n - 0)) % n = ap (λ m. m % n) a ∙ sym (add-mod_right i n) ∙ ap (λ m. m % n) (sym b) in
    index_shift n n w i l ∙ ap (slice_index w) e ∙ sym (index_shift n 0 w i l))

pub rows_all : (f : FieldName) (n t : ℕ) (P : List ℕ → Type 0) → P (replicate n 1) → ((k : ℕ) → k < n → P (cyclic_shift n k (residue_word f n t))) → All P (residue_rows f n t)
unfolding residue_rows
rows_all f n t P a h =
    let g : ℕ → List ℕ = λ k. cyclic_shift n k (residue_word f n t) in
    All-cons P (replicate n 1) (map g (below n)) a (told_all P g n h)

pub ones_in : (f : FieldName) (n t : ℕ) → InSpan f n (residue_rows f n t) (replicate n 1)
unfolding residue_rows
ones_in f n t =
    let g : ℕ → List ℕ = λ k. cyclic_shift n k (residue_word f n t) in
    span_of_member f n (residue_rows f n t) (replicate n 1) (residue_words f n t) (contains_head (replicate n 1) (map g (below n)))

pub shift_in : (f : FieldName) (n t k : ℕ) → k < n → InSpan f n (residue_rows f n t) (cyclic_shift n k (residue_word f n t))
unfolding residue_rows
shift_in f n t k l =
    let g : ℕ → List ℕ = λ k. cyclic_shift n k (residue_word f n t) in
    span_of_member f n (residue_rows f n t) (g k) (residue_words f n t) (contains_tail (replicate n 1) (g k) (map g (below n)) (map_contains g (below n) k (below_contains n k l)))

ones_shifted : (n : ℕ) → shifted (replicate n 1) ≡ replicate n 1
ones_shifted n =
    shifted_is n (replicate n 1) (length-replicate n 1)
    ∙ same_picks n (cyclic_shift n 1 (replicate n 1)) (replicate n 1) (length_shift n 1 (replicate n 1)) (length-replicate n 1) (λ i l.
    index_shift n 1 (replicate n 1) i l ∙ get_or-replicate n ((i + (n - 1)) % n) 1 0 (mod-lt (i + (n - 1)) (omega (arith, l))) ∙ sym (get_or-replicate n i 1 0 l))

pub shift_moved : (f : FieldName) (n t k : ℕ) → k < n → InSpan f n (residue_rows f n t) (cyclic_shift n (suc k) (residue_word f n t))
shift_moved f n t k l =
    let w = residue_word f n t in
    ⊎_elim
    (λ m. shift_in f n t (suc k) m)
    (λ m.
    let e : n ≡ suc k = omega (arith, l, m) in
    let s : cyclic_shift n (suc k) w ≡ cyclic_shift n 0 w = sym (ap (λ j. cyclic_shift n j w) e) ∙ shift_round n w in
    subst (InSpan f n (residue_rows f n t)) (sym s) (shift_in f n t 0 (omega (arith, l))))
    (cases_lt (suc k) n)

pub rows_shifted : (f : FieldName) (n t : ℕ) → All (λ row. InSpan f n (residue_rows f n t) (shifted row)) (residue_rows f n t)
rows_shifted f n t =
    let w = residue_word f n t in
    rows_all f n t (λ row. InSpan f n (residue_rows f n t) (shifted row))
    (subst (InSpan f n (residue_rows f n t)) (sym (ones_shifted n)) (ones_in f n t))
    (λ k l. subst (InSpan f n (residue_rows f n t)) (sym (shifted_is n (cyclic_shift n k w) (length_shift n k w) ∙ shift_after n k w l)) (shift_moved f n t k l))

pub shift_none : (n : ℕ) (w : List ℕ) → length w ≡ n → cyclic_shift n 0 w ≡ w
shift_none n w e =
    same_picks n (cyclic_shift n 0 w) w (length_shift n 0 w) e (λ i l.
    let b : i + (n - 0) ≡ i + n = omega arith in
    index_shift n 0 w i l ∙ ap (slice_index w) (ap (λ m. m % n) b ∙ add-mod_right i n ∙ mod-eq_of_lt l))

pub word_in : (f : FieldName) (n t : ℕ) → 0 < n → InSpan f n (residue_rows f n t) (residue_word f n t)
word_in f n t p =
    let w = residue_word f n t in
    subst (InSpan f n (residue_rows f n t)) (shift_none n w (residue_word_is f n t).long) (shift_in f n t 0 p)
