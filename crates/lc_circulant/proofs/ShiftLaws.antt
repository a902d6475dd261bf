-- Cyclic shifts, one after another.
--   shifted_last           the shift brings the last symbol to the front
--   shifted_by_turned      i shifts bring the last i symbols to the front
--   shifted_pushed         so a list gets the word after i shifts
--   shifted_round          as many shifts as the word has symbols change nothing
--   shifted_by_word        the shifts of a word are words
use Rattle.std.proofs.Common.{◌≡◌, ℕ, zero, suc, ◌-◌, ◌≤◌, ◌<◌, List, [], ◌∷◌, ◌++◌, length, take, drop, slice_index_or, refl, sym, ap, ap₂, ◌∙◌, arith}
use Rattle.std.proofs.Math.Seq.{take-suc, drop-cons}
use Rattle.std.proofs.lemmas.List.{append-nil, append_assoc, drop_all, take_all}
use Rattle.lc_algebra.specs.declared.FieldName.{FieldName}
use Rattle.lc_algebra.specs.Residue.{top, up}
use Rattle.lc_algebra.specs.Word.{IsWord}
use Rattle.lc_language.specs.Relations.{shifted}
use Rattle.lc_language.specs.Circulant.{shifted_by}
use Rattle.lc_relations.proofs.StructureLaws.{shift_word}

top_last : (c : ℕ) (u : List ℕ) (a : ℕ) → top c (u ++ a ∷ []) ≡ a
unfolding top
top_last c [] a = refl
top_last c (x ∷ u) a = top_last x u a

up_last : (c : ℕ) (u : List ℕ) (a : ℕ) → up c (u ++ a ∷ []) ≡ c ∷ u
unfolding up
up_last c [] a = refl
up_last c (x ∷ u) a = ap (λ w. c ∷ w) (up_last x u a)

pub shifted_last : (u : List ℕ) (a : ℕ) → shifted (u ++ a ∷ []) ≡ a ∷ u
unfolding shifted
shifted_last u a = ap (λ b. up b (u ++ a ∷ [])) (top_last 0 u a) ∙ up_last a u a

pub shifted_by_turned : (i : ℕ) (x : List ℕ) → i ≤ length x → shifted_by i x ≡ drop (length x - i) x ++ take (length x - i) x
unfolding shifted_by
shifted_by_turned zero x l =
    let e : length x - 0 ≡ length x = omega arith in
    sym (ap (λ k. drop k x ++ take k x) e ∙ ap₂ (λ (u v : List ℕ). u ++ v) (drop_all (length x) x (omega arith)) (take_all (length x) x (omega arith)))
shifted_by_turned (suc i) x l =
    let k = length x - suc i in
    let inside : k < length x = omega (arith, l) in
    let e : length x - i ≡ suc k = omega (arith, l) in
    let a = slice_index_or x k 0 in
    let back = drop (suc k) x in
    let front = take k x in
    let before : shifted_by i x ≡ back ++ take (suc k) x = shifted_by_turned i x (omega (arith, l)) ∙ ap (λ j. drop j x ++ take j x) e in
    let whole : back ++ take (suc k) x ≡ (back ++ front) ++ a ∷ [] = ap (λ (v : List ℕ). back ++ v) (take-suc x k 0 inside) ∙ sym (append_assoc back front (a ∷ [])) in
    ap shifted (before ∙ whole) ∙ shifted_last (back ++ front) a ∙ ap (λ (u : List ℕ). u ++ front) (sym (drop-cons x k 0 inside))

pub shifted_pushed : (i : ℕ) (x s t u front back : List ℕ) → i ≤ length x → back ≡ drop (length x - i) x → front ≡ take (length x - i) x → t ≡ s ++ back → u ≡ t ++ front → u ≡ s ++ shifted_by i x
shifted_pushed i x s t u front back l b f e k =
    k ∙ ap (λ (v : List ℕ). v ++ front) e ∙ append_assoc s back front ∙ ap (λ (v : List ℕ). s ++ v) (ap₂ (λ (v w : List ℕ). v ++ w) b f ∙ sym (shifted_by_turned i x l))

pub shifted_round : (n : ℕ) (x : List ℕ) → length x ≡ n → shifted_by n x ≡ x
shifted_round n x e =
    let d : length x - n ≡ 0 = omega (arith, e) in
    shifted_by_turned n x (omega (arith, e)) ∙ ap (λ k. drop k x ++ take k x) d ∙ append-nil x

pub shifted_by_word : (f : FieldName) (n i : ℕ) (x : List ℕ) → IsWord f n x → IsWord f n (shifted_by i x)
unfolding shifted_by
shifted_by_word f n zero x w = w
shifted_by_word f n (suc i) x w = shift_word f n (shifted_by i x) (shifted_by_word f n i x w)
