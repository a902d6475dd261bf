-- Rows that are followed by others.
--   side_none, side_more, side_all      the rows, one after another
--   side_words                 they are words
--   length_side                as many as in either list
--   combine_side               a combination of them is that of the first rows, followed by that of the others
use Rattle.std.proofs.Common.{◌≡◌, ℕ, zero, suc, ◌+◌, ◌<◌, List, [], ◌∷◌, ◌++◌, length, take, slice_index_or, refl, sym, ap, ap₂, ◌∙◌, arith}
use Rattle.std.proofs.lemmas.List.Elements.{All-head, All-tail, All-cons}
use Rattle.std.proofs.lemmas.List.{append-nil, append_assoc, take_all}
use Rattle.lc_algebra.specs.declared.FieldName.{FieldName}
use Rattle.lc_algebra.specs.Word.{IsWord, word_sum, scale}
use Rattle.lc_algebra.specs.Span.{combine}
use Rattle.lc_algebra.specs.Matrix.{AreRows}
use Rattle.lc_algebra.proofs.WordLaws.{length_scale}
use Rattle.lc_algebra.proofs.SpanLaws.{combine_is_word}
use Rattle.lc_constructions.proofs.ClosedLaws.{sum_parts, scale_parts, zero_parts}
use Rattle.lc_linear_laws.proofs.PartLaws.{word_append}
use Rattle.lc_extend.specs.Rows.{side_rows}

side_next : (us vs : List (List ℕ)) (i : ℕ) → i < length us → i < length vs → side_rows (take (suc i) us) (take (suc i) vs) ≡ side_rows (take i us) (take i vs) ++ (slice_index_or us i [] ++ slice_index_or vs i []) ∷ []
unfolding side_rows
side_next [] vs i l m = absurd (omega (arith, l))
side_next (u ∷ us) [] i l m = absurd (omega (arith, m))
side_next (u ∷ us) (v ∷ vs) zero l m = refl
side_next (u ∷ us) (v ∷ vs) (suc i) l m = ap (λ (rows : List (List ℕ)). (u ++ v) ∷ rows) (side_next us vs i (omega (arith, l)) (omega (arith, m)))

pub side_none : (us vs old : List (List ℕ)) → old ≡ old ++ side_rows (take 0 us) (take 0 vs)
unfolding side_rows
side_none us vs old = sym (append-nil old)

pub side_more : (us vs old rows new : List (List ℕ)) (i : ℕ) (u v w : List ℕ) → i < length us → i < length vs → u ≡ slice_index_or us i [] → v ≡ slice_index_or vs i [] → w ≡ u ++ v → rows ≡ old ++ side_rows (take i us) (take i vs) → new ≡ rows ++ w ∷ [] → new ≡ old ++ side_rows (take (i + 1) us) (take (i + 1) vs)
side_more us vs old rows new i u v w l m a b e h k =
    let row : w ≡ slice_index_or us i [] ++ slice_index_or vs i [] = e ∙ ap₂ (λ (x y : List ℕ). x ++ y) a b in
    let d : i + 1 ≡ suc i = omega arith in
    k ∙ ap₂ (λ (x : List (List ℕ)) (y : List ℕ). x ++ y ∷ []) h row
    ∙ append_assoc old (side_rows (take i us) (take i vs)) ((slice_index_or us i [] ++ slice_index_or vs i []) ∷ [])
    ∙ ap (λ (x : List (List ℕ)). old ++ x) (sym (side_next us vs i l m))
    ∙ ap (λ j. old ++ side_rows (take j us) (take j vs)) (sym d)

pub side_all : (us vs old rows : List (List ℕ)) (i : ℕ) → length us ≡ length vs → length vs ≡ i → rows ≡ old ++ side_rows (take i us) (take i vs) → rows ≡ old ++ side_rows us vs
side_all us vs old rows i e k h =
    h ∙ ap₂ (λ (x y : List (List ℕ)). old ++ side_rows x y) (take_all i us (omega (arith, e, k))) (take_all i vs (omega (arith, k)))

pub ruleset push_side_laws = (side_none, side_more, side_all)

pub side_words : (f : FieldName) (n m : ℕ) (us vs : List (List ℕ)) → AreRows f n us → AreRows f m vs → AreRows f (n + m) (side_rows us vs)
unfolding side_rows
side_words f n m [] vs r s = λ i d l. absurd (omega (arith, l))
side_words f n m (u ∷ us) [] r s = λ i d l. absurd (omega (arith, l))
side_words f n m (u ∷ us) (v ∷ vs) r s =
    All-cons (IsWord f (n + m)) (u ++ v) (side_rows us vs) (word_append f n m u v (All-head (IsWord f n) u us r) (All-head (IsWord f m) v vs s))
    (side_words f n m us vs (All-tail (IsWord f n) u us r) (All-tail (IsWord f m) v vs s))

pub length_side : (us vs : List (List ℕ)) → length us ≡ length vs → length (side_rows us vs) ≡ length vs
unfolding side_rows
length_side [] [] e = refl
length_side [] (v ∷ vs) e = absurd (omega (arith, e))
length_side (u ∷ us) [] e = absurd (omega (arith, e))
length_side (u ∷ us) (v ∷ vs) e = ap suc (length_side us vs (omega (arith, e)))

pub combine_side : (f : FieldName) (n m : ℕ) (cs : List ℕ) (us vs : List (List ℕ)) → AreRows f n us → AreRows f m vs → length us ≡ length vs → combine f (n + m) cs (side_rows us vs) ≡ combine f n cs us ++ combine f m cs vs
unfolding side_rows combine
combine_side f n m [] [] [] r s e = sym (zero_parts n m)
combine_side f n m (c ∷ cs) [] [] r s e = sym (zero_parts n m)
combine_side f n m cs [] (v ∷ vs) r s e = absurd (omega (arith, e))
combine_side f n m cs (u ∷ us) [] r s e = absurd (omega (arith, e))
combine_side f n m [] (u ∷ us) (v ∷ vs) r s e = sym (zero_parts n m)
combine_side f n m (c ∷ cs) (u ∷ us) (v ∷ vs) r s e =
    let rest = combine_side f n m cs us vs (All-tail (IsWord f n) u us r) (All-tail (IsWord f m) v vs s) (omega (arith, e)) in
    let first : length (scale f c u) ≡ length (combine f n cs us) =
    length_scale f c u ∙ (All-head (IsWord f n) u us r).long ∙ sym (combine_is_word f n cs us (All-tail (IsWord f n) u us r)).long in
    ap₂ (word_sum f) (scale_parts f c u v) rest ∙ sum_parts f (scale f c u) (combine f n cs us) (scale f c v) (combine f m cs vs) first
