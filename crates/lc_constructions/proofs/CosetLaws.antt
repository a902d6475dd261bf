-- Coset leaders give nearest words, and words of one coset have one syndrome.
--   leader_is_nearest      x less the leader of its coset is the word nearest to x
--   leader_once            each coset has one leader
--   leader_exists          and it has one
--   syndrome_once          words of one coset have the same syndrome
--   table_is_nearest       so a table of leaders tells the nearest word
use Rattle.std.proofs.Common.{◌≡◌, ℕ, List, [], ◌∷◌, length, slice_index_or, refl, sym, ap, ap₂, subst, ◌∙◌}
use Rattle.std.proofs.lemmas.List.Elements.{All-head, All-tail}
use Rattle.lc_algebra.specs.declared.FieldName.{FieldName}
use Rattle.lc_algebra.specs.Residue.{number}
use Rattle.lc_algebra.specs.Field.{size, add, neg}
use Rattle.lc_algebra.specs.Word.{IsWord, word_sum, scale, difference, word_dot, ComesNoLater}
use Rattle.lc_algebra.specs.Matrix.{Matrix, AreRows, IsOrthogonal}
use Rattle.lc_algebra.proofs.FieldLaws.{subtract_zero}
use Rattle.lc_algebra.proofs.WordLaws.{scale_sum, sum_assoc, sum_negative, zero_sum, IsWord_difference, dot_inside, dot_sum, dot_scale, no_later_antisymmetric, length_scale, neg_one_twice, one_scale, scale_scale}
use Rattle.lc_algebra.proofs.FieldLaws.{neg_one_mul}
use Rattle.lc_algebra.proofs.SpanLaws.{span_word}
use Rattle.lc_constructions.specs.Code.{InCode}
use Rattle.lc_constructions.specs.Nearest.{IsNearest}
use Rattle.lc_constructions.specs.Coset.{AreInOneCoset, IsLeader, syndrome, IsParityCheck, IsLeaderTable}
use Rattle.lc_constructions.proofs.NearestLaws.{nearest_exists}

-- x less (x less e) is e
difference_twice : (f : FieldName) (n : ℕ) (x e : List ℕ) → IsWord f n x → IsWord f n e → difference f x (difference f x e) ≡ e
unfolding difference
difference_twice f n x e a b =
    let m = neg f 1 in
    let y = scale f m x in
    let s : scale f m (word_sum f x (scale f m e)) ≡ word_sum f y e = scale_sum f m x (scale f m e) ∙ ap (word_sum f y) (scale_scale f m m e ∙ ap (λ c. scale f c e) (neg_one_twice f) ∙ one_scale f e b.fits) in
    ap (word_sum f x) s ∙ sym (sum_assoc f x y e) ∙ ap (λ t. word_sum f t e) (sum_negative f n x a.long) ∙ zero_sum f n e b

pub leader_is_nearest : (C : Matrix) (x e : List ℕ) → AreRows C.field C.columns C.rows → IsWord C.field C.columns x → IsLeader C x e → IsNearest C x (difference C.field x e)
leader_is_nearest C x e r a h =
    let f = C.field in
    let n = C.columns in
    record {
      inside = h.inside;
      first = λ v c.
          let b = span_word f n C.rows v r c in
          let d = difference f x v in
          let w : IsWord f n d = IsWord_difference f n x v a.long b.long in
          let one : AreInOneCoset C x d = subst (InCode C) (sym (difference_twice f n x v a b)) c in
          subst (λ u. ComesNoLater u d) (sym (difference_twice f n x e a h.word)) (h.first d w one);
    }

pub leader_once : (C : Matrix) (x d e : List ℕ) → IsLeader C x d → IsLeader C x e → d ≡ e
leader_once C x d e h k = no_later_antisymmetric d e (h.word.long ∙ sym k.word.long) (h.first e k.word k.inside) (k.first d h.word h.inside)

pub leader_exists : (C : Matrix) (x : List ℕ) → AreRows C.field C.columns C.rows → IsWord C.field C.columns x → (e : List ℕ) × IsLeader C x e
leader_exists C x r a =
    let f = C.field in
    let n = C.columns in
    let (w, h) = nearest_exists C x r a.long in
    let b = span_word f n C.rows w r h.inside in
    let e = difference f x w in (
      e,
      record {
        word = IsWord_difference f n x w a.long b.long;
        inside = subst (InCode C) (sym (difference_twice f n x w a b)) h.inside;
        first = λ d k c.
            let t = h.first (difference f x d) c in
            subst (λ u. ComesNoLater e u) (difference_twice f n x d a k) t;
      },
    )

syndrome_zero : (f : FieldName) (n : ℕ) (checks : List (List ℕ)) (x y : List ℕ) → length x ≡ length y → IsOrthogonal f checks (difference f x y) → syndrome f checks x ≡ syndrome f checks y
unfolding syndrome difference
syndrome_zero f n [] x y e h = refl
syndrome_zero f n (row ∷ checks) x y e h =
    let t : word_dot f row (word_sum f x (scale f (neg f 1) y)) ≡ 0 = All-head (λ row. word_dot f row (difference f x y) ≡ 0) row checks h in
    let s : add f (word_dot f row x) (neg f (word_dot f row y)) ≡ 0 =
    ap (add f (word_dot f row x)) (sym (dot_scale f (neg f 1) row y ∙ neg_one_mul f (word_dot f row y))) ∙ sym (dot_sum f row x (scale f (neg f 1) y) (e ∙ sym (length_scale f (neg f 1) y))) ∙ t in
    ap₂ (λ a u. a ∷ u) (subtract_zero f (word_dot f row x) (word_dot f row y) (dot_inside f row x) (dot_inside f row y) s)
    (syndrome_zero f n checks x y e (All-tail (λ row. word_dot f row (difference f x y) ≡ 0) row checks h))

pub syndrome_once : (C : Matrix) (checks : List (List ℕ)) (x y : List ℕ) → IsParityCheck C checks → IsWord C.field C.columns x → IsWord C.field C.columns y → AreInOneCoset C x y → syndrome C.field checks x ≡ syndrome C.field checks y
syndrome_once C checks x y p a b c =
    syndrome_zero C.field C.columns checks x y (a.long ∙ sym b.long) ((p.words (difference C.field x y) (IsWord_difference C.field C.columns x y a.long b.long)).0 c)

pub table_is_nearest : (C : Matrix) (checks leaders : List (List ℕ)) (x : List ℕ) → AreRows C.field C.columns C.rows → IsLeaderTable C checks leaders → IsWord C.field C.columns x → IsNearest C x (difference C.field x (slice_index_or leaders (number (size C.field) (syndrome C.field checks x)) []))
table_is_nearest C checks leaders x r t a = leader_is_nearest C x (slice_index_or leaders (number (size C.field) (syndrome C.field checks x)) []) r a (t.leads x a)
