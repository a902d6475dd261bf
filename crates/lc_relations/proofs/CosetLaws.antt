-- Syndromes and cosets.
--   orthogonal_syndrome      a syndrome is zero exactly if the word has dot 0 with each row
--   zero_syndrome            exactly the words of the code have the zero syndrome
--   same_syndrome            two words have one syndrome exactly if they differ by a word of the code
use Rattle.std.proofs.Common.{◌≡◌, ℕ, ◌↔◌, List, [], ◌∷◌, length, map, refl, sym, ap, ap₂, ◌∙◌, All, arith}
use Rattle.std.proofs.lemmas.List.Elements.{All-head, All-tail, All-cons}
use Rattle.lc_algebra.specs.declared.FieldName.{FieldName}
use Rattle.lc_algebra.specs.Field.{add, neg}
use Rattle.lc_algebra.specs.Word.{IsWord, zero_word, word_sum, scale, difference, word_dot}
use Rattle.lc_algebra.specs.Matrix.{Matrix, AreRows, IsReduced, IsOrthogonal}
use Rattle.lc_algebra.proofs.FieldLaws.{add_neg, neg_one_mul}
use Rattle.lc_algebra.proofs.WordLaws.{dot_sum, dot_scale, length_scale, IsWord_difference}
use Rattle.lc_constructions.specs.Code.{InCode, IsCode}
use Rattle.lc_constructions.specs.Combined.{InDual}
use Rattle.lc_constructions.specs.Coset.{AreInOneCoset, syndrome, IsParityCheck}
use Rattle.lc_constructions.proofs.CosetLaws.{syndrome_once}
use Rattle.lc_code.proofs.GeneratedLaws.{dual_orthogonal}

no_rows : (P : List ℕ → Type 0) → All P []
no_rows P k d l = absurd (omega (arith, l))

to_orthogonal : (f : FieldName) (checks : List (List ℕ)) (x : List ℕ) → syndrome f checks x ≡ zero_word (length checks) → IsOrthogonal f checks x
unfolding syndrome
to_orthogonal f [] x e = no_rows (λ row. word_dot f row x ≡ 0)
to_orthogonal f (row ∷ checks) x e =
    let head : word_dot f row x ≡ 0 = cc e in
    let tail : map (λ r. word_dot f r x) checks ≡ zero_word (length checks) = cc e in
    All-cons (λ r. word_dot f r x ≡ 0) row checks head (to_orthogonal f checks x tail)

from_orthogonal : (f : FieldName) (checks : List (List ℕ)) (x : List ℕ) → IsOrthogonal f checks x → syndrome f checks x ≡ zero_word (length checks)
unfolding syndrome
from_orthogonal f [] x h = refl
from_orthogonal f (row ∷ checks) x h =
    ap₂ (λ a u. a ∷ u) (All-head (λ r. word_dot f r x ≡ 0) row checks h) (from_orthogonal f checks x (All-tail (λ r. word_dot f r x ≡ 0) row checks h))

pub orthogonal_syndrome : (f : FieldName) (checks : List (List ℕ)) (x : List ℕ) → (syndrome f checks x ≡ zero_word (length checks)) ↔ IsOrthogonal f checks x
orthogonal_syndrome f checks x = (to_orthogonal f checks x, from_orthogonal f checks x)

pub zero_syndrome : (C H : Matrix) (x : List ℕ) → AreRows C.field C.columns C.rows → IsReduced C.columns C.rows → IsCode C.field C.columns (InDual C) H → IsWord C.field C.columns x → (syndrome C.field H.rows x ≡ zero_word (length H.rows)) ↔ InCode C x
zero_syndrome C H x r p d w =
    let t = orthogonal_syndrome C.field H.rows x in
    let s = dual_orthogonal C H x r p d w in
    ((λ e. s.0 (t.0 e)), (λ i. t.1 (s.1 i)))

equal_dots : (f : FieldName) (checks : List (List ℕ)) (x y : List ℕ) → length x ≡ length y → syndrome f checks x ≡ syndrome f checks y → IsOrthogonal f checks (difference f x y)
unfolding syndrome difference
equal_dots f [] x y l e = no_rows (λ row. word_dot f row (difference f x y) ≡ 0)
equal_dots f (row ∷ checks) x y l e =
    let head : word_dot f row x ≡ word_dot f row y = cc e in
    let tail : map (λ r. word_dot f r x) checks ≡ map (λ r. word_dot f r y) checks = cc e in
    let parted : word_dot f row (word_sum f x (scale f (neg f 1) y)) ≡ add f (word_dot f row x) (word_dot f row (scale f (neg f 1) y)) = dot_sum f row x (scale f (neg f 1) y) (l ∙ sym (length_scale f (neg f 1) y)) in
    let turned : word_dot f row (scale f (neg f 1) y) ≡ neg f (word_dot f row x) = dot_scale f (neg f 1) row y ∙ neg_one_mul f (word_dot f row y) ∙ ap (neg f) (sym head) in
    All-cons (λ r. word_dot f r (difference f x y) ≡ 0) row checks (parted ∙ ap (add f (word_dot f row x)) turned ∙ add_neg f (word_dot f row x)) (equal_dots f checks x y l tail)

pub same_syndrome : (C H : Matrix) (x y : List ℕ) → AreRows C.field C.columns C.rows → IsReduced C.columns C.rows → IsCode C.field C.columns (InDual C) H → IsWord C.field C.columns x → IsWord C.field C.columns y → (syndrome C.field H.rows x ≡ syndrome C.field H.rows y) ↔ AreInOneCoset C x y
same_syndrome C H x y r p d a b =
    let f = C.field in
    let n = C.columns in
    let parity : IsParityCheck C H.rows = record { rows = d.generator.words; words = λ w word. let t = dual_orthogonal C H w r p d word in (t.1, t.0) } in (
      (λ e. (dual_orthogonal C H (difference f x y) r p d (IsWord_difference f n x y a.long b.long)).0 (equal_dots f H.rows x y (a.long ∙ sym b.long) e)),
      (λ i. syndrome_once C H.rows x y parity a b i),
    )
