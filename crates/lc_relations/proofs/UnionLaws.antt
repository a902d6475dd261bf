-- The dual and the dimension of a sum of codes.
--   told                 the words of a code that is told by its words
--   shared, shared_rows  the words and the rows of a code over the field and of the length of another one
--   in_union_left, in_union_right      the words of both codes are in the sum
--   union_dual           the dual of the sum is the intersection of the duals
--   behind               the words of the last rows of a list are words of the list
--   second_of            of a sum, the second word is it less the first
--   extended             rows of one code that are independent of another one and of a part of it, and make up for it
--   union_dimension      the dimensions of the sum and of the intersection add up to those of the codes
--   augmented_union      a code with further rows is its sum with the code of these rows
use Rattle.std.proofs.Common.{◌≡◌, ℕ, ◌+◌, ◌↔◌, List, [], ◌∷◌, ◌++◌, length, sym, ap, ap₂, subst, ◌∙◌, ⊎_elim, arith}
use Rattle.std.proofs.lemmas.List.{length-append}
use Rattle.std.proofs.lemmas.List.Elements.{All-head, All-tail, All-cons}
use Rattle.lc_algebra.specs.declared.FieldName.{FieldName}
use Rattle.lc_algebra.specs.Field.{add, neg}
use Rattle.lc_algebra.specs.Word.{IsWord, zero_word, word_sum, scale, word_dot}
use Rattle.lc_algebra.specs.Span.{InSpan, SameSpan, AreIndependent}
use Rattle.lc_algebra.specs.Matrix.{Matrix, AreRows, IsReduced}
use Rattle.lc_algebra.proofs.FieldLaws.{add_zero, zero_inside}
use Rattle.lc_algebra.proofs.WordLaws.{sum_comm, sum_zero, zero_sum, sum_dot, multiple_undone, one_scale}
use Rattle.lc_algebra.proofs.SpanLaws.{span_word, span_zero, span_sum, span_scale, span_more, span_decided}
use Rattle.lc_algebra.proofs.ReducedLaws.{reduced_independent}
use Rattle.lc_algebra.proofs.DimensionLaws.{dimension_unique}
use Rattle.lc_constructions.specs.Code.{InCode, IsCode}
use Rattle.lc_constructions.specs.Basic.{GeneratedBy}
use Rattle.lc_constructions.specs.Combined.{InDual, InIntersection}
use Rattle.lc_constructions.proofs.ClosedLaws.{span_of_both}
use Rattle.lc_language.specs.Relations.{InAugmented, InUnion}
use Rattle.lc_infoset.proofs.GreedyLaws.{independent_cons}
use Rattle.lc_linear_laws.proofs.PartLaws.{span_parted, rows_append}
use Rattle.lc_code.proofs.CodeLaws.{same_code}

pub told : (f : FieldName) (n : ℕ) (P : List ℕ → Type 0) (C : Matrix) (w : List ℕ) → IsCode f n P C → InCode C w ↔ (IsWord f n w × P w)
told f n P C w c = (
  (λ i. (c.generator.members w).0 (subst (λ m. InSpan f m C.rows w) c.length_is (subst (λ g. InSpan g C.columns C.rows w) c.over i))),
  (λ m. subst (λ g. InSpan g C.columns C.rows w) (sym c.over) (subst (λ k. InSpan f k C.rows w) (sym c.length_is) ((c.generator.members w).1 m))),
)

pub shared : (C D : Matrix) (w : List ℕ) → C.field ≡ D.field → C.columns ≡ D.columns → InCode D w ↔ InSpan C.field C.columns D.rows w
shared C D w x y = (
  (λ i. subst (λ m. InSpan C.field m D.rows w) (sym y) (subst (λ g. InSpan g D.columns D.rows w) (sym x) i)),
  (λ i. subst (λ m. InSpan D.field m D.rows w) y (subst (λ g. InSpan g C.columns D.rows w) x i)),
)

pub shared_rows : (C D : Matrix) → C.field ≡ D.field → C.columns ≡ D.columns → AreRows D.field D.columns D.rows → AreRows C.field C.columns D.rows
shared_rows C D x y r = subst (λ m. AreRows C.field m D.rows) (sym y) (subst (λ g. AreRows g D.columns D.rows) (sym x) r)

pub in_union_left : (C D : Matrix) (w : List ℕ) → C.field ≡ D.field → C.columns ≡ D.columns → AreRows C.field C.columns C.rows → AreRows D.field D.columns D.rows → InCode C w → InUnion C D w
in_union_left C D w x y r s i =
    let n = C.columns in
    (w, (zero_word n, i, (shared C D (zero_word n) x y).1 (span_zero C.field n D.rows (shared_rows C D x y s)), sym (sum_zero C.field n w (span_word C.field n C.rows w r i))))

pub in_union_right : (C D : Matrix) (w : List ℕ) → C.field ≡ D.field → C.columns ≡ D.columns → AreRows C.field C.columns C.rows → AreRows D.field D.columns D.rows → InCode D w → InUnion C D w
in_union_right C D w x y r s i =
    let n = C.columns in
    (zero_word n, (w, span_zero C.field n C.rows r, i, sym (zero_sum C.field n w (span_word C.field n D.rows w (shared_rows C D x y s) ((shared C D w x y).0 i)))))

-- ---- the dual

dual_of_union : (C D U : Matrix) (w : List ℕ) → C.field ≡ D.field → C.columns ≡ D.columns → AreRows C.field C.columns C.rows → AreRows D.field D.columns D.rows → IsCode C.field C.columns (InUnion C D) U → InDual U w ↔ (InDual C w × InDual D w)
dual_of_union C D U w x y r s c =
    let f = C.field in
    let n = C.columns in
    let words : AreRows f n D.rows = shared_rows C D x y s in (
      (λ h. (
        (λ v i. ap (λ g. word_dot g v w) (sym c.over) ∙ h v ((told f n (InUnion C D) U v c).1 (span_word f n C.rows v r i, in_union_left C D v x y r s i))),
        (λ v i. ap (λ g. word_dot g v w) (sym x ∙ sym c.over) ∙ h v ((told f n (InUnion C D) U v c).1 (span_word f n D.rows v words ((shared C D v x y).0 i), in_union_right C D v x y r s i))),
      )),
      (λ h v i.
          let (word, (a, (b, p, q, e))) = (told f n (InUnion C D) U v c).0 i in
          let long : length a ≡ length b = (span_word f n C.rows a r p).long ∙ sym (span_word f n D.rows b words ((shared C D b x y).0 q)).long in
          let second : word_dot f b w ≡ 0 = ap (λ g. word_dot g b w) x ∙ h.1 b q in
          ap (λ g. word_dot g v w) c.over ∙ ap (λ u. word_dot f u w) e ∙ sum_dot f a b w long ∙ ap₂ (add f) (h.0 a p) second ∙ add_zero f 0 (zero_inside f)),
    )

pub union_dual : (C D U H K E : Matrix) → C.field ≡ D.field → C.columns ≡ D.columns → AreRows C.field C.columns C.rows → AreRows D.field D.columns D.rows → IsCode C.field C.columns (InUnion C D) U → IsCode C.field C.columns (InDual C) H → IsCode C.field C.columns (InDual D) K → IsCode C.field C.columns (InDual U) E → IsCode C.field C.columns (InIntersection H K) E
union_dual C D U H K E x y r s c d e k =
    let f = C.field in
    let n = C.columns in
    same_code f n (InDual U) (InIntersection H K) E (λ w word. (
      (λ h. let t = (dual_of_union C D U w x y r s c).0 h in ((told f n (InDual C) H w d).1 (word, t.0), (told f n (InDual D) K w e).1 (word, t.1))),
      (λ t. (dual_of_union C D U w x y r s c).1 (((told f n (InDual C) H w d).0 t.0).1, ((told f n (InDual D) K w e).0 t.1).1)),
    )) k

-- ---- the dimension

pub behind : (f : FieldName) (n : ℕ) (rows others : List (List ℕ)) (w : List ℕ) → AreRows f n rows → AreRows f n others → InSpan f n others w → InSpan f n (rows ++ others) w
behind f n [] others w r s i = i
behind f n (g ∷ rows) others w r s i =
    let t = All-tail (IsWord f n) g rows r in
    span_more f n g (rows ++ others) w (rows_append f n (g ∷ rows) others r s) (behind f n rows others w t s i)

pub record Extended (f : FieldName) (n : ℕ) (base part rows : List (List ℕ)) : Type 0 where
  pub added : List (List ℕ)
  pub words : AreRows f n added
  pub inside : (w : List ℕ) → InSpan f n added w → InSpan f n rows w
  pub free : AreIndependent f n (added ++ base)
  pub free_of_part : AreIndependent f n (added ++ part)
  pub covers : (w : List ℕ) → InSpan f n rows w → InSpan f n (added ++ base) w

none_added : (f : FieldName) (n : ℕ) → AreRows f n []
none_added f n k d l = absurd (omega (arith, l))

pub extended : (f : FieldName) (n : ℕ) (base part rows : List (List ℕ)) → AreRows f n base → AreRows f n part → AreRows f n rows → AreIndependent f n base → AreIndependent f n part → ((w : List ℕ) → InSpan f n part w → InSpan f n base w) → Extended f n base part rows
extended f n base part [] b p r h k into = record {
  added = [];
  words = none_added f n;
  inside = λ w i. i;
  free = h;
  free_of_part = k;
  covers = λ w e. subst (InSpan f n base) (sym e) (span_zero f n base b);
}
extended f n base part (g ∷ rows) b p r h k into =
    let word = All-head (IsWord f n) g rows r in
    let tail = All-tail (IsWord f n) g rows r in
    let t = extended f n base part rows b p tail h k into in
    ⊎_elim
    (λ (i : InSpan f n (t.added ++ base) g). record {
      added = t.added;
      words = t.words;
      inside = λ w m. span_more f n g rows w r (t.inside w m);
      free = t.free;
      free_of_part = t.free_of_part;
      covers = λ w (c, l, (v, q, e)). subst (InSpan f n (t.added ++ base)) (sym e) (span_sum f n (t.added ++ base) (scale f c g) v (span_scale f n (t.added ++ base) c g i) (t.covers v q));
    })
    (λ (out : InSpan f n (t.added ++ base) g → ⊥).
    let out_of_part : InSpan f n (t.added ++ part) g → ⊥ = λ i.
    let (u, (v, a, c, e)) = span_parted f n t.added part g p i in
    let v_in : InSpan f n base v = into v c in
    out (subst (InSpan f n (t.added ++ base)) (sym e) (span_of_both f n t.added base u v a v_in (span_word f n base v b v_in))) in
    record {
      added = g ∷ t.added;
      words = All-cons (IsWord f n) g t.added word t.words;
      inside = λ w (c, l, (v, q, e)). (c, l, (v, t.inside v q, e));
      free = independent_cons f n g (t.added ++ base) word (rows_append f n t.added base t.words b) t.free out;
      free_of_part = independent_cons f n g (t.added ++ part) word (rows_append f n t.added part t.words p) t.free_of_part out_of_part;
      covers = λ w (c, l, (v, q, e)). (c, l, (v, t.covers v q, e));
    })
    (span_decided f n (t.added ++ base) g)

-- of a sum, the second word is it less the first
pub second_of : (f : FieldName) (n : ℕ) (a b : List ℕ) → IsWord f n a → IsWord f n b → word_sum f (word_sum f a b) (scale f (neg f 1) a) ≡ b
second_of f n a b p q =
    ap (λ u. word_sum f u (scale f (neg f 1) a)) (sum_comm f a b ∙ ap (word_sum f b) (sym (one_scale f a p.fits))) ∙ multiple_undone f n 1 b a q p.long

pub union_dimension : (C D U I : Matrix) → C.field ≡ D.field → C.columns ≡ D.columns → AreRows C.field C.columns C.rows → IsReduced C.columns C.rows → AreRows D.field D.columns D.rows → IsReduced D.columns D.rows → IsCode C.field C.columns (InUnion C D) U → IsCode C.field C.columns (InIntersection C D) I → length U.rows + length I.rows ≡ length C.rows + length D.rows
union_dimension C D U I x y r p s q c d =
    let f = C.field in
    let n = C.columns in
    let words : AreRows f n D.rows = shared_rows C D x y s in
    let reduced : IsReduced n D.rows = subst (λ m. IsReduced m D.rows) (sym y) q in
    let t = extended f n C.rows I.rows D.rows r d.generator.words words (reduced_independent f n C.rows r p) (reduced_independent f n I.rows d.generator.words d.generator.reduced) (λ w i. ((d.generator.members w).0 i).1.0) in
    let more = t.added in
    let sum : SameSpan f n (more ++ C.rows) U.rows = λ w. (
      (λ i.
          let (a, (b, k, l, e)) = span_parted f n more C.rows w r i in
          (c.generator.members w).1 (span_word f n (more ++ C.rows) w (rows_append f n more C.rows t.words r) i, (b, (a, l, (shared C D a x y).1 (t.inside a k), e ∙ sum_comm f a b)))),
      (λ i.
          let (word, (a, (b, k, l, e))) = (c.generator.members w).0 i in
          subst (InSpan f n (more ++ C.rows)) (sym e) (span_sum f n (more ++ C.rows) a b (behind f n more C.rows a t.words r k) (t.covers b ((shared C D b x y).0 l)))),
    ) in
    let second : SameSpan f n (more ++ I.rows) D.rows = λ w. (
      (λ i.
          let (a, (b, k, l, e)) = span_parted f n more I.rows w d.generator.words i in
          subst (InSpan f n D.rows) (sym e) (span_sum f n D.rows a b (t.inside a k) ((shared C D b x y).0 ((d.generator.members b).0 l).1.1))),
      (λ i.
          let (a, (b, k, l, e)) = span_parted f n more C.rows w r (t.covers w i) in
          let wa = span_word f n more a t.words k in
          let wb = span_word f n C.rows b r l in
          let in_second : InSpan f n D.rows b = subst (InSpan f n D.rows) (ap (λ u. word_sum f u (scale f (neg f 1) a)) e ∙ second_of f n a b wa wb) (span_sum f n D.rows w (scale f (neg f 1) a) i (span_scale f n D.rows (neg f 1) a (t.inside a k))) in
          subst (InSpan f n (more ++ I.rows)) (sym e) (span_of_both f n more I.rows a b k ((d.generator.members b).1 (wb, (l, (shared C D b x y).1 in_second))) wb)),
    ) in
    let first_count = dimension_unique f n (more ++ C.rows) U.rows (rows_append f n more C.rows t.words r) c.generator.words t.free (reduced_independent f n U.rows c.generator.words c.generator.reduced) sum in
    let second_count = dimension_unique f n (more ++ I.rows) D.rows (rows_append f n more I.rows t.words d.generator.words) words t.free_of_part (reduced_independent f n D.rows words reduced) second in
    omega (arith, first_count, second_count, length-append more C.rows, length-append more I.rows)

-- ---- codes with further rows

pub augmented_union : (C D E : Matrix) (rows : List (List ℕ)) → AreRows C.field C.columns rows → IsCode C.field C.columns (GeneratedBy C.field C.columns rows) D → IsCode C.field C.columns (InAugmented C rows) E → IsCode C.field C.columns (InUnion C D) E
augmented_union C D E rows r d e =
    let f = C.field in
    let n = C.columns in
    same_code f n (InAugmented C rows) (InUnion C D) E (λ w _. (
      (λ (u, (v, a, b, k)). (u, (v, a, (told f n (GeneratedBy f n rows) D v d).1 (span_word f n rows v r b, b), k))),
      (λ (u, (v, a, b, k)). (u, (v, a, ((told f n (GeneratedBy f n rows) D v d).0 b).1, k))),
    )) e
