-- That some rows are the reduced generator matrix of a set of words, from tests over all words of their length; for worked examples.
--   is_code_test f n ps rows test      the tests: the rows are words, reduced with their leading entries at ps, and a word of length n
--                              is one of their words exactly if it passes the test
--   code_from_test             then they are that of the words of which the test tests
--   is_uuv C D, uuv_holds, uuv_passes      the test of a word (u|u+v)
--   is_alternant f form, alternant_holds, alternant_passes      the test of an alternant word
use Rattle.std.proofs.Common.{◌≡◌, ℕ, Bool, true, false, not, ◌==◌, ◌&&◌, ◌||◌, List, [], ◌∷◌, refl, ◌++◌}
use Rattle.std.specs.List.{list_all, list_any}
use Rattle.std.proofs.lemmas.Bool.{and_parts, eqb-true, eq-eqb, false≢true}
use Rattle.std.proofs.lemmas.List.Elements.{All-contains}
use Rattle.lc_algebra.specs.declared.FieldName.{FieldName}
use Rattle.lc_algebra.specs.Field.{size}
use Rattle.lc_algebra.specs.Word.{IsWord, word_sum}
use Rattle.lc_algebra.specs.Span.{below, words}
use Rattle.lc_algebra.specs.Matrix.{Matrix, AreRows}
use Rattle.lc_algebra.proofs.SpanLaws.{span_word, below_contains, contains_below}
use Rattle.lc_algebra.proofs.SpanSearch.{pivots_test, pivots_from_test, contains_any}
use Rattle.lc_constructions.specs.Basic.{all_lists}
use Rattle.lc_constructions.specs.Code.{IsCode}
use Rattle.lc_constructions.specs.Alternant.{AlternantForm, syndrome_at, IsAlternantWord}
use Rattle.lc_enumeration.specs.InformationSet.{in_span}
use Rattle.lc_enumeration.proofs.MemberLaws.{in_span_true, true_in_span}
use Rattle.lc_algebra.proofs.SpanLaws.{word_of_member, member_of_word}
use Rattle.lc_algebra.proofs.SpanSearch.{any_contains}
use Rattle.lc_constructions.specs.Combined.{InUuv}
use Rattle.lc_constructions.proofs.ExpansionLaws.{each_list}
use Rattle.lc_enumeration.specs.InformationSet.{same_word}
use Rattle.lc_enumeration.proofs.MemberLaws.{same_from_test, test_from_same}
use Rattle.lc_formats.specs.Check.{fit}
use Rattle.lc_formats.proofs.TestLaws.{all_holds, all_passes, word_holds}
use Rattle.lc_enumeration.proofs.GreedyLaws.{each_contained}

abbrev pub is_code_test : FieldName → ℕ → List ℕ → List (List ℕ) → (List ℕ → Bool) → Bool
is_code_test f n ps rows test = list_all (fit f n) rows && (pivots_test n ps rows && list_all (λ w. (not (in_span f n rows w) || test w) && (not (test w) || in_span f n rows w)) (all_lists (size f) n))

implied : (a b : Bool) → (not a || b) ≡ true → a ≡ true → b ≡ true
implied true b h e = h
implied false b h e = absurd (false≢true e)

pub code_from_test : (f : FieldName) (n : ℕ) (ps : List ℕ) (rows : List (List ℕ)) (test : List ℕ → Bool) (P : List ℕ → Type 0) → ((w : List ℕ) → test w ≡ true → P w) → ((w : List ℕ) → P w → test w ≡ true) → is_code_test f n ps rows test ≡ true → IsCode f n P (record { field = f; columns = n; rows = rows })
code_from_test f n ps rows test P holds passes e =
    let both = λ (w : List ℕ). (not (in_span f n rows w) || test w) && (not (test w) || in_span f n rows w) in
    let one = and_parts (list_all (fit f n) rows) (pivots_test n ps rows && list_all both (all_lists (size f) n)) e in
    let two = and_parts (pivots_test n ps rows) (list_all both (all_lists (size f) n)) one.1 in
    let words : AreRows f n rows = all_holds (fit f n) (IsWord f n) (word_holds f n) rows one.0 in
    let at : (w : List ℕ) → IsWord f n w → both w ≡ true = λ w h. All-contains (λ v. both v ≡ true) (all_lists (size f) n) w (all_holds both (λ v. both v ≡ true) (λ v k. k) (all_lists (size f) n) two.1) (each_list f n w h) in
    record {
      over = refl;
      length_is = refl;
      generator = record {
        members = λ w. (
          (λ i.
              let h = span_word f n rows w words i in
              (h, holds w (implied (in_span f n rows w) (test w) (and_parts (not (in_span f n rows w) || test w) (not (test w) || in_span f n rows w) (at w h)).0 (true_in_span f n rows w i)))),
          (λ p. in_span_true f n rows w (implied (test w) (in_span f n rows w) (and_parts (not (in_span f n rows w) || test w) (not (test w) || in_span f n rows w) (at w p.0)).1 (passes w p.1))),
        );
        reduced = record { pivots = (ps, pivots_from_test n ps rows two.0) };
        words = words;
      };
    }

unfoldable pub is_alternant : FieldName → AlternantForm → List ℕ → Bool
is_alternant f form w = list_all (λ j. syndrome_at f form w j == 0) (below form.r)

pub alternant_holds : (f : FieldName) (form : AlternantForm) (w : List ℕ) → is_alternant f form w ≡ true → IsAlternantWord f form w
unfolding is_alternant
alternant_holds f form w e j l =
    All-contains (λ i. syndrome_at f form w i ≡ 0) (below form.r) j (all_holds (λ i. syndrome_at f form w i == 0) (λ i. syndrome_at f form w i ≡ 0) (λ i h. eqb-true (syndrome_at f form w i) 0 h) (below form.r) e) (below_contains form.r j l)

pub alternant_passes : (f : FieldName) (form : AlternantForm) (w : List ℕ) → IsAlternantWord f form w → is_alternant f form w ≡ true
unfolding is_alternant
alternant_passes f form w h = all_passes (λ j. syndrome_at f form w j == 0) (λ j. syndrome_at f form w j ≡ 0) (λ j e. eq-eqb (syndrome_at f form w j) 0 e) (below form.r) (each_contained (λ j. syndrome_at f form w j ≡ 0) (below form.r) (λ j c. h j (contains_below form.r j c)))

unfoldable pub is_uuv : Matrix → Matrix → List ℕ → Bool
is_uuv C D w = list_any (λ u. list_any (λ v. same_word w (u ++ word_sum C.field u v)) (words D.field D.columns D.rows)) (words C.field C.columns C.rows)

pub uuv_holds : (C D : Matrix) (w : List ℕ) → is_uuv C D w ≡ true → InUuv C D w
unfolding is_uuv
uuv_holds C D w e =
    let s = any_contains (λ u. list_any (λ v. same_word w (u ++ word_sum C.field u v)) (words D.field D.columns D.rows)) (words C.field C.columns C.rows) e in
    let t = any_contains (λ v. same_word w (s.0 ++ word_sum C.field s.0 v)) (words D.field D.columns D.rows) s.2 in
    (s.0, (t.0, word_of_member C.field C.columns C.rows s.0 s.1, word_of_member D.field D.columns D.rows t.0 t.1, same_from_test w (s.0 ++ word_sum C.field s.0 t.0) t.2))

pub uuv_passes : (C D : Matrix) (w : List ℕ) → InUuv C D w → is_uuv C D w ≡ true
unfolding is_uuv
uuv_passes C D w h =
    let u = h.0 in
    let v = h.1.0 in
    contains_any (λ u. list_any (λ v. same_word w (u ++ word_sum C.field u v)) (words D.field D.columns D.rows)) (words C.field C.columns C.rows) u (member_of_word C.field C.columns C.rows u h.1.1)
    (contains_any (λ v. same_word w (u ++ word_sum C.field u v)) (words D.field D.columns D.rows) v (member_of_word D.field D.columns D.rows v h.1.2) (test_from_same w (u ++ word_sum C.field u v) h.1.3))
