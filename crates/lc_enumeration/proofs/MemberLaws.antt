-- The tests for members of a list of numbers and for equal words, and what they test.
--   member_true, true_member          a number is in a list exactly if the test says so
--   same_from_test, same_itself, test_from_same      two words are equal exactly if the test says so
--   in_span_true, true_in_span        a word is one of the rows' words exactly if the test says so
--   told_member                       so does the test that asks each entry for the number
use Rattle.std.proofs.Common.{◌≡◌, ℕ, Bool, true, ◌==◌, List, [], ◌∷◌, Contains, refl, sym, ap, subst, ◌∙◌, ⊎_elim, ◌≢◌}
use Rattle.std.specs.List.{list_any}
use Rattle.std.proofs.lemmas.Bool.{and_parts, and_from, eqb-true, eq-eqb, false≢true, cases_Bool, true≢false}
use Rattle.lc_algebra.specs.declared.FieldName.{FieldName}
use Rattle.lc_algebra.specs.Span.{InSpan, words}
use Rattle.lc_algebra.proofs.SpanLaws.{word_of_member, member_of_word}
use Rattle.lc_algebra.proofs.SpanSearch.{any_contains, contains_any}
use Rattle.lc_enumeration.specs.InformationSet.{is_member, same_word, in_span}

pub member_true : (set : List ℕ) (c : ℕ) → Contains set c → is_member set c ≡ true
unfolding is_member
member_true set c l = contains_any (λ d. c == d) set c l (eq-eqb c c refl)

pub true_member : (set : List ℕ) (c : ℕ) → is_member set c ≡ true → Contains set c
unfolding is_member
true_member set c h = let t = any_contains (λ d. c == d) set h in subst (Contains set) (sym (eqb-true c t.0 t.2)) t.1

pub same_from_test : (u v : List ℕ) → same_word u v ≡ true → u ≡ v
unfolding same_word
same_from_test [] [] h = refl
same_from_test [] (b ∷ v) h = absurd (false≢true h)
same_from_test (a ∷ u) [] h = absurd (false≢true h)
same_from_test (a ∷ u) (b ∷ v) h =
    let s = and_parts (a == b) (same_word u v) h in
    ap (λ c. c ∷ u) (eqb-true a b s.0) ∙ ap (λ t. b ∷ t) (same_from_test u v s.1)

pub same_itself : (u : List ℕ) → same_word u u ≡ true
unfolding same_word
same_itself [] = refl
same_itself (a ∷ u) = and_from (a == a) (same_word u u) (eq-eqb a a refl) (same_itself u)

pub test_from_same : (u v : List ℕ) → u ≡ v → same_word u v ≡ true
test_from_same u v e = subst (λ w. same_word u w ≡ true) e (same_itself u)

pub in_span_true : (f : FieldName) (n : ℕ) (rows : List (List ℕ)) (w : List ℕ) → in_span f n rows w ≡ true → InSpan f n rows w
unfolding in_span
in_span_true f n rows w h =
    let t = any_contains (same_word w) (words f n rows) h in
    word_of_member f n rows w (subst (Contains (words f n rows)) (sym (same_from_test w t.0 t.2)) t.1)

pub true_in_span : (f : FieldName) (n : ℕ) (rows : List (List ℕ)) (w : List ℕ) → InSpan f n rows w → in_span f n rows w ≡ true
unfolding in_span
true_in_span f n rows w i = contains_any (same_word w) (words f n rows) w (member_of_word f n rows w i) (same_itself w)

pub told_member : (b : Bool) (columns : List ℕ) (c : ℕ) → b ≡ list_any (λ d. d == c) columns → b ≡ is_member columns c
told_member b columns c e =
    e ∙ ⊎_elim
    (λ t. t ∙ sym (let m = any_contains (λ d. d == c) columns t in member_true columns c (subst (Contains columns) (eqb-true m.0 c m.2) m.1)))
    (λ t. t ∙ ⊎_elim (λ u. absurd (true≢false (sym (contains_any (λ d. d == c) columns c (true_member columns c u) (eq-eqb c c refl)) ∙ t))) (λ u. sym u) (cases_Bool (is_member columns c)))
    (cases_Bool (list_any (λ d. d == c) columns))
