-- The tests for words that are 0 on some coordinates, or outside them, and what they test.
--   zero_on_from_test, test_from_zero_on              on the coordinates of a set
--   zero_outside_from_test, test_from_zero_outside    on all others
use Rattle.std.proofs.Common.{◌≡◌, ℕ, Bool, true, ◌||◌, ◌==◌, List, [], ◌∷◌, length, slice_index, sym, ◌∙◌, ⊎_elim}
use Rattle.std.specs.List.{list_all}
use Rattle.std.proofs.lemmas.Bool.{and_parts, or_cases, or_left, or_right, eqb-true, eq-eqb, cases_Bool, false≢true}
use Rattle.std.proofs.lemmas.List.Elements.{All-nil, All-cons, All-contains}
use Rattle.std.proofs.lemmas.List.Sums.{AllPass-from_list_all}
use Rattle.lc_algebra.specs.Span.{below}
use Rattle.lc_algebra.proofs.SpanLaws.{contains_below, below_contains}
use Rattle.lc_algebra.proofs.DivisorLaws.{each_passes}
use Rattle.lc_enumeration.specs.InformationSet.{is_member}
use Rattle.lc_enumeration.specs.Distribution.{IsZeroOn, IsZeroOutside, is_zero_on, is_zero_outside}
use Rattle.lc_enumeration.proofs.MemberLaws.{member_true, true_member}

pub zero_on_from_test : (set w : List ℕ) → is_zero_on set w ≡ true → IsZeroOn set w
unfolding is_zero_on
zero_on_from_test [] w h = All-nil (λ p. slice_index w p ≡ 0)
zero_on_from_test (p ∷ set) w h =
    let s = and_parts (slice_index w p == 0) (list_all (λ r. slice_index w r == 0) set) h in
    All-cons (λ r. slice_index w r ≡ 0) p set (eqb-true (slice_index w p) 0 s.0) (zero_on_from_test set w s.1)

pub test_from_zero_on : (set w : List ℕ) → IsZeroOn set w → is_zero_on set w ≡ true
unfolding is_zero_on
test_from_zero_on set w h = each_passes (λ p. slice_index w p == 0) set (λ p l. eq-eqb (slice_index w p) 0 (All-contains (λ r. slice_index w r ≡ 0) set p h l))

pub zero_outside_from_test : (set w : List ℕ) → is_zero_outside set w ≡ true → IsZeroOutside set w
unfolding is_zero_outside
zero_outside_from_test set w h = λ p l out.
    let test : ℕ → Bool = λ r. is_member set r || (slice_index w r == 0) in
    let passes : test p ≡ true = All-contains (λ r. test r ≡ true) (below (length w)) p (AllPass-from_list_all test (below (length w)) h) (below_contains (length w) p l) in
    ⊎_elim (λ m. absurd (out (true_member set p m))) (λ z. eqb-true (slice_index w p) 0 z) (or_cases (is_member set p) (slice_index w p == 0) passes)

pub test_from_zero_outside : (set w : List ℕ) → IsZeroOutside set w → is_zero_outside set w ≡ true
unfolding is_zero_outside
test_from_zero_outside set w h = each_passes (λ p. is_member set p || (slice_index w p == 0)) (below (length w)) (λ p l.
    ⊎_elim
    (λ m. or_left (is_member set p) (slice_index w p == 0) m)
    (λ m. or_right (is_member set p) (slice_index w p == 0) (eq-eqb (slice_index w p) 0 (h p (contains_below (length w) p l) (λ c. false≢true (sym m ∙ member_true set p c)))))
    (cases_Bool (is_member set p)))
