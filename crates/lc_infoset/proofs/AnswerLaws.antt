-- Every answer of a search is true.
--   some_set                     a code has an information set
--   done_distance                if the search is done, the best weight is the minimum distance
--   Greatest, greatest_of        the greatest of 0 and some numbers
--   filter_keeps                a filter keeps what passes
--   last_that_same               the last number that passes, by equal tests
--   find_none                    a test that finds nothing is passed by nothing
--   ends_to, ends_are            the phase ends up to a budget
--   whole_is, level_of      the levels that lie wholly below some blocks
--   levels_same                  below some blocks the same levels lie wholly as below the last phase end before them
--   bound_same, bound_whole      the bound depends on the levels alone if none is k, and else is the weight
--   open_bound                   if the search isn't done at the last phase end, no word is lighter than the bound
--   answer_holds                 the answer is true
use Rattle.std.proofs.Common.{◌≡◌, ℕ, zero, suc, ◌+◌, ◌-◌, ◌*◌, ◌<◌, ◌≤◌, max, Bool, true, false, ◌&&◌, ◌==◌, nat_le, nat_lt, if◌then◌else◌, find, filter, cond, List, [], ◌∷◌, length, map, Option, Some, None, is_some, Contains, refl, sym, ap, subst, ◌∙◌, ⊎_elim, arith}
use Rattle.std.proofs.lemmas.Bool.{cases_Bool, cases_lt, leb-true, ltb-true, le-leb, lt-ltb, false≢true, eqb-true, eq-eqb, and_right}
use Rattle.std.proofs.lemmas.Nat.{mul-add-lt}
use Rattle.lc_algebra.specs.Field.{size}
use Rattle.lc_algebra.specs.Word.{weight}
use Rattle.lc_algebra.specs.Span.{below, InSpan, IsDistance}
use Rattle.lc_algebra.specs.Matrix.{Matrix, AreRows}
use Rattle.lc_algebra.specs.Divisor.{IsDivisible, rounded}
use Rattle.lc_algebra.proofs.SpanLaws.{contains_head, contains_tail, contains_cases, map_contains, contains_below, below_contains}
use Rattle.lc_algebra.proofs.DivisorLaws.{no_member}
use Rattle.lc_enumeration.specs.Plan.{cut, phase_ends, blocks_before}
use Rattle.lc_enumeration.specs.InformationSet.{information_sets, is_member}
use Rattle.lc_enumeration.specs.Search.{no_word, sets_of, set_count, ranks_of, best, last_that, is_whole_below, level_below, levels_below, bound_sum, bound_of, bound, is_done, ends_of, answer_at, answer}
use Rattle.lc_enumeration.specs.Truth.{AnswerHolds}
use Rattle.lc_enumeration.proofs.DependentLaws.{map_same}
use Rattle.lc_infoset.specs.Bound.{AreGenerators}
use Rattle.lc_infoset.proofs.SetLaws.{filter_passes, levels_are}
use Rattle.lc_infoset.proofs.BestLaws.{find_passes, least_bound, best_word}

pub some_set : (C : Matrix) → 0 < set_count C
unfolding set_count sets_of information_sets
some_set C = omega arith

is_at_most : (d : ℕ) (C : Matrix) (l : ℕ) → is_done d C l ≡ true → (best C (set_count C) l).weight ≤ bound d C l (best C (set_count C) l).weight
unfolding is_done
is_at_most d C l h = leb-true (best C (set_count C) l).weight (bound d C l (best C (set_count C) l).weight) h

is_above : (d : ℕ) (C : Matrix) (l : ℕ) → is_done d C l ≡ false → bound d C l (best C (set_count C) l).weight < (best C (set_count C) l).weight
unfolding is_done
is_above d C l h =
    let w = (best C (set_count C) l).weight in
    let b = bound d C l w in
    ⊎_elim (λ s. s) (λ s. absurd (false≢true (sym h ∙ le-leb w b s))) (cases_lt b w)

pub done_distance : (d : ℕ) (C : Matrix) (l : ℕ) → AreRows C.field C.columns C.rows → AreGenerators C → 0 < d → IsDivisible C.field C.columns C.rows d → 0 < length C.rows → is_done d C l ≡ true → IsDistance C.field C.columns C.rows (best C (set_count C) l).weight
done_distance d C l r g some divides rows done =
    let h = best_word C l g rows (some_set C) in
    let reached = is_at_most d C l done in
    record {
      attained = (h.word.0, h.word.2, omega (arith, h.nonzero, h.word.3), h.word.3);
      least = λ v i p. omega (arith, reached, least_bound d C l v r g some divides rows (some_set C) i p);
    }

pub record Greatest (xs : List ℕ) : Type 0 where
  pub value : ℕ
  pub member : Contains (0 ∷ xs) value
  pub above : (x : ℕ) → Contains xs x → x ≤ value

pub greatest_of : (xs : List ℕ) → Greatest xs
greatest_of [] = record { value = 0; member = contains_head 0 []; above = λ x l. absurd (no_member x l) }
greatest_of (y ∷ xs) =
    let t = greatest_of xs in
    ⊎_elim
    (λ l. record { value = y; member = contains_tail 0 y (y ∷ xs) (contains_head y xs); above = λ x m. ⊎_elim (λ e. omega (arith, e)) (λ s. omega (arith, t.above x s, l)) (contains_cases y x xs m) })
    (λ l. record {
      value = t.value;
      member = ⊎_elim (λ e. subst (Contains (0 ∷ y ∷ xs)) e (contains_head 0 (y ∷ xs))) (λ s. contains_tail 0 t.value (y ∷ xs) (contains_tail y t.value xs s)) (contains_cases 0 t.value xs t.member);
      above = λ x m. ⊎_elim (λ e. omega (arith, e, l)) (λ s. t.above x s) (contains_cases y x xs m);
    })
    (cases_lt t.value y)

pub filter_keeps : {X : Type 0} (p : X → Bool) (xs : List X) (x : X) → Contains xs x → p x ≡ true → Contains (filter p xs) x
filter_keeps p [] x l t = absurd (no_member x l)
filter_keeps {X} p (y ∷ xs) x l t =
    let goal = λ (b : Bool). Contains (cond b (y ∷ filter p xs) (filter p xs)) x in
    ⊎_elim
    (λ e. subst goal (sym (ap p e ∙ t)) (subst (Contains (y ∷ filter p xs)) e (contains_head y (filter p xs))))
    (λ s. let rest = filter_keeps p xs x s t in
    ⊎_elim (λ u. subst goal (sym u) (contains_tail y x (filter p xs) rest)) (λ u. subst goal (sym u) rest) (cases_Bool (p y)))
    (contains_cases y x xs l)

pub last_that_same : (t u : ℕ → Bool) (n : ℕ) → ((w : ℕ) → 0 < w → w ≤ n → t w ≡ u w) → last_that t n ≡ last_that u n
unfolding last_that
last_that_same t u zero h = refl
last_that_same t u (suc n) h =
    ap (λ b. cond b (suc n) (last_that t n)) (h (suc n) (omega arith) (omega arith)) ∙ ap (λ r. cond (u (suc n)) (suc n) r) (last_that_same t u n (λ w a b. h w a (omega (arith, b))))

pub find_none : {X : Type 0} (p : X → Bool) (xs : List X) (x : X) → find p xs ≡ None → Contains xs x → p x ≡ false
find_none p [] x e l = absurd (no_member x l)
find_none {X} p (y ∷ xs) x e l =
    ⊎_elim
    (λ t. absurd (false≢true (ap is_some (sym e ∙ ap (λ (b : Bool). cond b (Some y) (find p xs)) t))))
    (λ t. ⊎_elim (λ s. sym (ap p s) ∙ t) (λ r. find_none p xs x (sym (ap (λ (b : Bool). cond b (Some y) (find p xs)) t) ∙ e) r) (contains_cases y x xs l))
    (cases_Bool (p y))

le_same : (x a b : ℕ) → (x ≤ a → x ≤ b) → (x ≤ b → x ≤ a) → nat_le x a ≡ nat_le x b
le_same x a b h g =
    ⊎_elim
    (λ t. t ∙ sym (le-leb x b (h (leb-true x a t))))
    (λ t. ⊎_elim (λ u. absurd (false≢true (sym t ∙ le-leb x a (g (leb-true x b u))))) (λ u. t ∙ sym u) (cases_Bool (nat_le x b)))
    (cases_Bool (nat_le x a))

and_same : (a b c : Bool) → (c ≡ true → a ≡ b) → (a && c) ≡ (b && c)
and_same a b true h = ap (λ e. e && true) (h refl)
and_same a b false h = and_right a false refl ∙ sym (and_right b false refl)

abbrev pub ends_to : Matrix → ℕ → List ℕ
ends_to C budget = filter (λ end. nat_le end budget) (ends_of C)

pub ends_are : (C : Matrix) → ends_of C ≡ filter (λ end. nat_lt end cut) (map (λ p. blocks_before (length C.rows) (size C.field) (set_count C) (suc p)) (below (length C.rows * set_count C)))
unfolding ends_of phase_ends
ends_are C = refl

-- a phase end below the cut, up to the budget, is at most the greatest one
end_at_most : (C : Matrix) (budget p : ℕ) (t : Greatest (ends_to C budget)) → p < length C.rows * set_count C → blocks_before (length C.rows) (size C.field) (set_count C) (suc p) < cut → blocks_before (length C.rows) (size C.field) (set_count C) (suc p) ≤ budget → blocks_before (length C.rows) (size C.field) (set_count C) (suc p) ≤ t.value
end_at_most C budget p t inside uncut few =
    let end : ℕ → ℕ = λ r. blocks_before (length C.rows) (size C.field) (set_count C) (suc r) in
    let listed = map_contains end (below (length C.rows * set_count C)) p (below_contains (length C.rows * set_count C) p inside) in
    let is_end : Contains (ends_of C) (end p) = subst (λ es. Contains es (end p)) (sym (ends_are C)) (filter_keeps (λ e. nat_lt e cut) (map end (below (length C.rows * set_count C))) (end p) listed (lt-ltb (end p) cut uncut)) in
    t.above (end p) (filter_keeps (λ e. nat_le e budget) (ends_of C) (end p) is_end (le-leb (end p) budget few))

greatest_within : (C : Matrix) (budget : ℕ) (t : Greatest (ends_to C budget)) → t.value ≤ budget
greatest_within C budget t =
    ⊎_elim
    (λ e. omega (arith, e))
    (λ l. leb-true t.value budget (filter_passes (λ e. nat_le e budget) (ends_of C) t.value l).passes)
    (contains_cases 0 t.value (ends_to C budget) t.member)

pub whole_is : (k q m l j w : ℕ) → is_whole_below k q m l j w ≡ (nat_le (blocks_before k q m ((w - 1) * m + suc j)) l && nat_lt (blocks_before k q m ((w - 1) * m + suc j)) cut)
unfolding is_whole_below
whole_is k q m l j w = refl

whole_same : (C : Matrix) (budget j w : ℕ) (t : Greatest (ends_to C budget)) → j < set_count C → 0 < w → w ≤ length C.rows → is_whole_below (length C.rows) (size C.field) (set_count C) budget j w ≡ is_whole_below (length C.rows) (size C.field) (set_count C) t.value j w
whole_same C budget j w t inside some few =
    let k = length C.rows in
    let q = size C.field in
    let m = set_count C in
    let x = blocks_before k q m ((w - 1) * m + suc j) in
    let p = (w - 1) * m + j in
    let next : (w - 1) * m + suc j ≡ suc p = omega arith in
    let small = mul-add-lt (w - 1) m j k (omega (arith, some, few)) inside in
    let product : m * k ≡ k * m = omega arith in
    let phase : p < k * m = subst (λ n. p < n) product small in
    let same : x ≡ blocks_before k q m (suc p) = ap (blocks_before k q m) next in
    let within = greatest_within C budget t in
    whole_is k q m budget j w
    ∙ and_same (nat_le x budget) (nat_le x t.value) (nat_lt x cut) (λ u.
    let uncut = ltb-true x cut u in
    le_same x budget t.value
    (λ h. omega (arith, same, end_at_most C budget p t phase (omega (arith, same, uncut)) (omega (arith, same, h))))
    (λ h. omega (arith, h, within)))
    ∙ sym (whole_is k q m t.value j w)

pub level_of : (C : Matrix) (l j : ℕ) → level_below C l j ≡ last_that (is_whole_below (length C.rows) (size C.field) (set_count C) l j) (length C.rows)
unfolding level_below
level_of C l j = refl

pub levels_same : (C : Matrix) (budget : ℕ) (t : Greatest (ends_to C budget)) → levels_below C budget ≡ levels_below C t.value
levels_same C budget t =
    levels_are C budget
    ∙ map_same (level_below C budget) (level_below C t.value) (below (set_count C)) (λ j l.
    let inside = contains_below (set_count C) j l in
    level_of C budget j
    ∙ last_that_same (is_whole_below (length C.rows) (size C.field) (set_count C) budget j) (is_whole_below (length C.rows) (size C.field) (set_count C) t.value j) (length C.rows) (λ w some few. whole_same C budget j w t inside some few)
    ∙ sym (level_of C t.value j))
    ∙ sym (levels_are C t.value)

bound_is : (d : ℕ) (C : Matrix) (l x : ℕ) → bound d C l x ≡ (if is_member (levels_below C l) (length C.rows) then x else rounded d (max 1 (bound_sum (length C.rows) (ranks_of C) (levels_below C l))))
unfolding bound bound_of
bound_is d C l x = refl

-- where no level is k, the bound doesn't depend on the weight
pub bound_same : (d : ℕ) (C : Matrix) (l e x y : ℕ) → levels_below C l ≡ levels_below C e → is_member (levels_below C e) (length C.rows) ≡ false → bound d C l x ≡ bound d C e y
bound_same d C l e x y same none =
    let k = length C.rows in
    let to = λ (b : Bool) (ls : List ℕ) (z : ℕ). (if b then z else rounded d (max 1 (bound_sum k (ranks_of C) ls))) in
    bound_is d C l x
    ∙ ap (λ ls. to (is_member ls k) ls x) same
    ∙ ap (λ b. to b (levels_below C e) x) none
    ∙ sym (ap (λ b. to b (levels_below C e) y) none)
    ∙ sym (bound_is d C e y)

pub bound_whole : (d : ℕ) (C : Matrix) (l x : ℕ) → is_member (levels_below C l) (length C.rows) ≡ true → bound d C l x ≡ x
bound_whole d C l x h = bound_is d C l x ∙ ap (λ b. (if b then x else rounded d (max 1 (bound_sum (length C.rows) (ranks_of C) (levels_below C l))))) h

pub open_bound : (d : ℕ) (C : Matrix) (budget x : ℕ) (c : List ℕ) (t : Greatest (ends_to C budget)) → AreRows C.field C.columns C.rows → AreGenerators C → 0 < d → IsDivisible C.field C.columns C.rows d → 0 < length C.rows → is_done d C t.value ≡ false → InSpan C.field C.columns C.rows c → 0 < weight c → bound d C budget x ≤ weight c
open_bound d C budget x c t r g some divides rows unmet i p =
    let w = (best C (set_count C) t.value).weight in
    let above = is_above d C t.value unmet in
    let least = least_bound d C t.value c r g some divides rows (some_set C) i p in
    ⊎_elim
    (λ h. absurd (omega (arith, above, bound_whole d C t.value w h)))
    (λ h. let same = bound_same d C budget t.value x w (levels_same C budget t) h in omega (arith, same, above, least))
    (cases_Bool (is_member (levels_below C t.value) (length C.rows)))

answer_when : (d : ℕ) (C : Matrix) (budget : ℕ) (o : Option ℕ) → AreRows C.field C.columns C.rows → AreGenerators C → 0 < d → IsDivisible C.field C.columns C.rows d → 0 < length C.rows → find (is_done d C) (0 ∷ ends_to C budget) ≡ o → AnswerHolds C (answer_at d C budget o)
unfolding answer_at
answer_when d C budget None r g some divides rows e =
    let t = greatest_of (ends_to C budget) in
    let h = best_word C budget g rows (some_set C) in (
      (λ a distance.
          let v = distance.attained in
          let unmet = find_none (is_done d C) (0 ∷ ends_to C budget) t.value e t.member in (
            omega (arith, v.3, open_bound d C budget (best C (set_count C) budget).weight v.0 t r g some divides rows unmet v.1 v.2),
            omega (arith, h.word.3, distance.least h.word.0 h.word.2 (omega (arith, h.nonzero, h.word.3))),
          )),
      h,
    )
answer_when d C budget (Some l) r g some divides rows e =
    (done_distance d C l r g some divides rows (find_passes (is_done d C) (0 ∷ ends_to C budget) l e).passes, best_word C l g rows (some_set C))

no_rows : (rows : List (List ℕ)) → length rows ≡ 0 → rows ≡ []
no_rows [] e = refl
no_rows (g ∷ rows) e = absurd (omega (arith, e))

pub answer_holds : (d : ℕ) (C : Matrix) (budget : ℕ) → AreRows C.field C.columns C.rows → AreGenerators C → 0 < d → IsDivisible C.field C.columns C.rows d → AnswerHolds C (answer d C budget)
unfolding answer
answer_holds d C budget r g some divides =
    let found = find (is_done d C) (0 ∷ ends_to C budget) in
    let goal = λ (b : Bool). AnswerHolds C (if b then no_word else answer_at d C budget found) in
    ⊎_elim
    (λ t. subst goal (sym t) (no_rows C.rows (eqb-true (length C.rows) 0 t)))
    (λ t. subst goal (sym t) (answer_when d C budget found r g some divides (⊎_elim (λ l. l) (λ l. absurd (false≢true (sym t ∙ eq-eqb (length C.rows) 0 (omega (arith, l))))) (cases_lt 0 (length C.rows))) refl))
    (cases_Bool (length C.rows == 0))
