-- What a look through the list of words of some rows tells, and what small tests tell of a matrix.
--   any_contains, contains_any      a test finds something in a list exactly if some entry passes it
--   distance_from_words    the minimum distance, from a test of every word
--   at_most_test, at_most_from_test, test_from_at_most      the lexicographic order as a test
--   no_later_test, no_later_from_test   and that by weight first
--   least_from_words       the first nonzero word, from a test of every word
--   IsFirstOf, first_of         a list of words of one length has a first nonzero one, or only zero ones
--   least_exists           rows with a nonzero word have a first nonzero word
--   holds_below, holds_below_at   a test of each number below n
--   pivots_test, pivots_from_test      whether some places are the pivots of a matrix
use Rattle.std.proofs.Common.{◌≡◌, ◌≢◌, ℕ, zero, suc, ◌<◌, ◌⊎◌, Bool, true, false, not, ◌&&◌, ◌||◌, ◌==◌, nat_lt, nat_le, List, [], ◌∷◌, length, slice_index, Contains, refl, sym, ap, subst, ◌∙◌, inl, inr, ⊎_elim, arith}
use Rattle.std.specs.List.{list_all, list_any}
use Rattle.std.proofs.lemmas.List.Elements.{All-contains}
use Rattle.std.proofs.lemmas.List.Sums.{AllPass-from_list_all}
use Rattle.std.proofs.lemmas.Bool.{cases_lt, and_parts, or_cases, eqb-true, ltb-true, leb-true, lt-ltb, false≢true, or_left, or_right, and_from, eq-eqb}
use Rattle.lc_algebra.specs.declared.FieldName.{FieldName}
use Rattle.lc_algebra.specs.Word.{zero_word, weight, ComesNoLater, AtMost}
use Rattle.lc_algebra.specs.Span.{InSpan, words, IsDistance, IsLeast}
use Rattle.lc_algebra.specs.Matrix.{entry, AreRows, HasPivots}
use Rattle.lc_algebra.proofs.WordLaws.{zero_from_weight, no_later_reflexive, no_later_transitive, no_later_total}
use Rattle.lc_algebra.proofs.SpanLaws.{span_word, contains_head, contains_tail, contains_cases, word_of_member, member_of_word}

pub contains_any : {X : Type 0} (test : X → Bool) (xs : List X) (x : X) → Contains xs x → test x ≡ true → list_any test xs ≡ true
contains_any test [] x c h = absurd (omega (arith, c.1))
contains_any test (y ∷ xs) x c h =
    ⊎_elim
    (λ e. or_left (test y) (list_any test xs) (ap test e ∙ h))
    (λ t. or_right (test y) (list_any test xs) (contains_any test xs x t h))
    (contains_cases y x xs c)

pub any_contains : {X : Type 0} (test : X → Bool) (xs : List X) → list_any test xs ≡ true → (x : X) × Contains xs x × (test x ≡ true)
any_contains test [] h = absurd (false≢true h)
any_contains test (x ∷ xs) h =
    ⊎_elim
    (λ p. (x, contains_head x xs, p))
    (λ p. let t = any_contains test xs p in (t.0, contains_tail x t.0 xs t.1, t.2))
    (or_cases (test x) (list_any test xs) h)

pub distance_from_words : (f : FieldName) (n : ℕ) (rows : List (List ℕ)) (d : ℕ) → 0 < d → list_any (λ w. weight w == d) (words f n rows) ≡ true → list_all (λ w. (weight w == 0) || nat_le d (weight w)) (words f n rows) ≡ true → IsDistance f n rows d
distance_from_words f n rows d p a b =
    let t = any_contains (λ w. weight w == d) (words f n rows) a in
    let e : weight t.0 ≡ d = eqb-true (weight t.0) d t.2 in
    record {
      attained = (t.0, word_of_member f n rows t.0 t.1, omega (arith, e, p), e);
      least = λ v h k.
          let s : ((weight v == 0) || nat_le d (weight v)) ≡ true = All-contains (λ w. ((weight w == 0) || nat_le d (weight w)) ≡ true) (words f n rows) v (AllPass-from_list_all (λ w. (weight w == 0) || nat_le d (weight w)) (words f n rows) b) (member_of_word f n rows v h) in
          ⊎_elim (λ z. omega (arith, k, eqb-true (weight v) 0 z)) (λ l. leb-true d (weight v) l) (or_cases (weight v == 0) (nat_le d (weight v)) s);
    }

unfoldable pub at_most_test : List ℕ → List ℕ → Bool
at_most_test [] v = true
at_most_test (a ∷ u) [] = false
at_most_test (a ∷ u) (b ∷ v) = nat_lt a b || ((a == b) && at_most_test u v)

pub at_most_from_test : (u v : List ℕ) → at_most_test u v ≡ true → AtMost u v
unfolding at_most_test
at_most_from_test [] v h = tt
at_most_from_test (a ∷ u) [] h = absurd (false≢true h)
at_most_from_test (a ∷ u) (b ∷ v) h =
    ⊎_elim
    (λ l. inl (ltb-true a b l))
    (λ t. let s = and_parts (a == b) (at_most_test u v) t in inr (eqb-true a b s.0, at_most_from_test u v s.1))
    (or_cases (nat_lt a b) ((a == b) && at_most_test u v) h)

pub test_from_at_most : (u v : List ℕ) → AtMost u v → at_most_test u v ≡ true
unfolding at_most_test
test_from_at_most [] v h = refl
test_from_at_most (a ∷ u) [] h = absurd h
test_from_at_most (a ∷ u) (b ∷ v) (inl l) = or_left (nat_lt a b) ((a == b) && at_most_test u v) (lt-ltb a b l)
test_from_at_most (a ∷ u) (b ∷ v) (inr t) = or_right (nat_lt a b) ((a == b) && at_most_test u v) (and_from (a == b) (at_most_test u v) (eq-eqb a b t.0) (test_from_at_most u v t.1))

abbrev pub no_later_test : List ℕ → List ℕ → Bool
no_later_test u v = nat_lt (weight u) (weight v) || ((weight u == weight v) && at_most_test u v)

pub no_later_from_test : (u v : List ℕ) → no_later_test u v ≡ true → ComesNoLater u v
no_later_from_test u v h =
    ⊎_elim
    (λ l. inl (ltb-true (weight u) (weight v) l))
    (λ t. let s = and_parts (weight u == weight v) (at_most_test u v) t in inr (eqb-true (weight u) (weight v) s.0, at_most_from_test u v s.1))
    (or_cases (nat_lt (weight u) (weight v)) ((weight u == weight v) && at_most_test u v) h)

pub least_from_words : (f : FieldName) (n : ℕ) (rows : List (List ℕ)) (w : List ℕ) → Contains (words f n rows) w → 0 < weight w → list_all (λ v. (weight v == 0) || no_later_test w v) (words f n rows) ≡ true → IsLeast f n rows w
least_from_words f n rows w c p h =
    record {
      inside = word_of_member f n rows w c;
      nonzero = p;
      first = λ v k q.
          let s : ((weight v == 0) || no_later_test w v) ≡ true = All-contains (λ x. ((weight x == 0) || no_later_test w x) ≡ true) (words f n rows) v (AllPass-from_list_all (λ x. (weight x == 0) || no_later_test w x) (words f n rows) h) (member_of_word f n rows v k) in
          ⊎_elim (λ z. absurd (omega (arith, q, eqb-true (weight v) 0 z))) (λ t. no_later_from_test w v t) (or_cases (weight v == 0) (no_later_test w v) s);
    }

-- w is the first nonzero word of the list
pub record IsFirstOf (ws : List (List ℕ)) (w : List ℕ) : Type 0 where
  pub inside : Contains ws w
  pub nonzero : 0 < weight w
  pub first : (v : List ℕ) → Contains ws v → 0 < weight v → ComesNoLater w v

first_alone : (w : List ℕ) (ws : List (List ℕ)) → 0 < weight w → ((v : List ℕ) → Contains ws v → weight v ≡ 0) → IsFirstOf (w ∷ ws) w
first_alone w ws p none = record {
  inside = contains_head w ws;
  nonzero = p;
  first = λ v c q. ⊎_elim (λ e. subst (ComesNoLater w) e (no_later_reflexive w)) (λ t. absurd (omega (arith, q, none v t))) (contains_cases w v ws c);
}

first_kept : (w u : List ℕ) (ws : List (List ℕ)) → (0 < weight w → ComesNoLater u w) → IsFirstOf ws u → IsFirstOf (w ∷ ws) u
first_kept w u ws k h = record {
  inside = contains_tail w u ws h.inside;
  nonzero = h.nonzero;
  first = λ v c q. ⊎_elim (λ e. subst (ComesNoLater u) e (k (omega (arith, q, ap weight e)))) (λ t. h.first v t q) (contains_cases w v ws c);
}

first_changed : (w u : List ℕ) (ws : List (List ℕ)) → 0 < weight w → ComesNoLater w u → IsFirstOf ws u → IsFirstOf (w ∷ ws) w
first_changed w u ws p k h = record {
  inside = contains_head w ws;
  nonzero = p;
  first = λ v c q. ⊎_elim (λ e. subst (ComesNoLater w) e (no_later_reflexive w)) (λ t. no_later_transitive w u v k (h.first v t q)) (contains_cases w v ws c);
}

pub first_of : (n : ℕ) (ws : List (List ℕ)) → ((v : List ℕ) → Contains ws v → length v ≡ n) → ((w : List ℕ) × IsFirstOf ws w) ⊎ ((v : List ℕ) → Contains ws v → weight v ≡ 0)
first_of n [] l = inr (λ v c. absurd (omega (arith, c.1)))
first_of n (w ∷ ws) l =
    ⊎_elim
    (λ p. ⊎_elim
    (λ t. ⊎_elim
    (λ k. inl (t.0, first_kept w t.0 ws (λ _. k) t.1))
    (λ k. inl (w, first_changed w t.0 ws p k t.1))
    (no_later_total t.0 w (l t.0 (contains_tail w t.0 ws t.1.inside) ∙ sym (l w (contains_head w ws)))))
    (λ none. inl (w, first_alone w ws p none))
    (first_of n ws (λ v c. l v (contains_tail w v ws c))))
    (λ z. ⊎_elim
    (λ t. inl (t.0, first_kept w t.0 ws (λ p. absurd (omega (arith, p, z))) t.1))
    (λ none. inr (λ v c. ⊎_elim (λ e. omega (arith, z, ap weight e)) (none v) (contains_cases w v ws c)))
    (first_of n ws (λ v c. l v (contains_tail w v ws c))))
    (cases_lt 0 (weight w))

pub least_exists : (f : FieldName) (n : ℕ) (rows : List (List ℕ)) → AreRows f n rows → ((w : List ℕ) × IsLeast f n rows w) ⊎ ((w : List ℕ) → InSpan f n rows w → w ≡ zero_word n)
least_exists f n rows r =
    ⊎_elim
    (λ t. inl (
      t.0,
      record {
        inside = word_of_member f n rows t.0 t.1.inside;
        nonzero = t.1.nonzero;
        first = λ v h p. t.1.first v (member_of_word f n rows v h) p;
      },
    ))
    (λ none. inr (λ w h. zero_from_weight n w (span_word f n rows w r h).long (none w (member_of_word f n rows w h))))
    (first_of n (words f n rows) (λ v c. (span_word f n rows v r (word_of_member f n rows v c)).long))

abbrev pub holds_below : ℕ → (ℕ → Bool) → Bool
holds_below zero test = true
holds_below (suc n) test = test n && holds_below n test

pub holds_below_at : (n : ℕ) (test : ℕ → Bool) → holds_below n test ≡ true → (i : ℕ) → i < n → test i ≡ true
holds_below_at zero test h i l = absurd (omega (arith, l))
holds_below_at (suc n) test h i l =
    let t = and_parts (test n) (holds_below n test) h in
    ⊎_elim (λ k. holds_below_at n test t.1 i k) (λ k. let e : n ≡ i = omega (arith, k, l) in ap test (sym e) ∙ t.0) (cases_lt i n)

abbrev pub pivot_test : ℕ → List ℕ → List (List ℕ) → ℕ → Bool
pivot_test n ps rows i =
    nat_lt (slice_index ps i) n
    && (holds_below (length ps) (λ j. not (nat_lt i j) || nat_lt (slice_index ps i) (slice_index ps j))
    && (holds_below (slice_index ps i) (λ c. entry rows i c == 0)
    && ((entry rows i (slice_index ps i) == 1)
    && holds_below (length ps) (λ j. (i == j) || (entry rows j (slice_index ps i) == 0)))))

abbrev pub pivots_test : ℕ → List ℕ → List (List ℕ) → Bool
pivots_test n ps rows = (length ps == length rows) && holds_below (length ps) (pivot_test n ps rows)

-- what the test of one place says
record IsPivot (n : ℕ) (ps : List ℕ) (rows : List (List ℕ)) (i : ℕ) : Type 0 where
  inside : slice_index ps i < n
  rises : (j : ℕ) → i < j → j < length ps → slice_index ps i < slice_index ps j
  before : (c : ℕ) → c < slice_index ps i → entry rows i c ≡ 0
  leads : entry rows i (slice_index ps i) ≡ 1
  clears : (j : ℕ) → j < length ps → i ≢ j → entry rows j (slice_index ps i) ≡ 0

pivot_from_test : (n : ℕ) (ps : List ℕ) (rows : List (List ℕ)) (i : ℕ) → pivot_test n ps rows i ≡ true → IsPivot n ps rows i
pivot_from_test n ps rows i h =
    let p = slice_index ps i in
    let rising : ℕ → Bool = λ j. not (nat_lt i j) || nat_lt p (slice_index ps j) in
    let early : ℕ → Bool = λ c. entry rows i c == 0 in
    let clear : ℕ → Bool = λ j. (i == j) || (entry rows j p == 0) in
    let a = and_parts (nat_lt p n) (holds_below (length ps) rising && (holds_below p early && ((entry rows i p == 1) && holds_below (length ps) clear))) h in
    let b = and_parts (holds_below (length ps) rising) (holds_below p early && ((entry rows i p == 1) && holds_below (length ps) clear)) a.1 in
    let c = and_parts (holds_below p early) ((entry rows i p == 1) && holds_below (length ps) clear) b.1 in
    let d = and_parts (entry rows i p == 1) (holds_below (length ps) clear) c.1 in
    record {
      inside = ltb-true p n a.0;
      rises = λ j l m. ⊎_elim (λ t. absurd (false≢true (sym (ap not (lt-ltb i j l)) ∙ t))) (λ t. ltb-true p (slice_index ps j) t) (or_cases (not (nat_lt i j)) (nat_lt p (slice_index ps j)) (holds_below_at (length ps) rising b.0 j m));
      before = λ k l. eqb-true (entry rows i k) 0 (holds_below_at p early c.0 k l);
      leads = eqb-true (entry rows i p) 1 d.0;
      clears = λ j l m. ⊎_elim (λ t. absurd (m (eqb-true i j t))) (λ t. eqb-true (entry rows j p) 0 t) (or_cases (i == j) (entry rows j p == 0) (holds_below_at (length ps) clear d.1 j l));
    }

pub pivots_from_test : (n : ℕ) (ps : List ℕ) (rows : List (List ℕ)) → pivots_test n ps rows ≡ true → HasPivots n ps rows
pivots_from_test n ps rows h =
    let t = and_parts (length ps == length rows) (holds_below (length ps) (pivot_test n ps rows)) h in
    let e : length ps ≡ length rows = eqb-true (length ps) (length rows) t.0 in
    let at : (i : ℕ) → i < length ps → IsPivot n ps rows i = λ i l. pivot_from_test n ps rows i (holds_below_at (length ps) (pivot_test n ps rows) t.1 i l) in
    record {
      count = e;
      inside = λ i l. (at i l).inside;
      rises = λ i j l m. (at i (omega (arith, l, m))).rises j l m;
      before = λ i c l m. (at i (omega (arith, l, e))).before c m;
      leads = λ i l. (at i (omega (arith, l, e))).leads;
      clears = λ i j l m o. (at i (omega (arith, l, e))).clears j (omega (arith, m, e)) o;
    }
