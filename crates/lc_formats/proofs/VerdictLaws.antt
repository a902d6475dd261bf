-- A checker accepts exactly the valid certificates.
--   none_passes, passes_none   nothing is found exactly if nothing passes the test
--   set_holds, set_passes      the test of an information set: k columns, which are independent
--   sets_hold, sets_pass       the first basis that is none
--   lighter_holds, lighter_passes      the first seen word that is lighter than the distance
--   overlap_holds, overlap_passes      the least place that is fresh in two sets
--   reaches_holds, reaches_passes      whether the levels reach the distance
--   accepted_is_valid, valid_is_accepted, rejected_is_not_valid, not_valid_is_rejected
use Rattle.std.proofs.Common.{◌≡◌, ℕ, zero, suc, ◌+◌, ◌^◌, ◌<◌, ◌≤◌, ◌⊎◌, min, Bool, true, false, not, nat_le, nat_lt, ◌==◌, ◌&&◌, ◌||◌, cond, if◌then◌else◌, List, [], ◌∷◌, length, map, find, count_by, slice_index_or, All, AllPairs, Any, Contains, Option, Some, None, inl, inr, ⊎_elim, refl, sym, ap, subst, ◌∙◌, arith}
use Rattle.std.proofs.lemmas.Bool.{and_parts, and_from, or_left, or_right, eqb-true, eq-eqb, ltb-true, ltb-false, lt-ltb, le-ltb, leb-true, le-leb, false≢true, cases_Bool, cases_lt, or_cases, false_from_ne_true, not_from_true}
use Rattle.std.proofs.lemmas.List.Elements.{All-cons, All-head, All-tail, All-contains, Contains-get_or}
use Rattle.std.proofs.lemmas.List.Sums.{sum_by-cons}
use Rattle.lc_algebra.specs.Word.{IsWord, weight}
use Rattle.lc_algebra.specs.Span.{AreIndependent, below}
use Rattle.lc_algebra.specs.Matrix.{column, AreRows, AreIndependentColumns}
use Rattle.lc_algebra.proofs.SpanLaws.{contains_cases, contains_head, contains_tail, contains_map, map_contains, below_contains}
use Rattle.lc_algebra.proofs.ColumnLaws.{column_word}
use Rattle.lc_constructions.proofs.WithoutLaws.{not_not}
use Rattle.lc_enumeration.specs.InformationSet.{in_span, greedy, is_member}
use Rattle.lc_enumeration.proofs.MemberLaws.{in_span_true, true_in_span, member_true, true_member}
use Rattle.lc_enumeration.proofs.GreedyLaws.{greedy_independent, greedy_whole}
use Rattle.lc_formats.specs.Certificate.{Certificate, SetClaim, Proof, scan, levels, Reason, Verdict, accepted, rejected, word_not_in_code, word_weight, set_not_information, fresh_overlap, bound_short, seen_lighter, code_length, code_dimension, level_in, cost, seen_words, is_lighter, first_lighter, claimed_sum, is_information_set, first_dependent, least_overlap, reaches, or_else, when, carrying, set_reasons, cost_reason, verdict, SetsHold, IsValid}
use Rattle.lc_formats.specs.Shape.{IsShapedSet, AreShapedSets, IsShaped}

-- ---- the order of the reasons

pub else_accepted : (o : Option Reason) (later : Verdict) → or_else o later ≡ accepted → (o ≡ None) × (later ≡ accepted)
unfolding or_else
else_accepted None later e = (refl, e)
else_accepted (Some r) later e = absurd cc

pub accepted_else : (o : Option Reason) (later : Verdict) → o ≡ None → later ≡ accepted → or_else o later ≡ accepted
unfolding or_else
accepted_else o later e l = rw e l

pub when_not : (b : Bool) (r : Reason) → when b r ≡ None → b ≡ false
unfolding when
when_not true r e = absurd cc
when_not false r e = refl

pub not_when : (b : Bool) (r : Reason) → b ≡ false → when b r ≡ None
unfolding when
not_when b r e = rw e refl

pub carrying_none : {X : Type 0} (r : X → Reason) (o : Option X) → carrying r o ≡ None → o ≡ None
unfolding carrying
carrying_none r None e = refl
carrying_none r (Some x) e = absurd cc

none_carrying : {X : Type 0} (r : X → Reason) (o : Option X) → o ≡ None → carrying r o ≡ None
unfolding carrying
none_carrying r o e = rw e refl

chosen_none : {X : Type 0} (b : Bool) (x : X) (rest : Option X) → cond b (Some x) rest ≡ None → (b ≡ false) × (rest ≡ None)
chosen_none true x rest e = absurd cc
chosen_none false x rest e = (refl, e)

pub none_passes : {X : Type 0} (test : X → Bool) (xs : List X) → find test xs ≡ None → All (λ x. test x ≡ false) xs
none_passes test [] e = λ k d l. absurd (omega (arith, l))
none_passes test (x ∷ xs) e =
    let s = chosen_none (test x) x (find test xs) e in
    All-cons (λ y. test y ≡ false) x xs s.0 (none_passes test xs s.1)

pub passes_none : {X : Type 0} (test : X → Bool) (xs : List X) → All (λ x. test x ≡ false) xs → find test xs ≡ None
passes_none test [] a = refl
passes_none test (x ∷ xs) a = rw (All-head (λ y. test y ≡ false) x xs a) (passes_none test xs (All-tail (λ y. test y ≡ false) x xs a))

-- ---- information sets

abbrev IsSet : Certificate → List ℕ → Type 0
IsSet c basis = (length basis ≡ code_dimension c) × AreIndependentColumns c.field c.rows basis

columns_are_words : (c : Certificate) → AreRows c.field (code_length c) c.rows → (i : ℕ) → IsWord c.field (length c.rows) (column c.rows i)
columns_are_words c r i = column_word c.field (code_length c) c.rows i r

nothing_free : (c : Certificate) → AreIndependent c.field (length c.rows) []
nothing_free c cs w e = nil cs w.long
  where
    nil : (cs : List ℕ) → length cs ≡ 0 → cs ≡ []
    nil [] l = refl
    nil (a ∷ cs) l = absurd (omega (arith, l))

pub set_holds : (c : Certificate) (basis : List ℕ) → AreRows c.field (code_length c) c.rows → is_information_set c basis ≡ true → IsSet c basis
unfolding is_information_set
set_holds c basis r e =
    let s = and_parts (length basis == code_dimension c) (length (greedy c.field (length c.rows) (column c.rows) [] basis) == length basis) e in
    (eqb-true (length basis) (code_dimension c) s.0, greedy_independent c.field (length c.rows) (column c.rows) [] basis (columns_are_words c r) (nothing_free c) (omega (arith, eqb-true (length (greedy c.field (length c.rows) (column c.rows) [] basis)) (length basis) s.1)))

pub set_passes : (c : Certificate) (basis : List ℕ) → AreRows c.field (code_length c) c.rows → IsSet c basis → is_information_set c basis ≡ true
unfolding is_information_set
set_passes c basis r h =
    and_from (length basis == code_dimension c) (length (greedy c.field (length c.rows) (column c.rows) [] basis) == length basis)
    (eq-eqb (length basis) (code_dimension c) h.0)
    (eq-eqb (length (greedy c.field (length c.rows) (column c.rows) [] basis)) (length basis) (omega (arith, greedy_whole c.field (length c.rows) (column c.rows) [] basis (columns_are_words c r) h.1)))

chosen_set : (b : Bool) (n : ℕ) (rest : Option ℕ) → (if b then rest else Some n) ≡ None → (b ≡ true) × (rest ≡ None)
chosen_set true n rest e = (refl, e)
chosen_set false n rest e = absurd cc

pub sets_hold : (c : Certificate) (number : ℕ) (claims : List SetClaim) → AreRows c.field (code_length c) c.rows → first_dependent c number claims ≡ None → All (λ claim. IsSet c claim.basis) claims
unfolding first_dependent
sets_hold c number [] r e = λ k d l. absurd (omega (arith, l))
sets_hold c number (claim ∷ claims) r e =
    let s = chosen_set (is_information_set c claim.basis) number (first_dependent c (suc number) claims) e in
    All-cons (λ claim. IsSet c claim.basis) claim claims (set_holds c claim.basis r s.0) (sets_hold c (suc number) claims r s.1)

pub sets_pass : (c : Certificate) (number : ℕ) (claims : List SetClaim) → AreRows c.field (code_length c) c.rows → All (λ claim. IsSet c claim.basis) claims → first_dependent c number claims ≡ None
unfolding first_dependent
sets_pass c number [] r a = refl
sets_pass c number (claim ∷ claims) r a = rw (set_passes c claim.basis r (All-head (λ claim. IsSet c claim.basis) claim claims a)) (sets_pass c (suc number) claims r (All-tail (λ claim. IsSet c claim.basis) claim claims a))

-- ---- seen words

not_lighter : (d : ℕ) (w : List ℕ) → is_lighter d w ≡ false → 0 < weight w → d ≤ weight w
unfolding is_lighter
not_lighter d w e l =
    ⊎_elim
    (λ light. absurd (false≢true (sym e ∙ and_from (nat_lt 0 (weight w)) (nat_lt (weight w) d) (lt-ltb 0 (weight w) l) (lt-ltb (weight w) d light))))
    (λ heavy. omega (arith, heavy))
    (cases_lt (weight w) d)

heavy_enough : (d : ℕ) (w : List ℕ) → (0 < weight w → d ≤ weight w) → is_lighter d w ≡ false
unfolding is_lighter
heavy_enough d w h = false_from_ne_true (nat_lt 0 (weight w) && nat_lt (weight w) d) (λ e.
    let s = and_parts (nat_lt 0 (weight w)) (nat_lt (weight w) d) e in
    omega (arith, ltb-true (weight w) d s.1, h (ltb-true 0 (weight w) s.0)))

pub lighter_holds : (c : Certificate) → first_lighter c ≡ None → All (λ w. 0 < weight w → c.distance ≤ weight w) (seen_words c)
unfolding first_lighter
lighter_holds c e = let a = none_passes (is_lighter c.distance) (seen_words c) e in λ k d l. not_lighter c.distance _ (a k d l)

pub lighter_passes : (c : Certificate) → All (λ w. 0 < weight w → c.distance ≤ weight w) (seen_words c) → first_lighter c ≡ None
unfolding first_lighter
lighter_passes c a = passes_none (is_lighter c.distance) (seen_words c) (λ k d l. heavy_enough c.distance _ (a k d l))

-- ---- fresh places

abbrev AreApart : List SetClaim → Type 0
AreApart claims = AllPairs (λ one other. (place : ℕ) → Contains one.fresh place → ¬ Contains other.fresh place) claims

abbrev one_if : Bool → ℕ
one_if b = cond b 1 0

counted_cons : (claim : SetClaim) (claims : List SetClaim) (place : ℕ) → count_by (λ s. is_member s.fresh place) (claim ∷ claims) ≡ cond (is_member claim.fresh place) 1 0 + count_by (λ s. is_member s.fresh place) claims
counted_cons claim claims place = sum_by-cons _ claim claims

some_counted : (claims : List SetClaim) (place : ℕ) (claim : SetClaim) → Contains claims claim → Contains claim.fresh place → 1 ≤ count_by (λ s. is_member s.fresh place) claims
some_counted [] place claim c h = absurd (omega (arith, c.1))
some_counted (s ∷ claims) place claim c h =
    ⊎_elim
    (λ e. omega (arith, counted_cons s claims place, ap one_if (member_true s.fresh place (subst (λ t. Contains t.fresh place) (sym e) h))))
    (λ rest. omega (arith, counted_cons s claims place, some_counted claims place claim rest h))
    (contains_cases s claim claims c)

apart_from_counts : (claims : List SetClaim) → ((place : ℕ) (claim : SetClaim) → Contains claims claim → Contains claim.fresh place → count_by (λ s. is_member s.fresh place) claims ≤ 1) → AreApart claims
apart_from_counts [] h i j d l m = absurd (omega (arith, m))
apart_from_counts (s ∷ claims) h zero zero d l m = absurd (omega (arith, l))
apart_from_counts (s ∷ claims) h zero (suc j) d l m = λ place here there.
    let other = Contains-get_or claims j d (omega (arith, m)) in
    omega (arith, h place s (contains_head s claims) here, counted_cons s claims place, ap one_if (member_true s.fresh place here), some_counted claims place (slice_index_or claims j d) other there)
apart_from_counts (s ∷ claims) h (suc i) zero d l m = absurd (omega (arith, l))
apart_from_counts (s ∷ claims) h (suc i) (suc j) d l m =
    apart_from_counts claims (λ place claim c f. omega (arith, h place claim (contains_tail s claim claims c) f, counted_cons s claims place)) i j d (omega (arith, l)) (omega (arith, m))

none_counted : (claims : List SetClaim) (place : ℕ) → ((claim : SetClaim) → Contains claims claim → ¬ Contains claim.fresh place) → count_by (λ s. is_member s.fresh place) claims ≡ 0
none_counted [] place h = refl
none_counted (s ∷ claims) place h =
    counted_cons s claims place
    ∙ omega (arith, ap one_if (false_from_ne_true (is_member s.fresh place) (λ e. h s (contains_head s claims) (true_member s.fresh place e))), none_counted claims place (λ claim c. h claim (contains_tail s claim claims c)))

apart_tail : (s : SetClaim) (claims : List SetClaim) → AreApart (s ∷ claims) → AreApart claims
apart_tail s claims a i j d l m = a (suc i) (suc j) d (omega (arith, l)) (omega (arith, m))

counts_from_apart : (claims : List SetClaim) (place : ℕ) → AreApart claims → count_by (λ s. is_member s.fresh place) claims ≤ 1
counts_from_apart [] place a = omega arith
counts_from_apart (s ∷ claims) place a =
    ⊎_elim
    (λ e.
    let none = none_counted claims place (λ claim c there. a 0 (suc c.0) claim (omega arith) (omega (arith, c.1)) place (true_member s.fresh place e) (subst (λ t. Contains t.fresh place) (sym c.2) there)) in
    omega (arith, counted_cons s claims place, none, ap one_if e))
    (λ e. omega (arith, counted_cons s claims place, counts_from_apart claims place (apart_tail s claims a), ap one_if e))
    (cases_Bool (is_member s.fresh place))

pub overlap_holds : (c : Certificate) (claims : List SetClaim) → All (IsShapedSet (code_length c)) claims → least_overlap c claims ≡ None → AreApart claims
unfolding least_overlap
overlap_holds c claims shaped e =
    let a = none_passes (λ place. nat_lt 1 (count_by (λ claim. is_member claim.fresh place) claims)) (below (code_length c)) e in
    apart_from_counts claims (λ place claim inside fresh.
    let small = All-contains (λ p. p < code_length c) claim.fresh place (All-contains (IsShapedSet (code_length c)) claims claim shaped inside).fresh_inside fresh in
    ltb-false 1 (count_by (λ s. is_member s.fresh place) claims) (All-contains (λ p. nat_lt 1 (count_by (λ s. is_member s.fresh p) claims) ≡ false) (below (code_length c)) place a (below_contains (code_length c) place small)))

pub overlap_passes : (c : Certificate) (claims : List SetClaim) → AreApart claims → least_overlap c claims ≡ None
unfolding least_overlap
overlap_passes c claims a = passes_none (λ place. nat_lt 1 (count_by (λ claim. is_member claim.fresh place) claims)) (below (code_length c)) (λ k d l. le-ltb 1 _ (counts_from_apart claims _ a))

-- ---- levels

whole_level : (c : Certificate) (claims : List SetClaim) → is_member (map (level_in c) claims) (code_dimension c) ≡ true → Any (λ claim. code_dimension c ≤ claim.level) claims
unfolding level_in
whole_level c claims e =
    let t = contains_map (λ claim. min claim.level (code_dimension c)) claims (code_dimension c) (true_member (map (λ claim. min claim.level (code_dimension c)) claims) (code_dimension c) e) in
    (t.1.0, t.0, t.1.1, t.1.2, omega (arith, t.2))

level_is_whole : (c : Certificate) (claims : List SetClaim) → Any (λ claim. code_dimension c ≤ claim.level) claims → is_member (map (level_in c) claims) (code_dimension c) ≡ true
unfolding level_in
level_is_whole c claims h =
    let level = λ (claim : SetClaim). min claim.level (code_dimension c) in
    let at : level h.1 ≡ code_dimension c = omega (arith, h.4) in
    member_true (map level claims) (code_dimension c) (subst (Contains (map level claims)) at (map_contains level claims h.1 (h.0, h.2, h.3)))

pub reaches_holds : (c : Certificate) (claims : List SetClaim) → reaches c claims ≡ true → Any (λ claim. code_dimension c ≤ claim.level) claims ⊎ (c.distance ≤ claimed_sum c claims)
unfolding reaches
reaches_holds c claims e = ⊎_elim (λ m. inl (whole_level c claims m)) (λ l. inr (leb-true c.distance (claimed_sum c claims) l)) (or_cases (is_member (map (level_in c) claims) (code_dimension c)) (nat_le c.distance (claimed_sum c claims)) e)

pub reaches_passes : (c : Certificate) (claims : List SetClaim) → Any (λ claim. code_dimension c ≤ claim.level) claims ⊎ (c.distance ≤ claimed_sum c claims) → reaches c claims ≡ true
unfolding reaches
reaches_passes c claims h =
    ⊎_elim
    (λ a. or_left (is_member (map (level_in c) claims) (code_dimension c)) (nat_le c.distance (claimed_sum c claims)) (level_is_whole c claims a))
    (λ l. or_right (is_member (map (level_in c) claims) (code_dimension c)) (nat_le c.distance (claimed_sum c claims)) (le-leb c.distance (claimed_sum c claims) l))
    h

-- ---- both together

proof_holds : (c : Certificate) (p : Proof) (later : Verdict) → IsShaped c → AreShapedSets (code_length c) p → set_reasons c p later ≡ accepted → SetsHold c p × (later ≡ accepted)
unfolding set_reasons
proof_holds c scan later h s e = (tt, e)
proof_holds c (levels claims) later h s e =
    let one = else_accepted (carrying set_not_information (first_dependent c 1 claims)) _ e in
    let two = else_accepted (carrying fresh_overlap (least_overlap c claims)) _ one.1 in
    let three = else_accepted (when (not (reaches c claims)) (bound_short (claimed_sum c claims))) later two.1 in (
      (
        sets_hold c 1 claims h.rows_fit (carrying_none set_not_information (first_dependent c 1 claims) one.0),
        overlap_holds c claims s.2 (carrying_none fresh_overlap (least_overlap c claims) two.0),
        reaches_holds c claims (not_not (reaches c claims) (when_not (not (reaches c claims)) (bound_short (claimed_sum c claims)) three.0)),
      ),
      three.1,
    )

proof_passes : (c : Certificate) (p : Proof) (later : Verdict) → IsShaped c → SetsHold c p → later ≡ accepted → set_reasons c p later ≡ accepted
unfolding set_reasons
proof_passes c scan later h s e = e
proof_passes c (levels claims) later h s e =
    accepted_else (carrying set_not_information (first_dependent c 1 claims)) _ (none_carrying set_not_information (first_dependent c 1 claims) (sets_pass c 1 claims h.rows_fit s.0))
    (accepted_else (carrying fresh_overlap (least_overlap c claims)) _ (none_carrying fresh_overlap (least_overlap c claims) (overlap_passes c claims s.1))
    (accepted_else (when (not (reaches c claims)) (bound_short (claimed_sum c claims))) later (not_when (not (reaches c claims)) (bound_short (claimed_sum c claims)) (not_from_true (reaches c claims) (reaches_passes c claims s.2))) e))

pub accepted_is_valid : (c : Certificate) → IsShaped c → verdict c ≡ accepted → IsValid c
unfolding verdict cost_reason
accepted_is_valid c h e =
    let one = else_accepted (cost_reason (cost c)) _ e in
    let two = else_accepted (when (not (in_span c.field (code_length c) c.rows c.word)) word_not_in_code) _ one.1 in
    let three = else_accepted (when (not (weight c.word == c.distance)) (word_weight (weight c.word))) _ two.1 in
    let four = proof_holds c c.proof (or_else (carrying seen_lighter (first_lighter c)) accepted) h h.sets_fit three.1 in
    let five = else_accepted (carrying seen_lighter (first_lighter c)) accepted four.1 in
    record {
      affordable = ltb-false (2 ^ 32) (cost c) (when_not _ _ one.0);
      inside = in_span_true c.field (code_length c) c.rows c.word (not_not _ (when_not _ _ two.0));
      attains = eqb-true (weight c.word) c.distance (not_not _ (when_not _ _ three.0));
      seen = lighter_holds c (carrying_none seen_lighter (first_lighter c) five.0);
      sets = four.0;
    }

pub valid_is_accepted : (c : Certificate) → IsShaped c → IsValid c → verdict c ≡ accepted
unfolding verdict cost_reason
valid_is_accepted c h v =
    accepted_else (cost_reason (cost c)) _ (not_when _ _ (le-ltb (2 ^ 32) (cost c) v.affordable))
    (accepted_else (when (not (in_span c.field (code_length c) c.rows c.word)) word_not_in_code) _ (not_when _ _ (not_from_true _ (true_in_span c.field (code_length c) c.rows c.word v.inside)))
    (accepted_else (when (not (weight c.word == c.distance)) (word_weight (weight c.word))) _ (not_when _ _ (not_from_true _ (eq-eqb (weight c.word) c.distance v.attains)))
    (proof_passes c c.proof (or_else (carrying seen_lighter (first_lighter c)) accepted) h v.sets
    (accepted_else (carrying seen_lighter (first_lighter c)) accepted (none_carrying seen_lighter (first_lighter c) (lighter_passes c v.seen)) refl))))

pub rejected_is_not_valid : (c : Certificate) → IsShaped c → ((r : Reason) × (verdict c ≡ rejected r)) → ¬ IsValid c
rejected_is_not_valid c h (r, e) v = apart r (sym e ∙ valid_is_accepted c h v)
  where
    apart : (r : Reason) → rejected r ≡ accepted → ⊥
    apart r e = absurd cc

pub not_valid_is_rejected : (c : Certificate) → IsShaped c → ¬ IsValid c → (r : Reason) × (verdict c ≡ rejected r)
not_valid_is_rejected c h invalid = from (verdict c) refl
  where
    from : (v : Verdict) → verdict c ≡ v → (r : Reason) × (verdict c ≡ rejected r)
    from accepted e = absurd (invalid (accepted_is_valid c h e))
    from (rejected r) e = (r, e)
