-- The phase of the next block: which levels are done, whether a state may be exact, and where the phase ends. The dimension is k, the
-- size of the field q, the number of sets m.
--   last_exact, last_passes     the last number that passes a test
--   level_here                  which level of a set is done
--   level_past                  all are past the end of a plan that isn't cut
--   ends_here                   a state may be exact exactly where a phase begins
--   ends_past                   it may past the end
--   end_here                    where the phase ends
use Rattle.std.proofs.Common.{◌≡◌, ℕ, zero, suc, ◌+◌, ◌-◌, ◌*◌, ◌/◌, ◌%◌, ◌<◌, ◌≤◌, min, Bool, true, false, cond, ◌&&◌, ◌||◌, ◌==◌, nat_le, nat_lt, find, filter, List, map, Option, unwrap_or, Contains, refl, sym, ap, subst, ◌∙◌, ⊎_elim, arith}
use Rattle.std.proofs.lemmas.Bool.{cases_Bool, cases_lt, and_parts, and_from, or_cases, false≢true, or_left, or_right, leb-true, ltb-true, le-leb, lt-ltb, le-ltb, eqb-true, eq-eqb, false_from_ne_true}
use Rattle.std.proofs.lemmas.Simd.{map-map}
use Rattle.std.proofs.Math.Nat.{mul-le-mul_right, mod-add-div', mod-lt}
use Rattle.lc_algebra.specs.Span.{below}
use Rattle.lc_algebra.proofs.SpanLaws.{contains_map, map_contains, contains_below, below_contains}
use Rattle.lc_enumeration.specs.Plan.{PlanPhase, cut, total, phase_at, phase_level, phase_set, phase_ends, plan_phases, blocks_before, IsInPhase}
use Rattle.lc_enumeration.specs.InformationSet.{is_member}
use Rattle.lc_enumeration.specs.Search.{last_that, is_whole_below}
use Rattle.lc_enumeration.proofs.MemberLaws.{member_true, true_member}
use Rattle.lc_enumeration.proofs.PlanLaws.{cut_is, blocks_least, end_is, within}
use Rattle.lc_infoset.proofs.SetLaws.{filter_passes}
use Rattle.lc_infoset.proofs.BestLaws.{find_passes, product_positive}
use Rattle.lc_infoset.proofs.AnswerLaws.{filter_keeps, whole_is}
use Rattle.lc_infoset.proofs.RoundLaws.{Rises, rises_below, rises_filter, rises_map, find_least, find_some}
use Rattle.lc_parts.specs.Levels.{level_in}

last_exact : (test : ℕ → Bool) (n t : ℕ) → t ≤ n → ((w : ℕ) → 0 < w → w ≤ t → test w ≡ true) → ((w : ℕ) → t < w → w ≤ n → test w ≡ false) → last_that test n ≡ t
unfolding last_that
last_exact test zero t few up down = omega (arith, few)
last_exact test (suc n) t few up down =
    ⊎_elim
    (λ less. ap (λ b. cond b (suc n) (last_that test n)) (down (suc n) less (omega arith)) ∙ last_exact test n t (omega (arith, less)) up (λ w a b. down w a (omega (arith, b))))
    (λ above. let same : suc n ≡ t = omega (arith, few, above) in ap (λ b. cond b (suc n) (last_that test n)) (up (suc n) (omega arith) (omega (arith, same))) ∙ same)
    (cases_lt t (suc n))

total_is : (k q m : ℕ) → total k q m ≡ min (blocks_before k q m (k * m)) cut
unfolding total
total_is k q m = refl

no_blocks : (k q m : ℕ) → blocks_before k q m 0 ≡ 0
unfolding blocks_before
no_blocks k q m = refl

-- the rows of a table before row w
row_before : (m w : ℕ) → 0 < w → (w - 1) * m + m ≡ w * m
row_before m zero l = absurd (omega (arith, l))
row_before m (suc w) l = let e : suc w - 1 ≡ w = omega arith in ap (λ n. n * m + m) e ∙ omega arith

-- the phase of level w and set j is before phase p if and only if its level is done
abbrev is_before : ℕ → ℕ → ℕ → ℕ → Bool
is_before m p j w = nat_lt ((w - 1) * m + j) p

module _ (k q m p l : ℕ) (h : IsInPhase k q m p l) where
  whole_before : (j w : ℕ) → is_whole_below k q m l j w ≡ is_before m p j w
  whole_before j w =
      let r = (w - 1) * m + j in
      let w_in = within k q m p l h in
      let same : (w - 1) * m + suc j ≡ suc r = omega arith in
      let b = blocks_before k q m (suc r) in
      let e = ap (blocks_before k q m) same in
      whole_is k q m l j w ∙ ap (λ n. nat_le n l && nat_lt n cut) e
      ∙ ⊎_elim
      (λ less. let most = blocks_least k q m (suc r) p less in and_from (nat_le b l) (nat_lt b cut) (le-leb b l (omega (arith, most, w_in.after))) (lt-ltb b cut (omega (arith, most, w_in.after, w_in.below_cut, cut_is))) ∙ sym (lt-ltb r p less))
      (λ above. false_from_ne_true (nat_le b l && nat_lt b cut) (λ t. omega (arith, leb-true b l (and_parts (nat_le b l) (nat_lt b cut) t).0, w_in.before, blocks_least k q m (suc p) (suc r) (omega (arith, above)))) ∙ sym (le-ltb r p above))
      (cases_lt r p)

  last_before : (j n : ℕ) → last_that (is_whole_below k q m l j) n ≡ last_that (is_before m p j) n
  unfolding last_that
  last_before j zero = refl
  last_before j (suc n) = rw (whole_before j (suc n), last_before j n) refl

  level_by_phase : (j : ℕ) → j < m → last_that (is_before m p j) k ≡ level_in (phase_level m p) (phase_set m p) j
  unfolding phase_level phase_set
  level_by_phase j inside =
      let e = p / m in
      let s = p % m in
      let split : s + e * m ≡ p = mod-add-div' p m in
      let small : s < m = mod-lt p (omega (arith, inside)) in
      let most : e < k = ⊎_elim (λ z. z) (λ z. let y : k * m ≤ e * m = mul-le-mul_right m z in absurd (omega (arith, y, split, h.phase))) (cases_lt e k) in
      let up : (t : ℕ) → t ≤ k → ((w : ℕ) → 0 < w → w ≤ t → (w - 1) * m + j < p) → ((w : ℕ) → t < w → w ≤ k → p ≤ (w - 1) * m + j) → last_that (is_before m p j) k ≡ t = λ t few yes_to no_after.
      last_exact (is_before m p j) k t few (λ w a b. lt-ltb ((w - 1) * m + j) p (yes_to w a b)) (λ w a b. le-ltb ((w - 1) * m + j) p (no_after w a b)) in
      ⊎_elim
      (λ less.
      up (e + 1) (omega (arith, most))
      (λ w a b. let y : (w - 1) * m ≤ e * m = mul-le-mul_right m (omega (arith, b)) in omega (arith, y, split, less))
      (λ w a b. let y : (e + 1) * m ≤ (w - 1) * m = mul-le-mul_right m (omega (arith, a)) in let z : e * m + m ≡ (e + 1) * m = omega arith in omega (arith, y, z, split, small))
      ∙ ap (λ b. cond b (e + 1) (e + 1 - 1)) (sym (lt-ltb j s less)))
      (λ above.
      let back : e + 1 - 1 ≡ e = omega arith in
      up e (omega (arith, most))
      (λ w a b. let x = row_before m w a in let y : w * m ≤ e * m = mul-le-mul_right m b in omega (arith, x, y, split, inside))
      (λ w a b. let y : e * m ≤ (w - 1) * m = mul-le-mul_right m (omega (arith, a)) in omega (arith, y, split, above))
      ∙ sym back ∙ ap (λ b. cond b (e + 1) (e + 1 - 1)) (sym (le-ltb j s above)))
      (cases_lt j s)

  pub level_here : (j : ℕ) → j < m → last_that (is_whole_below k q m l j) k ≡ level_in (phase_level m p) (phase_set m p) j
  level_here j inside = last_before j k ∙ level_by_phase j inside

last_passes : (test : ℕ → Bool) (n : ℕ) → test n ≡ true → last_that test n ≡ n
unfolding last_that
last_passes test zero t = refl
last_passes test (suc n) t = ap (λ b. cond b (suc n) (last_that test n)) t

pub level_past : (k q m l j : ℕ) → 0 < k → j < m → total k q m < cut → total k q m ≤ l → last_that (is_whole_below k q m l j) k ≡ k
level_past k q m l j some inside uncut past =
    let r = (k - 1) * m + suc j in
    let row = row_before m k some in
    let most = blocks_least k q m r (k * m) (omega (arith, row, inside)) in
    let is = total_is k q m in
    last_passes (is_whole_below k q m l j) k
    (whole_is k q m l j k ∙ and_from (nat_le (blocks_before k q m r) l) (nat_lt (blocks_before k q m r) cut) (le-leb (blocks_before k q m r) l (omega (arith, most, is, uncut, past))) (lt-ltb (blocks_before k q m r) cut (omega (arith, most, is, uncut))))

-- ---- where a phase ends

abbrev late : ℕ → ℕ → ℕ → ℕ → Bool
late k q m l = nat_lt (blocks_before k q m (k * m)) cut && nat_lt (total k q m) l

-- whether a state may be exact, as the definition asks it
abbrev pub may_end_at : ℕ → ℕ → ℕ → ℕ → Bool
may_end_at k q m l = (l == 0) || (is_member (phase_ends k q m) l || late k q m l)

ends_list : (k q m : ℕ) → phase_ends k q m ≡ filter (λ end. nat_lt end cut) (map (λ p. blocks_before k q m (suc p)) (below (k * m)))
unfolding phase_ends
ends_list k q m = refl

is_end : (k q m r : ℕ) → r < k * m → blocks_before k q m (suc r) < cut → Contains (phase_ends k q m) (blocks_before k q m (suc r))
is_end k q m r inside uncut =
    subst (λ es. Contains es (blocks_before k q m (suc r))) (sym (ends_list k q m))
    (filter_keeps (λ e. nat_lt e cut) (map (λ p. blocks_before k q m (suc p)) (below (k * m))) (blocks_before k q m (suc r)) (map_contains (λ p. blocks_before k q m (suc p)) (below (k * m)) r (below_contains (k * m) r inside)) (lt-ltb (blocks_before k q m (suc r)) cut uncut))

an_end : (k q m l : ℕ) → Contains (phase_ends k q m) l → (r : ℕ) × (r < k * m) × (l ≡ blocks_before k q m (suc r))
an_end k q m l there =
    let s = filter_passes (λ x. nat_lt x cut) (map (λ p. blocks_before k q m (suc p)) (below (k * m))) l (subst (λ es. Contains es l) (ends_list k q m) there) in
    let t = contains_map (λ p. blocks_before k q m (suc p)) (below (k * m)) l s.member in
    (t.0, contains_below (k * m) t.0 t.1, t.2)

listed : (k q m l : ℕ) → Contains (phase_ends k q m) l → may_end_at k q m l ≡ true
listed k q m l there = or_right (l == 0) (is_member (phase_ends k q m) l || late k q m l) (or_left (is_member (phase_ends k q m) l) (late k q m l) (member_true (phase_ends k q m) l there))

start_ends : (k q m p l : ℕ) → IsInPhase k q m p l → (phase_at k q m p).start ≡ l → may_end_at k q m l ≡ true
start_ends k q m zero l h e = or_left (l == 0) (is_member (phase_ends k q m) l || late k q m l) (eq-eqb l 0 (sym e ∙ (within k q m 0 l h).start ∙ no_blocks k q m))
start_ends k q m (suc r) l h e =
    let w = within k q m (suc r) l h in
    let same : blocks_before k q m (suc r) ≡ l = sym w.start ∙ e in
    listed k q m l (subst (Contains (phase_ends k q m)) same (is_end k q m r (omega (arith, h.phase)) (omega (arith, same, w.below_cut, cut_is))))

inside_not : (k q m p l : ℕ) → IsInPhase k q m p l → ((phase_at k q m p).start ≡ l → ⊥) → may_end_at k q m l ≡ false
inside_not k q m p l h other =
    let w = within k q m p l h in
    let start = w.start in
    false_from_ne_true (may_end_at k q m l) (λ t.
    ⊎_elim
    (λ z. let none = eqb-true l 0 z in other (omega (arith, none, start, w.after)))
    (λ z. ⊎_elim
    (λ y.
    let s = an_end k q m l (true_member (phase_ends k q m) l y) in
    ⊎_elim
    (λ less. let x = blocks_least k q m (suc s.0) p less in other (omega (arith, x, s.2, start, w.after)))
    (λ above. omega (arith, s.2, w.before, blocks_least k q m (suc p) (suc s.0) (omega (arith, above))))
    (cases_lt s.0 p))
    (λ y.
    let s = and_parts (nat_lt (blocks_before k q m (k * m)) cut) (nat_lt (total k q m) l) y in
    omega (arith, ltb-true (total k q m) l s.1, total_is k q m, ltb-true (blocks_before k q m (k * m)) cut s.0, w.before, blocks_least k q m (suc p) (k * m) h.phase))
    (or_cases (is_member (phase_ends k q m) l) (late k q m l) z))
    (or_cases (l == 0) (is_member (phase_ends k q m) l || late k q m l) t))

-- a state may be exact at a block of a phase exactly if the phase begins there
pub ends_here : (k q m p l : ℕ) → IsInPhase k q m p l → may_end_at k q m l ≡ ((phase_at k q m p).start == l)
ends_here k q m p l h =
    ⊎_elim
    (λ (t : ((phase_at k q m p).start == l) ≡ true). start_ends k q m p l h (eqb-true (phase_at k q m p).start l t) ∙ sym t)
    (λ (t : ((phase_at k q m p).start == l) ≡ false). inside_not k q m p l h (λ e. false≢true (sym t ∙ eq-eqb (phase_at k q m p).start l e)) ∙ sym t)
    (cases_Bool ((phase_at k q m p).start == l))

pub ends_past : (k q m l : ℕ) → 0 < k → 0 < m → total k q m < cut → total k q m ≤ l → may_end_at k q m l ≡ true
ends_past k q m l rows sets uncut past =
    let is = total_is k q m in
    let n = k * m in
    ⊎_elim
    (λ less. or_right (l == 0) (is_member (phase_ends k q m) l || late k q m l) (or_right (is_member (phase_ends k q m) l) (late k q m l)
    (and_from (nat_lt (blocks_before k q m n) cut) (nat_lt (total k q m) l) (lt-ltb (blocks_before k q m n) cut (omega (arith, is, uncut))) (lt-ltb (total k q m) l less))))
    (λ few.
    let some : 0 < n = product_positive k m rows sets in
    let last : suc (n - 1) ≡ n = omega (arith, some) in
    let end = ap (blocks_before k q m) last in
    let same : blocks_before k q m (suc (n - 1)) ≡ l = omega (arith, end, is, uncut, past, few) in
    listed k q m l (subst (Contains (phase_ends k q m)) same (is_end k q m (n - 1) (omega (arith, some)) (omega (arith, end, is, uncut)))))
    (cases_lt (total k q m) l)

end_of : ℕ → ℕ → ℕ → ℕ → ℕ
end_of k q m p = (phase_at k q m p).end

beginning : ℕ → ℕ → ℕ → List ℕ
beginning k q m = filter (λ p. nat_lt (blocks_before k q m p) cut) (below (k * m))

-- the end of the phase of a block, as the definition finds it
abbrev pub found_end : ℕ → ℕ → ℕ → ℕ → ℕ
found_end k q m l = unwrap_or (find (nat_lt l) (map (λ (p : PlanPhase). p.end) (plan_phases k q m))) l

found_by : (k q m l : ℕ) → found_end k q m l ≡ unwrap_or (find (nat_lt l) (map (end_of k q m) (beginning k q m))) l
unfolding plan_phases end_of beginning
found_by k q m l = ap (λ es. unwrap_or (find (nat_lt l) es) l) (map-map (λ (p : PlanPhase). p.end) (phase_at k q m) (filter (λ p. nat_lt (blocks_before k q m p) cut) (below (k * m))))

end_of_is : (k q m p : ℕ) → end_of k q m p ≡ min (blocks_before k q m (suc p)) cut
unfolding end_of
end_of_is k q m p = end_is k q m p

begins : (k q m p : ℕ) → p < k * m → blocks_before k q m p < cut → Contains (beginning k q m) p
unfolding beginning
begins k q m p inside low = filter_keeps (λ r. nat_lt (blocks_before k q m r) cut) (below (k * m)) p (below_contains (k * m) p inside) (lt-ltb (blocks_before k q m p) cut low)

beginning_rises : (k q m : ℕ) → Rises (beginning k q m)
unfolding beginning
beginning_rises k q m = rises_filter (λ p. nat_lt (blocks_before k q m p) cut) (below (k * m)) (rises_below (k * m))

pub end_here : (k q m p l : ℕ) → IsInPhase k q m p l → found_end k q m l ≡ (phase_at k q m p).end
unfolding end_of
end_here k q m p l h =
    let w = within k q m p l h in
    let ends = map (end_of k q m) (beginning k q m) in
    let x = end_of k q m p in
    let is = end_of_is k q m p in
    let there : Contains ends x = map_contains (end_of k q m) (beginning k q m) p (begins k q m p h.phase (omega (arith, w.after, w.below_cut, cut_is))) in
    let t : nat_lt l x ≡ true = lt-ltb l x (omega (arith, is, w.before, w.below_cut, cut_is)) in
    let f = find_some (nat_lt l) ends x there t in
    let e : found_end k q m l ≡ f.0 = found_by k q m l ∙ ap (λ (o : Option ℕ). unwrap_or o l) f.1 in
    let passed = find_passes (nat_lt l) ends f.0 f.1 in
    let up : (i j : ℕ) → i ≤ j → end_of k q m i ≤ end_of k q m j = λ i j n. omega (arith, end_of_is k q m i, end_of_is k q m j, blocks_least k q m (suc i) (suc j) (omega (arith, n))) in
    let few = find_least (nat_lt l) ends f.0 x (rises_map (end_of k q m) up (beginning k q m) (beginning_rises k q m)) f.1 there t in
    let r = contains_map (end_of k q m) (beginning k q m) f.0 passed.member in
    let above = ltb-true l f.0 passed.passes in
    let later : p ≤ r.0 = ⊎_elim (λ less. absurd (let z = blocks_least k q m (suc r.0) p less in omega (arith, z, w.after, r.2, end_of_is k q m r.0, above))) (λ z. z) (cases_lt r.0 p) in
    e ∙ (let z = up p r.0 later in let y : f.0 ≡ x = omega (arith, z, r.2, few) in y)
