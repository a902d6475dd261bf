-- Where a search may end, and how far a round goes.
--   ends_zero, ends_start, ends_between, ends_past, ends_cut      whether a search may be exact: at 0; where a phase starts; inside a
--                        phase; past the plan's end; at the cut
--   exact_past, exact_inside      the same, as the program finds it
--   level_past           past the plan's end all levels are done
--   Unfinished, unfinished      a search that isn't finished is inside the plan, and its budget isn't used up
--   end_of_is            the end of the phase of a block
--   round_is             how many blocks a round does
use Rattle.std.proofs.Common.{◌≡◌, ℕ, zero, suc, ◌+◌, ◌-◌, ◌*◌, ◌<◌, ◌≤◌, min, Bool, true, false, ◌&&◌, ◌||◌, ◌==◌, nat_le, nat_lt, nat_eq, if◌then◌else◌, find, List, length, map, Option, Some, None, is_some, unwrap_or, Contains, refl, sym, ap, subst, ◌∙◌, inr, ⊎_elim, arith}
use Rattle.std.proofs.lemmas.Bool.{cases_Bool, cases_lt, and_parts, and_from, or_cases, or_left, or_right, ltb-true, le-leb, lt-ltb, le-ltb, false≢true, eqb-true, eq-eqb, false_from_ne_true}
use Rattle.lc_algebra.specs.Field.{size}
use Rattle.lc_algebra.specs.Span.{below}
use Rattle.lc_algebra.specs.Matrix.{Matrix}
use Rattle.lc_algebra.proofs.SpanLaws.{contains_map, contains_below, below_contains, map_contains}
use Rattle.lc_enumeration.specs.Plan.{PlanPhase, cut, total, phase_at, blocks_before, IsInPhase}
use Rattle.lc_enumeration.specs.InformationSet.{is_member}
use Rattle.lc_enumeration.specs.Search.{Found, Answer, exact, bracket, set_count, level_below, levels_below, bound, ends_of, may_end, finished}
use Rattle.lc_enumeration.specs.Records.{end_of_phase, within_slice, round_length}
use Rattle.lc_enumeration.proofs.MemberLaws.{member_true, true_member}
use Rattle.lc_enumeration.proofs.PlanLaws.{cut_is, blocks_least, end_is, within}
use Rattle.lc_infoset.proofs.SetLaws.{filter_passes, levels_are}
use Rattle.lc_infoset.proofs.BestLaws.{find_passes, no_blocks}
use Rattle.lc_infoset.proofs.AnswerLaws.{ends_are, bound_whole}
use Rattle.lc_infoset.proofs.RoundLaws.{plan_end, end_at, end_in_ends, end_listed, end_between, starting, phase_end_at, end_of_found, end_at_is, may_is}
use Rattle.lc_place.specs.declared.phase.Phase.{Phase}
use Rattle.lc_place.specs.Place.{PlanSize, plan_phase}
use Rattle.lc_search.specs.State.{whole_plan}
use Rattle.lc_search.proofs.LevelLaws.{total_is, open_end, level_is}

module _ (C : Matrix) (l : ℕ) where
  late : Bool
  late = nat_lt (plan_end C) cut && nat_lt (total (length C.rows) (size C.field) (set_count C)) l

  not_yet : (l ≡ 0 → ⊥) → (Contains (ends_of C) l → ⊥) → (plan_end C < cut → total (length C.rows) (size C.field) (set_count C) < l → ⊥) → may_end C l ≡ false
  unfolding late
  not_yet some out early =
      may_is C l
      ∙ false_from_ne_true ((l == 0) || (is_member (ends_of C) l || late)) (λ t.
      ⊎_elim (λ z. some (eqb-true l 0 z))
      (λ r. ⊎_elim (λ z. out (true_member (ends_of C) l z))
      (λ z. let s = and_parts (nat_lt (plan_end C) cut) (nat_lt (total (length C.rows) (size C.field) (set_count C)) l) z in early (ltb-true (plan_end C) cut s.0) (ltb-true (total (length C.rows) (size C.field) (set_count C)) l s.1))
      (or_cases (is_member (ends_of C) l) late r))
      (or_cases (l == 0) (is_member (ends_of C) l || late) t))

  listed : Contains (ends_of C) l → may_end C l ≡ true
  unfolding late
  listed m = may_is C l ∙ or_right (l == 0) (is_member (ends_of C) l || late) (or_left (is_member (ends_of C) l) late (member_true (ends_of C) l m))

  -- a phase end below the cut
  an_end : Contains (ends_of C) l → (r : ℕ) × (r < length C.rows * set_count C) × (l ≡ end_at C r) × (l < cut)
  an_end m =
      let s = filter_passes (λ x. nat_lt x cut) (map (end_at C) (below (length C.rows * set_count C))) l (subst (λ es. Contains es l) (ends_are C) m) in
      let t = contains_map (end_at C) (below (length C.rows * set_count C)) l s.member in
      (t.0, contains_below (length C.rows * set_count C) t.0 t.1, t.2, ltb-true l cut s.passes)

  pub ends_zero : l ≡ 0 → may_end C l ≡ true
  unfolding late
  ends_zero e = may_is C l ∙ or_left (l == 0) (is_member (ends_of C) l || late) (eq-eqb l 0 e)

  pub ends_start : (p : ℕ) → 0 < l → IsInPhase (length C.rows) (size C.field) (set_count C) p l → (phase_at (length C.rows) (size C.field) (set_count C) p).start ≡ l → may_end C l ≡ true
  ends_start zero some h e = absurd (omega (arith, some, e, (within (length C.rows) (size C.field) (set_count C) 0 l h).start, no_blocks (length C.rows) (size C.field) (set_count C)))
  ends_start (suc r) some h e =
      let w = within (length C.rows) (size C.field) (set_count C) (suc r) l h in
      let same : end_at C r ≡ l = sym w.start ∙ e in
      let inside = h.phase in
      listed (subst (Contains (ends_of C)) same (end_in_ends C r (omega (arith, inside)) (omega (arith, same, w.below_cut, cut_is))))

  pub ends_between : (p : ℕ) → 0 < l → IsInPhase (length C.rows) (size C.field) (set_count C) p l → ((phase_at (length C.rows) (size C.field) (set_count C) p).start ≡ l → ⊥) → may_end C l ≡ false
  ends_between p some h other =
      let k = length C.rows in
      let q = size C.field in
      let m = set_count C in
      let w = within k q m p l h in
      not_yet (λ e. omega (arith, some, e))
      (λ t.
      let s = an_end t in
      ⊎_elim
      (λ less. other (w.start ∙ (let x = blocks_least k q m (suc s.0) p less in omega (arith, x, s.2, w.after))))
      (λ above. omega (arith, s.2, w.before, blocks_least k q m (suc p) (suc s.0) (omega (arith, above))))
      (cases_lt s.0 p))
      (λ uncut past. let inside = h.phase in omega (arith, past, w.before, total_is k q m, uncut, blocks_least k q m (suc p) (k * m) inside))

  pub ends_past : 0 < length C.rows → 0 < set_count C → total (length C.rows) (size C.field) (set_count C) < cut → total (length C.rows) (size C.field) (set_count C) ≤ l → may_end C l ≡ true
  unfolding late
  ends_past rows sets uncut past =
      let is = total_is (length C.rows) (size C.field) (set_count C) in
      ⊎_elim
      (λ less. may_is C l ∙ or_right (l == 0) (is_member (ends_of C) l || late) (or_right (is_member (ends_of C) l) late
      (and_from (nat_lt (plan_end C) cut) (nat_lt (total (length C.rows) (size C.field) (set_count C)) l) (lt-ltb (plan_end C) cut (omega (arith, is, uncut))) (lt-ltb (total (length C.rows) (size C.field) (set_count C)) l less))))
      (λ few. let same : plan_end C ≡ l = omega (arith, is, uncut, past, few) in
      listed (subst (Contains (ends_of C)) same (end_listed C rows sets (omega (arith, is, uncut)))))
      (cases_lt (total (length C.rows) (size C.field) (set_count C)) l)

  pub ends_cut : total (length C.rows) (size C.field) (set_count C) ≡ cut → cut ≤ l → may_end C l ≡ false
  ends_cut whole past =
      not_yet (λ e. omega (arith, past, e, cut_is))
      (λ t. let s = an_end t in omega (arith, past, s.3))
      (λ uncut _. omega (arith, whole, uncut, total_is (length C.rows) (size C.field) (set_count C)))

  pub level_past : 0 < set_count C → total (length C.rows) (size C.field) (set_count C) < cut → total (length C.rows) (size C.field) (set_count C) ≤ l → level_below C l 0 ≡ length C.rows
  level_past sets uncut past =
      let k = length C.rows in
      let m = set_count C in
      level_is C l (k + 1) 0 0 (omega arith) (omega arith) sets (inr refl) sets (open_end k (size C.field) m l (omega (arith, uncut, cut_is)) past)
      ∙ (let e : k + 1 - 1 ≡ k = omega arith in e)

  pub bound_past : (d x : ℕ) → 0 < set_count C → total (length C.rows) (size C.field) (set_count C) < cut → total (length C.rows) (size C.field) (set_count C) ≤ l → bound d C l x ≡ x
  bound_past d x sets uncut past =
      let there : Contains (levels_below C l) (length C.rows) = subst (λ ls. Contains ls (length C.rows)) (sym (levels_are C l)) (subst (Contains (map (level_below C l) (below (set_count C)))) (level_past sets uncut past) (map_contains (level_below C l) (below (set_count C)) 0 (below_contains (set_count C) 0 sets))) in
      bound_whole d C l x (member_true (levels_below C l) (length C.rows) there)

-- as the program finds it, past the plan's end and inside it
pub exact_past : (C : Matrix) (plan : PlanSize) (l t : ℕ) → plan ≡ whole_plan C → 0 < length C.rows → 0 < set_count C → t ≡ total plan.k plan.q plan.m → t ≤ l → nat_lt t 1099511627776 ≡ may_end C l
exact_past C plan l t e rows sets is past =
    let same : t ≡ total (length C.rows) (size C.field) (set_count C) = is ∙ ap (λ (p : PlanSize). total p.k p.q p.m) e in
    let most = total_is (length C.rows) (size C.field) (set_count C) in
    ⊎_elim
    (λ less. lt-ltb t 1099511627776 less ∙ sym (ends_past C l rows sets (omega (arith, less, same, cut_is)) (omega (arith, past, same))))
    (λ above. le-ltb t 1099511627776 above ∙ sym (ends_cut C l (omega (arith, above, same, most, cut_is)) (omega (arith, above, past, cut_is))))
    (cases_lt t 1099511627776)

pub exact_inside : (C : Matrix) (plan : PlanSize) (l : ℕ) (ph : Phase) → plan ≡ whole_plan C → 0 < l → (p : ℕ) × IsInPhase plan.k plan.q plan.m p l × (plan_phase ph ≡ phase_at plan.k plan.q plan.m p) → nat_eq ph.start l ≡ may_end C l
exact_inside C plan l ph e some f =
    let g = subst (λ (x : PlanSize). (p : ℕ) × IsInPhase x.k x.q x.m p l × (plan_phase ph ≡ phase_at x.k x.q x.m p)) e f in
    let start : ph.start ≡ (phase_at (length C.rows) (size C.field) (set_count C) g.0).start = ap (λ (x : PlanPhase). x.start) g.2 in
    ⊎_elim
    (λ t. t ∙ sym (ends_start C l g.0 some g.1 (sym start ∙ eqb-true ph.start l t)))
    (λ f. f ∙ sym (ends_between C l g.0 some g.1 (λ h. false≢true (sym f ∙ eq-eqb ph.start l (start ∙ h)))))
    (cases_Bool (nat_eq ph.start l))

pub finished_is : (d : ℕ) (C : Matrix) (budget l : ℕ) (x : Found) → finished d C budget l x ≡ (if may_end C l && nat_le x.weight (bound d C l x.weight) then Some (exact x l) else (if l == budget then Some (bracket (bound d C l x.weight) x l) else None))
unfolding finished
finished_is d C budget l x = refl

open_cases : (a b : Bool) (x y : Answer) → (if a then Some x else (if b then Some y else None)) ≡ None → (a ≡ false) × (b ≡ false)
open_cases true b x y e = absurd (false≢true (sym (ap is_some e)))
open_cases false true x y e = absurd (false≢true (sym (ap is_some e)))
open_cases false false x y e = (refl, refl)

pub record Unfinished (C : Matrix) (budget l : ℕ) : Type 0 where
  pub left : l < budget
  pub inside : l < total (length C.rows) (size C.field) (set_count C)

pub unfinished : (d : ℕ) (C : Matrix) (budget l : ℕ) (x : Found) → 0 < length C.rows → 0 < set_count C → budget ≤ cut → l ≤ budget → finished d C budget l x ≡ None → Unfinished C budget l
unfinished d C budget l x rows sets small few e =
    let whole = total (length C.rows) (size C.field) (set_count C) in
    let t = open_cases (may_end C l && nat_le x.weight (bound d C l x.weight)) (l == budget) (exact x l) (bracket (bound d C l x.weight) x l) (sym (finished_is d C budget l x) ∙ e) in
    let left : l < budget = ⊎_elim (λ z. z) (λ z. absurd (false≢true (sym t.1 ∙ eq-eqb l budget (omega (arith, few, z))))) (cases_lt l budget) in
    record {
      left = left;
      inside = ⊎_elim (λ z. z)
          (λ past. ⊎_elim
          (λ uncut.
          let same = bound_past C l d x.weight sets uncut past in
          absurd (false≢true (sym t.0 ∙ and_from (may_end C l) (nat_le x.weight (bound d C l x.weight)) (ends_past C l rows sets uncut past) (le-leb x.weight (bound d C l x.weight) (omega (arith, same))))))
          (λ at_cut. absurd (omega (arith, at_cut, past, left, small)))
          (cases_lt whole cut))
          (cases_lt l whole);
    }

-- an end above l is an end of a phase
some_or : (es : List ℕ) (l : ℕ) → l < unwrap_or (find (nat_lt l) es) l → Contains es (unwrap_or (find (nat_lt l) es) l)
some_or es l less = by (find (nat_lt l) es) refl
  where
    by : (o : Option ℕ) → find (nat_lt l) es ≡ o → Contains es (unwrap_or (find (nat_lt l) es) l)
    by None e = absurd (let same = ap (λ (o : Option ℕ). unwrap_or o l) e in omega (arith, less, same))
    by (Some x) e = subst (Contains es) (sym (ap (λ (o : Option ℕ). unwrap_or o l) e)) (find_passes (nat_lt l) es x e).member

pub end_of_is : (C : Matrix) (l p : ℕ) → IsInPhase (length C.rows) (size C.field) (set_count C) p l → end_of_phase C l ≡ (phase_at (length C.rows) (size C.field) (set_count C) p).end
end_of_is C l p h =
    let k = length C.rows in
    let q = size C.field in
    let m = set_count C in
    let w = within k q m p l h in
    let x = end_is k q m p in
    let low : blocks_before k q m p < cut = omega (arith, w.after, w.below_cut, cut_is) in
    let b = end_between C l p h.phase low (omega (arith, w.before, w.below_cut, cut_is)) in
    let f = end_of_found C l in
    let ends = map (phase_end_at C) (starting C) in
    let there = some_or ends l (omega (arith, f, b.0)) in
    let t = contains_map (phase_end_at C) (starting C) (unwrap_or (find (nat_lt l) ends) l) there in
    let r : ℕ = t.0 in
    let y = end_at_is C r in
    let more : p ≤ r = ⊎_elim (λ less. absurd (let z = blocks_least k q m (suc r) p less in omega (arith, z, w.after, t.2, f, b.0, y))) (λ z. z) (cases_lt r p) in
    let z = blocks_least k q m (suc p) (suc r) (omega (arith, more)) in
    omega (arith, x, y, z, f, t.2, b.1)

pub round_is : (C : Matrix) (budget longest limit l : ℕ) → round_length C budget longest (Some limit) l ≡ min limit (min longest (min (end_of_phase C l - l) (budget - l)))
unfolding round_length within_slice
round_is C budget longest limit l = refl
