-- Parts that are taken one after another keep a search under way.
--   not_answered, part_underway      a state that isn't answered, and a part that goes on from it
--   with_underway, along_underway    one part, and a list of them
--   from_first                       from the beginning
--   answered_settled                 an answered state has the answer of the search
use Rattle.std.proofs.Common.{◌≡◌, ℕ, ◌<◌, ◌≤◌, ◌^◌, ◌&&◌, min, true, false, nat_le, nat_lt, find, List, [], ◌∷◌, length, All, Option, Some, None, is_some, refl, sym, ap, subst, ◌∙◌, ⊎_elim, arith}
use Rattle.std.proofs.lemmas.Bool.{cases_Bool, cases_lt, and_parts, leb-true, ltb-true, false≢true}
use Rattle.std.proofs.lemmas.List.Elements.{All-head, All-tail}
use Rattle.lc_algebra.specs.Matrix.{Matrix}
use Rattle.lc_algebra.specs.Divisor.{divisor_of}
use Rattle.lc_enumeration.specs.Plan.{cut}
use Rattle.lc_enumeration.specs.Search.{Answer, is_done, finished}
use Rattle.lc_enumeration.specs.Records.{Progress, found_of, progress_of, end_of_phase}
use Rattle.lc_enumeration.specs.Truth.{IsSettled, IsUnderway}
use Rattle.lc_enumeration.proofs.PlanLaws.{cut_is}
use Rattle.lc_infoset.proofs.AnswerLaws.{some_set}
use Rattle.lc_infoset.proofs.RoundLaws.{done_list, target, Reached, reached, some_end, end_between}
use Rattle.lc_infoset.proofs.SessionLaws.{answer_is, target_is, first_underway}
use Rattle.lc_parts.specs.Part.{Part, part_end, facts_of, IsTruePart}
use Rattle.lc_parts.specs.Along.{first_by, end_by, is_answered, end_wanted, continues, after_part, with_part, along}
use Rattle.lc_parts.proofs.CoverLaws.{joined_best}
use Rattle.lc_parts.proofs.FactsLaws.{first_is, end_is, finished_is}

-- how far the blocks of the answer are
abbrev done_at : Matrix → ℕ → Option ℕ
done_at C budget = find (is_done (divisor_of C) C) (done_list C budget)

state_reached : (C : Matrix) (budget : ℕ) (s : Progress) → 0 < length C.rows → IsUnderway (divisor_of C) C budget s → Reached (divisor_of C) C budget (done_at C budget) s.blocks (found_of s)
state_reached C budget s rows h = reached (divisor_of C) C budget (done_at C budget) s.blocks (found_of s) rows (some_set C) refl h.best (omega (arith, h.few, target_is (divisor_of C) C budget rows))

answered_is : (C : Matrix) (budget : ℕ) (s : Progress) → is_answered (facts_of C) budget s ≡ is_some (finished (divisor_of C) C budget s.blocks (found_of s))
unfolding is_answered
answered_is C budget s = ap (λ (o : Option Answer). is_some o) (finished_is C budget s)

not_answered : (C : Matrix) (budget : ℕ) (s : Progress) → 0 < length C.rows → IsUnderway (divisor_of C) C budget s → is_answered (facts_of C) budget s ≡ false → s.blocks < target (done_at C budget) budget
not_answered C budget s rows h open_still =
    ⊎_elim (λ l. l)
    (λ g. absurd (false≢true (sym open_still ∙ answered_is C budget s ∙ ap (λ (o : Option Answer). is_some o) ((state_reached C budget s rows h).here (omega (arith, g, h.few, target_is (divisor_of C) C budget rows))))))
    (cases_lt s.blocks (target (done_at C budget) budget))

pub answered_settled : (C : Matrix) (budget : ℕ) (s : Progress) → 0 < length C.rows → IsUnderway (divisor_of C) C budget s → is_answered (facts_of C) budget s ≡ true → IsSettled (divisor_of C) C budget s
answered_settled C budget s rows h done =
    let state = state_reached C budget s rows h in
    ⊎_elim
    (λ l. absurd (false≢true (sym (ap (λ (o : Option Answer). is_some o) (state.before l)) ∙ sym (answered_is C budget s) ∙ done)))
    (λ g. state.here (omega (arith, g, h.few, target_is (divisor_of C) C budget rows)) ∙ ap Some (sym (answer_is (divisor_of C) C budget rows)))
    (cases_lt s.blocks (target (done_at C budget) budget))

-- what the test says
record GoesOn (C : Matrix) (budget : ℕ) (s : Progress) (p : Part) : Type 0 where
  pub from : p.start ≤ s.blocks
  pub more : s.blocks < part_end p
  pub phase : part_end p ≤ end_of_phase C s.blocks
  pub few : part_end p ≤ budget

goes_on : (C : Matrix) (budget : ℕ) (s : Progress) (p : Part) → continues (facts_of C) budget s p ≡ true → GoesOn C budget s p
unfolding continues end_wanted
goes_on C budget s p t =
    let f = facts_of C in
    let most = min (end_by f s.blocks) budget in
    let a = and_parts (nat_le p.start s.blocks) (nat_lt s.blocks (part_end p) && nat_le (part_end p) most) t in
    let b = and_parts (nat_lt s.blocks (part_end p)) (nat_le (part_end p) most) a.1 in
    let l = leb-true (part_end p) most b.1 in
    record {
      from = leb-true p.start s.blocks a.0;
      more = ltb-true s.blocks (part_end p) b.0;
      phase = omega (arith, l, end_is C s.blocks);
      few = omega (arith, l);
    }

after_blocks : (s : Progress) (p : Part) → (after_part s p).blocks ≡ part_end p
unfolding after_part progress_of
after_blocks s p = refl

before_target : (budget : ℕ) (o : Option ℕ) (x : ℕ) → x ≤ budget → ((e : ℕ) → o ≡ Some e → x ≤ e) → x ≤ target o budget
before_target budget None x few h = few
before_target budget (Some e) x few h = h e refl

part_underway : (C : Matrix) (budget : ℕ) (s : Progress) (p : Part) → 0 < length C.rows → budget ≤ cut → IsUnderway (divisor_of C) C budget s → IsTruePart C p → is_answered (facts_of C) budget s ≡ false → continues (facts_of C) budget s p ≡ true
    → IsUnderway (divisor_of C) C budget (after_part s p)
part_underway C budget s p rows small h holds open_still on =
    let d = divisor_of C in
    let o = done_at C budget in
    let g = goes_on C budget s p on in
    let less = not_answered C budget s rows h open_still in
    let t = some_end d C budget o s.blocks rows (some_set C) small refl less in
    let b = end_between C s.blocks t.0 t.1 t.2 t.3 in
    let within = before_target budget o (part_end p) g.few (λ e same. omega (arith, g.phase, b.1, t.4 e same)) in
    record {
      best = joined_best C s p h.best holds g.from (omega (arith, g.more));
      few = omega (arith, after_blocks s p, within, target_is d C budget rows);
    }

pub with_underway : (C : Matrix) (budget : ℕ) (s : Progress) (p : Part) → 0 < length C.rows → budget ≤ 2 ^ 40 → IsUnderway (divisor_of C) C budget s → IsTruePart C p → IsUnderway (divisor_of C) C budget (with_part (facts_of C) budget s p)
unfolding with_part
with_underway C budget s p rows small h holds =
    let f = facts_of C in
    ⊎_elim
    (λ (t : is_answered f budget s ≡ true). rw t h)
    (λ (t : is_answered f budget s ≡ false). ⊎_elim
    (λ (u : continues f budget s p ≡ true). rw (t, u) (part_underway C budget s p rows (omega (arith, small, cut_is)) h holds t u))
    (λ (u : continues f budget s p ≡ false). rw (t, u) h)
    (cases_Bool (continues f budget s p)))
    (cases_Bool (is_answered f budget s))

pub along_underway : (C : Matrix) (budget : ℕ) (s : Progress) (parts : List Part) → 0 < length C.rows → budget ≤ 2 ^ 40 → IsUnderway (divisor_of C) C budget s → All (IsTruePart C) parts → IsUnderway (divisor_of C) C budget (along (facts_of C) budget s parts)
unfolding along
along_underway C budget s [] rows small h all = h
along_underway C budget s (p ∷ parts) rows small h all =
    along_underway C budget (with_part (facts_of C) budget s p) parts rows small
    (with_underway C budget s p rows small h (All-head (IsTruePart C) p parts all)) (All-tail (IsTruePart C) p parts all)

pub from_first : (C : Matrix) (budget : ℕ) (parts : List Part) → 0 < length C.rows → budget ≤ 2 ^ 40 → All (IsTruePart C) parts → IsUnderway (divisor_of C) C budget (along (facts_of C) budget (first_by (facts_of C)) parts)
from_first C budget parts rows small all =
    along_underway C budget (first_by (facts_of C)) parts rows small (subst (IsUnderway (divisor_of C) C budget) (sym (first_is C)) (first_underway (divisor_of C) C budget)) all
