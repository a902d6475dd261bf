-- A round of a search.
--   going_inside, going_left    a search that goes on is inside its plan, and its budget isn't used up
--   end_within          the end of a phase is no more than the plan's end
--   round_made          how many blocks a round does, as it is counted
--   found_made          what a round finds
--   round_after         the state after a round
--   value_after         what the board shows is the value of the new best word
use Rattle.std.proofs.Common.{◌≡◌, ℕ, suc, ◌+◌, ◌-◌, ◌*◌, ◌/◌, ◌%◌, ◌^◌, ◌<◌, ◌≤◌, min, List, length, Some, None, sym, ap, subst, ◌∙◌, arith}
use Rattle.lc_algebra.specs.Field.{size}
use Rattle.lc_algebra.specs.Matrix.{Matrix}
use Rattle.lc_algebra.specs.Divisor.{divisor_of}
use Rattle.lc_enumeration.specs.Plan.{total, phase_at, IsInPhase}
use Rattle.lc_enumeration.specs.Search.{Found, set_count, found_from, least_of, board_value}
use Rattle.lc_enumeration.specs.Records.{found_of, progress_of, round_length, after_round}
use Rattle.lc_enumeration.proofs.PlanLaws.{cut_is, blocks_least, end_is}
use Rattle.lc_place.specs.Place.{PlanSize}
use Rattle.lc_board.specs.Seats.{Closing}
use Rattle.lc_infoset.proofs.AnswerLaws.{some_set}
use Rattle.lc_search.specs.declared.round.RoundFound.{RoundFound}
use Rattle.lc_search.specs.Work.{block_value}
use Rattle.lc_crew.specs.Crew.{least_over}
use Rattle.lc_search.specs.State.{SearchState, answer_in, whole_plan, after_search_round, IsKept}
use Rattle.lc_search.specs.Found.{IsFoundIn}
use Rattle.lc_search.proofs.LevelLaws.{total_is}
use Rattle.lc_search.proofs.EndLaws.{Unfinished, unfinished, end_of_is, round_is}
use Rattle.lc_search.proofs.BlockLaws.{blocks_after}

module _ (s : SearchState) (plan : PlanSize) (levels : List ℕ) (kept : IsKept s.code plan s.budget s.progress levels) where
  going : 0 < length s.code.rows → answer_in s ≡ None → Unfinished s.code s.budget s.progress.blocks
  going rows open_yet = unfinished (divisor_of s.code) s.code s.budget s.progress.blocks (found_of s.progress) rows (some_set s.code) (omega (arith, kept.small, cut_is)) kept.within open_yet

  pub going_inside : 0 < length s.code.rows → answer_in s ≡ None → s.progress.blocks < total plan.k plan.q plan.m
  going_inside rows open_yet = subst (λ (p : PlanSize). s.progress.blocks < total p.k p.q p.m) (sym kept.plan_is) (going rows open_yet).inside

  pub going_left : 0 < length s.code.rows → answer_in s ≡ None → s.progress.blocks < s.budget
  going_left rows open_yet = (going rows open_yet).left

EndOf : PlanSize → ℕ → ℕ → Type 0
EndOf plan l e = (p : ℕ) × IsInPhase plan.k plan.q plan.m p l × (e ≡ (phase_at plan.k plan.q plan.m p).end)

pub end_within : (C : Matrix) (plan : PlanSize) (l e : ℕ) → plan ≡ whole_plan C → (p : ℕ) × IsInPhase plan.k plan.q plan.m p l × (e ≡ (phase_at plan.k plan.q plan.m p).end) → e ≤ total (length C.rows) (size C.field) (set_count C)
unfolding EndOf
end_within C plan l e is f =
    let g : EndOf (whole_plan C) l e = subst (λ (p : PlanSize). EndOf p l e) is f in
    let k = length C.rows in
    let q = size C.field in
    let m = set_count C in
    let inside = g.1.phase in
    omega (arith, g.2, end_is k q m g.0, total_is k q m, blocks_least k q m (suc g.0) (k * m) inside)

pub round_made : (s : SearchState) (plan : PlanSize) (longest limit e n : ℕ) → plan ≡ whole_plan s.code → (p : ℕ) × IsInPhase plan.k plan.q plan.m p s.progress.blocks × (e ≡ (phase_at plan.k plan.q plan.m p).end)
    → n ≡ min limit (min longest (min (e - s.progress.blocks) (s.budget - s.progress.blocks))) → n ≡ round_length s.code s.budget longest (Some limit) s.progress.blocks
unfolding EndOf
round_made s plan longest limit e n is f counted =
    let g : EndOf (whole_plan s.code) s.progress.blocks e = subst (λ (p : PlanSize). EndOf p s.progress.blocks e) is f in
    let same = end_of_is s.code s.progress.blocks g.0 g.1 in
    let long = round_is s.code s.budget longest limit s.progress.blocks in
    omega (arith, counted, same, g.2, long)

pub found_made : (C : Matrix) (plan : PlanSize) (start count first weight place w p : ℕ) (closed : Closing) → plan ≡ whole_plan C → start + count ≤ total plan.k plan.q plan.m → place < 2 ^ 52 → first ≡ weight * 2 ^ 52 + place
    → closed.count ≡ count → closed.claimed ≡ count → closed.best ≡ least_over (block_value C plan.m) first start count → w ≡ closed.best / 2 ^ 52 → p ≡ closed.best % 2 ^ 52
    → IsFoundIn C start count weight place (record { best = record { weight = w; place = p }; closed = closed })
unfolding board_value
found_made C plan start count first weight place w p closed is inside near value counted claimed best we pe =
    let a : Found = record { weight = weight; place = place } in
    let x = least_of a (found_from C (set_count C) start count) in
    let b : closed.best ≡ least_over (block_value C (set_count C)) (board_value a) start count = best ∙ ap (λ (pl : PlanSize). least_over (block_value C pl.m) first start count) is ∙ ap (λ v. least_over (block_value C (set_count C)) v start count) value in
    let t = blocks_after C (set_count C) start count closed.best a (subst (λ (pl : PlanSize). start + count ≤ total pl.k pl.q pl.m) is inside) near b in
    let weighs : w ≡ x.weight = we ∙ sym t.weight in
    let stands : p ≡ x.place = pe ∙ sym t.place in
    let pair : ◌≡◌ {A = Found} (record { weight = w; place = p }) x = λ i. record { weight = weighs i; place = stands i } in
    let lighter = t.lighter in
    let small = t.small in
    record {
      pair = pair;
      lighter = omega (arith, weighs, lighter);
      near = omega (arith, stands, small);
      count_is = counted;
      claimed = claimed;
      best = t.value ∙ ap board_value (sym pair);
    }

pub round_after : (s : SearchState) (longest limit done : ℕ) (r : RoundFound) → done ≡ round_length s.code s.budget longest (Some limit) s.progress.blocks → IsFoundIn s.code s.progress.blocks done s.progress.weight s.progress.place r
    → ◌≡◌ {A = SearchState} (record { code = s.code; budget = s.budget; progress = record { blocks = s.progress.blocks + done; weight = r.best.weight; place = r.best.place } }) (after_search_round s longest limit)
unfolding after_search_round after_round progress_of found_of
round_after s longest limit done r e f =
    let to : ℕ → Found → SearchState = λ n x. record { code = s.code; budget = s.budget; progress = record { blocks = s.progress.blocks + n; weight = x.weight; place = x.place } } in
    ap (to done) f.pair ∙ ap (λ n. to n (least_of (found_of s.progress) (found_from s.code (set_count s.code) s.progress.blocks n))) e

pub value_after : (t : SearchState) (C : Matrix) (budget start count weight place blocks : ℕ) (r : RoundFound) → IsFoundIn C start count weight place r
    → ◌≡◌ {A = SearchState} t (record { code = C; budget = budget; progress = record { blocks = blocks; weight = r.best.weight; place = r.best.place } }) → r.closed.best ≡ board_value (found_of t.progress)
unfolding found_of
value_after t C budget start count weight place blocks r f e = f.best ∙ ap (λ (u : SearchState). board_value (found_of u.progress)) (sym e)
