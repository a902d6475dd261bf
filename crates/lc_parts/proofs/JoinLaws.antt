-- When a search is answered, and how far the next part may reach, by the phase of the next block.
--   total_by, total_of           the end of the plan
--   answered_budget, answered_past, answered_here, answered_not      at the end of the budget; past the end of the plan; where a phase
--                                begins; inside one
--   wanted_is, wanted_end                    how far the next part may reach
--   continues_is                 whether a part goes on from a state
--   with_answered, with_passed, with_lesser, with_greater      the state after a part: of an answered search; if the part doesn't go
--                                on from it; if its word is the lesser; if it isn't
--   lines_along, lines_keep      the state after some parts
use Rattle.std.proofs.Common.{◌≡◌, ℕ, zero, suc, max, ◌++◌, ap₂, Contains, [], ◌∷◌, ◌+◌, ◌^◌, ◌<◌, ◌≤◌, min, Bool, true, false, ◌&&◌, ◌||◌, ◌==◌, nat_le, nat_lt, if◌then◌else◌, List, map, is_some, Option, Some, None, refl, sym, ap, subst, ◌∙◌, ⊎_elim, arith}
use Rattle.std.proofs.lemmas.Bool.{cases_lt, and_from, le-leb, eq-eqb, eqb-true, false_from_ne_true, false≢true}
use Rattle.std.proofs.lemmas.List.{map-append}
use Rattle.lc_algebra.specs.Span.{below}
use Rattle.lc_algebra.specs.Divisor.{rounded}
use Rattle.lc_enumeration.specs.Plan.{PlanPhase, cut, total, phase_at, phase_level, phase_set, IsInPhase}
use Rattle.lc_enumeration.specs.InformationSet.{is_member}
use Rattle.lc_enumeration.specs.Search.{Found, beats, least_of, Answer, exact, bracket, bound_sum, bound_of, last_that, is_whole_below}
use Rattle.lc_enumeration.specs.Records.{Progress, found_of, progress_of}
use Rattle.lc_enumeration.proofs.PlanLaws.{cut_is}
use Rattle.lc_algebra.proofs.SpanLaws.{map_contains, below_contains}
use Rattle.lc_enumeration.proofs.MemberLaws.{member_true}
use Rattle.lc_place.specs.declared.phase.Phase.{Phase}
use Rattle.lc_place.specs.Place.{PlanSize, plan_phase}
use Rattle.lc_parts.specs.Part.{Part, part_end, found_in, Facts}
use Rattle.lc_parts.specs.Along.{set_number, end_by, level_by, levels_by, bound_by, may_end_by, finished_at, finished_by, is_answered, end_wanted, continues, after_part, with_part, along}
use Rattle.lc_parts.specs.Joined.{AreUsable, JoinState, with_line, with_lines}
use Rattle.lc_parts.specs.Levels.{level_in, levels_in, bound_in, plan_by}
use Rattle.lc_parts.proofs.PhaseLaws.{level_here, level_past, ends_here, ends_past, end_here, may_end_at, found_end}

finished_is : (f : Facts) (budget l : ℕ) (x : Found) → finished_at f budget l x ≡ (if may_end_by f l && nat_le x.weight (bound_by f l x.weight) then Some (exact x l) else (if l == budget then Some (bracket (bound_by f l x.weight) x l) else None))
unfolding finished_at
finished_is f budget l x = refl

tested : (a b : Bool) (x y : Answer) → is_some (if a then Some x else (if b then Some y else None)) ≡ (a || b)
tested true b x y = refl
tested false true x y = refl
tested false false x y = refl

-- a search is answered where a state may be exact and its weight is at most the bound, and at the end of the budget
answered_by : (f : Facts) (budget l weight place : ℕ) → is_answered f budget (record { blocks = l; weight = weight; place = place }) ≡ ((may_end_by f l && nat_le weight (bound_by f l weight)) || (l == budget))
unfolding is_answered finished_by found_of
answered_by f budget l weight place =
    let x : Found = record { weight = weight; place = place } in
    ap (λ (o : Option Answer). is_some o) (finished_is f budget l x)
    ∙ tested (may_end_by f l && nat_le weight (bound_by f l weight)) (l == budget) (exact x l) (bracket (bound_by f l weight) x l)

or_true : (a : Bool) → (a || true) ≡ true
or_true true = refl
or_true false = refl

pub answered_budget : (f : Facts) (budget l weight place : ℕ) → l ≡ budget → true ≡ is_answered f budget (record { blocks = l; weight = weight; place = place })
answered_budget f budget l weight place e =
    sym (answered_by f budget l weight place ∙ ap (λ b. (may_end_by f l && nat_le weight (bound_by f l weight)) || b) (eq-eqb l budget e) ∙ or_true (may_end_by f l && nat_le weight (bound_by f l weight)))

may_end_is : (f : Facts) (l : ℕ) → may_end_by f l ≡ may_end_at f.k f.q (set_number f) l
unfolding may_end_by
may_end_is f l = refl

level_is : (f : Facts) (l j : ℕ) → level_by f l j ≡ last_that (is_whole_below f.k f.q (set_number f) l j) f.k
unfolding level_by
level_is f l j = refl

bound_is : (f : Facts) (l weight : ℕ) → bound_by f l weight ≡ bound_of f.divisor f.k f.ranks (map (level_by f l) (below (set_number f))) weight
unfolding bound_by levels_by
bound_is f l weight = refl

whole_bound : (f : Facts) (levels : List ℕ) (weight : ℕ) → is_member levels f.k ≡ true → bound_of f.divisor f.k f.ranks levels weight ≡ weight
unfolding bound_of
whole_bound f levels weight t = ap (λ b. if b then weight else rounded f.divisor (max 1 (bound_sum f.k f.ranks levels))) t

bound_past : (f : Facts) (l weight : ℕ) → AreUsable f → total f.k f.q (set_number f) < cut → total f.k f.q (set_number f) ≤ l → bound_by f l weight ≡ weight
bound_past f l weight h uncut past =
    let m = set_number f in
    let first : level_by f l 0 ≡ f.k = level_is f l 0 ∙ level_past f.k f.q m l 0 (omega (arith, h.dimension)) (omega (arith, h.sets)) uncut past in
    let there = subst (Contains (map (level_by f l) (below m))) first (map_contains (level_by f l) (below m) 0 (below_contains m 0 (omega (arith, h.sets)))) in
    bound_is f l weight ∙ whole_bound f (map (level_by f l) (below m)) weight (member_true (map (level_by f l) (below m)) f.k there)

pub total_by : (f : Facts) (plan : PlanSize) (l t : ℕ) → plan ≡ plan_by f → t ≡ total plan.k plan.q plan.m → t ≤ l → total f.k f.q (set_number f) ≤ l
total_by f plan l t e is past = (let same = ap (λ (p : PlanSize). total p.k p.q p.m) e in omega (arith, same, is, past))

pub total_of : (f : Facts) (plan : PlanSize) (l : ℕ) → plan ≡ plan_by f → l < total f.k f.q (set_number f) → l < total plan.k plan.q plan.m
total_of f plan l e inside = (let same = ap (λ (p : PlanSize). total p.k p.q p.m) e in omega (arith, same, inside))

pub answered_past : (f : Facts) (budget l weight place : ℕ) → AreUsable f → budget ≤ 2 ^ 40 → l < budget → total f.k f.q (set_number f) ≤ l → true ≡ is_answered f budget (record { blocks = l; weight = weight; place = place })
answered_past f budget l weight place h small less past =
    let m = set_number f in
    let uncut : total f.k f.q m < cut = omega (arith, past, less, small, cut_is) in
    let may = may_end_is f l ∙ ends_past f.k f.q m l (omega (arith, h.dimension)) (omega (arith, h.sets)) uncut past in
    let reaches : nat_le weight (bound_by f l weight) ≡ true = le-leb weight (bound_by f l weight) (omega (arith, bound_past f l weight h uncut past)) in
    sym (answered_by f budget l weight place ∙ ap (λ b. b || (l == budget)) (and_from (may_end_by f l) (nat_le weight (bound_by f l weight)) may reaches))

levels_here : (f : Facts) (l p : ℕ) → IsInPhase f.k f.q (set_number f) p l → (n : ℕ) → n ≤ set_number f → map (level_by f l) (below n) ≡ levels_in (phase_level (set_number f) p) (phase_set (set_number f) p) n
unfolding below
levels_here f l p h zero few = refl
levels_here f l p h (suc n) few =
    let m = set_number f in
    let g = level_in (phase_level m p) (phase_set m p) in
    map-append (level_by f l) (below n) (n ∷ [])
    ∙ ap₂ (λ xs x. xs ++ x ∷ []) (levels_here f l p h n (omega (arith, few))) (level_is f l n ∙ level_here f.k f.q m p l h n (omega (arith, few)))
    ∙ sym (map-append g (below n) (n ∷ []))

-- what the plan finds of the phase of a block
pub record IsPhaseOf (f : Facts) (l p : ℕ) (ph : Phase) : Type 0 where
  pub phase : IsInPhase f.k f.q (set_number f) p l
  pub start : ph.start ≡ (phase_at f.k f.q (set_number f) p).start
  pub level : ph.level ≡ phase_level (set_number f) p
  pub set_is : ph.set ≡ phase_set (set_number f) p

level_of_phase : (k q m p : ℕ) → (phase_at k q m p).level ≡ phase_level m p
unfolding phase_at
level_of_phase k q m p = refl

set_of_phase : (k q m p : ℕ) → (phase_at k q m p).set ≡ phase_set m p
unfolding phase_at
set_of_phase k q m p = refl

pub phase_of : (f : Facts) (plan : PlanSize) (l : ℕ) (ph : Phase) → plan ≡ plan_by f → (p : ℕ) × IsInPhase plan.k plan.q plan.m p l × (plan_phase ph ≡ phase_at plan.k plan.q plan.m p) → (p : ℕ) × IsPhaseOf f l p ph
phase_of f plan l ph e found =
    let g = subst (λ (x : PlanSize). (p : ℕ) × IsInPhase x.k x.q x.m p l × (plan_phase ph ≡ phase_at x.k x.q x.m p)) e found in
    let m = set_number f in (
      g.0,
      record {
        phase = g.1;
        start = ap (λ (x : PlanPhase). x.start) g.2;
        level = ap (λ (x : PlanPhase). x.level) g.2 ∙ level_of_phase f.k f.q m g.0;
        set_is = ap (λ (x : PlanPhase). x.set) g.2 ∙ set_of_phase f.k f.q m g.0;
      },
    )

bound_here : (f : Facts) (l p weight : ℕ) (ph : Phase) → IsPhaseOf f l p ph → bound_by f l weight ≡ bound_in f ph.level ph.set weight
bound_here f l p weight ph h =
    let m = set_number f in
    bound_is f l weight ∙ ap (λ levels. bound_of f.divisor f.k f.ranks levels weight) (levels_here f l p h.phase m (omega arith))
    ∙ ap₂ (λ a b. bound_in f a b weight) (sym h.level) (sym h.set_is)

answered_in : (f : Facts) (budget l weight place p : ℕ) (ph : Phase) → IsPhaseOf f l p ph → l < budget → is_answered f budget (record { blocks = l; weight = weight; place = place }) ≡ ((ph.start == l) && nat_le weight (bound_in f ph.level ph.set weight))
answered_in f budget l weight place p ph h less =
    let m = set_number f in
    let other : (l == budget) ≡ false = false_from_ne_true (l == budget) (λ t. omega (arith, less, eqb-true l budget t)) in
    let may : may_end_by f l ≡ (ph.start == l) = may_end_is f l ∙ ends_here f.k f.q m p l h.phase ∙ ap (λ s. s == l) (sym h.start) in
    answered_by f budget l weight place
    ∙ ap₂ (λ a b. a || b) (ap₂ (λ a b. a && nat_le weight b) may (bound_here f l p weight ph h)) other
    ∙ or_false ((ph.start == l) && nat_le weight (bound_in f ph.level ph.set weight))
  where
    or_false : (a : Bool) → (a || false) ≡ a
    or_false true = refl
    or_false false = refl

pub answered_not : (f : Facts) (plan : PlanSize) (budget l weight place : ℕ) (ph : Phase) → plan ≡ plan_by f → (p : ℕ) × IsInPhase plan.k plan.q plan.m p l × (plan_phase ph ≡ phase_at plan.k plan.q plan.m p) → l < budget → ph.start < l → false ≡ is_answered f budget (record { blocks = l; weight = weight; place = place })
answered_not f plan budget l weight place ph e found less inside =
    let t : (ph.start == l) ≡ false = false_from_ne_true (ph.start == l) (λ b. omega (arith, inside, eqb-true ph.start l b)) in
    let g = phase_of f plan l ph e found in
    sym (answered_in f budget l weight place g.0 ph g.1 less ∙ ap (λ b. b && nat_le weight (bound_in f ph.level ph.set weight)) t)

pub answered_here : (f : Facts) (plan : PlanSize) (budget l weight place b : ℕ) (ph : Phase) → plan ≡ plan_by f → (p : ℕ) × IsInPhase plan.k plan.q plan.m p l × (plan_phase ph ≡ phase_at plan.k plan.q plan.m p) → l < budget → ph.start ≡ l → b ≡ bound_in f ph.level ph.set weight → nat_le weight b ≡ is_answered f budget (record { blocks = l; weight = weight; place = place })
answered_here f plan budget l weight place b ph e found less t is =
    let g = phase_of f plan l ph e found in
    sym (answered_in f budget l weight place g.0 ph g.1 less ∙ ap₂ (λ a n. a && nat_le weight n) (eq-eqb ph.start l t) (sym is))

-- a search that isn't answered has a next block
pub record HasNext (f : Facts) (budget l : ℕ) : Type 0 where
  pub left : l < budget
  pub inside : l < total f.k f.q (set_number f)

pub has_next : (f : Facts) (budget l weight place : ℕ) → AreUsable f → budget ≤ 2 ^ 40 → l ≤ budget → is_answered f budget (record { blocks = l; weight = weight; place = place }) ≡ false → HasNext f budget l
has_next f budget l weight place h small few open_still =
    let less : l < budget = ⊎_elim (λ z. z) (λ z. absurd (false≢true (sym (answered_budget f budget l weight place (omega (arith, z, few)) ∙ open_still)))) (cases_lt l budget) in
    record {
      left = less;
      inside = ⊎_elim (λ z. z) (λ z. absurd (false≢true (sym (answered_past f budget l weight place h small less z ∙ open_still)))) (cases_lt l (total f.k f.q (set_number f)));
    }

end_is : (f : Facts) (l : ℕ) → end_by f l ≡ found_end f.k f.q (set_number f) l
unfolding end_by
end_is f l = refl

pub wanted_is : (f : Facts) (plan : PlanSize) (budget l e r : ℕ) → plan ≡ plan_by f → (p : ℕ) × IsInPhase plan.k plan.q plan.m p l × (e ≡ (phase_at plan.k plan.q plan.m p).end) → r ≡ min e budget → r ≡ min (end_by f l) budget
wanted_is f plan budget l e r same found is =
    let g = subst (λ (x : PlanSize). (p : ℕ) × IsInPhase x.k x.q x.m p l × (e ≡ (phase_at x.k x.q x.m p).end)) same found in
    is ∙ ap (λ n. min n budget) (g.2 ∙ sym (end_here f.k f.q (set_number f) g.0 l g.1) ∙ sym (end_is f l))

pub wanted_end : (f : Facts) (budget : ℕ) (s : Progress) → end_wanted f budget s ≡ min (end_by f s.blocks) budget
unfolding end_wanted
wanted_end f budget s = refl

-- ---- one more part

-- a state
abbrev state_of : List ℕ → Facts → ℕ → Progress → JoinState
state_of script f budget s = record { script = script; facts = f; budget = budget; progress = s }

with_is : (script : List ℕ) (f : Facts) (budget : ℕ) (s t : Progress) (p : Part) → t ≡ (if is_answered f budget s then s else (if continues f budget s p then after_part s p else s)) → state_of script f budget t ≡ with_line (state_of script f budget s) p
unfolding with_line with_part
with_is script f budget s t p e = ap (λ (x : Progress). state_of script f budget x) e

pub with_answered : (script : List ℕ) (f : Facts) (budget : ℕ) (s : Progress) (p : Part) → true ≡ is_answered f budget s → state_of script f budget s ≡ with_line (state_of script f budget s) p
with_answered script f budget s p a = with_is script f budget s s p (rw (sym a) refl)

pub with_passed : (script : List ℕ) (f : Facts) (budget : ℕ) (s : Progress) (p : Part) → false ≡ is_answered f budget s → false ≡ continues f budget s p → state_of script f budget s ≡ with_line (state_of script f budget s) p
with_passed script f budget s p a b = with_is script f budget s s p (rw (sym a, sym b) refl)

found_is : (p : Part) → Path Found (found_in p) (record { weight = p.weight; place = p.place })
unfolding found_in
found_is p = refl

state_found : (s : Progress) → Path Found (found_of s) (record { weight = s.weight; place = s.place })
unfolding found_of
state_found s = refl

after_is : (s : Progress) (p : Part) (x : Found) → (if beats (found_in p) (found_of s) then found_in p else found_of s) ≡ x → after_part s p ≡ record { blocks = p.start + p.count; weight = x.weight; place = x.place }
unfolding after_part progress_of least_of part_end
after_is s p x e = ap (λ (y : Found). record { blocks = p.start + p.count; weight = y.weight; place = y.place }) e

moved : (script : List ℕ) (f : Facts) (budget : ℕ) (s : Progress) (p : Part) (x : Found) → false ≡ is_answered f budget s → true ≡ continues f budget s p → (if beats (found_in p) (found_of s) then found_in p else found_of s) ≡ x
    → state_of script f budget (record { blocks = p.start + p.count; weight = x.weight; place = x.place }) ≡ with_line (state_of script f budget s) p
moved script f budget s p x a b e = with_is script f budget s (record { blocks = p.start + p.count; weight = x.weight; place = x.place }) p (rw (sym a, sym b) (sym (after_is s p x e)))

pub with_lesser : (script : List ℕ) (f : Facts) (budget : ℕ) (s : Progress) (p : Part) → false ≡ is_answered f budget s → true ≡ continues f budget s p → true ≡ beats (found_in p) (record { weight = s.weight; place = s.place })
    → state_of script f budget (record { blocks = p.start + p.count; weight = p.weight; place = p.place }) ≡ with_line (state_of script f budget s) p
with_lesser script f budget s p a b l =
    let x : Found = record { weight = p.weight; place = p.place } in
    let t = l ∙ ap (λ (y : Found). beats (found_in p) y) (sym (state_found s)) in
    moved script f budget s p x a b (ap (λ c. if c then found_in p else found_of s) (sym t) ∙ found_is p)

pub with_greater : (script : List ℕ) (f : Facts) (budget : ℕ) (s : Progress) (p : Part) → false ≡ is_answered f budget s → true ≡ continues f budget s p → false ≡ beats (found_in p) (record { weight = s.weight; place = s.place })
    → state_of script f budget (record { blocks = p.start + p.count; weight = s.weight; place = s.place }) ≡ with_line (state_of script f budget s) p
with_greater script f budget s p a b l =
    let x : Found = record { weight = s.weight; place = s.place } in
    let t = l ∙ ap (λ (y : Found). beats (found_in p) y) (sym (state_found s)) in
    moved script f budget s p x a b (ap (λ c. if c then found_in p else found_of s) (sym t) ∙ state_found s)

pub continues_is : (f : Facts) (budget most : ℕ) (s : Progress) (p : Part) → most ≡ end_wanted f budget s → (nat_le p.start s.blocks && (nat_lt s.blocks (part_end p) && nat_le (part_end p) most)) ≡ continues f budget s p
unfolding continues
continues_is f budget most s p e = ap (λ n. nat_le p.start s.blocks && (nat_lt s.blocks (part_end p) && nat_le (part_end p) n)) e

line_is : (s : JoinState) (p : Part) → ((with_line s p).progress ≡ with_part s.facts s.budget s.progress p) × ((with_line s p).facts ≡ s.facts) × ((with_line s p).budget ≡ s.budget) × ((with_line s p).script ≡ s.script)
unfolding with_line
line_is s p = (refl, refl, refl, refl)

-- what stays, and how far the search is
pub record GoesAlong (s t : JoinState) (parts : List Part) : Type 0 where
  pub progress : t.progress ≡ along s.facts s.budget s.progress parts
  pub facts : t.facts ≡ s.facts
  pub budget : t.budget ≡ s.budget
  pub script : t.script ≡ s.script

goes_along : (s : JoinState) (parts : List Part) → GoesAlong s (with_lines s parts) parts
unfolding with_lines along
goes_along s [] = record { progress = refl; facts = refl; budget = refl; script = refl }
goes_along s (p ∷ parts) =
    let one = line_is s p in
    let rest = goes_along (with_line s p) parts in
    record {
      progress = rest.progress ∙ ap (λ (f : Facts). along f (with_line s p).budget (with_line s p).progress parts) one.1
          ∙ ap₂ (λ b x. along s.facts b x parts) one.2 one.0;
      facts = rest.facts ∙ one.1;
      budget = rest.budget ∙ one.2;
      script = rest.script ∙ one.3;
    }

pub lines_along : (s : JoinState) (parts : List Part) → (with_lines s parts).progress ≡ along s.facts s.budget s.progress parts
lines_along s parts = (goes_along s parts).progress

pub lines_keep : (s : JoinState) (parts : List Part) → ((with_lines s parts).facts ≡ s.facts) × ((with_lines s parts).budget ≡ s.budget) × ((with_lines s parts).script ≡ s.script)
lines_keep s parts = (let g = goes_along s parts in (g.facts, g.budget, g.script))
