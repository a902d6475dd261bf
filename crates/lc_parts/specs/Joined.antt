-- What is kept while parts are joined.
--   AreUsable f              facts that a plan can be made of: a dimension of 1 to 255, a field of 2 to 16 elements, 1 to 255
--                            information sets, and a divisor of 1 to 255
--   IsKept f plan budget blocks      what is kept with these facts: their plan, and a budget of at most 2^40 blocks, of which so many
--                            are done
--   JoinState                the digest of the script, the facts of its first search, the budget, and how far the search is
--   first_state script f budget      before the first part
--   with_line s p            after one more part
--   with_lines s parts       after some parts more
--   differs_from p q         the parts have one range, and two words: one of them is false
use Rattle.std.specs.Prelude.{◌≡◌, ℕ, ◌^◌, ◌≤◌, Bool, not, ◌==◌, ◌&&◌, List, [], ◌∷◌, length}
use Rattle.lc_enumeration.specs.Records.{Progress}
use Rattle.lc_place.specs.Place.{PlanSize}
use Rattle.lc_parts.specs.Part.{Part, Facts}
use Rattle.lc_parts.specs.Along.{first_by, with_part}
use Rattle.lc_parts.specs.Levels.{plan_by}

pub record AreUsable (f : Facts) : Type 0 where
  pub dimension : (1 ≤ f.k) × (f.k ≤ 255)
  pub field : (2 ≤ f.q) × (f.q ≤ 16)
  pub sets : (1 ≤ length f.ranks) × (length f.ranks ≤ 255)
  pub divisor : (1 ≤ f.divisor) × (f.divisor ≤ 255)

pub record IsKept (f : Facts) (plan : PlanSize) (budget blocks : ℕ) : Type 0 where
  pub facts : AreUsable f
  pub plan_is : plan ≡ plan_by f
  pub small : budget ≤ 2 ^ 40
  pub few : blocks ≤ budget

pub record JoinState : Type 0 where
  pub script : List ℕ
  pub facts : Facts
  pub budget : ℕ
  pub progress : Progress

unfoldable pub first_state : List ℕ → Facts → ℕ → JoinState
first_state script f budget = record { script = script; facts = f; budget = budget; progress = first_by f }

unfoldable pub with_line : JoinState → Part → JoinState
with_line s p = record {
  script = s.script;
  facts = s.facts;
  budget = s.budget;
  progress = with_part s.facts s.budget s.progress p;
}

unfoldable pub with_lines : JoinState → List Part → JoinState
with_lines s [] = s
with_lines s (p ∷ parts) = with_lines (with_line s p) parts

unfoldable pub differs_from : Part → Part → Bool
differs_from p q = (p.start == q.start) && ((p.count == q.count) && not ((p.weight == q.weight) && (p.place == q.place)))
