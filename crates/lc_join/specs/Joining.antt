-- What lines of parts make.
--   times n parts                the parts in their order, so many times over
--   IsJoined f budget parts s    where the parts, taken in their order as often as it needs, bring a search of these facts from its
--                                beginning, by `along`: there the search is answered, or none of the parts goes on
--   IsMissing f budget parts s b     b is the last block that is missing from a state on: the one before the next part begins, the phase
--                                ends or the budget is reached, whatever comes first
--   Joins budget lines           lines that agree, and what they bring the search of the first one to
--   HasText budget lines text    there it is answered, and this is the text of its checkpoint
--   Lacks budget lines a b       there it isn't answered, and the blocks a to b are missing
use Rattle.std.specs.Prelude.{◌≡◌, ℕ, ◌+◌, ◌<◌, ◌⊎◌, zero, suc, true, false, List, [], ◌∷◌, ◌++◌, All, Contains}
use Rattle.std.specs.List.{AllPairs}
use Rattle.lc_enumeration.specs.Records.{Progress}
use Rattle.lc_formats.specs.Checkpoint.{checkpoint_text}
use Rattle.lc_parts.specs.Part.{Part, Facts}
use Rattle.lc_parts.specs.Along.{first_by, is_answered, end_wanted, continues, along}
use Rattle.lc_part_laws.specs.Point.{joined_point}
use Rattle.lc_join.specs.Lines.{Numbered, Agree, parts_in}

abbrev pub times : ℕ → List Part → List Part
times zero parts = []
times (suc n) parts = times n parts ++ parts

pub record IsJoined (f : Facts) (budget : ℕ) (parts : List Part) (s : Progress) : Type 0 where
  pub passes : ℕ
  pub reached : along f budget (first_by f) (times passes parts) ≡ s
  pub ended : (is_answered f budget s ≡ true) ⊎ All (λ p. continues f budget s p ≡ false) parts

pub record IsMissing (f : Facts) (budget : ℕ) (parts : List Part) (s : Progress) (b : ℕ) : Type 0 where
  pub inside : b < end_wanted f budget s
  pub before : All (λ p. s.blocks < p.start → b < p.start) parts
  pub last : (b + 1 ≡ end_wanted f budget s) ⊎ ((p : Part) × Contains parts p × (s.blocks < p.start) × (p.start ≡ b + 1))

pub record Joins (budget : ℕ) (lines : List Numbered) : Type 0 where
  pub first : Numbered
  pub others : List Numbered
  pub lines_are : lines ≡ first ∷ others
  pub agreed : AllPairs Agree lines
  pub state : Progress
  pub joined : IsJoined first.line.facts budget (parts_in lines) state

abbrev pub HasText : ℕ → List Numbered → List ℕ → Type 0
HasText budget lines text = (j : Joins budget lines) × (is_answered j.first.line.facts budget j.state ≡ true) × (text ≡ checkpoint_text (joined_point j.first.line.script budget j.state))

abbrev pub Lacks : ℕ → List Numbered → ℕ → ℕ → Type 0
Lacks budget lines a b = (j : Joins budget lines) × (is_answered j.first.line.facts budget j.state ≡ false) × (j.state.blocks ≡ a) × IsMissing j.first.line.facts budget (parts_in lines) j.state b
