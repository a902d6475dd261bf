-- Lines that are enough for a search. C is the code of the search, and its answer states how many blocks it needs.
--   CoverBelow f budget l parts      each block below l that is in a phase is in one of the parts, and this part ends no later than the
--                                    phase and the budget
--   AreEnough digest C budget lines  true lines of the search, of which there is one at least, and their parts cover the blocks that it
--                                    needs
--   WroteOrFailed ending             the checkpoint was written, or the outside failed: the source, the sink or the memory, or too many
--                                    bytes came
use Rattle.std.specs.Prelude.{ℕ, ◌<◌, ◌≤◌, List, length, All, Contains, ⊤}
use Rattle.lc_algebra.specs.Matrix.{Matrix}
use Rattle.lc_algebra.specs.Divisor.{divisor_of}
use Rattle.lc_enumeration.specs.Search.{answer}
use Rattle.lc_enumeration.specs.Truth.{answer_blocks}
use Rattle.lc_parts.specs.Part.{Part, Facts, part_end, facts_of}
use Rattle.lc_parts.specs.Along.{end_by}
use Rattle.lc_join.specs.Lines.{Numbered, parts_in}
use Rattle.lc_join.specs.Truth.{IsTrueLine}
use Rattle.lc_join.specs.JoinSession.{JoinEnding, printed, refused, source_fault, sink_fault, no_memory, too_long, missing, no_part, disagree}

abbrev pub CoverBelow : Facts → ℕ → ℕ → List Part → Type 0
CoverBelow f budget l parts = (b : ℕ) → b < l → b < end_by f b → (p : Part) × Contains parts p × (p.start ≤ b) × (b < part_end p) × (part_end p ≤ end_by f b) × (part_end p ≤ budget)

pub record AreEnough (digest : List ℕ) (C : Matrix) (budget : ℕ) (lines : List Numbered) : Type 0 where
  pub some : 0 < length lines
  pub holds : All (IsTrueLine digest C) lines
  pub cover : CoverBelow (facts_of C) budget (answer_blocks (answer (divisor_of C) C budget)) (parts_in lines)

abbrev pub WroteOrFailed : JoinEnding → Type 0
WroteOrFailed printed = ⊤
WroteOrFailed (refused i) = ⊥
WroteOrFailed source_fault = ⊤
WroteOrFailed sink_fault = ⊤
WroteOrFailed no_memory = ⊤
WroteOrFailed too_long = ⊤
WroteOrFailed (missing a b) = ⊥
WroteOrFailed no_part = ⊥
WroteOrFailed (disagree i j) = ⊥
