-- A part of a search that was done.
--   IsInside C start count       there is a block, and the plan of the search of C has all of them
--   IsDoneFor C start count d    d has the facts of C, and the part of these blocks with the least of their words and the one at
--                                place 0
use Rattle.std.specs.Prelude.{◌≡◌, ℕ, ◌+◌, ◌≤◌, length}
use Rattle.lc_algebra.specs.Field.{size}
use Rattle.lc_algebra.specs.Matrix.{Matrix}
use Rattle.lc_enumeration.specs.Plan.{total}
use Rattle.lc_enumeration.specs.Search.{set_count}
use Rattle.lc_parts.specs.Part.{IsTruePart, facts_of}
use Rattle.lc_parts.specs.Seen.{part_of, facts_seen}
use Rattle.lc_part_search.specs.declared.done.Done.{Done}

abbrev pub IsInside : Matrix → ℕ → ℕ → Type 0
IsInside C start count = (1 ≤ count) × (start + count ≤ total (length C.rows) (size C.field) (set_count C))

pub record IsDoneFor (C : Matrix) (start count : ℕ) (d : Done) : Type 0 where
  pub facts : facts_seen d.facts ≡ facts_of C
  pub start_is : d.part.start ≡ start
  pub count_is : d.part.count ≡ count
  pub is_true : IsTruePart C (part_of d.part)
