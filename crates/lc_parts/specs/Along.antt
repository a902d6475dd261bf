-- What parts make when they are joined. The first lines are what `lc_enumeration` defines over a code, defined over its facts; the
-- sets are as many as their ranks. Parts are taken one after another: one is used if it goes on from what is joined.
--   set_number f                   how many information sets there are
--   first_by f                     no blocks, and the word at place 0
--   end_by f l                     the end of the phase that block l belongs to, and l if there is none
--   level_by f l j, levels_by f l  the last level of set j whose phase lies wholly below l; these levels, set by set
--   bound_by f l weight            the bound after l blocks
--   may_end_by f l                 whether a state at l may be exact: 0, a phase end, or past the end of a plan that isn't cut
--   finished_by f budget s         what is answered in a state; None if the search goes on
--   is_answered f budget s         whether something is
--   end_wanted f budget s          how far a part may reach that is used next: to the end of the phase, and no farther than the budget
--   continues f budget s p         a part goes on from a state: it has the first block after it, and ends no later than that. So the
--                                  state after it is known at the end of each phase
--   after_part s p                 the state at the end of a part: the lesser of both words
--   with_part f budget s p         the state after a part: if the search isn't answered and the part goes on from it, the state at the
--                                  part's end; else the same
--   along f budget s parts         the state after some parts, taken one after another
use Rattle.std.specs.Prelude.{ℕ, ◌*◌, min, Bool, nat_le, nat_lt, ◌==◌, ◌&&◌, ◌||◌, if◌then◌else◌, List, [], ◌∷◌, length, map, find, unwrap_or, is_some, Option, Some, None}
use Rattle.lc_algebra.specs.Span.{below}
use Rattle.lc_enumeration.specs.Plan.{cut, blocks_before, total, phase_ends, plan_phases}
use Rattle.lc_enumeration.specs.InformationSet.{is_member}
use Rattle.lc_enumeration.specs.Search.{Found, Answer, exact, bracket, least_of, last_that, is_whole_below, bound_of}
use Rattle.lc_enumeration.specs.Records.{Progress, found_of, progress_of}
use Rattle.lc_parts.specs.Part.{Part, part_end, found_in, Facts}

abbrev pub set_number : Facts → ℕ
set_number f = length f.ranks

unfoldable pub first_by : Facts → Progress
first_by f = record { blocks = 0; weight = f.first; place = 0 }

unfoldable pub end_by : Facts → ℕ → ℕ
end_by f l = unwrap_or (find (nat_lt l) (map (λ p. p.end) (plan_phases f.k f.q (set_number f)))) l

unfoldable pub level_by : Facts → ℕ → ℕ → ℕ
level_by f l j = last_that (is_whole_below f.k f.q (set_number f) l j) f.k

unfoldable pub levels_by : Facts → ℕ → List ℕ
levels_by f l = map (level_by f l) (below (set_number f))

unfoldable pub bound_by : Facts → ℕ → ℕ → ℕ
bound_by f l weight = bound_of f.divisor f.k f.ranks (levels_by f l) weight

unfoldable pub may_end_by : Facts → ℕ → Bool
may_end_by f l = (l == 0) || (is_member (phase_ends f.k f.q (set_number f)) l || (nat_lt (blocks_before f.k f.q (set_number f) (f.k * set_number f)) cut && nat_lt (total f.k f.q (set_number f)) l))

unfoldable pub finished_at : Facts → ℕ → ℕ → Found → Option Answer
finished_at f budget l state = (if may_end_by f l && nat_le state.weight (bound_by f l state.weight) then Some (exact state l) else (if l == budget then Some (bracket (bound_by f l state.weight) state l) else None))

unfoldable pub finished_by : Facts → ℕ → Progress → Option Answer
finished_by f budget s = finished_at f budget s.blocks (found_of s)

unfoldable pub is_answered : Facts → ℕ → Progress → Bool
is_answered f budget s = is_some (finished_by f budget s)

unfoldable pub end_wanted : Facts → ℕ → Progress → ℕ
end_wanted f budget s = min (end_by f s.blocks) budget

unfoldable pub continues : Facts → ℕ → Progress → Part → Bool
continues f budget s p = nat_le p.start s.blocks && (nat_lt s.blocks (part_end p) && nat_le (part_end p) (end_wanted f budget s))

unfoldable pub after_part : Progress → Part → Progress
after_part s p = progress_of (part_end p) (least_of (found_of s) (found_in p ∷ []))

unfoldable pub with_part : Facts → ℕ → Progress → Part → Progress
with_part f budget s p = (if is_answered f budget s then s else (if continues f budget s p then after_part s p else s))

unfoldable pub along : Facts → ℕ → Progress → List Part → Progress
along f budget s [] = s
along f budget s (p ∷ parts) = along f budget (with_part f budget s p) parts
