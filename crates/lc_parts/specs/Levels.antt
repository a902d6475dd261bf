-- What a search knows while the next block is in a phase.
--   level_in level set j          the last level of set j that is done, if the phase has this level and this set: the level itself for
--                                 the sets before, and the one before it for the others
--   levels_in level set m         these levels, for m sets
--   bound_in f level set weight   the bound then
--   plan_by f                     the plan of a search of these facts
use Rattle.std.specs.Prelude.{ℕ, ◌-◌, cond, nat_lt, List, map}
use Rattle.lc_algebra.specs.Span.{below}
use Rattle.lc_enumeration.specs.Search.{bound_of}
use Rattle.lc_place.specs.Place.{PlanSize}
use Rattle.lc_parts.specs.Part.{Facts}
use Rattle.lc_parts.specs.Along.{set_number}

abbrev pub level_in : ℕ → ℕ → ℕ → ℕ
level_in level set j = cond (nat_lt j set) level (level - 1)

abbrev pub levels_in : ℕ → ℕ → ℕ → List ℕ
levels_in level set m = map (level_in level set) (below m)

abbrev pub bound_in : Facts → ℕ → ℕ → ℕ → ℕ
bound_in f level set weight = bound_of f.divisor f.k f.ranks (levels_in level set (set_number f)) weight

abbrev pub plan_by : Facts → PlanSize
plan_by f = record { k = f.k; q = f.q; m = set_number f }
