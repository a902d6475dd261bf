-- What a round finds.
--   IsFoundIn C start count weight place r      r has the least of this weight and place and those of the words of these blocks, and
--                                               what the board showed with its value
use Rattle.std.specs.Prelude.{◌≡◌, ℕ, ◌^◌, ◌≤◌, ◌<◌}
use Rattle.lc_algebra.specs.Matrix.{Matrix}
use Rattle.lc_enumeration.specs.Search.{Found, set_count, found_from, least_of, board_value}
use Rattle.lc_search.specs.declared.round.RoundFound.{RoundFound}

abbrev pub pair_of : RoundFound → Found
pair_of r = record { weight = r.best.weight; place = r.best.place }

pub record IsFoundIn (C : Matrix) (start count weight place : ℕ) (r : RoundFound) : Type 0 where
  pub pair : pair_of r ≡ least_of (record { weight = weight; place = place }) (found_from C (set_count C) start count)
  pub lighter : r.best.weight ≤ weight
  pub near : r.best.place < 2 ^ 52
  pub count_is : r.closed.count ≡ count
  pub claimed : r.closed.claimed ≡ count
  pub best : r.closed.best ≡ board_value (pair_of r)
