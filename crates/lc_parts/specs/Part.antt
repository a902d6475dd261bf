-- One search done in parts: a part is a range of blocks of the plan, with the least word that was found in it. C is a code with
-- at least one row; the search is over all of its information sets.
--   Part                    the first block, how many blocks, and the weight and the place of the least word
--   part_end p              the block after the last one
--   part_from start count x      the part of so many blocks from a block on, with this word
--   found_in p              the weight and the place of the word
--   IsTruePart C p          they are those of the least of the word at place 0 and the words of the part's blocks. So a part is
--                           never without a word, and past the end of the plan it has that at place 0
--   Facts                   what the plan and the bound of a search are made of: the dimension k, the size q of the field, how many
--                           fresh columns each information set has, a number that divides all weights, and the weight of the word
--                           at place 0
--   facts_of C              the facts of the search of a code
use Rattle.std.specs.Prelude.{◌≡◌, ℕ, ◌+◌, List, length}
use Rattle.lc_algebra.specs.Field.{size}
use Rattle.lc_algebra.specs.Matrix.{Matrix}
use Rattle.lc_algebra.specs.Divisor.{divisor_of}
use Rattle.lc_enumeration.specs.Search.{Found, set_count, ranks_of, found_from, found_first, least_of}

pub record Part : Type 0 where
  pub start : ℕ
  pub count : ℕ
  pub weight : ℕ
  pub place : ℕ

unfoldable pub part_end : Part → ℕ
part_end p = p.start + p.count

unfoldable pub part_from : ℕ → ℕ → Found → Part
part_from start count x = record { start = start; count = count; weight = x.weight; place = x.place }

unfoldable pub found_in : Part → Found
found_in p = record { weight = p.weight; place = p.place }

abbrev pub IsTruePart : Matrix → Part → Type 0
IsTruePart C p = found_in p ≡ least_of (found_first C (set_count C)) (found_from C (set_count C) p.start p.count)

pub record Facts : Type 0 where
  pub k : ℕ
  pub q : ℕ
  pub ranks : List ℕ
  pub divisor : ℕ
  pub first : ℕ

unfoldable pub facts_of : Matrix → Facts
facts_of C = record {
  k = length C.rows;
  q = size C.field;
  ranks = ranks_of C;
  divisor = divisor_of C;
  first = (found_first C (set_count C)).weight;
}
