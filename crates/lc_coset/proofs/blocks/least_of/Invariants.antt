use Rattle.std.proofs.Common.{◌+◌, ◌-◌, ◌*◌, [], slice_index_or}
use Rattle.lc_enumeration.specs.Plan.{place_of}
use Rattle.lc_coset.specs.Near.{IsAtRank}
use Rattle.lc_coset.proofs.ValueLaws.{IsLeastValue}
use Rattle.lc_coset.proofs.BlockLaws.{rests}
use Rattle.lc_coset.proofs.blocks.least_of.Given as goal

abbrev pub invariant-loop-offset : goal.invariant-loop-offset
invariant-loop-offset l = record {
  at : IsAtRank l.frame.sets (slice_index_or l.frame.lefts.items l.phase.set []) l.phase.set l.phase.level (l.block * 4096 + (l.offset - 1)) l.room;
  least : IsLeastValue (place_of (l.phase.first + l.block) 0) (rests l.frame l.phase l.block) l.offset l.least;
}
