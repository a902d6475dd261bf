-- The checkpoint that a `Checkpoint` stands for.
--   settled_of s             a settled need, as the definitions see it
--   point_of p               the checkpoint
use Rattle.std.specs.Prelude.{map}
use Rattle.lc_enumeration.specs.Records.{Progress}
use Rattle.lc_formats.specs.Checkpoint as formats
use Rattle.lc_checkpoint.specs.declared.checkpoint.Checkpoint.{Checkpoint}
use Rattle.lc_checkpoint.specs.declared.checkpoint.Settled.{Settled}

unfoldable pub settled_of : Settled → Progress
settled_of s = record { blocks = s.blocks; weight = s.weight; place = s.place }

unfoldable pub point_of : Checkpoint → formats.Checkpoint
point_of p = record {
  version = p.version;
  script = p.script;
  budget = p.budget;
  turn = p.turn;
  settled = map settled_of p.settled.items;
  blocks = p.blocks;
  weight = p.weight;
  place = p.place;
}
