use Rattle.std.proofs.Common.{◌≡◌, take, map, Some}
use Rattle.serde_json.specs.View.{view}
use Rattle.lc_formats.specs.Json.{each}
use Rattle.lc_formats.specs.Checkpoint.{settled_in}
use Rattle.lc_checkpoint.specs.Seen.{settled_of}
use Rattle.lc_checkpoint.proofs.reading.settled_list.Given as goal

abbrev pub invariant-loop-item : goal.invariant-loop-item
invariant-loop-item l = each (map (λ v. settled_in l.budget (view v)) (take l.item-index l.items)) ≡ Some (map settled_of l.settled.items)
