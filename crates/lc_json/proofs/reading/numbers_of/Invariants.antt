use Rattle.std.proofs.Common.{◌≡◌, take, map, Some}
use Rattle.serde_json.specs.View.{view}
use Rattle.lc_formats.specs.Json.{each, plain_number}
use Rattle.lc_json.proofs.reading.numbers_of.Given as goal

abbrev pub invariant-loop-item : goal.invariant-loop-item
invariant-loop-item l = each (map (λ v. plain_number (view v)) (take l.item-index l.item-items)) ≡ Some l.numbers.items
