use Rattle.std.proofs.Common.{◌≡◌, take, map, Some}
use Rattle.serde_json.specs.View.{view}
use Rattle.lc_constructions.specs.Refusals.{are_elements}
use Rattle.lc_formats.specs.Json.{each, numbers_of, provided}
use Rattle.lc_documents.proofs.lists.words_of.Given as goal

abbrev pub invariant-loop-item : goal.invariant-loop-item
invariant-loop-item l = each (map (λ v. provided (are_elements l.field) (numbers_of (view v))) (take l.item-index l.items)) ≡ Some l.words.items
