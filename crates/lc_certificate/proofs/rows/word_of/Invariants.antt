use Rattle.std.proofs.Common.{◌≡◌, take, map, nat_lt, Some}
use Rattle.serde_json.specs.View.{view}
use Rattle.lc_algebra.specs.Field.{size}
use Rattle.lc_formats.specs.Json.{each, plain_number, provided}
use Rattle.lc_certificate.proofs.rows.word_of.Given as goal

abbrev pub invariant-loop-item : goal.invariant-loop-item
invariant-loop-item l = each (map (λ v. provided (λ a. nat_lt a (size l.field)) (plain_number (view v))) (take l.item-index l.item-items)) ≡ Some l.symbols.items
