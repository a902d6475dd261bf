use Rattle.std.proofs.Common.{◌≡◌, take, map, Some}
use Rattle.serde_json.specs.View.{view}
use Rattle.lc_formats.specs.Json.{each, numbers_of, provided}
use Rattle.lc_formats.specs.Check.{fit}
use Rattle.lc_certificate.proofs.rows.rows_of.Given as goal

abbrev pub invariant-loop-item : goal.invariant-loop-item
invariant-loop-item l = each (map (λ v. provided (fit l.field l.n) (numbers_of (view v))) (take l.item-index l.items)) ≡ Some l.rows.items
