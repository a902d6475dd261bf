use Rattle.std.proofs.Common.{◌≡◌, map, flat_map, take}
use Rattle.lc_constructions.specs.Combined.{tensor}
use Rattle.lc_combine.proofs.products.product_rows.Given as goal

abbrev pub invariant-loop-i : goal.invariant-loop-i
invariant-loop-i l = l.rows.items ≡ flat_map (λ u. map (tensor l.a.field u) l.b.rows) (take l.i l.a.rows)
