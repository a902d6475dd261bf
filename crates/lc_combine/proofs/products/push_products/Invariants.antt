use Rattle.std.proofs.Common.{◌≡◌, ◌++◌, map, take}
use Rattle.lc_constructions.specs.Combined.{tensor}
use Rattle.lc_combine.proofs.products.push_products.Given as goal

abbrev pub invariant-loop-j : goal.invariant-loop-j
invariant-loop-j l = l.rows.items ≡ l.initial.rows.items ++ map (tensor l.field l.word) (take l.j l.b.rows)
