-- What the program writes of a round to standard error.
--   record_line r    the line of a record, with its four numbers and a newline
use Rattle.std.specs.Prelude.{ℕ, List, [], ◌∷◌, ◌++◌, codes, decimal}
use Rattle.lc_io.specs.declared.watcher.Record.{Record}

unfoldable pub record_line : Record → List ℕ
record_line r = codes "query " ++ decimal r.query ++ codes " blocks " ++ decimal r.blocks ++ codes " bound " ++ decimal r.bound ++ codes " best " ++ decimal r.best ++ 10 ∷ []
