-- Pieces of the body of a part's line, for private clauses.
--   front_text l             the body to the value at `k`
--   middle_text l            from the key `place` to the value at `ranks`
--   back_text l              from the key `script` on
use Rattle.std.specs.Prelude.{ℕ, List, ◌++◌, codes, decimal}
use Rattle.hex.specs.Hex.{encode_lower}
use Rattle.lc_formats.specs.Text.{numbers_text}
use Rattle.lc_part_lines.specs.Line.{PartLine}

unfoldable pub front_text : PartLine → List ℕ
front_text l =
    (codes "{\"count\":" ++ decimal l.part.count) ++ ((codes ",\"divisor\":" ++ decimal l.facts.divisor) ++ ((codes ",\"first\":" ++ decimal l.facts.first) ++ ((codes ",\"from\":" ++ decimal l.part.start) ++ (codes ",\"k\":" ++ decimal l.facts.k))))

unfoldable pub middle_text : PartLine → List ℕ
middle_text l =
    (codes ",\"place\":" ++ decimal l.part.place) ++ ((codes ",\"q\":" ++ decimal l.facts.q) ++ (codes ",\"ranks\":" ++ numbers_text l.facts.ranks))

unfoldable pub back_text : PartLine → List ℕ
back_text l =
    codes ",\"script\":\"" ++ (encode_lower l.script ++ ((codes "\",\"version\":" ++ decimal 1) ++ ((codes ",\"weight\":" ++ decimal l.part.weight) ++ codes "}")))
