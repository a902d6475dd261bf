-- The lines that are meant by texts that `part` printed of a script.
--   numbered_from n lines        the lines with their numbers, from n on
--   AreMeant bytes C lines texts      there are as many lines as texts, and each text is the line of its index
--   HaveSameTexts texts others   a text is one of some exactly if it is one of the others, in any order and however often
use Rattle.std.specs.Prelude.{ℕ, ◌+◌, ◌↔◌, List, [], ◌∷◌, Contains, ⊤}
use Rattle.lc_algebra.specs.Matrix.{Matrix}
use Rattle.lc_part_lines.specs.Line.{PartLine}
use Rattle.lc_share.specs.Printed.{IsMeant}
use Rattle.lc_join.specs.Lines.{Numbered}

unfoldable pub numbered_from : ℕ → List PartLine → List Numbered
numbered_from n [] = []
numbered_from n (l ∷ lines) = record { number = n; line = l } ∷ numbered_from (n + 1) lines

abbrev pub AreMeant : List ℕ → Matrix → List PartLine → List (List ℕ) → Type 0
AreMeant bytes C [] [] = ⊤
AreMeant bytes C (l ∷ lines) (text ∷ texts) = IsMeant bytes C l text × AreMeant bytes C lines texts
AreMeant bytes C _ _ = ⊥

abbrev pub HaveSameTexts : List (List ℕ) → List (List ℕ) → Type 0
HaveSameTexts texts others = (text : List ℕ) → Contains texts text ↔ Contains others text
