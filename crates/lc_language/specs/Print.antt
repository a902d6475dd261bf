-- The lines that a session prints, each with its newline.
--   value_line v                           a value's line
--   fault_line n offset values             a fault's line
--   least_line d w, least_none_line        what LeastWord prints
--   filling_line a                         what FillErasures prints: the word, `none` or `many`
--   distance_line, bracket_line, distance_none_line      what MinimumDistance prints
use Rattle.std.specs.Prelude.{ℕ, true, false, List, ◌++◌, length, codes, decimal}
use Rattle.lc_algebra.specs.Field.{size}
use Rattle.lc_language.specs.Value.{Value, number, field, numbers, lists, code, truth, nothing}
use Rattle.lc_language.specs.Erasures.{Filling, filled, unfilled, ambiguous}
use Rattle.lc_formats.specs.Text.{numbers_text, lists_text, line, with_values}

unfoldable pub field_text : ℕ → List ℕ
field_text q = codes "GF(" ++ decimal q ++ codes ")"

unfoldable pub code_text : ℕ → ℕ → ℕ → List ℕ
code_text n k q = codes "code [" ++ decimal n ++ codes "," ++ decimal k ++ codes "] " ++ field_text q

unfoldable pub value_text : Value → List ℕ
value_text (number n) = decimal n
value_text (field f) = field_text (size f)
value_text (numbers u) = numbers_text u
value_text (lists rows) = lists_text rows
value_text (code C _) = code_text C.columns (length C.rows) (size C.field)
value_text (truth true) = codes "true"
value_text (truth false) = codes "false"
value_text nothing = codes "none"

unfoldable pub value_line : Value → List ℕ
value_line v = line (value_text v)

unfoldable pub fault_line : ℕ → ℕ → List ℕ → List ℕ
fault_line n offset values = line (codes "fault " ++ decimal n ++ codes " at " ++ decimal offset ++ with_values values)

unfoldable pub least_line : ℕ → List ℕ → List ℕ
least_line d w = line (codes "least " ++ decimal d ++ codes " word " ++ numbers_text w)

unfoldable pub least_none_line : List ℕ
least_none_line = line (codes "least none")

unfoldable pub filling_line : Filling → List ℕ
filling_line (filled w) = line (numbers_text w)
filling_line unfilled = line (codes "none")
filling_line ambiguous = line (codes "many")

unfoldable pub distance_line : ℕ → List ℕ → ℕ → List ℕ
distance_line d w blocks = line (codes "distance " ++ decimal d ++ codes " word " ++ numbers_text w ++ codes " blocks " ++ decimal blocks)

unfoldable pub bracket_line : ℕ → ℕ → List ℕ → ℕ → List ℕ
bracket_line low high w blocks = line (codes "distance between " ++ decimal low ++ codes " and " ++ decimal high ++ codes " word " ++ numbers_text w ++ codes " blocks " ++ decimal blocks)

unfoldable pub distance_none_line : List ℕ
distance_none_line = line (codes "distance none")
