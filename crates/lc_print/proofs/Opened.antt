-- Definitions that a proof opens together, under one name.
--   lines_of_values      the line of a value and the text in it
use Rattle.std.specs.Prelude.{⊤}
use Rattle.lc_language.specs.Print.{value_line, value_text}

unfoldable pub lines_of_values : ⊤
unfolding value_line value_text
lines_of_values = tt
