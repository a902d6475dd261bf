-- The line of a summary, from the line of its search.
--   summary_line seed text rounds     the line of a seed whose search printed this line and took so many rounds
use Rattle.std.specs.Prelude.{ℕ, List, ◌++◌, codes, decimal}
use Rattle.lc_formats.specs.Text.{line}
use Rattle.lc_session_rules.specs.Summary.{without_newline}

unfoldable pub summary_line : ℕ → List ℕ → ℕ → List ℕ
summary_line seed text rounds = line (codes "summary seed " ++ decimal seed ++ codes " " ++ without_newline text ++ codes " rounds " ++ decimal rounds)
