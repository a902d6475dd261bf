-- Definitions that a proof opens together, under one name.
--   summary_texts      the line of a summary, and the text that the definitions of sessions give it
use Rattle.std.specs.Prelude.{⊤}
use Rattle.lc_formats.specs.Text.{line}
use Rattle.lc_session_rules.specs.Summary.{without_newline, summary_text}
use Rattle.lc_summary.specs.Line.{summary_line}

unfoldable pub summary_texts : ⊤
unfolding summary_line summary_text without_newline line
summary_texts = tt
