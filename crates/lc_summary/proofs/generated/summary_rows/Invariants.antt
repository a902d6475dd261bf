use Rattle.lc_session_rules.specs.Summary.{generator_words, seeded, summary_rows}
use Rattle.lc_summary.proofs.RowLaws.{AreMade}
use Rattle.lc_summary.proofs.generated.summary_rows.Given as goal

abbrev pub invariant-loop-i : goal.invariant-loop-i
invariant-loop-i l = AreMade (summary_rows 0 (generator_words 24 (seeded l.seed))) l.rows.items l.i l.generator
