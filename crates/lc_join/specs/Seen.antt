-- What the values of the program stand for.
--   numbered_of x            a line of a part, with its number
--   IsOf s x                 the line is one of this search
--   IsOutcome budget lines o     o is what the lines make
--   options_of r             what the arguments ask for
--   ending_of s              how a session ends
use Rattle.std.specs.Prelude.{◌≡◌, ℕ, List, [], Result, Ok, Err}
use Rattle.lc_parts.specs.Joined.{JoinState}
use Rattle.lc_parts.specs.Seen.{facts_seen}
use Rattle.lc_part_lines.specs.Seen.{line_of}
use Rattle.lc_join.specs.Lines as meant
use Rattle.lc_join.specs.Joining.{HasText, Lacks}
use Rattle.lc_join.specs.Asked.{JoinOptions, asked, usage}
use Rattle.lc_join.specs.JoinSession as ending
use Rattle.lc_join.specs.JoinSession.{JoinEnding}
use Rattle.lc_join.specs.declared.status.JoinStatus.{JoinStatus}
use Rattle.lc_join.specs.declared.status.JoinStatus.TheVariants as status
use Rattle.lc_join.specs.declared.joining.Outcome.{Outcome}
use Rattle.lc_join.specs.declared.joining.Outcome.TheVariants as outcome
use Rattle.lc_join.specs.declared.lines.Numbered.{Numbered}

unfoldable pub numbered_of : Numbered → meant.Numbered
numbered_of x = record { number = x.number; line = line_of x.line }

abbrev pub IsOf : JoinState → Numbered → Type 0
IsOf s x = (x.line.script ≡ s.script) × (facts_seen x.line.facts ≡ s.facts)

abbrev pub IsOutcome : ℕ → List meant.Numbered → Outcome → Type 0
IsOutcome budget lines (outcome.Text text) = HasText budget lines text.items
IsOutcome budget lines (outcome.Missing a b) = Lacks budget lines a b
IsOutcome budget lines outcome.NoPart = lines ≡ []
IsOutcome budget lines (outcome.Disagree i j) = meant.Disagree lines i j

abbrev pub options_of : Result ℕ ℕ → JoinOptions
options_of (Ok budget) = asked budget
options_of (Err i) = usage i

abbrev pub ending_of : JoinStatus → JoinEnding
ending_of status.Printed = ending.printed
ending_of (status.Usage i) = ending.refused i
ending_of status.SourceFault = ending.source_fault
ending_of status.SinkFault = ending.sink_fault
ending_of status.NoMemory = ending.no_memory
ending_of status.TooLong = ending.too_long
ending_of (status.Missing a b) = ending.missing a b
ending_of status.NoPart = ending.no_part
ending_of (status.Disagree i j) = ending.disagree i j
