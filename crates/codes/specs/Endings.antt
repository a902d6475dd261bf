-- How the program ends.
--   joined e       the ending of a part, as the ending of joined parts that has the same number and the same line
--   number_of e    the number with which the program ends
--   line_of e      the line on standard error; none if the whole text was written
use Rattle.std.specs.Prelude.{ℕ, List}
use Rattle.lc_session_rules.specs.Endings as session
use Rattle.lc_session.specs.Ending as session_seen
use Rattle.lc_share.specs.PartSession as part
use Rattle.lc_share.specs.PartSession.{PartEnding}
use Rattle.lc_share.specs.Seen as part_seen
use Rattle.lc_join.specs.JoinSession as join
use Rattle.lc_join.specs.JoinSession.{JoinEnding}
use Rattle.lc_join.specs.Seen as join_seen
use Rattle.codes.specs.declared.ending.Ending.{Ending}
use Rattle.codes.specs.declared.ending.Ending.TheVariants.{Session, Part, Join}

abbrev pub joined : PartEnding → JoinEnding
joined part.printed = join.printed
joined (part.refused i) = join.refused i
joined part.source_fault = join.source_fault
joined part.sink_fault = join.sink_fault
joined part.no_memory = join.no_memory
joined part.too_long = join.too_long
joined part.no_part = join.no_part

abbrev pub number_of : Ending → ℕ
number_of (Session s) = session.ending_number (session_seen.ending_of s)
number_of (Part s) = part.ending_number (part_seen.ending_of s)
number_of (Join s) = join.ending_number (join_seen.ending_of s)

abbrev pub line_of : Ending → List ℕ
line_of (Session s) = session.ending_line (session_seen.ending_of s)
line_of (Part s) = join.ending_line (joined (part_seen.ending_of s))
line_of (Join s) = join.ending_line (join_seen.ending_of s)
