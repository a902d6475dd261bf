-- What the values of the program stand for.
--   asked_of a               what the arguments ask for
--   options_of r             that, or the index of the argument that is refused
--   ends_of rest faults written sink_faults      the source and the sink
--   ending_of s              how a session ends
use Rattle.std.specs.Prelude.{ℕ, List, Option, Result, Ok, Err}
use Rattle.lc_share.specs.Asked as meant
use Rattle.lc_share.specs.Asked.{PartOptions, asked, usage}
use Rattle.lc_share.specs.PartSession.{Ends, PartEnding, printed, refused, source_fault, sink_fault, no_memory, too_long, no_part}
use Rattle.lc_share.specs.declared.arguments.PartAsked.{PartAsked}
use Rattle.lc_share.specs.declared.status.PartStatus.{PartStatus}
use Rattle.lc_share.specs.declared.status.PartStatus.TheVariants.{Printed, Usage, SourceFault, SinkFault, NoMemory, TooLong, NoPart}

abbrev pub asked_of : PartAsked → meant.PartAsked
asked_of a = record { start = a.start; count = a.count; workers = a.workers }

abbrev pub options_of : Result PartAsked ℕ → PartOptions
options_of (Ok a) = asked (asked_of a)
options_of (Err i) = usage i

abbrev pub ends_of : Option (List ℕ) → ℕ → Option (List ℕ) → ℕ → Ends
ends_of rest faults written sink_faults = record { source = rest; source_faults = faults; sink = written; sink_faults = sink_faults }

abbrev pub ending_of : PartStatus → PartEnding
ending_of Printed = printed
ending_of (Usage i) = refused i
ending_of SourceFault = source_fault
ending_of SinkFault = sink_fault
ending_of NoMemory = no_memory
ending_of TooLong = too_long
ending_of NoPart = no_part
