-- How a session ends, as the definitions of sessions see it.
--   ending_of status     the ending
use Rattle.lc_checker.specs.Verdict.{reason_of}
use Rattle.lc_session_rules.specs.Endings as ending
use Rattle.lc_session_rules.specs.Endings.{Ending}
use Rattle.lc_session.specs.declared.status.Status.{Status}
use Rattle.lc_session.specs.declared.status.Status.TheVariants.{Done, Usage, Paused, SourceFault, SinkFault, VaultFault, NoMemory, NoCheckpoint, DamagedCheckpoint, OtherScript, Rejected, TooLong, Unfit}

abbrev pub ending_of : Status → Ending
ending_of (Done n) = ending.done n
ending_of (Usage i) = ending.usage i
ending_of (Paused query blocks) = ending.paused query blocks
ending_of SourceFault = ending.source_fault
ending_of SinkFault = ending.sink_fault
ending_of (VaultFault told) = ending.vault_fault told
ending_of (NoMemory told) = ending.no_memory told
ending_of NoCheckpoint = ending.no_checkpoint
ending_of DamagedCheckpoint = ending.damaged_checkpoint
ending_of (OtherScript script budget) = ending.other_script script budget
ending_of (Rejected r) = ending.rejected (reason_of r)
ending_of TooLong = ending.too_long
ending_of (Unfit query told found) = ending.unfit query told found
