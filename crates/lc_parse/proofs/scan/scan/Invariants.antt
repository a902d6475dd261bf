use Rattle.std.proofs.Common.{◌≤◌, ◌-◌, length}
use Rattle.lc_parse.proofs.Scanning.{Scans}
use Rattle.lc_parse.proofs.scan.scan.Given as goal

abbrev pub invariant-loop-n : goal.invariant-loop-n
invariant-loop-n l = record { within : l.at ≤ length l.bytes; so_far : Scans l.bytes l.tokens.items l.at }

abbrev pub decreases-loop-n : goal.decreases-loop-n
decreases-loop-n l = length l.bytes - l.at
