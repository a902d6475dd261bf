use Rattle.std.proofs.Common.{◌≡◌, ◌+◌, ◌++◌, ◌≤◌, length, map}
use Rattle.std.specs.List.{slice_split}
use Rattle.lc_join.specs.Lines.{lines_after, lines_in}
use Rattle.lc_join.specs.Seen.{numbered_of}
use Rattle.lc_join.proofs.LineLaws.{ends_line}
use Rattle.lc_join.proofs.lines.lines_in.Given as goal

abbrev pub invariant-loop-i : goal.invariant-loop-i
invariant-loop-i l = record {
  short : l.done + length l.rest ≤ length l.bytes;
  so_far : map numbered_of l.lines.items ++ lines_after l.done (slice_split ends_line l.rest) ≡ lines_in l.bytes;
}

abbrev pub decreases-loop-i : goal.decreases-loop-i
decreases-loop-i l = length l.rest
