use Rattle.lc_part_lines.specs.Line.{part_in}
use Rattle.lc_join.specs.Seen.{numbered_of}
use Rattle.lc_join.proofs.LineLaws.{numbered_read, numbered_none}
use Rattle.lc_join.proofs.lines.numbered_line.Goals as goal

pub returns-in-Ok-clause-is : goal.returns-in-Ok-clause-is
unfolding numbered_of
returns-in-Ok-clause-is c = numbered_read c.args.number c.in_ok-line.field-0 c.in-Ok.line (part_in c.args.bytes.now) c.in-Ok.is c.in_ok-line.ensures.is

pub returns-in-Err-clause-is : goal.returns-in-Err-clause-is
returns-in-Err-clause-is c = numbered_none c.args.number c.in_ok-line.field-0 c.in-Err.field-0 (part_in c.args.bytes.now) c.in-Err.is c.in_ok-line.ensures.is
