-- What the values of the reader and the writer of lines stand for.
--   line_of l                the line of a part
--   refusal_of e             why bytes are no such line
--   read_of r                what bytes were read as
use Rattle.std.specs.Prelude.{Result, Ok, Err}
use Rattle.lc_parts.specs.Seen.{part_of, facts_seen}
use Rattle.lc_formats.specs.Checkpoint.{CheckpointRefusal, damaged, other_version, shape}
use Rattle.lc_part_lines.specs.Line as line
use Rattle.lc_part_lines.specs.Line.{ReadLine, line_is, refused}
use Rattle.lc_part_lines.specs.declared.line.PartLine.{PartLine}
use Rattle.lc_part_lines.specs.declared.refusal.LineRefusal.{LineRefusal}
use Rattle.lc_part_lines.specs.declared.refusal.LineRefusal.TheVariants.{Damaged, Version, Shape}

unfoldable pub line_of : PartLine → line.PartLine
line_of l = record { script = l.script; facts = facts_seen l.facts; part = part_of l.part }

unfoldable pub refusal_of : LineRefusal → CheckpointRefusal
refusal_of Damaged = damaged
refusal_of (Version v) = other_version v
refusal_of Shape = shape

unfoldable pub read_of : Result PartLine LineRefusal → ReadLine
read_of (Ok l) = line_is (line_of l)
read_of (Err e) = refused (refusal_of e)
