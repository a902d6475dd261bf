use Rattle.std.proofs.Common.{sym, ◌∙◌, arith}
use Rattle.serde_json.specs.View.{view}
use Rattle.lc_json.specs.Inside.{members_in}
use Rattle.lc_parts.specs.Seen.{part_of}
use Rattle.lc_part_lines.proofs.LineLaws.{part_read}
use Rattle.lc_part_lines.proofs.reading.part_at.Goals as goal

pub returns : goal.returns
returns c =
    record {
      is = sym (part_read (members_in (view c.args.object.now)) c.in-Some.start c.in-Some-ranged_at.count c.in-Some-ranged_at-2.weight c.in-Some-ranged_at-3.place
          (sym c.in-Some.is ∙ c.ranged_at.ensures.is) (sym c.in-Some-ranged_at.is ∙ c.ranged_at-2.ensures.is) (sym c.in-Some-ranged_at-2.is ∙ c.ranged_at-3.ensures.is) (sym c.in-Some-ranged_at-3.is ∙ c.ranged_at-4.ensures.is)
          (omega (arith, c.if-start-count-gt-CUT.false)));
    }
