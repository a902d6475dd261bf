use Rattle.lc_part_lines.specs.Seen.{line_of}
use Rattle.lc_part_lines.proofs.TextLaws.{body_made}
use Rattle.lc_part_lines.proofs.writing.body_of.Goals as goal

pub returns : goal.returns
unfolding line_of
returns c =
    record { is = body_made (line_of c.args.line.now) c.new-body.result.items c.push_front.new.text.items c.push_middle.new.text.items c.push_back.new.text.items c.has_bytes.ensures.bytes c.new-body.ensures.items c.in_ok-push_front.ensures c.in_ok-push_middle.ensures c.in_ok-push_back.ensures }
