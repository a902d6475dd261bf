use Rattle.std.proofs.Common.{◌≡◌, ◌==◌, sym, ap, rules, true, Some, None, option_map, ◌∙◌}
use Rattle.serde_json.specs.View.{view}
use Rattle.lc_json.specs.Inside.{members_in}
use Rattle.lc_part_lines.specs.Line.{line_in}
use Rattle.lc_part_lines.specs.Seen.{line_of}
use Rattle.lc_part_lines.proofs.LineLaws.{line_known, no_line}
use Rattle.lc_part_lines.proofs.reading.line_of.Goals as goal

pub returns-in-Some-2 : goal.returns-in-Some-2
returns-in-Some-2 c =
    let ms = members_in (view c.args.body.now) in
    let one : (c.in-Some.version == 1) ≡ true = search rules in
    let line : Some (line_of c.in-Some-2.line) ≡ line_in (members_in (view c.args.body.now)) = ap (option_map line_of) (sym c.in-Some-2.is) ∙ c.in_ok-line.ensures.is in
    record { is = line_known ms c.in-Some.version _ c.in-Some-2.line (sym c.in-Some.is ∙ c.number_at.ensures.is) one line }

pub returns-in-None : goal.returns-in-None
returns-in-None c =
    let ms = members_in (view c.args.body.now) in
    let one : (c.in-Some.version == 1) ≡ true = search rules in
    let line : None ≡ line_in (members_in (view c.args.body.now)) = ap (option_map line_of) (sym c.in-None.is) ∙ c.in_ok-line.ensures.is in
    record { is = no_line ms c.in-Some.version _ (sym c.in-Some.is ∙ c.number_at.ensures.is) one line }
