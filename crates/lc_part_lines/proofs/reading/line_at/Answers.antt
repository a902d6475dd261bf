use Rattle.std.proofs.Common.{◌≡◌, ◌==◌, sym, ap, rules, true, Some, option_map, ◌∙◌}
use Rattle.serde_json.specs.View.{view}
use Rattle.lc_formats.specs.Json.{member_count}
use Rattle.lc_formats.specs.Checkpoint.{script_in}
use Rattle.lc_json.specs.Inside.{members_in}
use Rattle.lc_parts.specs.Seen.{part_of, facts_seen}
use Rattle.lc_part_lines.specs.Line.{part_at, facts_at}
use Rattle.lc_part_lines.specs.Seen.{line_of}
use Rattle.lc_part_lines.proofs.LineLaws.{line_read}
use Rattle.lc_part_lines.proofs.reading.line_at.Goals as goal

pub returns : goal.returns
unfolding line_of
returns c =
    let ms = members_in (view c.args.object.now) in
    let keys : (member_count (members_in (view c.args.object.now)) == 11) ≡ true = search rules in
    let script : Some c.in-Some.script ≡ script_in (members_in (view c.args.object.now)) = search rules in
    let part : Some (part_of c.in-Some-part_at.part) ≡ part_at (members_in (view c.args.object.now)) = ap (option_map part_of) (sym c.in-Some-part_at.is) ∙ c.part_at.ensures.is in
    let facts : Some (facts_seen c.in-Some-2.facts) ≡ facts_at (members_in (view c.args.object.now)) = ap (option_map facts_seen) (sym c.in-Some-2.is) ∙ c.in_ok-facts.ensures.is in
    record { is = sym (line_read ms c.in-Some.script (part_of c.in-Some-part_at.part) (facts_seen c.in-Some-2.facts) keys script part facts) }
