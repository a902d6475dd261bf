use Rattle.std.proofs.Common.{◌≡◌, drop, rules, true, Some}
use Rattle.serde_json.specs.View.{view}
use Rattle.lc_formats.specs.Json.{json_in}
use Rattle.lc_part_lines.specs.Line.{is_headed}
use Rattle.lc_part_lines.proofs.LineLaws.{read_ranged}
use Rattle.lc_part_lines.proofs.reading.read.Goals as goal

pub returns-in-Some-clause-ranged : goal.returns-in-Some-clause-ranged
returns-in-Some-clause-ranged c =
    let headed : is_headed c.args.bytes.now ≡ true = search rules in
    let body : Some (view c.in-Some.value) ≡ json_in (drop 65 c.args.bytes.now) = search rules in
    read_ranged c.args.bytes.now (view c.in-Some.value) c.line_of.result headed body c.line_of.ensures.is
