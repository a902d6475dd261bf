use Rattle.std.proofs.Common.{◌≡◌, sym, ap, rules, true, codes, Some, option_map, ◌∙◌}
use Rattle.serde_json.specs.View.{view}
use Rattle.lc_formats.specs.Json.{number_at, list_at}
use Rattle.lc_formats.specs.Checkpoint.{number_up_to}
use Rattle.lc_json.specs.Inside.{members_in}
use Rattle.lc_parts.specs.Seen.{facts_seen}
use Rattle.lc_part_lines.specs.Line.{size_in, are_ranks}
use Rattle.lc_part_lines.proofs.LineLaws.{facts_read}
use Rattle.lc_part_lines.proofs.reading.facts_at.Goals as goal

pub returns : goal.returns
returns c =
    let ms = members_in (view c.args.object.now) in
    let k : Some c.in-Some.k ≡ number_up_to 1 255 (number_at (codes "k") (members_in (view c.args.object.now))) = sym c.in-Some.is ∙ c.ranged_at.ensures.is in
    let q : Some c.in-Some-size_at.q ≡ size_in (members_in (view c.args.object.now)) = sym c.in-Some-size_at.is ∙ c.size_at.ensures.is in
    let divisor : Some c.in-Some-ranged_at.divisor ≡ number_up_to 1 255 (number_at (codes "divisor") (members_in (view c.args.object.now))) = sym c.in-Some-ranged_at.is ∙ c.ranged_at-2.ensures.is in
    let first : Some c.in-Some-ranged_at-2.first ≡ number_up_to 1 255 (number_at (codes "first") (members_in (view c.args.object.now))) = sym c.in-Some-ranged_at-2.is ∙ c.ranged_at-3.ensures.is in
    let ranks : Some c.in-Some-2.ranks.items ≡ list_at (codes "ranks") (members_in (view c.args.object.now)) = ap (option_map (λ v. v.items)) (sym c.in-Some-2.is) ∙ c.in_ok-ranks.ensures.is in
    let tested : are_ranks c.in-Some.k c.in-Some-2.ranks.items ≡ true = search rules in
    record { is = sym (facts_read ms c.in-Some.k c.in-Some-size_at.q c.in-Some-ranged_at.divisor c.in-Some-ranged_at-2.first c.in-Some-2.ranks.items k q divisor first ranks tested) }
