use Rattle.std.proofs.Common.{◌≡◌, ◌^◌, ◌==◌, sym, ap, rules, true, map, codes, Some, option_map, ◌∙◌}
use Rattle.serde_json.specs.View.{view}
use Rattle.lc_formats.specs.Json.{number_at, member_count}
use Rattle.lc_formats.specs.Checkpoint.{number_up_to, script_in, done_in}
use Rattle.lc_json.specs.Inside.{members_in}
use Rattle.lc_checkpoint.specs.Seen.{settled_of, point_of}
use Rattle.lc_checkpoint.specs.Reading.{current_in}
use Rattle.lc_checkpoint.proofs.PointLaws.{state_read}
use Rattle.lc_checkpoint.proofs.reading.state_of.Goals as goal

pub returns : goal.returns
unfolding point_of settled_of
returns c =
    let ms = members_in (view c.args.object.now) in
    let keys : (member_count (members_in (view c.args.object.now)) == 8) ≡ true = search rules in
    let script : Some c.in-Some.script ≡ script_in (members_in (view c.args.object.now)) = search rules in
    let turn : Some c.in-Some-ranged_at.turn ≡ number_up_to 0 (2 ^ 60) (number_at (codes "turn") (members_in (view c.args.object.now))) = search rules in
    let done : Some (map settled_of c.in-Some-2.settled.items) ≡ done_in c.args.budget (members_in (view c.args.object.now)) = ap (option_map (λ v. map settled_of v.items)) (sym c.in-Some-2.is) ∙ c.in_ok-settled.ensures.is in
    let current : Some (settled_of c.in-Some-current_at.current) ≡ current_in c.args.budget (members_in (view c.args.object.now)) = ap (option_map settled_of) (sym c.in-Some-current_at.is) ∙ c.current_at.ensures.is in
    record { is = sym (state_read ms c.args.version c.args.budget c.in-Some.script c.in-Some-ranged_at.turn (map settled_of c.in-Some-2.settled.items) (settled_of c.in-Some-current_at.current) keys script turn done current) }
