use Rattle.std.proofs.Common.{◌≡◌, drop, rules, true, Some}
use Rattle.serde_json.specs.View.{view}
use Rattle.lc_formats.specs.Json.{json_in}
use Rattle.lc_formats.specs.Checkpoint.{is_whole}
use Rattle.lc_checkpoint.proofs.PointLaws.{read_ranged, sealed_undamaged}
use Rattle.lc_checkpoint.proofs.reading.decode.Goals as goal

pub returns-in-Some-clause-ranged : goal.returns-in-Some-clause-ranged
returns-in-Some-clause-ranged c =
    let whole : is_whole c.args.bytes.now ≡ true = search rules in
    let read : Some (view c.in-Some.value) ≡ json_in (drop 65 c.args.bytes.now) = search rules in
    read_ranged c.args.bytes.now (view c.in-Some.value) c.point_from.result whole read c.point_from.ensures.is

pub returns-in_err-value-clause-damaged : goal.returns-in_err-value-clause-damaged
returns-in_err-value-clause-damaged c =
    let whole : is_whole c.args.bytes.now ≡ true = search rules in
    sealed_undamaged c.args.bytes.now c.from_residual.result whole

pub returns-in-Some-clause-damaged : goal.returns-in-Some-clause-damaged
returns-in-Some-clause-damaged c =
    let whole : is_whole c.args.bytes.now ≡ true = search rules in
    sealed_undamaged c.args.bytes.now c.point_from.result whole
