use Rattle.std.proofs.Common.{◌≡◌, sym, rules, arith, Some}
use Rattle.serde_json.specs.View.{view}
use Rattle.lc_formats.specs.Json.{number_at}
use Rattle.lc_json.specs.Inside.{members_in}
use Rattle.lc_checkpoint.proofs.PointLaws.{ranged_found, ranged_low, ranged_high}
use Rattle.lc_checkpoint.proofs.reading.ranged_at.Goals as goal

pub returns-then-n-low-clause-is : goal.returns-then-n-low-clause-is
returns-then-n-low-clause-is c =
    let found : Some c.in-Some.n ≡ number_at c.args.key.now (members_in (view c.args.object.now)) = search rules in
    sym (ranged_low c.args.low c.args.high c.in-Some.n _ found (omega arith))

pub returns-then-high-n-clause-is : goal.returns-then-high-n-clause-is
returns-then-high-n-clause-is c =
    let found : Some c.in-Some.n ≡ number_at c.args.key.now (members_in (view c.args.object.now)) = search rules in
    sym (ranged_high c.args.low c.args.high c.in-Some.n _ found (omega arith))

pub returns-else-high-n-clause-is : goal.returns-else-high-n-clause-is
returns-else-high-n-clause-is c =
    let found : Some c.in-Some.n ≡ number_at c.args.key.now (members_in (view c.args.object.now)) = search rules in
    sym (ranged_found c.args.low c.args.high c.in-Some.n _ found (omega arith) (omega arith))
