use Rattle.lc_json.proofs.InsideLaws.{array_found}
use Rattle.lc_json.proofs.reading.array_at.Goals as goal

pub returns-in-Some : goal.returns-in-Some
returns-in-Some c = record { is = array_found (λ v. v.now.items) c.as_array.result c.args.key.now _ _ c.in-Some.ensures c.as_array.ensures }
