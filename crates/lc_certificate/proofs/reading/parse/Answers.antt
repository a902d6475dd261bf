use Rattle.std.proofs.Common.{rules}
use Rattle.serde_json.specs.View.{view}
use Rattle.lc_certificate.proofs.PartLaws.{read_shaped}
use Rattle.lc_certificate.proofs.reading.parse.Goals as goal

pub returns-in-Some-clause-shaped : goal.returns-in-Some-clause-shaped
returns-in-Some-clause-shaped c = read_shaped c.args.bytes.now (view c.in-Some.value) c.certificate_from.result (search rules) c.certificate_from.ensures.is
