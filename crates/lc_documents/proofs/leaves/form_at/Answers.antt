use Rattle.std.proofs.Common.{◌≡◌, ◌==◌, true, codes, rules, Some, sym, ◌∙◌}
use Rattle.serde_json.specs.View.{view}
use Rattle.lc_formats.specs.Json.{number_at, member_count}
use Rattle.lc_formats.specs.Document.{bytes_at}
use Rattle.lc_json.specs.Inside.{members_in}
use Rattle.lc_certificate.specs.Trees.{claim_of}
use Rattle.lc_documents.proofs.LeafLaws.{form_read}
use Rattle.lc_documents.proofs.leaves.form_at.Goals as goal

pub returns-clause-is : goal.returns-clause-is
unfolding claim_of
returns-clause-is c =
    let ms = members_in (view c.args.object.now) in
    let keys : (member_count ms == 5) ≡ true = search rules in
    let locator : Some c.in-Some.locator ≡ number_at (codes "locator") ms = search rules in
    let points : Some c.in-Some-2.points ≡ bytes_at (codes "points") ms = sym c.in-Some-2.is ∙ c.in_ok-points.ensures.is in
    let multipliers : Some c.in-Some-3.multipliers ≡ bytes_at (codes "multipliers") ms = sym c.in-Some-3.is ∙ c.in_ok-multipliers.ensures.is in
    let r : Some c.in-Some-number_at.r ≡ number_at (codes "r") ms = search rules in
    sym (form_read ms c.in-Some.locator c.in-Some-2.points c.in-Some-3.multipliers c.in-Some-number_at.r keys locator points multipliers r)
