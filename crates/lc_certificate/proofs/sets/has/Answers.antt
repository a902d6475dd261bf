use Rattle.std.proofs.Common.{◌∙◌}
use Rattle.lc_certificate.proofs.SetLaws.{search_member}
use Rattle.lc_certificate.proofs.sets.has.Goals as goal

pub returns : goal.returns
returns c = record { is = c.is_ok.ensures.value ∙ search_member c.args.places.now c.args.place c.binary_search.result c.requires.rises c.binary_search.ensures.position }
