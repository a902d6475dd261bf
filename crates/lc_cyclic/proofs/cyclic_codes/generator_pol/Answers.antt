use Rattle.lc_poly.proofs.DivisorLaws.{trimmed_fits}
use Rattle.lc_cyclic.proofs.cyclic_codes.generator_pol.Goals as goal

pub generated-requires-clause-polynomial : goal.generated-requires-clause-polynomial
generated-requires-clause-polynomial c =
    trimmed_fits c.args.field.now c.args.list.now c.trimmed.result.now c.in_ok-check_cyclic.ensures.fits c.trimmed.ensures.is
