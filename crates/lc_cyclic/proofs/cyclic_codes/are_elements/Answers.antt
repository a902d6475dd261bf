use Rattle.lc_constructions.proofs.RefusalLaws.{elements_told}
use Rattle.lc_cyclic.proofs.cyclic_codes.are_elements.Goals as goal

pub returns-clause-is : goal.returns-clause-is
returns-clause-is c = elements_told c.args.field.now c.args.list.now c.fits.result c.fits.ensures.is
