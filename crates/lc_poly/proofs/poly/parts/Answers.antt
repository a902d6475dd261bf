use Rattle.std.proofs.Common.{refl}
use Rattle.lc_algebra.proofs.WordLaws.{fits_take, fits_drop}
use Rattle.lc_poly.proofs.DivisionLaws.{parts_told}
use Rattle.lc_poly.proofs.poly.parts.Goals as goal

pub from_list-requires : goal.from_list-requires
from_list-requires c = record { list = rw (c.upper.ensures, c.deref.ensures.value) (fits_drop c.args.field.now _ c.in_ok-work.work.items c.in_ok-work.ensures.fits) }

pub from_list-requires-2 : goal.from_list-requires-2
from_list-requires-2 c = record { list = rw (c.lower.ensures, c.deref-2.ensures.value) (fits_take c.args.field.now _ c.in_ok-work.work.items c.in_ok-work.ensures.fits) }

pub returns-clause-division : goal.returns-clause-division
returns-clause-division c = parts_told c.args.field.now c.args.list.now c.args.by.now c.in_ok-work.work.items c.deref.result.now c.deref-2.result.now c.upper.result.now c.lower.result.now c.in_ok-quotient.quotient.coefficients c.in_ok-remainder.remainder.coefficients _ c.in_ok-work.ensures.fits c.requires.nonzero c.in_ok-work.ensures.division c.deref.ensures.value c.deref-2.ensures.value refl c.upper.ensures c.lower.ensures c.in_ok-quotient.ensures.coefficients c.in_ok-remainder.ensures.coefficients
