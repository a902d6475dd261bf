-- Definitions that a proof opens together, under one name.
--   sizes                    how many elements each field has
--   symbol_fields            the symbol field of so many elements, found in the list of all fields
--   limits                   whether a certificate of the program is beyond the limits
--   claims                   the claim that a `Claim` stands for, and how many claims it has
--   numbers_of_refusals      the numbers of refusals, case by case
use Rattle.std.specs.Prelude.{⊤}
use Rattle.lc_algebra.specs.Field.{shape, shape_of, size, is_symbol}
use Rattle.lc_constructions.specs.Cyclic.{all_fields}
use Rattle.lc_formats.specs.Certificate.{reason_number}
use Rattle.lc_formats.specs.Document.{symbol_field}
use Rattle.lc_formats.specs.Check.{is_beyond_limit, above}
use Rattle.lc_formats.specs.Claim.{claim_total}
use Rattle.lc_certificate.specs.Reading.{number_of_refusal}
use Rattle.lc_certificate.specs.Seen.{certificate_of}
use Rattle.lc_certificate.specs.Trees.{claim_of}

unfoldable pub sizes : ⊤
unfolding size shape_of shape
sizes = tt

unfoldable pub symbol_fields : ⊤
unfolding symbol_field all_fields size is_symbol shape_of shape
symbol_fields = tt

unfoldable pub limits : ⊤
unfolding is_beyond_limit above certificate_of
limits = tt

unfoldable pub numbers_of_refusals : ⊤
unfolding number_of_refusal reason_number
numbers_of_refusals = tt

unfoldable pub claims : ⊤
unfolding claim_total claim_of
claims = tt
