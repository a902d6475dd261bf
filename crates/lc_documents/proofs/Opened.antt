-- Definitions that a proof opens together, under one name.
--   kinds                    the kinds of claims, and their names
--   long_claims              whether a list of a claim of the program is long
--   limits                   whether a certificate by construction of the program is beyond the limits
--   totals, depths           how many claims a claim of the program has, and how deep they are
use Rattle.std.specs.Prelude.{⊤}
use Rattle.lc_formats.specs.Claim.{pair_text, place_text, claim_total, claim_depth}
use Rattle.lc_formats.specs.Check.{above}
use Rattle.lc_formats.specs.Document.{kind_text, all_kinds, is_long, is_tree_beyond_limit}
use Rattle.lc_certificate.specs.Trees.{pair_of, place_of, claim_of, built_of}
use Rattle.lc_documents.specs.Parts.{kind_of}

unfoldable pub kinds : ⊤
unfolding kind_of pair_of place_of all_kinds kind_text pair_text place_text
kinds = tt

unfoldable pub long_claims : ⊤
unfolding is_long above claim_of
long_claims = tt

unfoldable pub limits : ⊤
unfolding is_tree_beyond_limit above built_of
limits = tt

unfoldable pub totals : ⊤
unfolding claim_total claim_of
totals = tt

unfoldable pub depths : ⊤
unfolding claim_depth claim_of
depths = tt
