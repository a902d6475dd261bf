-- The claims, and the certificates of either version, that a `Claim`, a `Built` and a `Document` stand for.
--   pair_of kind, place_of kind      the kinds of claims
--   claim_of claim                   the claim
--   built_of b                       the certificate by construction
--   document_of d                    the certificate of either version
use Rattle.lc_certificate.specs.declared.claims.PairKind.{PairKind}
use Rattle.lc_certificate.specs.declared.claims.PairKind.TheVariants.{Uuv, Sum, Product}
use Rattle.lc_certificate.specs.declared.claims.PlaceKind.{PlaceKind}
use Rattle.lc_certificate.specs.declared.claims.PlaceKind.TheVariants.{Puncture, Shorten}
use Rattle.lc_certificate.specs.declared.claims.Claim.{Claim}
use Rattle.lc_certificate.specs.declared.claims.Claim.TheVariants.{Search, Alternant, Pair', Concat', Subcode', Places', Extend'}
use Rattle.lc_certificate.specs.declared.claims.Built.{Built}
use Rattle.lc_certificate.specs.declared.claims.Document.{Document}
use Rattle.lc_certificate.specs.declared.claims.Document.TheVariants.{Plain, Tree}
use Rattle.lc_formats.specs.Claim as formats
use Rattle.lc_certificate.specs.Seen.{certificate_of}

unfoldable pub pair_of : PairKind → formats.PairKind
pair_of Uuv = formats.uuv
pair_of Sum = formats.direct_sum
pair_of Product = formats.product

unfoldable pub place_of : PlaceKind → formats.PlaceKind
place_of Puncture = formats.puncture
place_of Shorten = formats.shorten

unfoldable pub claim_of : Claim → formats.Claim
claim_of (Search c) = formats.search (certificate_of c)
claim_of (Alternant locator points multipliers r) = formats.alternant locator points multipliers r
claim_of (Pair' kind p left q right) = formats.pair (pair_of kind) (claim_of left) (claim_of right)
claim_of (Concat' large p outer q inner) = formats.concat large (claim_of outer) (claim_of inner)
claim_of (Subcode' p of rows) = formats.subcode (claim_of of) rows.items
claim_of (Places' kind p of places) = formats.at_places (place_of kind) (claim_of of) places.items
claim_of (Extend' p of) = formats.extend (claim_of of)

unfoldable pub built_of : Built → formats.Built
built_of b = record { field = b.field; claim = claim_of b.claim; word = b.word; distance = b.distance }

unfoldable pub document_of : Document → formats.Document
document_of (Plain c) = formats.plain (certificate_of c)
document_of (Tree b) = formats.tree (built_of b)
