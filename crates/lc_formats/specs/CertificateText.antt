-- How a certificate is written: compact JSON, its keys rising.
--   claim_members claim, claim_json claim      the members of a set, and its JSON value
--   way_text proof              what stands at the key `by`
--   certificate_members c, certificate_json c      the members of a certificate, and its JSON value; the key `sets` is there for a
--                               proof by levels alone
--   certificate_text c          its text
use Rattle.std.specs.Prelude.{ℕ, List, map, codes}
use Rattle.serde_json.specs.Data.{Data, Members, member, no_members, array, object, string}
use Rattle.serde_json.specs.Written.{compact_text}
use Rattle.lc_algebra.specs.Field.{size}
use Rattle.lc_formats.specs.Certificate.{Certificate, SetClaim, Proof, scan, levels}
use Rattle.lc_formats.specs.Json.{number_json, items, numbers_json}

unfoldable pub claim_members : SetClaim → Members
claim_members claim = member (codes "basis") (numbers_json claim.basis) (member (codes "fresh") (numbers_json claim.fresh) (member (codes "level") (number_json claim.level) no_members))

unfoldable pub claim_json : SetClaim → Data
claim_json claim = object (claim_members claim)

unfoldable pub way_text : Proof → List ℕ
way_text scan = codes "scan"
way_text (levels _) = codes "levels"

-- the key `sets`, for a proof by levels alone
unfoldable pub with_sets : Proof → Members → Members
with_sets scan rest = rest
with_sets (levels claims) rest = member (codes "sets") (array (items (map claim_json claims))) rest

unfoldable pub certificate_members : Certificate → Members
certificate_members c =
    member (codes "by") (string (way_text c.proof))
    (member (codes "distance") (number_json c.distance)
    (member (codes "field") (number_json (size c.field))
    (member (codes "rows") (array (items (map numbers_json c.rows)))
    (with_sets c.proof
    (member (codes "version") (number_json 1)
    (member (codes "word") (numbers_json c.word) no_members))))))

unfoldable pub certificate_json : Certificate → Data
certificate_json c = object (certificate_members c)

unfoldable pub certificate_text : Certificate → List ℕ
certificate_text c = compact_text (certificate_json c)
