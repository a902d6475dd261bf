-- Certificates by construction: a tree of claims, each of which defines a code and a bound of its distance from those of its
-- parts, with a word and a distance; and how they are written.
--   PairKind                 (u|u+v), the direct sum, or the direct product of two codes
--   PlaceKind                puncturing or shortening at some places
--   Claim                    a certificate of the distance of its span; an alternant form: the size of its locator field, points,
--                            multipliers and r; two codes combined; a concatenation, with the size of the outer code's field; the
--                            span of some rows, which lie in a code; a code punctured or shortened; an extended code
--   Built                    a field, a claim, a word and a distance
--   Document                 a certificate, or one by construction
--   claim_total claim        how many claims it is made of, itself counted
--   claim_depth claim        how deep they are nested; a claim without parts has depth 1
--   claim_members_of claim, built_members b      the members of their JSON values, keys rising
--   built_text b             the text of a certificate by construction
--   form_certificate f form x      that of an alternant form, which claims r + 1 for the word x
use Rattle.std.specs.Prelude.{ℕ, suc, ◌+◌, max, List, map, codes}
use Rattle.serde_json.specs.Data.{Data, Members, member, no_members, array, object, string}
use Rattle.serde_json.specs.Written.{compact_text}
use Rattle.lc_algebra.specs.declared.FieldName.{FieldName}
use Rattle.lc_algebra.specs.Field.{size}
use Rattle.lc_constructions.specs.Alternant.{AlternantForm}
use Rattle.lc_formats.specs.Certificate.{Certificate}
use Rattle.lc_formats.specs.Json.{number_json, items, numbers_json}
use Rattle.lc_formats.specs.CertificateText.{way_text, with_sets}

pub data PairKind : Type 0 where
  uuv : PairKind
  direct_sum : PairKind
  product : PairKind

pub data PlaceKind : Type 0 where
  puncture : PlaceKind
  shorten : PlaceKind

pub data Claim : Type 0 where
  search : Certificate → Claim
  alternant : ℕ → List ℕ → List ℕ → ℕ → Claim
  pair : PairKind → Claim → Claim → Claim
  concat : ℕ → Claim → Claim → Claim
  subcode : Claim → List (List ℕ) → Claim
  at_places : PlaceKind → Claim → List ℕ → Claim
  extend : Claim → Claim

pub record Built : Type 0 where
  pub field : FieldName
  pub claim : Claim
  pub word : List ℕ
  pub distance : ℕ

pub data Document : Type 0 where
  plain : Certificate → Document
  tree : Built → Document

unfoldable pub claim_total : Claim → ℕ
claim_total (search c) = 1
claim_total (alternant locator points multipliers r) = 1
claim_total (pair kind left right) = suc (claim_total left + claim_total right)
claim_total (concat large outer inner) = suc (claim_total outer + claim_total inner)
claim_total (subcode of rows) = suc (claim_total of)
claim_total (at_places kind of places) = suc (claim_total of)
claim_total (extend of) = suc (claim_total of)

unfoldable pub claim_depth : Claim → ℕ
claim_depth (search c) = 1
claim_depth (alternant locator points multipliers r) = 1
claim_depth (pair kind left right) = suc (max (claim_depth left) (claim_depth right))
claim_depth (concat large outer inner) = suc (max (claim_depth outer) (claim_depth inner))
claim_depth (subcode of rows) = suc (claim_depth of)
claim_depth (at_places kind of places) = suc (claim_depth of)
claim_depth (extend of) = suc (claim_depth of)

unfoldable pub pair_text : PairKind → List ℕ
pair_text uuv = codes "uuv"
pair_text direct_sum = codes "sum"
pair_text product = codes "product"

unfoldable pub place_text : PlaceKind → List ℕ
place_text puncture = codes "puncture"
place_text shorten = codes "shorten"

unfoldable pub rows_json : List (List ℕ) → Data
rows_json rows = array (items (map numbers_json rows))

unfoldable pub claim_members_of : Claim → Members
claim_members_of (search c) =
    member (codes "by") (string (way_text c.proof))
    (member (codes "distance") (number_json c.distance)
    (member (codes "kind") (string (codes "search"))
    (member (codes "rows") (rows_json c.rows)
    (with_sets c.proof
    (member (codes "word") (numbers_json c.word) no_members)))))
claim_members_of (alternant locator points multipliers r) =
    member (codes "kind") (string (codes "alternant"))
    (member (codes "locator") (number_json locator)
    (member (codes "multipliers") (numbers_json multipliers)
    (member (codes "points") (numbers_json points)
    (member (codes "r") (number_json r) no_members))))
claim_members_of (pair kind left right) =
    member (codes "kind") (string (pair_text kind))
    (member (codes "left") (object (claim_members_of left))
    (member (codes "right") (object (claim_members_of right)) no_members))
claim_members_of (concat large outer inner) =
    member (codes "inner") (object (claim_members_of inner))
    (member (codes "kind") (string (codes "concat"))
    (member (codes "large") (number_json large)
    (member (codes "outer") (object (claim_members_of outer)) no_members)))
claim_members_of (subcode of rows) =
    member (codes "kind") (string (codes "subcode"))
    (member (codes "of") (object (claim_members_of of))
    (member (codes "rows") (rows_json rows) no_members))
claim_members_of (at_places kind of places) =
    member (codes "kind") (string (place_text kind))
    (member (codes "of") (object (claim_members_of of))
    (member (codes "places") (numbers_json places) no_members))
claim_members_of (extend of) =
    member (codes "kind") (string (codes "extend"))
    (member (codes "of") (object (claim_members_of of)) no_members)

unfoldable pub built_members : Built → Members
built_members b =
    member (codes "claim") (object (claim_members_of b.claim))
    (member (codes "distance") (number_json b.distance)
    (member (codes "field") (number_json (size b.field))
    (member (codes "version") (number_json 2)
    (member (codes "word") (numbers_json b.word) no_members))))

unfoldable pub built_text : Built → List ℕ
built_text b = compact_text (object (built_members b))

unfoldable pub form_certificate : FieldName → AlternantForm → List ℕ → Built
form_certificate f form x = record {
  field = f;
  claim = alternant (size form.locator) form.points form.multipliers form.r;
  word = x;
  distance = form.r + 1;
}
