-- Pieces of the text of a certificate by construction, for private clauses.
--   tree_text claim              a claim as a JSON object
--   search_head c, search_tail c      the object of a search, to the end of the value at `rows`, and after it
--   form_head locator multipliers, form_tail points r      that of an alternant form, to the end of the value at `multipliers`, and after it
--   pair_head kind, place_head kind      that of two codes combined, up to the value at `left`; of a code at some places, up to that at `of`
--   outer_head large             that of a concatenation, from the value at `inner` to that at `outer`
--   built_tail b                 the text after the value at `claim`
use Rattle.std.specs.Prelude.{ℕ, List, ◌++◌, codes, decimal}
use Rattle.serde_json.specs.Data.{object}
use Rattle.serde_json.specs.Written.{compact_text}
use Rattle.lc_algebra.specs.Field.{size}
use Rattle.lc_formats.specs.Certificate.{Certificate}
use Rattle.lc_formats.specs.Claim.{PairKind, uuv, direct_sum, product, PlaceKind, puncture, shorten, Claim, Built, claim_members_of}
use Rattle.lc_formats.specs.Text.{numbers_text, lists_text}
use Rattle.lc_certificate.specs.Pieces.{front_text, sets_text}

unfoldable pub tree_text : Claim → List ℕ
tree_text claim = compact_text (object (claim_members_of claim))

unfoldable pub search_head : Certificate → List ℕ
search_head c = front_text c.proof ++ (codes ",\"distance\":" ++ (decimal c.distance ++ (codes ",\"kind\":\"search\",\"rows\":" ++ lists_text c.rows)))

unfoldable pub search_tail : Certificate → List ℕ
search_tail c = sets_text c.proof ++ (codes ",\"word\":" ++ (numbers_text c.word ++ codes "}"))

unfoldable pub form_head : ℕ → List ℕ → List ℕ
form_head locator multipliers = codes "{\"kind\":\"alternant\",\"locator\":" ++ (decimal locator ++ (codes ",\"multipliers\":" ++ numbers_text multipliers))

unfoldable pub form_tail : List ℕ → ℕ → List ℕ
form_tail points r = codes ",\"points\":" ++ (numbers_text points ++ (codes ",\"r\":" ++ (decimal r ++ codes "}")))

unfoldable pub pair_head : PairKind → List ℕ
pair_head uuv = codes "{\"kind\":\"uuv\",\"left\":"
pair_head direct_sum = codes "{\"kind\":\"sum\",\"left\":"
pair_head product = codes "{\"kind\":\"product\",\"left\":"

unfoldable pub place_head : PlaceKind → List ℕ
place_head puncture = codes "{\"kind\":\"puncture\",\"of\":"
place_head shorten = codes "{\"kind\":\"shorten\",\"of\":"

unfoldable pub outer_head : ℕ → List ℕ
outer_head large = codes ",\"kind\":\"concat\",\"large\":" ++ (decimal large ++ codes ",\"outer\":")

unfoldable pub built_tail : Built → List ℕ
built_tail b = codes ",\"distance\":" ++ (decimal b.distance ++ (codes ",\"field\":" ++ (decimal (size b.field) ++ (codes ",\"version\":2,\"word\":" ++ (numbers_text b.word ++ codes "}")))))
