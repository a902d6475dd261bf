-- The text of a certificate by construction, piece by piece.
--   search_pieces, form_pieces, pair_pieces, concat_pieces, subcode_pieces, places_pieces, extend_pieces      the text of a claim
--   built_pieces                  the text of a certificate
--   two, three, four, seven          a text that grows by several pieces
use Rattle.std.proofs.Common.{◌≡◌, ℕ, List, [], ◌++◌, map, codes, decimal, rules, ◌∙◌, ap, refl, append_assoc}
use Rattle.std.specs.Fmt.{digits}
use Rattle.json.specs.Print.{escape_byte}
use Rattle.serde_json.specs.Data.{array}
use Rattle.serde_json.specs.Written.{compact_text}
use Rattle.lc_algebra.specs.Field.{size}
use Rattle.lc_formats.specs.Certificate.{Certificate, Proof, scan, levels}
use Rattle.lc_formats.specs.Json.{number_json, items, numbers_json}
use Rattle.lc_formats.specs.Text.{numbers_text, lists_text}
use Rattle.lc_formats.specs.CertificateText.{claim_json, way_text, with_sets}
use Rattle.lc_formats.specs.Claim.{PairKind, uuv, direct_sum, product, PlaceKind, puncture, shorten, Claim, search as search_claim, alternant, pair, concat, subcode, at_places, extend, Built, claim_members_of, pair_text, place_text, rows_json, built_members, built_text}
use Rattle.lc_formats.proofs.CertificateBack.{by}
use Rattle.lc_json.proofs.ListTexts.{compact_numbers}
use Rattle.lc_certificate.specs.Pieces.{front_text, sets_text, claims_text}
use Rattle.lc_certificate.specs.TreePieces.{tree_text, search_head, search_tail, form_head, form_tail, pair_head, place_head, outer_head, built_tail}
use Rattle.lc_certificate.proofs.TextLaws.{compact_lists, compact_claims}

pub extend_pieces : (of : Claim) → tree_text (extend of) ≡ codes "{\"kind\":\"extend\",\"of\":" ++ (tree_text of ++ codes "}")
unfolding tree_text claim_members_of escape_byte
extend_pieces of = refl

pub pair_pieces : (kind : PairKind) (left right : Claim) → tree_text (pair kind left right) ≡ pair_head kind ++ (tree_text left ++ (codes ",\"right\":" ++ (tree_text right ++ codes "}")))
unfolding tree_text claim_members_of escape_byte pair_text pair_head
pair_pieces uuv left right = refl
pair_pieces direct_sum left right = refl
pair_pieces product left right = refl

pub concat_pieces : (large : ℕ) (outer inner : Claim) → tree_text (concat large outer inner) ≡ codes "{\"inner\":" ++ (tree_text inner ++ (outer_head large ++ (tree_text outer ++ codes "}")))
unfolding tree_text claim_members_of escape_byte number_json outer_head
concat_pieces large outer inner = ap (λ t. codes "{\"inner\":" ++ (tree_text inner ++ t)) (joined (decimal large) (tree_text outer)) where
  joined : (a b : List ℕ) → codes ",\"kind\":\"concat\",\"large\":" ++ (a ++ (codes ",\"outer\":" ++ (b ++ codes "}"))) ≡ (codes ",\"kind\":\"concat\",\"large\":" ++ (a ++ codes ",\"outer\":")) ++ (b ++ codes "}")
  joined a b = search (rules, append_assoc)

pub subcode_pieces : (of : Claim) (rows : List (List ℕ)) → tree_text (subcode of rows) ≡ codes "{\"kind\":\"subcode\",\"of\":" ++ (tree_text of ++ (codes ",\"rows\":" ++ (lists_text rows ++ codes "}")))
unfolding tree_text claim_members_of escape_byte rows_json
subcode_pieces of rows = ap (λ t. codes "{\"kind\":\"subcode\",\"of\":" ++ (tree_text of ++ (codes ",\"rows\":" ++ (t ++ codes "}")))) (compact_lists rows)

pub places_pieces : (kind : PlaceKind) (of : Claim) (places : List ℕ) → tree_text (at_places kind of places) ≡ place_head kind ++ (tree_text of ++ (codes ",\"places\":" ++ (numbers_text places ++ codes "}")))
unfolding tree_text claim_members_of escape_byte place_text place_head
places_pieces puncture of places = ap (λ t. place_head puncture ++ (tree_text of ++ (codes ",\"places\":" ++ (t ++ codes "}")))) (compact_numbers places)
places_pieces shorten of places = ap (λ t. place_head shorten ++ (tree_text of ++ (codes ",\"places\":" ++ (t ++ codes "}")))) (compact_numbers places)

form_joined : (l m p r : List ℕ) → codes "{\"kind\":\"alternant\",\"locator\":" ++ (l ++ (codes ",\"multipliers\":" ++ (m ++ (codes ",\"points\":" ++ (p ++ (codes ",\"r\":" ++ (r ++ codes "}"))))))) ≡ (codes "{\"kind\":\"alternant\",\"locator\":" ++ (l ++ (codes ",\"multipliers\":" ++ m))) ++ (codes ",\"points\":" ++ (p ++ (codes ",\"r\":" ++ (r ++ codes "}"))))
form_joined l m p r = search (rules, append_assoc)

pub form_pieces : (locator : ℕ) (points multipliers : List ℕ) (r : ℕ) → tree_text (alternant locator points multipliers r) ≡ form_head locator multipliers ++ form_tail points r
unfolding tree_text claim_members_of escape_byte number_json form_head form_tail
form_pieces locator points multipliers r =
    ap (λ t. codes "{\"kind\":\"alternant\",\"locator\":" ++ (decimal locator ++ (codes ",\"multipliers\":" ++ (t ++ (codes ",\"points\":" ++ (compact_text (numbers_json points) ++ (codes ",\"r\":" ++ (decimal r ++ codes "}")))))))) (compact_numbers multipliers)
    ∙ ap (λ t. codes "{\"kind\":\"alternant\",\"locator\":" ++ (decimal locator ++ (codes ",\"multipliers\":" ++ (numbers_text multipliers ++ (codes ",\"points\":" ++ (t ++ (codes ",\"r\":" ++ (decimal r ++ codes "}")))))))) (compact_numbers points)
    ∙ form_joined (decimal locator) (numbers_text multipliers) (numbers_text points) (decimal r)

-- the object of a search, with given texts of the front, the rows, the sets and the word
unfoldable joined : List ℕ → ℕ → List ℕ → List ℕ → List ℕ → List ℕ
joined front d rows sets word = front ++ (codes ",\"distance\":" ++ (decimal d ++ (codes ",\"kind\":\"search\",\"rows\":" ++ (rows ++ (sets ++ (codes ",\"word\":" ++ (word ++ codes "}")))))))

searched_by : (c : Certificate) (p : Proof) → tree_text (search_claim (by c p)) ≡ joined (front_text p) c.distance (lists_text c.rows) (sets_text p) (numbers_text c.word)
unfolding tree_text claim_members_of with_sets way_text rows_json number_json joined front_text sets_text escape_byte
searched_by c scan =
    ap (λ t. joined (front_text scan) c.distance t [] (compact_text (numbers_json c.word))) (compact_lists c.rows)
    ∙ ap (joined (front_text scan) c.distance (lists_text c.rows) []) (compact_numbers c.word)
searched_by c (levels claims) =
    ap (λ t. joined (front_text (levels claims)) c.distance t (codes ",\"sets\":" ++ compact_text (array (items (map claim_json claims)))) (compact_text (numbers_json c.word))) (compact_lists c.rows)
    ∙ ap (λ t. joined (front_text (levels claims)) c.distance (lists_text c.rows) (codes ",\"sets\":" ++ t) (compact_text (numbers_json c.word))) (compact_claims claims)
    ∙ ap (joined (front_text (levels claims)) c.distance (lists_text c.rows) (codes ",\"sets\":" ++ claims_text claims)) (compact_numbers c.word)

in_halves : (a b c d e t : List ℕ) → a ++ (b ++ (c ++ (d ++ (e ++ t)))) ≡ (a ++ (b ++ (c ++ (d ++ e)))) ++ t
in_halves a b c d e t = search (rules, append_assoc)

pub search_pieces : (c : Certificate) → tree_text (search_claim c) ≡ search_head c ++ search_tail c
unfolding joined search_head search_tail
search_pieces c = searched_by c c.proof ∙ in_halves (front_text c.proof) (codes ",\"distance\":") (decimal c.distance) (codes ",\"kind\":\"search\",\"rows\":") (lists_text c.rows) (search_tail c)

pub built_pieces : (b : Built) → built_text b ≡ codes "{\"claim\":" ++ (tree_text b.claim ++ built_tail b)
unfolding built_text built_members tree_text escape_byte number_json built_tail digits
built_pieces b = ap (λ t. codes "{\"claim\":" ++ (tree_text b.claim ++ (codes ",\"distance\":" ++ (decimal b.distance ++ (codes ",\"field\":" ++ (decimal (size b.field) ++ (codes ",\"version\":2,\"word\":" ++ (t ++ codes "}")))))))) (compact_numbers b.word)

pub two : (t0 t1 t2 a b : List ℕ) → t1 ≡ t0 ++ a → t2 ≡ t1 ++ b → t2 ≡ t0 ++ (a ++ b)
two t0 t1 t2 a b p q = search (rules, append_assoc)

pub three : (t0 t1 t2 t3 a b c : List ℕ) → t1 ≡ t0 ++ a → t2 ≡ t1 ++ b → t3 ≡ t2 ++ c → t3 ≡ t0 ++ (a ++ (b ++ c))
three t0 t1 t2 t3 a b c p q r = search (rules, append_assoc)

pub four : (t0 t1 t2 t3 t4 a b c d : List ℕ) → t1 ≡ t0 ++ a → t2 ≡ t1 ++ b → t3 ≡ t2 ++ c → t4 ≡ t3 ++ d → t4 ≡ t0 ++ (a ++ (b ++ (c ++ d)))
four t0 t1 t2 t3 t4 a b c d p q r s = search (rules, append_assoc)

pub seven : (t0 t1 t2 t3 t4 t5 t6 t7 a b c d e f g : List ℕ) → t1 ≡ t0 ++ a → t2 ≡ t1 ++ b → t3 ≡ t2 ++ c → t4 ≡ t3 ++ d → t5 ≡ t4 ++ e → t6 ≡ t5 ++ f → t7 ≡ t6 ++ g → t7 ≡ t0 ++ (a ++ (b ++ (c ++ (d ++ (e ++ (f ++ g))))))
seven t0 t1 t2 t3 t4 t5 t6 t7 a b c d e f g p q r s t u v = search (rules, append_assoc)
