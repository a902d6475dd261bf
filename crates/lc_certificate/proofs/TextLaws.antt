-- The text of a certificate, piece by piece.
--   claims_none, claims_more      no sets, and sets with a first one
--   rows_none, rows_more          the same of rows
--   claim_pieces                  the text of a set
--   compact_lists, compact_claims      the JSON text of rows and of sets
--   certificate_halves            the text of a certificate
use Rattle.std.proofs.Common.{◌≡◌, refl, ℕ, ◌<◌, ◌≤◌, ◌-◌, List, [], ◌∷◌, ◌++◌, length, get_or, drop, take, map, flat_map, codes, decimal, rules, ◌∙◌, ap, append_assoc}
use Rattle.std.proofs.lemmas.List.{length-map}
use Rattle.std.proofs.lemmas.Simd.{map-map}
use Rattle.std.specs.Fmt.{digits}
use Rattle.json.specs.Print.{escape_byte}
use Rattle.serde_json.specs.Data.{array}
use Rattle.serde_json.specs.Written.{compact_text}
use Rattle.lc_algebra.specs.Field.{size}
use Rattle.lc_formats.specs.Certificate.{Certificate, SetClaim, Proof, scan, levels}
use Rattle.lc_formats.specs.Json.{number_json, items, numbers_json}
use Rattle.lc_formats.specs.Text.{bracketed, numbers_text, lists_text}
use Rattle.lc_formats.specs.CertificateText.{claim_members, claim_json, way_text, with_sets, certificate_members, certificate_json, certificate_text}
use Rattle.lc_formats.proofs.CertificateBack.{by}
use Rattle.lc_formats.proofs.ListTexts.{bracketed_none, bracketed_more}
use Rattle.lc_json.proofs.ListTexts.{compact_items, compact_numbers}
use Rattle.lc_certificate.specs.Pieces.{front_text, claims_text, sets_text, head_text, tail_text}

pub claims_none : {A : Type 0} (f : A → SetClaim) (xs : List A) → length xs < 1 → claims_text (map f xs) ≡ codes "[]"
unfolding claims_text
claims_none f xs l = bracketed_none (λ claim. compact_text (claim_json claim)) (map f xs) (rw (length-map xs f) l)

pub claims_more : {A : Type 0} (f : A → SetClaim) (xs : List A) (d : A) → 1 ≤ length xs → claims_text (map f xs) ≡ codes "[" ++ (compact_text (claim_json (f (get_or xs 0 d))) ++ (flat_map (λ y. 44 ∷ compact_text (claim_json (f y))) (take (length xs - 1) (drop 1 xs)) ++ codes "]"))
unfolding claims_text
claims_more f xs d l = ap bracketed (map-map (λ claim. compact_text (claim_json claim)) f xs) ∙ bracketed_more (λ y. compact_text (claim_json (f y))) xs d l

pub rows_none : (rows : List (List ℕ)) → length rows < 1 → lists_text rows ≡ codes "[]"
unfolding lists_text
rows_none rows l = bracketed_none numbers_text rows l

pub rows_more : (rows : List (List ℕ)) (d : List ℕ) → 1 ≤ length rows → lists_text rows ≡ codes "[" ++ (numbers_text (get_or rows 0 d) ++ (flat_map (λ y. 44 ∷ numbers_text y) (take (length rows - 1) (drop 1 rows)) ++ codes "]"))
unfolding lists_text
rows_more rows d l = bracketed_more numbers_text rows d l

pub claim_pieces : (claim : SetClaim) → compact_text (claim_json claim) ≡ codes "{\"basis\":" ++ (numbers_text claim.basis ++ (codes ",\"fresh\":" ++ (numbers_text claim.fresh ++ (codes ",\"level\":" ++ (decimal claim.level ++ codes "}")))))
unfolding claim_json claim_members number_json escape_byte
claim_pieces claim =
    ap (λ t. codes "{\"basis\":" ++ (t ++ (codes ",\"fresh\":" ++ (compact_text (numbers_json claim.fresh) ++ (codes ",\"level\":" ++ (decimal claim.level ++ codes "}")))))) (compact_numbers claim.basis)
    ∙ ap (λ t. codes "{\"basis\":" ++ (numbers_text claim.basis ++ (codes ",\"fresh\":" ++ (t ++ (codes ",\"level\":" ++ (decimal claim.level ++ codes "}")))))) (compact_numbers claim.fresh)

map_texts : (rows : List (List ℕ)) → map (λ row. compact_text (numbers_json row)) rows ≡ map numbers_text rows
map_texts [] = refl
map_texts (row ∷ rows) = cc (compact_numbers row, map_texts rows)

pub compact_lists : (rows : List (List ℕ)) → compact_text (array (items (map numbers_json rows))) ≡ lists_text rows
unfolding lists_text
compact_lists rows = compact_items numbers_json rows ∙ ap bracketed (map_texts rows)

pub compact_claims : (claims : List SetClaim) → compact_text (array (items (map claim_json claims))) ≡ claims_text claims
unfolding claims_text
compact_claims claims = compact_items claim_json claims

-- the text with given texts of the rows, of the sets and of the word
unfoldable joined : Certificate → List ℕ → List ℕ → List ℕ → List ℕ → List ℕ
joined c front rows sets word = front ++ (codes ",\"distance\":" ++ (decimal c.distance ++ (codes ",\"field\":" ++ (decimal (size c.field) ++ (codes ",\"rows\":" ++ (rows ++ (sets ++ (codes ",\"version\":1,\"word\":" ++ (word ++ codes "}")))))))))

pieces_by : (c : Certificate) (p : Proof) → certificate_text (by c p) ≡ joined c (front_text p) (lists_text c.rows) (sets_text p) (numbers_text c.word)
unfolding certificate_text certificate_json certificate_members with_sets way_text number_json joined front_text sets_text escape_byte digits
pieces_by c scan =
    ap (λ t. joined c (front_text scan) t [] (compact_text (numbers_json c.word))) (compact_lists c.rows)
    ∙ ap (joined c (front_text scan) (lists_text c.rows) []) (compact_numbers c.word)
pieces_by c (levels claims) =
    ap (λ t. joined c (front_text (levels claims)) t (codes ",\"sets\":" ++ compact_text (array (items (map claim_json claims)))) (compact_text (numbers_json c.word))) (compact_lists c.rows)
    ∙ ap (λ t. joined c (front_text (levels claims)) (lists_text c.rows) (codes ",\"sets\":" ++ t) (compact_text (numbers_json c.word))) (compact_claims claims)
    ∙ ap (joined c (front_text (levels claims)) (lists_text c.rows) (codes ",\"sets\":" ++ claims_text claims)) (compact_numbers c.word)

in_halves : (a b c d e t : List ℕ) → a ++ (b ++ (c ++ (d ++ (e ++ t)))) ≡ (a ++ (b ++ (c ++ (d ++ e)))) ++ t
in_halves a b c d e t = search (rules, append_assoc)

pub certificate_halves : (c : Certificate) → certificate_text c ≡ head_text c ++ tail_text c
unfolding joined head_text tail_text
certificate_halves c = pieces_by c c.proof ∙ in_halves (front_text c.proof) (codes ",\"distance\":") (decimal c.distance) (codes ",\"field\":") (decimal (size c.field)) (tail_text c)
