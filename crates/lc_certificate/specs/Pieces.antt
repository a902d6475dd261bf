-- Pieces of the text of a certificate, for private clauses.
--   front_text p             the front of the object, to the end of the value at `by`
--   claims_text claims       the sets as a JSON array
--   sets_text p              the sets with their key; nothing for a scan
--   head_text c, tail_text c      the text up to the value at `field`, and from the key `rows` on
use Rattle.std.specs.Prelude.{ℕ, List, [], ◌++◌, map, codes, decimal}
use Rattle.serde_json.specs.Written.{compact_text}
use Rattle.lc_algebra.specs.Field.{size}
use Rattle.lc_formats.specs.Certificate.{Certificate, SetClaim, Proof, scan, levels}
use Rattle.lc_formats.specs.CertificateText.{claim_json}
use Rattle.lc_formats.specs.Text.{bracketed, numbers_text, lists_text}

unfoldable pub front_text : Proof → List ℕ
front_text scan = codes "{\"by\":\"scan\""
front_text (levels _) = codes "{\"by\":\"levels\""

unfoldable pub claims_text : List SetClaim → List ℕ
claims_text claims = bracketed (map (λ claim. compact_text (claim_json claim)) claims)

unfoldable pub sets_text : Proof → List ℕ
sets_text scan = []
sets_text (levels claims) = codes ",\"sets\":" ++ claims_text claims

unfoldable pub head_text : Certificate → List ℕ
head_text c = front_text c.proof ++ (codes ",\"distance\":" ++ (decimal c.distance ++ (codes ",\"field\":" ++ decimal (size c.field))))

unfoldable pub tail_text : Certificate → List ℕ
tail_text c = codes ",\"rows\":" ++ (lists_text c.rows ++ (sets_text c.proof ++ (codes ",\"version\":1,\"word\":" ++ (numbers_text c.word ++ codes "}"))))
