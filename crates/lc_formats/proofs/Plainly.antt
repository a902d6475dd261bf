-- Bytes of ASCII need no test for UTF-8, so that worked examples on bytes compute quickly.
--   json_plainly               the JSON value that they are
--   certificate_plainly, check_plainly, document_plainly      the certificate, the line of `check`, the document that they are
--   checks_plainly, documents_plainly      those of several texts
use Rattle.std.proofs.Common.{◌≡◌, ℕ, true, if◌then◌else◌, List, [], ◌∷◌, map, Option, None, refl, ap}
use Rattle.std.specs.List.{list_all}
use Rattle.std.proofs.lemmas.Bool.{and_parts}
use Rattle.std.proofs.lemmas.Str.{is_utf8-from_IsUtf8}
use Rattle.json.proofs.Printed.Utf8.{are_ascii, IsUtf8-are_ascii}
use Rattle.serde_json.specs.Data.{Data}
use Rattle.serde_json.specs.Read.{read}
use Rattle.lc_formats.specs.Json.{json_in}
use Rattle.lc_formats.specs.Check.{data_in, certificate_in, check_text, line_of_verdict, verdict_of, distance_of}
use Rattle.lc_formats.specs.Document.{document_of, document_in}

pub json_plainly : (bytes : List ℕ) → are_ascii bytes ≡ true → json_in bytes ≡ read bytes
unfolding json_in
json_plainly bytes e = ap (λ b. if b then read bytes else None) (is_utf8-from_IsUtf8 bytes (IsUtf8-are_ascii bytes e))

pub certificate_plainly : (bytes : List ℕ) → are_ascii bytes ≡ true → certificate_in bytes ≡ data_in (read bytes)
unfolding certificate_in
certificate_plainly bytes e = ap data_in (json_plainly bytes e)

unfoldable pub line_of_data : Option Data → List ℕ
line_of_data o = line_of_verdict (distance_of (data_in o)) (verdict_of (data_in o))

pub check_plainly : (bytes : List ℕ) → are_ascii bytes ≡ true → check_text bytes ≡ line_of_data (read bytes)
unfolding check_text certificate_in line_of_data
check_plainly bytes e = ap line_of_data (json_plainly bytes e)

pub document_plainly : (bytes : List ℕ) → are_ascii bytes ≡ true → document_in bytes ≡ document_of (read bytes)
unfolding document_in
document_plainly bytes e = ap document_of (json_plainly bytes e)

each_plainly : {X : Type 0} (f g : List ℕ → X) → ((bytes : List ℕ) → are_ascii bytes ≡ true → f bytes ≡ g bytes) → (texts : List (List ℕ)) → list_all are_ascii texts ≡ true → map f texts ≡ map g texts
each_plainly f g h [] e = refl
each_plainly f g h (text ∷ texts) e =
    let parts = and_parts (are_ascii text) (list_all are_ascii texts) e in
    cc (h text parts.0, each_plainly f g h texts parts.1)

pub checks_plainly : (texts : List (List ℕ)) → list_all are_ascii texts ≡ true → map check_text texts ≡ map (λ text. line_of_data (read text)) texts
checks_plainly texts e = each_plainly check_text (λ text. line_of_data (read text)) check_plainly texts e

pub documents_plainly : (texts : List (List ℕ)) → list_all are_ascii texts ≡ true → map document_in texts ≡ map (λ text. document_of (read text)) texts
documents_plainly texts e = each_plainly document_in (λ text. document_of (read text)) document_plainly texts e
