-- Certificates of either version, as a reader takes them.
--   version_is, version_not      the version of an object
--   top_is, sets_are             the claim of an object and the sets of its searches, read with 127 for its depth
--   read_shallow                 a value that was read nests at most 127 deep, so its members at most 126
--   other_keys, beyond, is_closed      the rule of other keys, and the limits
--   no_field, no_claim, no_word, no_distance, closed_next      the rules of the field, the claim, the word and the distance
--   no_json, tree_is, plain_is   bytes that are no JSON, and a value of version 2 or of another one
--   plain_unread, plain_document, read_shaped      a certificate of version 1; what was read has the shape
use Rattle.std.proofs.Common.{◌≡◌, ◌≢◌, ℕ, ◌<◌, ◌≤◌, ◌==◌, ◌&&◌, Bool, true, false, not, if◌then◌else◌, List, codes, Option, Some, None, option_and_then, is_some, refl, sym, ap, subst, ◌∙◌, arith}
use Rattle.std.proofs.lemmas.Bool.{eqb-true, eq-eqb, false≢true}
use Rattle.serde_json.specs.Data.{Data, null, boolean, number, string, array, object, Members, members_depth, depth}
use Rattle.serde_json.specs.Find.{as_object}
use Rattle.serde_json.specs.Read.{max_depth}
use Rattle.serde_json.proofs.Nesting.{depth-read}
use Rattle.std.specs.Str.{is_utf8}
use Rattle.lc_algebra.specs.declared.FieldName.{FieldName}
use Rattle.lc_formats.specs.Certificate.{Certificate, shape, limit, not_json}
use Rattle.lc_formats.specs.Claim.{Claim, Built, Document, plain, tree}
use Rattle.lc_formats.specs.Json.{number_at, list_at, provided, member_count, json_in}
use Rattle.lc_formats.specs.Check.{CertificateRead, reads_as, field_at, is_version, object_in, data_in}
use Rattle.lc_formats.specs.Document.{object_at, claim_from, all_of, are_closed, is_tree_beyond_limit, DocumentRead, document, no_document, plain_read, tree_closed, tree_distance_in, built_over, tree_word_in, is_tree_word, tree_claim_in, tree_field_in, either_version, document_of, document_in}
use Rattle.lc_formats.proofs.DocumentShaped.{document_shaped}
use Rattle.lc_json.specs.Inside.{members_in}
use Rattle.lc_certificate.specs.declared.refusal.CertRefusal.{CertRefusal}
use Rattle.lc_certificate.specs.declared.refusal.CertRefusal.TheVariants.{NotJson, Shape, Limit, NoMemory}
use Rattle.lc_certificate.specs.Reading.{IsRefusedAs, distance_at}
use Rattle.lc_documents.specs.Parts.{part_of}
use Rattle.lc_documents.specs.Reading.{IsUnreadAs, IsShapedDocument}
use Rattle.lc_documents.proofs.DepthLaws.{part_enough, part_closed}

pub version_is : (n : ℕ) (ms : Members) → number_at (codes "version") ms ≡ Some n → is_version n ms ≡ true
unfolding is_version provided
version_is n ms h = ap (λ o. is_some (provided (λ v. v == n) o)) h ∙ ap (λ b. is_some (if b then Some n else None)) (eq-eqb n n refl)

other : (n : ℕ) (o : Option ℕ) → o ≢ Some n → is_some (provided (λ v. v == n) o) ≡ false
unfolding provided
other n None h = refl
other n (Some v) h = by_test (v == n) refl
  where
    by_test : (b : Bool) → (v == n) ≡ b → is_some (if b then Some v else None) ≡ false
    by_test true e = absurd (h (ap Some (eqb-true v n e)))
    by_test false e = refl

pub version_not : (n : ℕ) (ms : Members) → number_at (codes "version") ms ≢ Some n → is_version n ms ≡ false
unfolding is_version
version_not n ms h = other n (number_at (codes "version") ms) h

pub top_is : (most : ℕ) (f : FieldName) (ms : Members) → members_depth ms ≤ most → part_of most f (codes "claim") ms ≡ option_and_then (claim_from (members_depth ms) f) (object_at (codes "claim") ms)
unfolding part_of
top_is most f ms l = part_enough most (members_depth ms) f (codes "claim") ms l (omega arith)

pub sets_are : (most : ℕ) (ms : Members) → members_depth ms ≤ most → all_of (are_closed most) (object_at (codes "claim") ms) ≡ all_of (are_closed (members_depth ms)) (object_at (codes "claim") ms)
sets_are most ms l = part_closed most (members_depth ms) (codes "claim") ms l (omega arith)

inner_depth : (d : Data) (n : ℕ) → depth d ≤ n → 1 ≤ n → members_depth (members_in d) < n
inner_depth null n l m = omega (arith, m)
inner_depth (boolean b) n l m = omega (arith, m)
inner_depth (number x) n l m = omega (arith, m)
inner_depth (string s) n l m = omega (arith, m)
inner_depth (array ds) n l m = omega (arith, m)
inner_depth (object ms) n l m = omega (arith, l)

pub read_shallow : (bytes : List ℕ) (d : Data) → Some d ≡ json_in bytes → members_depth (members_in d) < 127
unfolding json_in
read_shallow bytes d h = by_test (is_utf8 bytes) h
  where
    by_test : (b : Bool) → Some d ≡ (if b then Rattle.serde_json.specs.Read.read bytes else None) → members_depth (members_in d) < 127
    by_test true e = inner_depth d 127 (depth-read bytes d (sym e)) (omega arith)
    by_test false e = absurd cc

closed_by : Members → Built → Bool → DocumentRead
closed_by ms b x = if not x then no_document (shape 11) else (if is_tree_beyond_limit b then no_document limit else document (tree b))

pub other_keys : (ms : Members) (b : Built) → ((member_count ms == 5) && all_of (are_closed (members_depth ms)) (object_at (codes "claim") ms)) ≡ false → tree_closed ms b ≡ no_document (shape 11)
unfolding tree_closed closed_by
other_keys ms b e = ap (closed_by ms b) e

right_keys : (ms : Members) (b : Built) → ((member_count ms == 5) && all_of (are_closed (members_depth ms)) (object_at (codes "claim") ms)) ≡ true → tree_closed ms b ≡ (if is_tree_beyond_limit b then no_document limit else document (tree b))
unfolding tree_closed closed_by
right_keys ms b e = ap (closed_by ms b) e

pub beyond : (ms : Members) (b : Built) → ((member_count ms == 5) && all_of (are_closed (members_depth ms)) (object_at (codes "claim") ms)) ≡ true → is_tree_beyond_limit b ≡ true → tree_closed ms b ≡ no_document limit
beyond ms b e k = right_keys ms b e ∙ ap (λ x. if x then no_document limit else document (tree b)) k

pub is_closed : (ms : Members) (b : Built) → ((member_count ms == 5) && all_of (are_closed (members_depth ms)) (object_at (codes "claim") ms)) ≡ true → is_tree_beyond_limit b ≡ false → tree_closed ms b ≡ document (tree b)
is_closed ms b e k = right_keys ms b e ∙ ap (λ x. if x then no_document limit else document (tree b)) k

pub no_field : (ms : Members) → None ≡ field_at ms → tree_field_in ms (field_at ms) ≡ no_document (shape 3)
unfolding tree_field_in
no_field ms h = ap (tree_field_in ms) (sym h)

with_field : (ms : Members) (f : FieldName) → Some f ≡ field_at ms → tree_field_in ms (field_at ms) ≡ tree_claim_in ms f (option_and_then (claim_from (members_depth ms) f) (object_at (codes "claim") ms))
unfolding tree_field_in
with_field ms f h = ap (tree_field_in ms) (sym h)

pub no_claim : (ms : Members) (f : FieldName) → Some f ≡ field_at ms → None ≡ option_and_then (claim_from (members_depth ms) f) (object_at (codes "claim") ms) → tree_field_in ms (field_at ms) ≡ no_document (shape 12)
unfolding tree_claim_in
no_claim ms f h k = with_field ms f h ∙ ap (tree_claim_in ms f) (sym k)

with_claim : (ms : Members) (f : FieldName) (claim : Claim) → Some f ≡ field_at ms → Some claim ≡ option_and_then (claim_from (members_depth ms) f) (object_at (codes "claim") ms) → tree_field_in ms (field_at ms) ≡ tree_word_in ms f claim (provided (is_tree_word f) (list_at (codes "word") ms))
unfolding tree_claim_in
with_claim ms f claim h k = with_field ms f h ∙ ap (tree_claim_in ms f) (sym k)

pub no_word : (ms : Members) (f : FieldName) (claim : Claim) → Some f ≡ field_at ms → Some claim ≡ option_and_then (claim_from (members_depth ms) f) (object_at (codes "claim") ms) → None ≡ provided (is_tree_word f) (list_at (codes "word") ms) → tree_field_in ms (field_at ms) ≡ no_document (shape 5)
unfolding tree_word_in
no_word ms f claim h k m = with_claim ms f claim h k ∙ ap (tree_word_in ms f claim) (sym m)

with_word : (ms : Members) (f : FieldName) (claim : Claim) (word : List ℕ) → Some f ≡ field_at ms → Some claim ≡ option_and_then (claim_from (members_depth ms) f) (object_at (codes "claim") ms) → Some word ≡ provided (is_tree_word f) (list_at (codes "word") ms) → tree_field_in ms (field_at ms) ≡ tree_distance_in ms (built_over f claim word) (distance_at ms)
unfolding tree_word_in distance_at
with_word ms f claim word h k m = with_claim ms f claim h k ∙ ap (tree_word_in ms f claim) (sym m)

pub no_distance : (ms : Members) (f : FieldName) (claim : Claim) (word : List ℕ) → Some f ≡ field_at ms → Some claim ≡ option_and_then (claim_from (members_depth ms) f) (object_at (codes "claim") ms) → Some word ≡ provided (is_tree_word f) (list_at (codes "word") ms) → None ≡ distance_at ms → tree_field_in ms (field_at ms) ≡ no_document (shape 6)
unfolding tree_distance_in
no_distance ms f claim word h k m n = with_word ms f claim word h k m ∙ ap (tree_distance_in ms (built_over f claim word)) (sym n)

pub closed_next : (ms : Members) (f : FieldName) (claim : Claim) (word : List ℕ) (d : ℕ) → Some f ≡ field_at ms → Some claim ≡ option_and_then (claim_from (members_depth ms) f) (object_at (codes "claim") ms) → Some word ≡ provided (is_tree_word f) (list_at (codes "word") ms) → Some d ≡ distance_at ms → tree_field_in ms (field_at ms) ≡ tree_closed ms (record { field = f; claim = claim; word = word; distance = d })
unfolding tree_distance_in built_over
closed_next ms f claim word d h k m n = with_word ms f claim word h k m ∙ ap (tree_distance_in ms (built_over f claim word)) (sym n)

pub still_unread : (ms : Members) (b : Built) (e : CertRefusal) → tree_field_in ms (field_at ms) ≡ tree_closed ms b → IsUnreadAs e (tree_closed ms b) → IsUnreadAs e (tree_field_in ms (field_at ms))
still_unread ms b e same h = subst (IsUnreadAs e) (sym same) h

pub no_json : (bytes : List ℕ) → None ≡ json_in bytes → document_in bytes ≡ no_document not_json
unfolding document_in document_of data_in plain_read
no_json bytes h = ap document_of (sym h)

object_there : (d : Data) → is_version 2 (members_in d) ≡ true → as_object d ≡ Some (members_in d)
unfolding is_version number_at provided
object_there null e = absurd (false≢true e)
object_there (boolean b) e = absurd (false≢true e)
object_there (number n) e = absurd (false≢true e)
object_there (string s) e = absurd (false≢true e)
object_there (array ds) e = absurd (false≢true e)
object_there (object ms) e = refl

pub tree_is : (bytes : List ℕ) (d : Data) → Some d ≡ json_in bytes → is_version 2 (members_in d) ≡ true → document_in bytes ≡ tree_field_in (members_in d) (field_at (members_in d))
unfolding document_in document_of either_version
tree_is bytes d h v =
    ap document_of (sym h)
    ∙ ap (either_version d) (object_there d v)
    ∙ ap (λ b. if b then tree_field_in (members_in d) (field_at (members_in d)) else plain_read (data_in (Some d))) v

other_version : (d : Data) → is_version 2 (members_in d) ≡ false → either_version d (as_object d) ≡ plain_read (object_in (as_object d))
unfolding either_version data_in
other_version null v = refl
other_version (boolean b) v = refl
other_version (number n) v = refl
other_version (string s) v = refl
other_version (array ds) v = refl
other_version (object ms) v = ap (λ b. if b then tree_field_in ms (field_at ms) else plain_read (object_in (Some ms))) v

pub plain_is : (bytes : List ℕ) (d : Data) → Some d ≡ json_in bytes → is_version 2 (members_in d) ≡ false → document_in bytes ≡ plain_read (object_in (as_object d))
unfolding document_in document_of
plain_is bytes d h v = ap document_of (sym h) ∙ other_version d v

plain_refused : (e : CertRefusal) (r : CertificateRead) → IsRefusedAs e r → IsUnreadAs e (plain_read r)
unfolding plain_read
plain_refused NotJson r h = ap plain_read h
plain_refused (Shape rule) r h = ap plain_read h
plain_refused Limit r h = ap plain_read h
plain_refused NoMemory r h = tt

pub plain_unread : (bytes : List ℕ) (d : Data) (e : CertRefusal) → Some d ≡ json_in bytes → is_version 2 (members_in d) ≡ false → IsRefusedAs e (object_in (as_object d)) → IsUnreadAs e (document_in bytes)
plain_unread bytes d e h v r = subst (IsUnreadAs e) (sym (plain_is bytes d h v)) (plain_refused e (object_in (as_object d)) r)

pub plain_document : (bytes : List ℕ) (d : Data) (c : Certificate) → Some d ≡ json_in bytes → is_version 2 (members_in d) ≡ false → object_in (as_object d) ≡ reads_as c → document_in bytes ≡ document (plain c)
unfolding plain_read
plain_document bytes d c h v r = plain_is bytes d h v ∙ ap plain_read r

pub tree_unread : (bytes : List ℕ) (d : Data) (e : CertRefusal) → Some d ≡ json_in bytes → is_version 2 (members_in d) ≡ true → IsUnreadAs e (tree_field_in (members_in d) (field_at (members_in d))) → IsUnreadAs e (document_in bytes)
tree_unread bytes d e h v r = subst (IsUnreadAs e) (sym (tree_is bytes d h v)) r

pub tree_document : (bytes : List ℕ) (d : Data) (b : Built) → Some d ≡ json_in bytes → is_version 2 (members_in d) ≡ true → tree_field_in (members_in d) (field_at (members_in d)) ≡ document (tree b) → document_in bytes ≡ document (tree b)
tree_document bytes d b h v r = tree_is bytes d h v ∙ r

pub read_shaped : (bytes : List ℕ) (d : Document) → document_in bytes ≡ document d → IsShapedDocument d
read_shaped bytes (plain c) e = document_shaped bytes (plain c) e
read_shaped bytes (tree b) e = document_shaped bytes (tree b) e

pub ruleset is_tree_laws = (version_is, version_not)

pub ruleset top_claim_laws = (top_is)

pub ruleset are_sets_closed_laws = (sets_are)

pub ruleset check_closed_laws = (other_keys, beyond, is_closed)

pub ruleset built_from_laws = (no_field, no_claim, no_word, no_distance, closed_next)

pub ruleset parse_document_laws = (no_json, tree_document, plain_document, read_shallow)
