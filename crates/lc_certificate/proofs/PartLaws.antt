-- The parts of a certificate, as a reader takes them.
--   field_found, field_nowhere       the field of an object
--   distance_found, distance_zero, distance_nowhere      its distance
--   no_rows, no_word, no_distance    the rules of rows, word and distance
--   parts_way                        the other rules, once these parts are there
--   parts_refused, parts_read        what these other rules give
--   not_closed, beyond, is_closed    the rule of other keys, and the limits
--   no_object, other_version, no_field, field_known      the rules of the object, its version and its field
--   still_refused, then_refused      a refusal by the parts, and one by the last rule or the limits
--   read_shaped                      what was read has the shape
--   no_json, json_is                 bytes that are no JSON value, and the value that they are
use Rattle.std.proofs.Common.{◌≡◌, ◌≢◌, ℕ, ◌==◌, ◌&&◌, Bool, true, false, not, nat_le, List, length, codes, Option, Some, None, option_and_then, is_some, refl, sym, ap, subst, ◌∙◌, arith}
use Rattle.std.specs.Prelude.{if◌then◌else◌, Result, Ok, Err, IfOk}
use Rattle.std.proofs.lemmas.Bool.{le-leb, false≢true, eqb-true}
use Rattle.serde_json.specs.Data.{Data, null, boolean, number, string, array, object, Members}
use Rattle.serde_json.specs.Find.{as_object}
use Rattle.lc_algebra.specs.declared.FieldName.{FieldName}
use Rattle.lc_constructions.specs.Refusals.{columns_of}
use Rattle.lc_formats.specs.Certificate.{Certificate, Proof, shape, limit, not_json}
use Rattle.lc_formats.specs.Json.{number_at, list_at, provided, member_count, json_in}
use Rattle.lc_formats.specs.Document.{symbol_field}
use Rattle.lc_formats.specs.Shape.{IsShaped}
use Rattle.lc_formats.proofs.CertificateShaped.{certificate_shaped}
use Rattle.lc_formats.specs.Check.{reads_as, refused_as, rows_at, field_at, fit, are_rows, certificate_over, way_in, distance_in, word_in, rows_in, parts_in, key_count, are_set_keys, is_beyond_limit, closed, field_in, is_version, object_in, data_in, certificate_in}
use Rattle.lc_json.specs.Inside.{members_in}
use Rattle.lc_certificate.specs.Reading.{IsRefusedAs, way_at, distance_at}
use Rattle.lc_certificate.specs.Seen.{proof_of, certificate_of}
use Rattle.lc_certificate.proofs.RowLaws.{rows_read}
use Rattle.lc_certificate.specs.declared.certificate.Certificate as made
use Rattle.lc_certificate.specs.declared.refusal.CertRefusal.{CertRefusal}
use Rattle.lc_certificate.specs.declared.refusal.CertRefusal.TheVariants.{NotJson, Shape, Limit, NoMemory}

pub field_found : (ms : Members) (q : ℕ) → Some q ≡ number_at (codes "field") ms → field_at ms ≡ symbol_field q
unfolding field_at symbol_field
field_found ms q h = ap (option_and_then symbol_field) (sym h)

pub field_nowhere : (ms : Members) → None ≡ number_at (codes "field") ms → field_at ms ≡ None
unfolding field_at symbol_field
field_nowhere ms h = ap (option_and_then symbol_field) (sym h)

pub distance_found : (ms : Members) (d : ℕ) → Some d ≡ number_at (codes "distance") ms → d ≢ 0 → distance_at ms ≡ Some d
unfolding distance_at provided
distance_found ms d h n = ap (provided (nat_le 1)) (sym h) ∙ ap (λ b. if b then Some d else None) (le-leb 1 d (omega (arith, n)))

pub distance_zero : (ms : Members) (d : ℕ) → Some d ≡ number_at (codes "distance") ms → d ≡ 0 → distance_at ms ≡ None
unfolding distance_at provided
distance_zero ms d h z = ap (provided (nat_le 1)) (sym h) ∙ ap (λ k. if nat_le 1 k then Some k else None) z

pub distance_nowhere : (ms : Members) → None ≡ number_at (codes "distance") ms → distance_at ms ≡ None
unfolding distance_at provided
distance_nowhere ms h = ap (provided (nat_le 1)) (sym h)

pub no_rows : (ms : Members) (f : FieldName) → None ≡ provided (are_rows f) (rows_at ms) → parts_in ms f ≡ refused_as (shape 4)
unfolding parts_in rows_in
no_rows ms f h = ap (rows_in ms f) (sym h)

with_rows : (ms : Members) (f : FieldName) (rows : List (List ℕ)) → Some rows ≡ provided (are_rows f) (rows_at ms) → parts_in ms f ≡ word_in ms f rows (provided (fit f (columns_of rows)) (list_at (codes "word") ms))
unfolding parts_in rows_in
with_rows ms f rows h = ap (rows_in ms f) (sym h)

pub no_word : (ms : Members) (f : FieldName) (rows : List (List ℕ)) → Some rows ≡ provided (are_rows f) (rows_at ms) → None ≡ provided (fit f (columns_of rows)) (list_at (codes "word") ms) → parts_in ms f ≡ refused_as (shape 5)
unfolding word_in
no_word ms f rows h k = with_rows ms f rows h ∙ ap (word_in ms f rows) (sym k)

with_word : (ms : Members) (f : FieldName) (rows : List (List ℕ)) (w : List ℕ) → Some rows ≡ provided (are_rows f) (rows_at ms) → Some w ≡ provided (fit f (columns_of rows)) (list_at (codes "word") ms) → parts_in ms f ≡ distance_in ms (length w) (certificate_over f rows w) (distance_at ms)
unfolding word_in distance_at
with_word ms f rows w h k = with_rows ms f rows h ∙ ap (word_in ms f rows) (sym k)

pub no_distance : (ms : Members) (f : FieldName) (rows : List (List ℕ)) (w : List ℕ) → Some rows ≡ provided (are_rows f) (rows_at ms) → Some w ≡ provided (fit f (columns_of rows)) (list_at (codes "word") ms) → None ≡ distance_at ms → parts_in ms f ≡ refused_as (shape 6)
unfolding distance_in
no_distance ms f rows w h k m = with_word ms f rows w h k ∙ ap (distance_in ms (length w) (certificate_over f rows w)) (sym m)

pub parts_way : (ms : Members) (f : FieldName) (rows : List (List ℕ)) (w : List ℕ) (d : ℕ) → Some rows ≡ provided (are_rows f) (rows_at ms) → Some w ≡ provided (fit f (columns_of rows)) (list_at (codes "word") ms) → Some d ≡ distance_at ms → parts_in ms f ≡ way_in ms (length w) (certificate_over f rows w d) (way_at ms)
unfolding distance_in way_at
parts_way ms f rows w d h k m = with_word ms f rows w h k ∙ ap (distance_in ms (length w) (certificate_over f rows w)) (sym m)

pub not_closed : (ms : Members) (c : made.Certificate) → ((member_count ms == key_count (proof_of c.basis_of)) && are_set_keys ms) ≡ false → closed ms (reads_as (certificate_of c)) ≡ refused_as (shape 11)
unfolding closed certificate_of
not_closed ms c e = ap (λ b. if not b then refused_as (shape 11) else (if is_beyond_limit (certificate_of c) then refused_as limit else reads_as (certificate_of c))) e

-- a certificate whose keys are right is within the limits or beyond them
with_keys : (ms : Members) (c : made.Certificate) → ((member_count ms == key_count (proof_of c.basis_of)) && are_set_keys ms) ≡ true → closed ms (reads_as (certificate_of c)) ≡ (if is_beyond_limit (certificate_of c) then refused_as limit else reads_as (certificate_of c))
unfolding closed certificate_of
with_keys ms c e = ap (λ b. if not b then refused_as (shape 11) else (if is_beyond_limit (certificate_of c) then refused_as limit else reads_as (certificate_of c))) e

pub beyond : (ms : Members) (c : made.Certificate) → ((member_count ms == key_count (proof_of c.basis_of)) && are_set_keys ms) ≡ true → is_beyond_limit (certificate_of c) ≡ true → closed ms (reads_as (certificate_of c)) ≡ refused_as limit
beyond ms c e k = with_keys ms c e ∙ ap (λ b. if b then refused_as limit else reads_as (certificate_of c)) k

pub is_closed : (ms : Members) (c : made.Certificate) → ((member_count ms == key_count (proof_of c.basis_of)) && are_set_keys ms) ≡ true → is_beyond_limit (certificate_of c) ≡ false → closed ms (reads_as (certificate_of c)) ≡ reads_as (certificate_of c)
is_closed ms c e k = with_keys ms c e ∙ ap (λ b. if b then refused_as limit else reads_as (certificate_of c)) k

pub no_object : (d : Data) → is_some (as_object d) ≡ false → object_in (as_object d) ≡ refused_as (shape 1)
unfolding object_in
no_object null e = refl
no_object (boolean b) e = refl
no_object (number n) e = refl
no_object (string s) e = refl
no_object (array ds) e = refl
no_object (object ms) e = absurd (false≢true (sym e))

pub members_there : (d : Data) → is_some (as_object d) ≡ true → as_object d ≡ Some (members_in d)
members_there null e = absurd (false≢true e)
members_there (boolean b) e = absurd (false≢true e)
members_there (number n) e = absurd (false≢true e)
members_there (string s) e = absurd (false≢true e)
members_there (array ds) e = absurd (false≢true e)
members_there (object ms) e = refl

pub version_is : (ms : Members) → number_at (codes "version") ms ≡ Some 1 → is_version 1 ms ≡ true
unfolding is_version provided
version_is ms h = ap (λ o. is_some (provided (λ v. v == 1) o)) h

other : (o : Option ℕ) → o ≢ Some 1 → is_some (provided (λ v. v == 1) o) ≡ false
unfolding provided
other None h = refl
other (Some v) h = by_test (v == 1) refl
  where
    by_test : (b : Bool) → (v == 1) ≡ b → is_some (if b then Some v else None) ≡ false
    by_test true e = absurd (h (ap Some (eqb-true v 1 e)))
    by_test false e = refl

version_not : (ms : Members) → number_at (codes "version") ms ≢ Some 1 → is_version 1 ms ≡ false
unfolding is_version
version_not ms h = other (number_at (codes "version") ms) h

pub other_version : (d : Data) → is_some (as_object d) ≡ true → number_at (codes "version") (members_in d) ≢ Some 1 → object_in (as_object d) ≡ refused_as (shape 2)
unfolding object_in
other_version d e h = ap object_in (members_there d e) ∙ ap (λ b. if b then closed (members_in d) (field_in (members_in d) (field_at (members_in d))) else refused_as (shape 2)) (version_not (members_in d) h)

with_version : (d : Data) → is_some (as_object d) ≡ true → number_at (codes "version") (members_in d) ≡ Some 1 → object_in (as_object d) ≡ closed (members_in d) (field_in (members_in d) (field_at (members_in d)))
unfolding object_in
with_version d e h = ap object_in (members_there d e) ∙ ap (λ b. if b then closed (members_in d) (field_in (members_in d) (field_at (members_in d))) else refused_as (shape 2)) (version_is (members_in d) h)

pub no_field : (d : Data) → is_some (as_object d) ≡ true → number_at (codes "version") (members_in d) ≡ Some 1 → None ≡ field_at (members_in d) → object_in (as_object d) ≡ refused_as (shape 3)
unfolding field_in closed
no_field d e h k = with_version d e h ∙ ap (λ o. closed (members_in d) (field_in (members_in d) o)) (sym k)

pub field_known : (d : Data) (f : FieldName) → is_some (as_object d) ≡ true → number_at (codes "version") (members_in d) ≡ Some 1 → Some f ≡ field_at (members_in d) → object_in (as_object d) ≡ closed (members_in d) (parts_in (members_in d) f)
unfolding field_in
field_known d f e h k = with_version d e h ∙ ap (λ o. closed (members_in d) (field_in (members_in d) o)) (sym k)

pub no_json : (bytes : List ℕ) → None ≡ json_in bytes → certificate_in bytes ≡ refused_as not_json
unfolding certificate_in data_in
no_json bytes h = ap data_in (sym h)

pub json_is : (bytes : List ℕ) (d : Data) → Some d ≡ json_in bytes → certificate_in bytes ≡ object_in (as_object d)
unfolding certificate_in data_in
json_is bytes d h = ap data_in (sym h)

pub parts_refused : (ms : Members) (f : FieldName) (rows : List (List ℕ)) (w : List ℕ) (d n : ℕ) (e : CertRefusal) → Some rows ≡ provided (are_rows f) (rows_at ms) → Some w ≡ provided (fit f (columns_of rows)) (list_at (codes "word") ms) → Some d ≡ distance_at ms → n ≡ length w → ((make : Proof → Certificate) → IsRefusedAs e (way_in ms n make (way_at ms))) → IsRefusedAs e (parts_in ms f)
parts_refused ms f rows w d n e h k m same r = subst (IsRefusedAs e) (ap (λ l. way_in ms l (certificate_over f rows w d) (way_at ms)) same ∙ sym (parts_way ms f rows w d h k m)) (r (certificate_over f rows w d))

pub parts_read : (ms : Members) (f : FieldName) (rows : List (List ℕ)) (w : List ℕ) (d n : ℕ) (p : Proof) → Some rows ≡ provided (are_rows f) (rows_at ms) → Some w ≡ provided (fit f (columns_of rows)) (list_at (codes "word") ms) → Some d ≡ distance_at ms → n ≡ length w → ((make : Proof → Certificate) → way_in ms n make (way_at ms) ≡ reads_as (make p)) → parts_in ms f ≡ reads_as (record { field = f; rows = rows; word = w; distance = d; proof = p })
unfolding certificate_over
parts_read ms f rows w d n p h k m same r = parts_way ms f rows w d h k m ∙ ap (λ l. way_in ms l (certificate_over f rows w d) (way_at ms)) (sym same) ∙ r (certificate_over f rows w d)

pub still_refused : (d : Data) (f : FieldName) (e : CertRefusal) → is_some (as_object d) ≡ true → number_at (codes "version") (members_in d) ≡ Some 1 → Some f ≡ field_at (members_in d) → IsRefusedAs e (parts_in (members_in d) f) → IsRefusedAs e (object_in (as_object d))
unfolding closed
still_refused d f NotJson h k m r = field_known d f h k m ∙ ap (closed (members_in d)) r
still_refused d f (Shape rule) h k m r = field_known d f h k m ∙ ap (closed (members_in d)) r
still_refused d f Limit h k m r = field_known d f h k m ∙ ap (closed (members_in d)) r
still_refused d f NoMemory h k m r = tt

pub then_refused : (d : Data) (f : FieldName) (e : CertRefusal) (c : Certificate) → is_some (as_object d) ≡ true → number_at (codes "version") (members_in d) ≡ Some 1 → Some f ≡ field_at (members_in d) → parts_in (members_in d) f ≡ reads_as c → IsRefusedAs e (closed (members_in d) (reads_as c)) → IsRefusedAs e (object_in (as_object d))
then_refused d f e c h k m p r = subst (IsRefusedAs e) (ap (closed (members_in d)) (sym p) ∙ sym (field_known d f h k m)) r

pub read_shaped : (bytes : List ℕ) (d : Data) (r : Result made.Certificate CertRefusal) → Some d ≡ json_in bytes → IfOk r (λ c. object_in (as_object d) ≡ reads_as (certificate_of c)) → IfOk r (λ c. IsShaped (certificate_of c))
read_shaped bytes d (Ok c) h e = certificate_shaped bytes (certificate_of c) (json_is bytes d h ∙ e)
read_shaped bytes d (Err x) h e = e

pub ruleset distance_at_laws = (distance_found, distance_zero, distance_nowhere)

pub ruleset parts_of_laws = (no_rows, no_word, no_distance, parts_way, rows_read)

pub ruleset check_closed_laws = (not_closed, beyond, is_closed)

pub ruleset certificate_from_laws = (no_object, other_version, no_field, field_known)
