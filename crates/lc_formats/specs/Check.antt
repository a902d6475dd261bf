-- How the bytes of a certificate are read, and what the command `check` prints.
--   CertificateRead              a certificate, or why the bytes are none: no JSON (30), the number of the first rule of shape that
--                                is broken (31), or a length, a number of rows or of sets above 255 (32)
--   The rules, in order: 1 an object; 2 `version` is 1; 3 `field` is the size of a symbol field; 4 `rows` is a nonempty list of lists
--   of one length of at least 1, entries below the size; 5 `word` is a list of that length, entries below the size; 6 `distance` is a
--   whole number of at least 1; 7 `by` is "scan" or "levels"; 8 `sets` is absent for a scan, and for levels a nonempty list of
--   objects; 9 in each set `basis` and `fresh` are strictly rising lists of places below the length, and `level` is a whole number;
--   10 each place of `fresh` stands in `basis` too; 11 there are no other keys, in the object and in the sets
--   certificate_in bytes         how the bytes read
--   reason_line r                the line of a certificate that is rejected
--   verdict_line c               what `check` prints of a certificate
--   check_text bytes             the line that `check` prints
use Rattle.std.specs.Prelude.{ℕ, nat_lt, if◌then◌else◌, List, [], ◌++◌, codes, decimal, Option, Some, None, Bool, true, false, not, nat_le, ◌==◌, ◌&&◌, ◌||◌, length, map, find, is_some, unwrap_or, option_map, option_and_then}
use Rattle.lc_formats.specs.Certificate.{Certificate, Reason, reason_number, reason_values, Verdict, accepted, rejected, verdict, SetClaim, Proof, scan, levels, not_json, shape, limit}
use Rattle.lc_formats.specs.Text.{line, with_values, same_bytes}
use Rattle.std.specs.List.{list_all}
use Rattle.serde_json.specs.Data.{Data, Members}
use Rattle.serde_json.specs.Find.{get_member, as_str, as_array, as_object}
use Rattle.lc_algebra.specs.declared.FieldName.{FieldName}
use Rattle.lc_algebra.specs.Field.{size, is_symbol}
use Rattle.lc_constructions.specs.Cyclic.{all_fields}
use Rattle.lc_constructions.specs.Code.{longest}
use Rattle.lc_constructions.specs.Refusals.{is_rising, columns_of, are_elements}
use Rattle.lc_enumeration.specs.InformationSet.{is_member}
use Rattle.lc_formats.specs.Json.{listed, each, number_at, member_count, json_in, numbers_of, list_at, provided}

unfoldable pub reason_line : Reason → List ℕ
reason_line r = line (codes "rejected " ++ decimal (reason_number r) ++ with_values (reason_values r))

unfoldable pub line_of_verdict : ℕ → Verdict → List ℕ
line_of_verdict d accepted = line (codes "accepted distance " ++ decimal d)
line_of_verdict d (rejected r) = reason_line r

unfoldable pub verdict_line : Certificate → List ℕ
verdict_line c = line_of_verdict c.distance (verdict c)

pub data CertificateRead : Type 0 where
  reads_as : Certificate → CertificateRead
  refused_as : Reason → CertificateRead

unfoldable pub rows_at : Members → Option (List (List ℕ))
rows_at ms = option_and_then (λ ds. each (map numbers_of (listed ds))) (option_and_then as_array (get_member (codes "rows") ms))

unfoldable pub field_at : Members → Option FieldName
field_at ms = option_and_then (λ q. find (λ f. (size f == q) && is_symbol f) all_fields) (number_at (codes "field") ms)

unfoldable pub fit : FieldName → ℕ → List ℕ → Bool
fit f n row = (length row == n) && are_elements f row

unfoldable pub are_rows : FieldName → List (List ℕ) → Bool
are_rows f rows = nat_le 1 (columns_of rows) && list_all (fit f (columns_of rows)) rows

unfoldable pub is_scan : List ℕ → Option Bool
is_scan text = (if same_bytes text (codes "scan") then Some true else (if same_bytes text (codes "levels") then Some false else None))

unfoldable pub are_places : ℕ → List ℕ → Bool
are_places n places = is_rising places && list_all (λ place. nat_lt place n) places

-- a set of the certificate, by rule 9
unfoldable pub claim_in : ℕ → Members → Option SetClaim
claim_in n ms = option_and_then (λ basis. option_and_then (λ fresh. option_map (λ level. record { basis = basis; fresh = fresh; level = level }) (number_at (codes "level") ms)) (provided (are_places n) (list_at (codes "fresh") ms))) (provided (are_places n) (list_at (codes "basis") ms))

unfoldable pub sets_at : Members → Option (List Members)
sets_at ms = provided (λ sets. nat_le 1 (length sets)) (option_and_then (λ ds. each (map as_object (listed ds))) (option_and_then as_array (get_member (codes "sets") ms)))

unfoldable pub fresh_in_basis : SetClaim → Bool
fresh_in_basis claim = list_all (is_member claim.basis) claim.fresh

unfoldable pub above : ℕ → Bool
above n = nat_lt longest n

unfoldable pub certificate_over : FieldName → List (List ℕ) → List ℕ → ℕ → Proof → Certificate
certificate_over f rows word distance proof = record { field = f; rows = rows; word = word; distance = distance; proof = proof }

unfoldable pub levels_in : (Proof → Certificate) → Option (List SetClaim) → CertificateRead
levels_in make None = refused_as (shape 9)
levels_in make (Some claims) = (if list_all fresh_in_basis claims then reads_as (make (levels claims)) else refused_as (shape 10))

unfoldable pub sets_in : ℕ → (Proof → Certificate) → Option (List Members) → CertificateRead
sets_in n make None = refused_as (shape 8)
sets_in n make (Some sets) = levels_in make (each (map (claim_in n) sets))

unfoldable pub way_in : Members → ℕ → (Proof → Certificate) → Option Bool → CertificateRead
way_in ms n make None = refused_as (shape 7)
way_in ms n make (Some true) = (if is_some (get_member (codes "sets") ms) then refused_as (shape 8) else reads_as (make scan))
way_in ms n make (Some false) = sets_in n make (sets_at ms)

unfoldable pub distance_in : Members → ℕ → (ℕ → Proof → Certificate) → Option ℕ → CertificateRead
distance_in ms n make None = refused_as (shape 6)
distance_in ms n make (Some d) = way_in ms n (make d) (option_and_then is_scan (option_and_then as_str (get_member (codes "by") ms)))

unfoldable pub word_in : Members → FieldName → List (List ℕ) → Option (List ℕ) → CertificateRead
word_in ms f rows None = refused_as (shape 5)
word_in ms f rows (Some w) = distance_in ms (length w) (certificate_over f rows w) (provided (nat_le 1) (number_at (codes "distance") ms))

unfoldable pub rows_in : Members → FieldName → Option (List (List ℕ)) → CertificateRead
rows_in ms f None = refused_as (shape 4)
rows_in ms f (Some rows) = word_in ms f rows (provided (fit f (columns_of rows)) (list_at (codes "word") ms))

-- the rules 4 to 10
unfoldable pub parts_in : Members → FieldName → CertificateRead
parts_in ms f = rows_in ms f (provided (are_rows f) (rows_at ms))

-- a certificate has six keys, and `sets` for a proof by levels; each set has three
unfoldable pub key_count : Proof → ℕ
key_count scan = 6
key_count (levels _) = 7

unfoldable pub are_set_keys : Members → Bool
are_set_keys ms = list_all (λ s. member_count s == 3) (unwrap_or (sets_at ms) [])

unfoldable pub set_total : Proof → ℕ
set_total scan = 0
set_total (levels claims) = length claims

unfoldable pub is_beyond_limit : Certificate → Bool
is_beyond_limit c = above (length c.word) || (above (length c.rows) || above (set_total c.proof))

-- rule 11 and the limits
unfoldable pub closed : Members → CertificateRead → CertificateRead
closed ms (refused_as r) = refused_as r
closed ms (reads_as c) =
    if not ((member_count ms == key_count c.proof) && are_set_keys ms) then refused_as (shape 11) else
    if is_beyond_limit c then refused_as limit else reads_as c

unfoldable pub field_in : Members → Option FieldName → CertificateRead
field_in ms None = refused_as (shape 3)
field_in ms (Some f) = parts_in ms f

unfoldable pub is_version : ℕ → Members → Bool
is_version n ms = is_some (provided (λ v. v == n) (number_at (codes "version") ms))

unfoldable pub object_in : Option Members → CertificateRead
object_in None = refused_as (shape 1)
object_in (Some ms) = (if is_version 1 ms then closed ms (field_in ms (field_at ms)) else refused_as (shape 2))

unfoldable pub data_in : Option Data → CertificateRead
data_in None = refused_as not_json
data_in (Some d) = object_in (as_object d)

unfoldable pub certificate_in : List ℕ → CertificateRead
certificate_in bytes = data_in (json_in bytes)

unfoldable pub verdict_of : CertificateRead → Verdict
verdict_of (reads_as c) = verdict c
verdict_of (refused_as r) = rejected r

unfoldable pub distance_of : CertificateRead → ℕ
distance_of (reads_as c) = c.distance
distance_of (refused_as r) = 0

unfoldable pub check_text : List ℕ → List ℕ
check_text bytes = line_of_verdict (distance_of (certificate_in bytes)) (verdict_of (certificate_in bytes))
