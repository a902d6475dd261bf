-- A checkpoint in range is read back from its text.
--   same_itself              a text is the same as itself
--   hex_is_ascii             hexadecimal digits are ASCII
--   digest_back              32 bytes are read back from their digits
--   numbers_up_to            a number within its range is let through
--   settled_back, done_back  the records of settled needs are read back
--   body_plain               the body's value is a plain one
--   state_back               the members of a body read as the checkpoint
--   sealed_is_whole, body_is_back      a sealed body that isn't too long is whole, and follows the seal
--   checkpoint_back          the text of a checkpoint in range reads as the checkpoint
--   longer_is_damaged        of bytes that are too long it is enough to read one more than are allowed
use Rattle.std.proofs.Common.{◌≡◌, ℕ, zero, suc, ◌+◌, ◌-◌, ◌/◌, ◌%◌, ◌^◌, ◌<◌, ◌≤◌, ◌⊎◌, inl, inr, true, nat_le, nat_lt, ◌==◌, ◌&&◌, ◌||◌, if◌then◌else◌, List, [], ◌∷◌, ◌++◌, map, length, take, drop, slice_index, Some, option_and_then, refl, sym, ap, ◌∙◌, ⊎_elim, arith}
use Rattle.std.specs.Prelude.{codes}
use Rattle.std.specs.Result.{result_ok}
use Rattle.std.proofs.Math.Seq.{drop-append-add}
use Rattle.std.proofs.Math.Bool.{and-false}
use Rattle.std.proofs.lemmas.Bool.{and_from, le-leb, lt-leb, lt-ltb, eq-eqb, cases_lt, and_parts}
use Rattle.std.proofs.lemmas.List.{length-map, length-append, length-take-le, take_all}
use Rattle.sha2.specs.Sha256.{sha256}
use Rattle.sha2.proofs.Facts256.{length-sha256}
use Rattle.hex.specs.Hex.{encode_lower, encode_with, lower_digits, IsBytes}
use Rattle.hex.proofs.HexLemmas.{length-encode_with, decode_of-encode_lower}
use Rattle.json.proofs.Printed.Utf8.{are_ascii}
use Rattle.serde_json.specs.Data.{Members, object, depth}
use Rattle.lc_enumeration.specs.Records.{Progress}
use Rattle.lc_formats.specs.Text.{same_bytes}
use Rattle.lc_formats.specs.Json.{number_json, items, numbers_json, number_at, each, provided, member_count, json_in}
use Rattle.lc_formats.specs.Checkpoint.{Checkpoint, current_of, settled_json, body_members, body_of, sealed, checkpoint_text, IsProgress, IsInRange, point, refused, damaged, other_version, is_whole, number_up_to, triple_of, is_in_range, settled_in, digest_in, script_in, done_in, state_in, point_or_shape, versioned, body_in, checkpoint_in}
use Rattle.lc_formats.proofs.JsonLaws.{IsPlain, plain_items, items_shallow, numbers_shallow, listed_items, each_back, numbers_back, json_back}
use Rattle.lc_formats.proofs.CertificateBack.{mapped_all, provided_some}

pub same_itself : (text : List ℕ) → same_bytes text text ≡ true
unfolding same_bytes
same_itself [] = refl
same_itself (a ∷ text) = and_from (a == a) (same_bytes text text) (eq-eqb a a refl) (same_itself text)

digit_below : (digits : List ℕ) → are_ascii digits ≡ true → (i : ℕ) → nat_lt (slice_index digits i) 128 ≡ true
digit_below [] e i = refl
digit_below (d ∷ digits) e zero = (and_parts (nat_lt d 128) (are_ascii digits) e).0
digit_below (d ∷ digits) e (suc i) = digit_below digits (and_parts (nat_lt d 128) (are_ascii digits) e).1 i

pub hex_is_ascii : (bytes : List ℕ) → are_ascii (encode_lower bytes) ≡ true
unfolding encode_with
hex_is_ascii [] = refl
hex_is_ascii (b ∷ bytes) = and_from _ _ (digit_below lower_digits refl (b / 16)) (and_from _ _ (digit_below lower_digits refl (b % 16)) (hex_is_ascii bytes))

pub digest_back : (bytes : List ℕ) → length bytes ≡ 32 → IsBytes bytes → digest_in (encode_lower bytes) ≡ Some bytes
unfolding digest_in
digest_back bytes l h =
    let test = λ (read : List ℕ). (length read == 32) && same_bytes (encode_lower bytes) (encode_lower read) in
    ap (λ r. provided test (result_ok r)) (decode_of-encode_lower bytes h)
    ∙ provided_some test bytes (and_from (length bytes == 32) (same_bytes (encode_lower bytes) (encode_lower bytes)) (eq-eqb (length bytes) 32 l) (same_itself (encode_lower bytes)))

pub numbers_up_to : (low high n : ℕ) → low ≤ n → n ≤ high → number_up_to low high (Some n) ≡ Some n
unfolding number_up_to
numbers_up_to low high n l m = provided_some (λ k. nat_le low k && nat_le k high) n (and_from (nat_le low n) (nat_le n high) (le-leb low n l) (le-leb n high m))

pub settled_back : (budget : ℕ) (s : Progress) → IsProgress budget s → settled_in budget (settled_json s) ≡ Some s
unfolding settled_in settled_json triple_of is_in_range
settled_back budget s h =
    ap (λ o. provided (is_in_range budget) (option_and_then triple_of o)) (numbers_back (s.blocks ∷ s.weight ∷ s.place ∷ []))
    ∙ provided_some (is_in_range budget) s (and_from _ _ (le-leb s.blocks budget h.done) (and_from _ _ (le-leb 1 s.weight h.nonzero) (and_from _ _ (le-leb s.weight 255 h.light) (lt-ltb s.place (2 ^ 52) h.near))))

pub done_back : (p : Checkpoint) → IsInRange p → done_in p.budget (body_members p) ≡ Some p.settled
unfolding done_in body_members
done_back p h =
    ap (λ ds. option_and_then (λ ds. each (map (settled_in p.budget) ds)) (provided (λ ds. nat_le (length ds) 131072) (Some ds))) (listed_items (map settled_json p.settled))
    ∙ ap (option_and_then (λ ds. each (map (settled_in p.budget) ds))) (provided_some (λ ds. nat_le (length ds) 131072) (map settled_json p.settled) (le-leb _ 131072 (omega (arith, length-map p.settled settled_json, h.few))))
    ∙ each_back settled_json (settled_in p.budget) p.settled (λ k d l. settled_back p.budget _ (h.records k d l))

small_settled : (budget : ℕ) (s : Progress) → budget ≤ 2 ^ 40 → IsProgress budget s → IsPlain (settled_json s)
unfolding settled_json numbers_json number_json items
small_settled budget s small h = (omega (arith, small, h.done), (omega (arith, h.light), (omega (arith, h.near), tt)))

version_small : (v : ℕ) → (v ≡ 1) ⊎ (v ≡ 2) → v < 2 ^ 64
version_small v (inl e) = omega (arith, e)
version_small v (inr e) = omega (arith, e)

pub body_plain : (p : Checkpoint) → IsInRange p → IsPlain (object (body_members p))
unfolding body_members number_json current_of
body_plain p h =
    let records = plain_items (map settled_json p.settled) (mapped_all settled_json IsPlain p.settled (λ k d l. small_settled p.budget _ h.small (h.records k d l))) in
    ((refl, omega (arith, h.current.done, h.small), (refl, omega (arith, h.small), (refl, records, (refl, omega (arith, h.current.near), (refl, hex_is_ascii p.script, (refl, omega (arith, h.early), (refl, version_small p.version h.known, (refl, omega (arith, h.current.light), tt)))))))), (tt, ((refl, tt), ((refl, (refl, tt)), ((refl, (refl, (refl, tt))), ((refl, (refl, (refl, (refl, tt)))), ((refl, (refl, (refl, (refl, (refl, tt))))), ((refl, (refl, (refl, (refl, (refl, (refl, tt)))))), ((refl, (refl, (refl, (refl, (refl, (refl, (refl, tt))))))), tt)))))))))

body_shallow : (p : Checkpoint) → depth (object (body_members p)) ≤ 3
unfolding body_members number_json settled_json
body_shallow p = omega (arith, items_shallow 1 (map settled_json p.settled) (mapped_all settled_json (λ d. depth d ≤ 1) p.settled (λ k d l. numbers_shallow _)))

state_made : (ms : Members) (version budget : ℕ) (p : Checkpoint) → p ≡ record { version = version; script = p.script; budget = budget; turn = p.turn; settled = p.settled; blocks = p.blocks; weight = p.weight; place = p.place } → (member_count ms == 8) ≡ true → script_in ms ≡ Some p.script → number_up_to 0 (2 ^ 60) (number_at (codes "turn") ms) ≡ Some p.turn → done_in budget ms ≡ Some p.settled → number_up_to 0 budget (number_at (codes "blocks") ms) ≡ Some p.blocks → number_up_to 1 255 (number_at (codes "weight") ms) ≡ Some p.weight → number_up_to 0 (2 ^ 52 - 1) (number_at (codes "place") ms) ≡ Some p.place → state_in ms version budget ≡ Some p
unfolding state_in
state_made ms version budget p whole keys script turn settled blocks weight place = rw keys (rw script (rw turn (rw settled (rw blocks (rw weight (rw place (ap Some (sym whole))))))))

pub state_back : (p : Checkpoint) → IsInRange p → state_in (body_members p) p.version p.budget ≡ Some p
unfolding body_members number_at number_json script_in member_count current_of
state_back p h = state_made (body_members p) p.version p.budget p refl refl
    (digest_back p.script h.digest h.bytes)
    (numbers_up_to 0 (2 ^ 60) p.turn (omega arith) h.early)
    (done_back p h)
    (numbers_up_to 0 p.budget p.blocks (omega arith) h.current.done)
    (numbers_up_to 1 255 p.weight h.current.nonzero h.current.light)
    (numbers_up_to 0 (2 ^ 52 - 1) p.place (omega arith) (omega (arith, h.current.near)))

version_is_read : (v : ℕ) → (v ≡ 1) ⊎ (v ≡ 2) → ((v == 1) || (v == 2)) ≡ true
version_is_read v (inl e) = rw e refl
version_is_read v (inr e) = rw e refl

body_back : (p : Checkpoint) → IsInRange p → body_in (Some (object (body_members p))) ≡ point p
unfolding body_in versioned body_members number_at number_json point_or_shape
body_back p h =
    ap (λ b. if b then point_or_shape (option_and_then (state_in (body_members p) p.version) (number_up_to 0 (2 ^ 40) (Some p.budget))) else refused (other_version p.version)) (version_is_read p.version h.known)
    ∙ ap (λ o. point_or_shape (option_and_then (state_in (body_members p) p.version) o)) (numbers_up_to 0 (2 ^ 40) p.budget (omega arith) h.small)
    ∙ ap point_or_shape (state_back p h)

pub seal_length : (body : List ℕ) → length (encode_lower (sha256 body)) ≡ 64
seal_length body = omega (arith, length-encode_with lower_digits (sha256 body), length-sha256 body)

long : (body : List ℕ) → 65 ≤ length (sealed body)
unfolding sealed
long body = omega (arith, length-append (encode_lower (sha256 body)) (10 ∷ body), seal_length body)

pub body_is_back : (body : List ℕ) → drop 65 (sealed body) ≡ body
unfolding sealed
body_is_back body =
    let seam : 65 ≡ length (encode_lower (sha256 body)) + 1 = omega (arith, seal_length body) in
    ap (λ n. drop n (encode_lower (sha256 body) ++ 10 ∷ body)) seam ∙ drop-append-add (encode_lower (sha256 body)) (10 ∷ body) 1

pub sealed_is_whole : (body : List ℕ) → length (sealed body) ≤ 4194304 → is_whole (sealed body) ≡ true
unfolding is_whole
sealed_is_whole body short =
    and_from _ _ (le-leb 65 (length (sealed body)) (long body))
    (and_from _ _ (le-leb (length (sealed body)) 4194304 short)
    (ap (λ rest. same_bytes (sealed body) (sealed rest)) (body_is_back body) ∙ same_itself (sealed body)))

pub checkpoint_back : (p : Checkpoint) → IsInRange p → length (checkpoint_text p) ≤ 4194304 → checkpoint_in (checkpoint_text p) ≡ point p
unfolding checkpoint_in checkpoint_text body_of
checkpoint_back p h short =
    ap (λ b. if b then body_in (json_in (drop 65 (sealed (body_of p)))) else refused damaged) (sealed_is_whole (body_of p) short)
    ∙ ap (λ body. body_in (json_in body)) (body_is_back (body_of p))
    ∙ ap body_in (json_back (object (body_members p)) (body_plain p h) (omega (arith, body_shallow p)))
    ∙ body_back p h

pub too_long : (bytes : List ℕ) → 4194304 < length bytes → checkpoint_in bytes ≡ refused damaged
unfolding checkpoint_in is_whole
too_long bytes l = ap (λ b. if nat_le 65 (length bytes) && (b && same_bytes bytes (sealed (drop 65 bytes))) then body_in (json_in (drop 65 bytes)) else refused damaged) (lt-leb (length bytes) 4194304 l) ∙ ap (λ b. if b then body_in (json_in (drop 65 bytes)) else refused damaged) (and-false (nat_le 65 (length bytes)))

pub longer_is_damaged : (bytes : List ℕ) → checkpoint_in (take 4194305 bytes) ≡ checkpoint_in bytes
longer_is_damaged bytes =
    ⊎_elim
    (λ l. too_long (take 4194305 bytes) (omega (arith, length-take-le 4194305 bytes (omega (arith, l)))) ∙ sym (too_long bytes l))
    (λ l. ap checkpoint_in (take_all 4194305 bytes (omega (arith, l))))
    (cases_lt 4194304 (length bytes))
