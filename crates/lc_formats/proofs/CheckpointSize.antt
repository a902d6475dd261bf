-- A checkpoint of fewer than 70,000 settled needs has a text that isn't too long.
--   escape_short               what stands for a byte in a string has at most six bytes
--   member_length              the length of an object's text, member by member
--   settled_length, list_length      the text of a settled need has at most 36 bytes, and the list of them a comma more for each
--   text_fits                  the whole text
use Rattle.std.proofs.Common.{◌≡◌, ℕ, ◌+◌, ◌*◌, ◌^◌, ◌<◌, ◌≤◌, ◌⊎◌, Bool, true, false, cond, nat_lt, ◌/◌, ◌%◌, List, [], ◌∷◌, ◌++◌, map, length, codes, All, decimal, inl, inr, arith}
use Rattle.std.proofs.lemmas.List.{length-append}
use Rattle.std.proofs.lemmas.List.Elements.{All-head, All-tail}
use Rattle.std.specs.Char.{digit_char}
use Rattle.std.proofs.lemmas.Fmt.{length-decimal-le}
use Rattle.sha2.specs.Sha256.{sha256}
use Rattle.hex.specs.Hex.{encode_lower, lower_digits}
use Rattle.hex.proofs.HexLemmas.{length-encode_with}
use Rattle.json.specs.Print.{escape_letter, escape_byte, escape, quoted}
use Rattle.serde_json.specs.Data.{Data, Members, member, no_members, array, string}
use Rattle.serde_json.specs.Written.{compact_text, items_text, members_text, comma_if}
use Rattle.lc_enumeration.specs.Records.{Progress}
use Rattle.lc_formats.specs.Json.{number_json, items, numbers_json}
use Rattle.lc_formats.specs.Checkpoint.{Checkpoint, current_of, settled_json, body_members, body_of, sealed, checkpoint_text, IsProgress, IsInRange}
use Rattle.lc_formats.proofs.CheckpointBack.{seal_length}

short_either : (b : Bool) (xs ys : List ℕ) (m : ℕ) → length xs ≤ m → length ys ≤ m → length (cond b xs ys) ≤ m
short_either true xs ys m h k = h
short_either false xs ys m h k = k

one : (a : ℕ) → length (a ∷ []) ≤ 6
one a = omega arith

two : (a b : ℕ) → length (a ∷ b ∷ []) ≤ 6
two a b = omega arith

six : (a b c d e f : ℕ) → length (a ∷ b ∷ c ∷ d ∷ e ∷ f ∷ []) ≤ 6
six a b c d e f = omega arith

byte_short : (x : ℕ) → length (escape_byte x) ≤ 6
unfolding escape_byte
byte_short x =
    let wide = 92 ∷ 117 ∷ 48 ∷ 48 ∷ digit_char (x / 16) ∷ digit_char (x % 16) ∷ [] in
    short_either (nat_lt 0 (escape_letter x)) (92 ∷ escape_letter x ∷ []) (cond (nat_lt x 32) wide (x ∷ [])) 6 (two 92 (escape_letter x))
    (short_either (nat_lt x 32) wide (x ∷ []) 6 (six 92 117 48 48 (digit_char (x / 16)) (digit_char (x % 16))) (one x))

pub escape_short : (s : List ℕ) → length (escape s) ≤ 6 * length s
escape_short [] = omega arith
escape_short (x ∷ s) = omega (arith, length-append (escape_byte x) (escape s), byte_short x, escape_short s)

quoted_short : (s : List ℕ) → length (quoted s) ≤ 6 * length s + 2
quoted_short s = omega (arith, length-append (escape s) (34 ∷ []), escape_short s)

comma_short : (later : Bool) → length (comma_if later) ≤ 1
comma_short true = omega arith
comma_short false = omega arith

pub member_length : (later : Bool) (k : List ℕ) (d : Data) (ms : Members) → length (members_text later (member k d ms)) ≤ 6 * length k + 4 + length (compact_text d) + length (members_text true ms)
member_length later k d ms =
    omega (arith, length-append (comma_if later) (quoted k ++ 58 ∷ (compact_text d ++ members_text true ms)), comma_short later, length-append (quoted k) (58 ∷ (compact_text d ++ members_text true ms)), quoted_short k, length-append (compact_text d) (members_text true ms))

pub settled_length : (budget : ℕ) (s : Progress) → budget ≤ 2 ^ 40 → IsProgress budget s → length (compact_text (settled_json s)) ≤ 36
unfolding settled_json numbers_json number_json items
settled_length budget s small h =
    let b = decimal s.blocks in
    let w = decimal s.weight in
    let p = decimal s.place in
    omega (
      arith,
      length-append b (44 ∷ (w ++ 44 ∷ (p ++ 93 ∷ []))),
      length-append w (44 ∷ (p ++ 93 ∷ [])),
      length-append p (93 ∷ []),
      length-decimal-le 13 s.blocks (omega arith) (omega (arith, small, h.done)) (omega (arith, small, h.done)),
      length-decimal-le 3 s.weight (omega arith) (omega (arith, h.light)) (omega (arith, h.light)),
      length-decimal-le 16 s.place (omega arith) (omega (arith, h.near)) (omega (arith, h.near)),
    )

pub list_length : (later : Bool) (budget : ℕ) (settled : List Progress) → budget ≤ 2 ^ 40 → All (IsProgress budget) settled → length (items_text later (items (map settled_json settled))) ≤ 37 * length settled + 1
unfolding items
list_length later budget [] small a = omega arith
list_length later budget (s ∷ settled) small a =
    omega (
      arith,
      length-append (comma_if later) (compact_text (settled_json s) ++ items_text true (items (map settled_json settled))),
      comma_short later,
      length-append (compact_text (settled_json s)) (items_text true (items (map settled_json settled))),
      settled_length budget s small (All-head (IsProgress budget) s settled a),
      list_length true budget settled small (All-tail (IsProgress budget) s settled a),
    )

version_length : (v : ℕ) → (v ≡ 1) ⊎ (v ≡ 2) → length (decimal v) ≤ 1
version_length v (inl e) = length-decimal-le 1 v (omega arith) (omega (arith, e)) (omega (arith, e))
version_length v (inr e) = length-decimal-le 1 v (omega arith) (omega (arith, e)) (omega (arith, e))

body_length : (p : Checkpoint) → IsInRange p → length (body_of p) ≤ 37 * length p.settled + 1000
unfolding body_of body_members number_json current_of
body_length p h =
    let weight = member (codes "weight") (number_json p.weight) no_members in
    let version = member (codes "version") (number_json p.version) weight in
    let turn = member (codes "turn") (number_json p.turn) version in
    let script = member (codes "script") (string (encode_lower p.script)) turn in
    let place = member (codes "place") (number_json p.place) script in
    let done = member (codes "done") (array (items (map settled_json p.settled))) place in
    let budget = member (codes "budget") (number_json p.budget) done in
    omega (
      arith,
      member_length false (codes "blocks") (number_json p.blocks) budget,
      length-decimal-le 13 p.blocks (omega arith) (omega (arith, h.small, h.current.done)) (omega (arith, h.small, h.current.done)),
      member_length true (codes "budget") (number_json p.budget) done,
      length-decimal-le 13 p.budget (omega arith) (omega (arith, h.small)) (omega (arith, h.small)),
      member_length true (codes "done") (array (items (map settled_json p.settled))) place,
      list_length false p.budget p.settled h.small h.records,
      member_length true (codes "place") (number_json p.place) script,
      length-decimal-le 16 p.place (omega arith) (omega (arith, h.current.near)) (omega (arith, h.current.near)),
      member_length true (codes "script") (string (encode_lower p.script)) turn,
      quoted_short (encode_lower p.script),
      length-encode_with lower_digits p.script,
      h.digest,
      member_length true (codes "turn") (number_json p.turn) version,
      length-decimal-le 19 p.turn (omega arith) (omega (arith, h.early)) (omega (arith, h.early)),
      member_length true (codes "version") (number_json p.version) weight,
      version_length p.version h.known,
      member_length true (codes "weight") (number_json p.weight) no_members,
      length-decimal-le 3 p.weight (omega arith) (omega (arith, h.current.light)) (omega (arith, h.current.light)),
    )

pub text_fits : (p : Checkpoint) → IsInRange p → length p.settled < 70000 → length (checkpoint_text p) ≤ 4194304
unfolding checkpoint_text sealed
text_fits p h few = omega (arith, length-append (encode_lower (sha256 (body_of p))) (10 ∷ body_of p), seal_length (body_of p), body_length p h, few)
