-- A line that was read is in range.
--   facts_ranged, part_ranged    what the plan and the bound are made of is, and the part is
--   members_ranged .. body_ranged      the parts of the reading, from its end on
--   line_ranged                a line that bytes read as is in range
use Rattle.std.proofs.Common.{◌≡◌, ℕ, ◌+◌, ◌-◌, ◌^◌, ◌≤◌, Bool, true, false, not, nat_le, ◌==◌, ◌&&◌, if◌then◌else◌, List, length, drop, codes, Option, Some, None, is_some, option_map, option_and_then, ap, arith}
use Rattle.std.specs.Prelude.{Result, Ok, Err}
use Rattle.std.specs.Result.{result_ok}
use Rattle.std.proofs.lemmas.Bool.{and_parts, leb-true, eqb-true}
use Rattle.std.proofs.lemmas.Option.{option_and_then_some}
use Rattle.hex.specs.Hex.{encode_lower, decode_of, IsBytes}
use Rattle.hex.proofs.HexLemmas.{decode_of-ok}
use Rattle.serde_json.specs.Data.{Data, Members, null, boolean, number, string, array, object}
use Rattle.serde_json.specs.Find.{get_member, as_str}
use Rattle.lc_formats.specs.Text.{same_bytes}
use Rattle.lc_formats.specs.Json.{number_at, list_at, member_count, json_in}
use Rattle.lc_formats.specs.Document.{symbol_field}
use Rattle.lc_formats.specs.Checkpoint.{damaged, other_version, number_up_to, digest_in, script_in}
use Rattle.lc_formats.proofs.ReadLaws.{provided_inside}
use Rattle.lc_parts.specs.Part.{Part, Facts}
use Rattle.lc_part_lines.specs.Line.{PartLine, are_ranks, AreFacts, IsPart, IsInRange, ReadLine, line_is, refused, is_headed, size_in, facts_from, facts_at, part_from, part_at, line_from, line_in, line_or_shape, versioned, body_in, part_in}

number_ranged : (low high : ℕ) (o : Option ℕ) (n : ℕ) → number_up_to low high o ≡ Some n → (low ≤ n) × (n ≤ high)
unfolding number_up_to
number_ranged low high o n e =
    let s = and_parts (nat_le low n) (nat_le n high) (provided_inside (λ k. nat_le low k && nat_le k high) o n e).passes in
    (leb-true low n s.0, leb-true n high s.1)

was_ok : {E : Type 0} (r : Result (List ℕ) E) (bytes : List ℕ) → result_ok r ≡ Some bytes → r ≡ Ok bytes
was_ok (Ok found) bytes e = cc
was_ok (Err x) bytes e = absurd cc

digest_ranged : (digits bytes : List ℕ) → digest_in digits ≡ Some bytes → (length bytes ≡ 32) × IsBytes bytes
unfolding digest_in
digest_ranged digits bytes e =
    let p = provided_inside (λ read. (length read == 32) && same_bytes digits (encode_lower read)) (result_ok (decode_of digits)) bytes e in
    (eqb-true (length bytes) 32 (and_parts (length bytes == 32) (same_bytes digits (encode_lower bytes)) p.passes).0, (decode_of-ok digits bytes (was_ok (decode_of digits) bytes p.there)).3)

script_ranged : (ms : Members) (bytes : List ℕ) → script_in ms ≡ Some bytes → (length bytes ≡ 32) × IsBytes bytes
unfolding script_in
script_ranged ms bytes e = option_and_then_some digest_in (option_and_then as_str (get_member (codes "script") ms)) bytes e (λ digits one rest. digest_ranged digits bytes rest)

record WereFacts (k q divisor first : Option ℕ) (ranks : Option (List ℕ)) (f : Facts) : Type 0 where
  k_is : k ≡ Some f.k
  q_is : q ≡ Some f.q
  divisor_is : divisor ≡ Some f.divisor
  first_is : first ≡ Some f.first

were_facts : (k q divisor first : Option ℕ) (ranks : Option (List ℕ)) (f : Facts) → facts_from k q divisor first ranks ≡ Some f → WereFacts k q divisor first ranks f
unfolding facts_from
were_facts None q divisor first ranks f e = absurd cc
were_facts (Some k) None divisor first ranks f e = absurd cc
were_facts (Some k) (Some q) None first ranks f e = absurd cc
were_facts (Some k) (Some q) (Some divisor) None ranks f e = absurd cc
were_facts (Some k) (Some q) (Some divisor) (Some first) None f e = absurd cc
were_facts (Some k) (Some q) (Some divisor) (Some first) (Some ranks) f e = record {
  k_is = ap (option_map (λ (f : Facts). f.k)) e;
  q_is = ap (option_map (λ (f : Facts). f.q)) e;
  divisor_is = ap (option_map (λ (f : Facts). f.divisor)) e;
  first_is = ap (option_map (λ (f : Facts). f.first)) e;
}

pub facts_ranged : (ms : Members) (f : Facts) → facts_at ms ≡ Some f → AreFacts f
unfolding facts_at size_in
facts_ranged ms f e =
    let p = provided_inside (λ f. are_ranks f.k f.ranks) (facts_from (number_up_to 1 255 (number_at (codes "k") ms)) (size_in ms) (number_up_to 1 255 (number_at (codes "divisor") ms)) (number_up_to 1 255 (number_at (codes "first") ms)) (list_at (codes "ranks") ms)) f e in
    let were = were_facts _ _ _ _ _ f p.there in
    let k = number_ranged 1 255 (number_at (codes "k") ms) f.k were.k_is in
    let divisor = number_ranged 1 255 (number_at (codes "divisor") ms) f.divisor were.divisor_is in
    let first = number_ranged 1 255 (number_at (codes "first") ms) f.first were.first_is in
    record {
      some = k.0;
      few = k.1;
      field = (provided_inside (λ q. is_some (symbol_field q)) (number_at (codes "q") ms) f.q were.q_is).passes;
      ranks = p.passes;
      divides = divisor.0;
      small = divisor.1;
      nonzero = first.0;
      light = first.1;
    }

record WasPart (start count weight place : Option ℕ) (p : Part) : Type 0 where
  count_is : count ≡ Some p.count
  weight_is : weight ≡ Some p.weight
  place_is : place ≡ Some p.place

was_part : (start count weight place : Option ℕ) (p : Part) → part_from start count weight place ≡ Some p → WasPart start count weight place p
unfolding part_from
was_part None count weight place p e = absurd cc
was_part (Some start) None weight place p e = absurd cc
was_part (Some start) (Some count) None place p e = absurd cc
was_part (Some start) (Some count) (Some weight) None p e = absurd cc
was_part (Some start) (Some count) (Some weight) (Some place) p e = record {
  count_is = ap (option_map (λ (p : Part). p.count)) e;
  weight_is = ap (option_map (λ (p : Part). p.weight)) e;
  place_is = ap (option_map (λ (p : Part). p.place)) e;
}

pub part_ranged : (ms : Members) (p : Part) → part_at ms ≡ Some p → IsPart p
unfolding part_at
part_ranged ms p e =
    let s = provided_inside (λ p. nat_le (p.start + p.count) (2 ^ 40)) (part_from (number_up_to 0 (2 ^ 40) (number_at (codes "from") ms)) (number_up_to 1 (2 ^ 40) (number_at (codes "count") ms)) (number_up_to 1 255 (number_at (codes "weight") ms)) (number_up_to 0 (2 ^ 52 - 1) (number_at (codes "place") ms))) p e in
    let was = was_part _ _ _ _ p s.there in
    let weight = number_ranged 1 255 (number_at (codes "weight") ms) p.weight was.weight_is in
    record {
      some = (number_ranged 1 (2 ^ 40) (number_at (codes "count") ms) p.count was.count_is).0;
      inside = leb-true (p.start + p.count) (2 ^ 40) s.passes;
      nonzero = weight.0;
      light = weight.1;
      near = omega (arith, (number_ranged 0 (2 ^ 52 - 1) (number_at (codes "place") ms) p.place was.place_is).1);
    }

record WasLine (script : Option (List ℕ)) (part : Option Part) (facts : Option Facts) (l : PartLine) : Type 0 where
  script_is : script ≡ Some l.script
  part_is : part ≡ Some l.part
  facts_is : facts ≡ Some l.facts

was_line : (script : Option (List ℕ)) (part : Option Part) (facts : Option Facts) (l : PartLine) → line_from script part facts ≡ Some l → WasLine script part facts l
unfolding line_from
was_line None part facts l e = absurd cc
was_line (Some script) None facts l e = absurd cc
was_line (Some script) (Some part) None l e = absurd cc
was_line (Some script) (Some part) (Some facts) l e = record {
  script_is = ap (option_map (λ (l : PartLine). l.script)) e;
  part_is = ap (option_map (λ (l : PartLine). l.part)) e;
  facts_is = ap (option_map (λ (l : PartLine). l.facts)) e;
}

unless : (b : Bool) (o : Option PartLine) (l : PartLine) → (if b then None else o) ≡ Some l → o ≡ Some l
unless true o l e = absurd cc
unless false o l e = e

pub members_ranged : (ms : Members) (l : PartLine) → line_in ms ≡ Some l → IsInRange l
unfolding line_in
members_ranged ms l e =
    let was = was_line (script_in ms) (part_at ms) (facts_at ms) l (unless (not (member_count ms == 11)) _ l e) in
    let digest = script_ranged ms l.script was.script_is in
    record { digest = digest.0; bytes = digest.1; facts = facts_ranged ms l.facts was.facts_is; part = part_ranged ms l.part was.part_is }

known : (o : Option PartLine) (l : PartLine) → line_or_shape o ≡ line_is l → o ≡ Some l
unfolding line_or_shape
known None l e = absurd cc
known (Some m) l e = cc

read_if : (b : Bool) (x : ReadLine) (r : _) (l : PartLine) → (if b then x else refused r) ≡ line_is l → x ≡ line_is l
read_if true x r l e = e
read_if false x r l e = absurd cc

version_ranged : (ms : Members) (o : Option ℕ) (l : PartLine) → versioned ms o ≡ line_is l → IsInRange l
unfolding versioned
version_ranged ms None l e = absurd cc
version_ranged ms (Some v) l e = members_ranged ms l (known (line_in ms) l (read_if (v == 1) (line_or_shape (line_in ms)) (other_version v) l e))

pub body_ranged : (o : Option Data) (l : PartLine) → body_in o ≡ line_is l → IsInRange l
unfolding body_in
body_ranged None l e = absurd cc
body_ranged (Some null) l e = absurd cc
body_ranged (Some (boolean b)) l e = absurd cc
body_ranged (Some (number n)) l e = absurd cc
body_ranged (Some (string s)) l e = absurd cc
body_ranged (Some (array ds)) l e = absurd cc
body_ranged (Some (object ms)) l e = version_ranged ms (number_at (codes "version") ms) l e

pub line_ranged : (bytes : List ℕ) (l : PartLine) → part_in bytes ≡ line_is l → IsInRange l
unfolding part_in
line_ranged bytes l e = body_ranged (json_in (drop 65 bytes)) l (read_if (is_headed bytes) (body_in (json_in (drop 65 bytes))) damaged l e)
