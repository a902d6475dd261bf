-- A checkpoint that was read is in range.
--   number_ranged              a number that was let through is within its range
--   settled_ranged, done_ranged      the records of settled needs are
--   script_ranged              the digest has 32 bytes
--   state_ranged .. body_ranged      the parts of the reading, from its end on
--   checkpoint_ranged          a checkpoint that bytes read as is in range
use Rattle.std.proofs.Common.{◌≡◌, ℕ, ◌-◌, ◌^◌, ◌≤◌, ◌⊎◌, Bool, true, false, not, nat_le, nat_lt, ◌==◌, ◌&&◌, ◌||◌, if◌then◌else◌, List, map, length, drop, All, Option, Some, None, Result, Ok, Err, option_map, option_and_then, inl, inr, ⊎_elim, refl, subst, arith}
use Rattle.std.specs.Prelude.{⊤, codes}
use Rattle.std.specs.Result.{result_ok}
use Rattle.std.proofs.lemmas.Bool.{and_parts, leb-true, ltb-true, eqb-true, or_cases}
use Rattle.std.proofs.lemmas.Option.{option_and_then_some}
use Rattle.hex.specs.Hex.{encode_lower, decode_of, IsBytes}
use Rattle.hex.proofs.HexLemmas.{decode_of-ok}
use Rattle.serde_json.specs.Data.{Data, Members, null, boolean, number, string, array, object}
use Rattle.serde_json.specs.Find.{get_member, as_array, as_str}
use Rattle.lc_enumeration.specs.Records.{Progress}
use Rattle.lc_formats.specs.Text.{same_bytes}
use Rattle.lc_formats.specs.Json.{number_at, listed, each, numbers_of, provided, member_count, json_in}
use Rattle.lc_formats.specs.Checkpoint.{Checkpoint, current_of, IsProgress, IsInRange, ReadCheckpoint, point, refused, damaged, other_version, is_whole, number_up_to, triple_of, is_in_range, settled_in, digest_in, script_in, done_in, state_in, point_or_shape, versioned, body_in, checkpoint_in}
use Rattle.lc_formats.proofs.ReadLaws.{provided_inside, each_all, each_length}

number_ranged : (low high : ℕ) (o : Option ℕ) (n : ℕ) → number_up_to low high o ≡ Some n → (low ≤ n) × (n ≤ high)
unfolding number_up_to
number_ranged low high o n e =
    let s = and_parts (nat_le low n) (nat_le n high) (provided_inside (λ k. nat_le low k && nat_le k high) o n e).passes in
    (leb-true low n s.0, leb-true n high s.1)

settled_ranged : (budget : ℕ) (d : Data) (s : Progress) → ⊤ → settled_in budget d ≡ Some s → IsProgress budget s
unfolding settled_in is_in_range
settled_ranged budget d s t e =
    let one = and_parts (nat_le s.blocks budget) _ (provided_inside (is_in_range budget) (option_and_then triple_of (numbers_of d)) s e).passes in
    let two = and_parts (nat_le 1 s.weight) _ one.1 in
    let three = and_parts (nat_le s.weight 255) (nat_lt s.place (2 ^ 52)) two.1 in
    record { done = leb-true s.blocks budget one.0; nonzero = leb-true 1 s.weight two.0; light = leb-true s.weight 255 three.0; near = ltb-true s.place (2 ^ 52) three.1 }

done_ranged : (budget : ℕ) (ms : Members) (settled : List Progress) → done_in budget ms ≡ Some settled → (length settled ≤ 131072) × All (IsProgress budget) settled
unfolding done_in
done_ranged budget ms settled e =
    option_and_then_some (λ ds. each (map (settled_in budget) ds)) (provided (λ ds. nat_le (length ds) 131072) (option_map listed (option_and_then as_array (get_member (codes "done") ms)))) settled e (λ ds one rest.
    let few = leb-true (length ds) 131072 (provided_inside (λ ds. nat_le (length ds) 131072) (option_map listed (option_and_then as_array (get_member (codes "done") ms))) ds one).passes in
    (omega (arith, few, each_length (settled_in budget) ds settled rest), each_all (settled_in budget) (λ d. ⊤) (IsProgress budget) (settled_ranged budget) ds settled (λ k d l. tt) rest))

was_ok : {E : Type 0} (r : Result (List ℕ) E) (bytes : List ℕ) → result_ok r ≡ Some bytes → r ≡ Ok bytes
was_ok (Ok found) bytes e = cc
was_ok (Err x) bytes e = absurd cc

digest_ranged : (digits bytes : List ℕ) → digest_in digits ≡ Some bytes → (length bytes ≡ 32) × IsBytes bytes
unfolding digest_in
digest_ranged digits bytes e =
    let p = provided_inside (λ read. (length read == 32) && same_bytes digits (encode_lower read)) (result_ok (decode_of digits)) bytes e in
    (eqb-true (length bytes) 32 (and_parts (length bytes == 32) (same_bytes digits (encode_lower bytes)) p.passes).0, (decode_of-ok digits bytes (was_ok (decode_of digits) bytes p.there)).3)

script_ranged : (ms : Members) (bytes : List ℕ) → script_in ms ≡ Some bytes → (length bytes ≡ 32) × IsBytes bytes
unfolding script_in
script_ranged ms bytes e = option_and_then_some digest_in (option_and_then as_str (get_member (codes "script") ms)) bytes e (λ digits one rest. digest_ranged digits bytes rest)

abbrev made : ℕ → ℕ → List ℕ → ℕ → List Progress → ℕ → ℕ → ℕ → Checkpoint
made version budget script turn settled blocks weight place = record { version = version; script = script; budget = budget; turn = turn; settled = settled; blocks = blocks; weight = weight; place = place }

last_part : (version budget : ℕ) (script : List ℕ) (turn : ℕ) (settled : List Progress) (blocks weight : ℕ) (o : Option ℕ) (p : Checkpoint) → ((place : ℕ) → o ≡ Some place → IsInRange (made version budget script turn settled blocks weight place)) → option_map (made version budget script turn settled blocks weight) o ≡ Some p → IsInRange p
last_part version budget script turn settled blocks weight None p h e = absurd cc
last_part version budget script turn settled blocks weight (Some place) p h e = subst IsInRange {x = made version budget script turn settled blocks weight place} (cc e) (h place refl)

unless : (b : Bool) (o : Option Checkpoint) (p : Checkpoint) → (if b then None else o) ≡ Some p → o ≡ Some p
unless true o p e = absurd cc
unless false o p e = e

state_ranged : (ms : Members) (version budget : ℕ) (p : Checkpoint) → (version ≡ 1) ⊎ (version ≡ 2) → budget ≤ 2 ^ 40 → state_in ms version budget ≡ Some p → IsInRange p
unfolding state_in current_of
state_ranged ms version budget p known small e =
    let place_at = number_up_to 0 (2 ^ 52 - 1) (number_at (codes "place") ms) in
    let weight_at = number_up_to 1 255 (number_at (codes "weight") ms) in
    let blocks_at = number_up_to 0 budget (number_at (codes "blocks") ms) in
    let turn_at = number_up_to 0 (2 ^ 60) (number_at (codes "turn") ms) in
    option_and_then_some (λ script. option_and_then (λ turn. option_and_then (λ settled. option_and_then (λ blocks. option_and_then (λ weight. option_map (made version budget script turn settled blocks weight) place_at) weight_at) blocks_at) (done_in budget ms)) turn_at) (script_in ms) p (unless (not (member_count ms == 8)) _ p e) (λ script script_is rest.
    option_and_then_some (λ turn. option_and_then (λ settled. option_and_then (λ blocks. option_and_then (λ weight. option_map (made version budget script turn settled blocks weight) place_at) weight_at) blocks_at) (done_in budget ms)) turn_at p rest (λ turn turn_is rest.
    option_and_then_some (λ settled. option_and_then (λ blocks. option_and_then (λ weight. option_map (made version budget script turn settled blocks weight) place_at) weight_at) blocks_at) (done_in budget ms) p rest (λ settled settled_is rest.
    option_and_then_some (λ blocks. option_and_then (λ weight. option_map (made version budget script turn settled blocks weight) place_at) weight_at) blocks_at p rest (λ blocks blocks_is rest.
    option_and_then_some (λ weight. option_map (made version budget script turn settled blocks weight) place_at) weight_at p rest (λ weight weight_is rest.
    last_part version budget script turn settled blocks weight place_at p (λ place place_is.
    let digest = script_ranged ms script script_is in
    let done = done_ranged budget ms settled settled_is in
    let weighs = number_ranged 1 255 (number_at (codes "weight") ms) weight weight_is in
    record {
      known = known;
      digest = digest.0;
      bytes = digest.1;
      small = small;
      early = (number_ranged 0 (2 ^ 60) (number_at (codes "turn") ms) turn turn_is).1;
      few = done.0;
      records = done.1;
      current = record {
        done = (number_ranged 0 budget (number_at (codes "blocks") ms) blocks blocks_is).1;
        nonzero = weighs.0;
        light = weighs.1;
        near = omega (arith, (number_ranged 0 (2 ^ 52 - 1) (number_at (codes "place") ms) place place_is).1);
      };
    }) rest)))))

point_is : (o : Option Checkpoint) (p : Checkpoint) → point_or_shape o ≡ point p → o ≡ Some p
unfolding point_or_shape
point_is None p e = absurd cc
point_is (Some q) p e = cc

read_if : (b : Bool) (x : ReadCheckpoint) (r : _) (p : Checkpoint) → (if b then x else refused r) ≡ point p → (b ≡ true) × (x ≡ point p)
read_if true x r p e = (refl, e)
read_if false x r p e = absurd cc

one_or_two : (v : ℕ) → ((v == 1) || (v == 2)) ≡ true → (v ≡ 1) ⊎ (v ≡ 2)
one_or_two v e = ⊎_elim (λ a. inl (eqb-true v 1 a)) (λ b. inr (eqb-true v 2 b)) (or_cases (v == 1) (v == 2) e)

version_ranged : (ms : Members) (o : Option ℕ) (p : Checkpoint) → versioned ms o ≡ point p → IsInRange p
unfolding versioned
version_ranged ms None p e = absurd cc
version_ranged ms (Some v) p e =
    let s = read_if ((v == 1) || (v == 2)) (point_or_shape (option_and_then (state_in ms v) (number_up_to 0 (2 ^ 40) (number_at (codes "budget") ms)))) (other_version v) p e in
    option_and_then_some (state_in ms v) (number_up_to 0 (2 ^ 40) (number_at (codes "budget") ms)) p (point_is _ p s.1) (λ budget one rest.
    state_ranged ms v budget p (one_or_two v s.0) (number_ranged 0 (2 ^ 40) (number_at (codes "budget") ms) budget one).1 rest)

body_ranged : (o : Option Data) (p : Checkpoint) → body_in o ≡ point p → IsInRange p
unfolding body_in
body_ranged None p e = absurd cc
body_ranged (Some null) p e = absurd cc
body_ranged (Some (boolean b)) p e = absurd cc
body_ranged (Some (number n)) p e = absurd cc
body_ranged (Some (string s)) p e = absurd cc
body_ranged (Some (array ds)) p e = absurd cc
body_ranged (Some (object ms)) p e = version_ranged ms (number_at (codes "version") ms) p e

pub checkpoint_ranged : (bytes : List ℕ) (p : Checkpoint) → checkpoint_in bytes ≡ point p → IsInRange p
unfolding checkpoint_in
checkpoint_ranged bytes p e = body_ranged (json_in (drop 65 bytes)) p (read_if (is_whole bytes) (body_in (json_in (drop 65 bytes))) damaged p e).1
