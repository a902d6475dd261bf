-- Checkpoints: how they are written, how bytes are read as one, and when one is true.
--   Checkpoint                   the version, the digest of the script, the budget, the turn, how far the searches of the settled needs
--                                went, and the blocks, the weight and the place of the current one
--   current_of p                 how far the search of the current need is
--   body_of p, checkpoint_text p      the body, and the seal with it: the SHA-256 of the body in lower-case hexadecimal digits,
--                                a newline, and the body: compact JSON, its keys rising
--   IsProgress budget s          the blocks of s are within the budget, its weight is 1 to 255, and its place is below 2^52
--   IsInRange p                  a version that is read, and numbers within the ranges
--   IsWritable p                 what is written: a checkpoint in range, of version 2, whose text isn't too long
--   CheckpointRefusal            damaged (20), another version (21, with it), or another shape (22)
--   checkpoint_in bytes          the checkpoint that the bytes are, or why they are none; the first reason that applies
use Rattle.std.specs.Prelude.{◌≡◌, ℕ, ◌^◌, ◌-◌, ◌<◌, ◌≤◌, ◌⊎◌, Bool, not, nat_le, nat_lt, ◌==◌, ◌&&◌, ◌||◌, if◌then◌else◌, List, [], ◌∷◌, ◌++◌, length, map, drop, codes, All, Option, Some, None, option_map, option_and_then}
use Rattle.sha2.specs.Sha256.{sha256}
use Rattle.hex.specs.Hex.{encode_lower, decode_of, IsBytes}
use Rattle.std.specs.Result.{result_ok}
use Rattle.serde_json.specs.Data.{Data, Members, member, no_members, array, object, string}
use Rattle.serde_json.specs.Find.{get_member, as_str, as_array}
use Rattle.serde_json.specs.Written.{compact_text}
use Rattle.lc_enumeration.specs.Records.{Progress}
use Rattle.lc_formats.specs.Text.{same_bytes}
use Rattle.lc_formats.specs.Json.{number_json, numbers_json, items, number_at, listed, each, numbers_of, provided, member_count, json_in}

pub record Checkpoint : Type 0 where
  pub version : ℕ
  pub script : List ℕ
  pub budget : ℕ
  pub turn : ℕ
  pub settled : List Progress
  pub blocks : ℕ
  pub weight : ℕ
  pub place : ℕ

unfoldable pub current_of : Checkpoint → Progress
current_of p = record { blocks = p.blocks; weight = p.weight; place = p.place }

unfoldable pub settled_json : Progress → Data
settled_json s = numbers_json (s.blocks ∷ s.weight ∷ s.place ∷ [])

unfoldable pub body_members : Checkpoint → Members
body_members p =
    member (codes "blocks") (number_json p.blocks)
    (member (codes "budget") (number_json p.budget)
    (member (codes "done") (array (items (map settled_json p.settled)))
    (member (codes "place") (number_json p.place)
    (member (codes "script") (string (encode_lower p.script))
    (member (codes "turn") (number_json p.turn)
    (member (codes "version") (number_json p.version)
    (member (codes "weight") (number_json p.weight) no_members)))))))

unfoldable pub body_of : Checkpoint → List ℕ
body_of p = compact_text (object (body_members p))

unfoldable pub sealed : List ℕ → List ℕ
sealed body = encode_lower (sha256 body) ++ 10 ∷ body

unfoldable pub checkpoint_text : Checkpoint → List ℕ
checkpoint_text p = sealed (body_of p)

pub record IsProgress (budget : ℕ) (s : Progress) : Type 0 where
  pub done : s.blocks ≤ budget
  pub nonzero : 1 ≤ s.weight
  pub light : s.weight ≤ 255
  pub near : s.place < 2 ^ 52

pub record IsInRange (p : Checkpoint) : Type 0 where
  pub known : (p.version ≡ 1) ⊎ (p.version ≡ 2)
  pub digest : length p.script ≡ 32
  pub bytes : IsBytes p.script
  pub small : p.budget ≤ 2 ^ 40
  pub early : p.turn ≤ 2 ^ 60
  pub few : length p.settled ≤ 131072
  pub records : All (IsProgress p.budget) p.settled
  pub current : IsProgress p.budget (current_of p)

pub record IsWritable (p : Checkpoint) : Type 0 where
  pub in_range : IsInRange p
  pub newest : p.version ≡ 2
  pub short : length (checkpoint_text p) ≤ 4194304

pub data CheckpointRefusal : Type 0 where
  damaged : CheckpointRefusal
  other_version : ℕ → CheckpointRefusal
  shape : CheckpointRefusal

unfoldable pub checkpoint_refusal_number : CheckpointRefusal → ℕ
checkpoint_refusal_number damaged = 20
checkpoint_refusal_number (other_version _) = 21
checkpoint_refusal_number shape = 22

pub data ReadCheckpoint : Type 0 where
  point : Checkpoint → ReadCheckpoint
  refused : CheckpointRefusal → ReadCheckpoint

-- 65 to 4,194,304 bytes: the digits of the rest's digest, a newline, the rest
unfoldable pub is_whole : List ℕ → Bool
is_whole bytes = nat_le 65 (length bytes) && (nat_le (length bytes) 4194304 && same_bytes bytes (sealed (drop 65 bytes)))

unfoldable pub number_up_to : ℕ → ℕ → Option ℕ → Option ℕ
number_up_to low high found = provided (λ n. nat_le low n && nat_le n high) found

unfoldable pub triple_of : List ℕ → Option Progress
triple_of (l ∷ w ∷ p ∷ []) = Some (record { blocks = l; weight = w; place = p })
triple_of _ = None

unfoldable pub is_in_range : ℕ → Progress → Bool
is_in_range budget s = nat_le s.blocks budget && (nat_le 1 s.weight && (nat_le s.weight 255 && nat_lt s.place (2 ^ 52)))

unfoldable pub settled_in : ℕ → Data → Option Progress
settled_in budget d = provided (is_in_range budget) (option_and_then triple_of (numbers_of d))

-- 64 lower-case hexadecimal digits, as the 32 bytes that they write
unfoldable pub digest_in : List ℕ → Option (List ℕ)
digest_in digits = provided (λ bytes. (length bytes == 32) && same_bytes digits (encode_lower bytes)) (result_ok (decode_of digits))

unfoldable pub script_in : Members → Option (List ℕ)
script_in ms = option_and_then digest_in (option_and_then as_str (get_member (codes "script") ms))

unfoldable pub done_in : ℕ → Members → Option (List Progress)
done_in budget ms = option_and_then (λ ds. each (map (settled_in budget) ds)) (provided (λ ds. nat_le (length ds) 131072) (option_map listed (option_and_then as_array (get_member (codes "done") ms))))

-- the state in a body whose version and budget are known: all ranges hold, and there is no key but the eight
unfoldable pub state_in : Members → ℕ → ℕ → Option Checkpoint
state_in ms version budget =
    if not (member_count ms == 8) then None else
    option_and_then (λ script. option_and_then (λ turn. option_and_then (λ settled. option_and_then (λ blocks. option_and_then (λ weight. option_map (λ place. record { version = version; script = script; budget = budget; turn = turn; settled = settled; blocks = blocks; weight = weight; place = place })
    (number_up_to 0 (2 ^ 52 - 1) (number_at (codes "place") ms)))
    (number_up_to 1 255 (number_at (codes "weight") ms)))
    (number_up_to 0 budget (number_at (codes "blocks") ms)))
    (done_in budget ms))
    (number_up_to 0 (2 ^ 60) (number_at (codes "turn") ms)))
    (script_in ms)

unfoldable pub point_or_shape : Option Checkpoint → ReadCheckpoint
point_or_shape None = refused shape
point_or_shape (Some p) = point p

unfoldable pub versioned : Members → Option ℕ → ReadCheckpoint
versioned ms None = refused shape
versioned ms (Some v) = (if (v == 1) || (v == 2) then point_or_shape (option_and_then (state_in ms v) (number_up_to 0 (2 ^ 40) (number_at (codes "budget") ms))) else refused (other_version v))

unfoldable pub body_in : Option Data → ReadCheckpoint
body_in (Some (object ms)) = versioned ms (number_at (codes "version") ms)
body_in _ = refused shape

unfoldable pub checkpoint_in : List ℕ → ReadCheckpoint
checkpoint_in bytes = (if is_whole bytes then body_in (json_in (drop 65 bytes)) else refused damaged)
