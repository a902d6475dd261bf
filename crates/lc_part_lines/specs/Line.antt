-- The line of a part of a search: how it is written, how bytes are read as one, and which lines are in range.
--   PartLine                     the digest of the script, what the plan and the bound of its search are made of, and the part
--   line_members l, line_body l  the members of the body, and the body: compact JSON, its keys rising
--   headed body                  the seal with the body: the SHA-256 of the body in lower-case hexadecimal digits, a blank, the body
--   part_line l                  the line, without the newline that ends it
--   AreFacts f                   a dimension of 1 to 255, the size of a symbol field, 1 to 255 ranks of which the first is the
--                                dimension and none is more, and a divisor and a first weight of 1 to 255
--   IsPart p                     at least one block, none at or past 2^40, a weight of 1 to 255, a place below 2^52
--   IsInRange l                  a digest of 32 bytes, such facts and such a part
--   ReadLine                     a line, or why there is none; the reasons and their numbers are those of checkpoints
--   part_in bytes                the line that the bytes are, or the first reason that applies why they are none
use Rattle.std.specs.Prelude.{◌≡◌, ℕ, ◌+◌, ◌^◌, ◌-◌, ◌<◌, ◌≤◌, Bool, true, not, nat_le, ◌==◌, ◌&&◌, if◌then◌else◌, List, ◌∷◌, ◌++◌, length, slice_index, drop, codes, Option, Some, None, option_map, option_and_then, is_some}
use Rattle.std.specs.List.{list_all}
use Rattle.sha2.specs.Sha256.{sha256}
use Rattle.hex.specs.Hex.{encode_lower, IsBytes}
use Rattle.serde_json.specs.Data.{Data, Members, member, no_members, object, string}
use Rattle.serde_json.specs.Written.{compact_text}
use Rattle.lc_formats.specs.Text.{same_bytes}
use Rattle.lc_formats.specs.Json.{number_json, numbers_json, number_at, list_at, provided, member_count, json_in}
use Rattle.lc_formats.specs.Document.{symbol_field}
use Rattle.lc_formats.specs.Checkpoint.{CheckpointRefusal, damaged, other_version, shape, number_up_to, script_in}
use Rattle.lc_parts.specs.Part.{Part, Facts}

pub record PartLine : Type 0 where
  pub script : List ℕ
  pub facts : Facts
  pub part : Part

unfoldable pub line_members : PartLine → Members
line_members l =
    member (codes "count") (number_json l.part.count)
    (member (codes "divisor") (number_json l.facts.divisor)
    (member (codes "first") (number_json l.facts.first)
    (member (codes "from") (number_json l.part.start)
    (member (codes "k") (number_json l.facts.k)
    (member (codes "place") (number_json l.part.place)
    (member (codes "q") (number_json l.facts.q)
    (member (codes "ranks") (numbers_json l.facts.ranks)
    (member (codes "script") (string (encode_lower l.script))
    (member (codes "version") (number_json 1)
    (member (codes "weight") (number_json l.part.weight) no_members))))))))))

unfoldable pub line_body : PartLine → List ℕ
line_body l = compact_text (object (line_members l))

unfoldable pub headed : List ℕ → List ℕ
headed body = encode_lower (sha256 body) ++ 32 ∷ body

unfoldable pub part_line : PartLine → List ℕ
part_line l = headed (line_body l)

-- one rank at least and 255 at most, the dimension first, and none more
unfoldable pub are_ranks : ℕ → List ℕ → Bool
are_ranks k ranks = nat_le 1 (length ranks) && ((slice_index ranks 0 == k) && (nat_le (length ranks) 255 && list_all (λ r. nat_le r k) ranks))

pub record AreFacts (f : Facts) : Type 0 where
  pub some : 1 ≤ f.k
  pub few : f.k ≤ 255
  pub field : is_some (symbol_field f.q) ≡ true
  pub ranks : are_ranks f.k f.ranks ≡ true
  pub divides : 1 ≤ f.divisor
  pub small : f.divisor ≤ 255
  pub nonzero : 1 ≤ f.first
  pub light : f.first ≤ 255

pub record IsPart (p : Part) : Type 0 where
  pub some : 1 ≤ p.count
  pub inside : p.start + p.count ≤ 2 ^ 40
  pub nonzero : 1 ≤ p.weight
  pub light : p.weight ≤ 255
  pub near : p.place < 2 ^ 52

pub record IsInRange (l : PartLine) : Type 0 where
  pub digest : length l.script ≡ 32
  pub bytes : IsBytes l.script
  pub facts : AreFacts l.facts
  pub part : IsPart l.part

pub data ReadLine : Type 0 where
  line_is : PartLine → ReadLine
  refused : CheckpointRefusal → ReadLine

-- at least 65 bytes: the digits of the rest's digest, a blank, the rest
unfoldable pub is_headed : List ℕ → Bool
is_headed bytes = nat_le 65 (length bytes) && same_bytes bytes (headed (drop 65 bytes))

unfoldable pub size_in : Members → Option ℕ
size_in ms = provided (λ q. is_some (symbol_field q)) (number_at (codes "q") ms)

unfoldable pub facts_from : Option ℕ → Option ℕ → Option ℕ → Option ℕ → Option (List ℕ) → Option Facts
facts_from k q divisor first ranks =
    option_and_then (λ k. option_and_then (λ q. option_and_then (λ divisor. option_and_then (λ first. option_map (λ ranks. record { k = k; q = q; ranks = ranks; divisor = divisor; first = first }) ranks) first) divisor) q) k

unfoldable pub facts_at : Members → Option Facts
facts_at ms = provided (λ f. are_ranks f.k f.ranks) (facts_from (number_up_to 1 255 (number_at (codes "k") ms)) (size_in ms) (number_up_to 1 255 (number_at (codes "divisor") ms)) (number_up_to 1 255 (number_at (codes "first") ms)) (list_at (codes "ranks") ms))

unfoldable pub part_from : Option ℕ → Option ℕ → Option ℕ → Option ℕ → Option Part
part_from start count weight place =
    option_and_then (λ start. option_and_then (λ count. option_and_then (λ weight. option_map (λ place. record { start = start; count = count; weight = weight; place = place }) place) weight) count) start

unfoldable pub part_at : Members → Option Part
part_at ms = provided (λ p. nat_le (p.start + p.count) (2 ^ 40)) (part_from (number_up_to 0 (2 ^ 40) (number_at (codes "from") ms)) (number_up_to 1 (2 ^ 40) (number_at (codes "count") ms)) (number_up_to 1 255 (number_at (codes "weight") ms)) (number_up_to 0 (2 ^ 52 - 1) (number_at (codes "place") ms)))

unfoldable pub line_from : Option (List ℕ) → Option Part → Option Facts → Option PartLine
line_from script part facts = option_and_then (λ script. option_and_then (λ part. option_map (λ facts. record { script = script; facts = facts; part = part }) facts) part) script

-- all ranges hold, and there is no key but the eleven
unfoldable pub line_in : Members → Option PartLine
line_in ms = (if not (member_count ms == 11) then None else line_from (script_in ms) (part_at ms) (facts_at ms))

unfoldable pub line_or_shape : Option PartLine → ReadLine
line_or_shape None = refused shape
line_or_shape (Some l) = line_is l

unfoldable pub versioned : Members → Option ℕ → ReadLine
versioned ms None = refused shape
versioned ms (Some v) = (if v == 1 then line_or_shape (line_in ms) else refused (other_version v))

unfoldable pub body_in : Option Data → ReadLine
body_in (Some (object ms)) = versioned ms (number_at (codes "version") ms)
body_in _ = refused shape

unfoldable pub part_in : List ℕ → ReadLine
part_in bytes = (if is_headed bytes then body_in (json_in (drop 65 bytes)) else refused damaged)
