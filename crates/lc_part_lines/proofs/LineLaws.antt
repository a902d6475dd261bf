-- The line of a part, as a reader takes it.
--   headed_short, headed_other, headed_blank      whether the bytes are a body with its seal
--   size_found, size_other, size_nowhere          the size of the field
--   no_ranks_there, ranks_tested                  what ranks may be
--   no_k .. facts_read                            what the plan and the bound are made of
--   no_start .. part_read                         the part
--   no_keys, no_script, no_part, no_facts, line_read      the line that an object states
--   no_version, version_other, no_line, line_known        the version
--   is_damaged, no_body, body_is                  the body
--   damaged_answered                              bytes without a seal are answered
--   read_ranged                                   what was read is in range
use Rattle.std.proofs.Common.{◌≡◌, ℕ, suc, zero, ◌+◌, ◌-◌, ◌^◌, ◌<◌, ◌≤◌, ◌==◌, ◌&&◌, Bool, true, false, nat_le, List, [], ◌∷◌, ◌++◌, length, slice_index, get_or, take, drop, codes, Option, Some, None, refl, sym, ap, ◌∙◌, arith}
use Rattle.std.specs.Prelude.{if◌then◌else◌, Result, Ok, Err, IfOk, IsOk}
use Rattle.std.specs.List.{list_all}
use Rattle.std.proofs.lemmas.Bool.{le-leb, lt-leb, false≢true}
use Rattle.sha2.specs.Sha256.{sha256}
use Rattle.hex.specs.Hex.{encode_lower}
use Rattle.serde_json.specs.Data.{Data, null, boolean, number, string, array, object, Members}
use Rattle.lc_algebra.proofs.CommonLaws.{and_regrouped}
use Rattle.lc_algebra.specs.declared.FieldName.{FieldName}
use Rattle.lc_formats.specs.Text.{same_bytes}
use Rattle.lc_formats.specs.Json.{number_at, list_at, provided, member_count, json_in}
use Rattle.lc_formats.specs.Document.{symbol_field}
use Rattle.lc_formats.specs.Checkpoint.{damaged, other_version, number_up_to, script_in}
use Rattle.lc_formats.proofs.CheckpointBack.{same_itself, seal_length}
use Rattle.lc_json.specs.Inside.{members_in}
use Rattle.lc_field.specs.declared.NoMemory.{NoMemory}
use Rattle.lc_parts.specs.Part.{Part, Facts}
use Rattle.lc_part_lines.specs.Line.{refused, headed, is_headed, are_ranks, size_in, facts_from, facts_at, part_from, part_at, line_from, line_in, line_or_shape, versioned, body_in, part_in, IsInRange}
use Rattle.lc_part_lines.specs.declared.line.PartLine.{PartLine}
use Rattle.lc_part_lines.specs.declared.refusal.LineRefusal.{LineRefusal}
use Rattle.lc_part_lines.specs.declared.refusal.LineRefusal.TheVariants.{Damaged, Version, Shape}
use Rattle.lc_part_lines.specs.Seen.{line_of, read_of, refusal_of}
use Rattle.lc_part_lines.proofs.LineRange.{line_ranged}

and_yes : (a : Bool) → (a && true) ≡ a
and_yes true = refl
and_yes false = refl

pub headed_short : (bytes : List ℕ) → length bytes < 65 → is_headed bytes ≡ false
unfolding is_headed
headed_short bytes l = ap (λ b. b && same_bytes bytes (headed (drop 65 bytes))) (lt-leb 65 (length bytes) l)

split_same : (ds xs : List ℕ) (n : ℕ) → length ds ≡ n → n < length xs → same_bytes xs (ds ++ 32 ∷ drop (suc n) xs) ≡ (same_bytes (take n xs) ds && (get_or xs n 0 == 32))
unfolding same_bytes
split_same [] [] n e l = absurd (omega (arith, l))
split_same [] (x ∷ xs) zero e l = ap (λ b. (x == 32) && b) (same_itself xs) ∙ and_yes (x == 32)
split_same [] (x ∷ xs) (suc n) e l = absurd (omega (arith, e))
split_same (d ∷ ds) [] n e l = absurd (omega (arith, l))
split_same (d ∷ ds) (x ∷ xs) zero e l = absurd (omega (arith, e))
split_same (d ∷ ds) (x ∷ xs) (suc n) e l = ap (λ b. (x == d) && b) (split_same ds xs n (omega (arith, e)) (omega (arith, l))) ∙ and_regrouped (x == d) (same_bytes (take n xs) ds) (get_or xs n 0 == 32)

headed_test : (bytes seal : List ℕ) → 65 ≤ length bytes → seal ≡ encode_lower (sha256 (drop 65 bytes)) → is_headed bytes ≡ (same_bytes (take 64 bytes) seal && (get_or bytes 64 0 == 32))
unfolding is_headed headed
headed_test bytes seal l e =
    ap (λ b. b && same_bytes bytes (headed (drop 65 bytes))) (le-leb 65 (length bytes) l)
    ∙ split_same (encode_lower (sha256 (drop 65 bytes))) bytes 64 (seal_length (drop 65 bytes)) (omega (arith, l))
    ∙ ap (λ s. same_bytes (take 64 bytes) s && (get_or bytes 64 0 == 32)) (sym e)

pub headed_other : (bytes seal : List ℕ) → 65 ≤ length bytes → seal ≡ encode_lower (sha256 (drop 65 bytes)) → same_bytes (take 64 bytes) seal ≡ false → is_headed bytes ≡ false
headed_other bytes seal l e k = headed_test bytes seal l e ∙ ap (λ b. b && (get_or bytes 64 0 == 32)) k

pub headed_blank : (bytes seal : List ℕ) → 65 ≤ length bytes → seal ≡ encode_lower (sha256 (drop 65 bytes)) → same_bytes (take 64 bytes) seal ≡ true → is_headed bytes ≡ (get_or bytes 64 0 == 32)
headed_blank bytes seal l e k = headed_test bytes seal l e ∙ ap (λ b. b && (get_or bytes 64 0 == 32)) k

pub size_found : (ms : Members) (q : ℕ) (f : FieldName) → Some q ≡ number_at (codes "q") ms → Some f ≡ symbol_field q → size_in ms ≡ Some q
unfolding size_in provided
size_found ms q f h e = rw (sym h) (rw (sym e) refl)

pub size_other : (ms : Members) (q : ℕ) → Some q ≡ number_at (codes "q") ms → None ≡ symbol_field q → size_in ms ≡ None
unfolding size_in provided
size_other ms q h e = rw (sym h) (rw (sym e) refl)

pub size_nowhere : (ms : Members) → None ≡ number_at (codes "q") ms → size_in ms ≡ None
unfolding size_in provided
size_nowhere ms h = rw (sym h) refl

pub no_ranks_there : (k : ℕ) (ranks : List ℕ) → length ranks < 1 → are_ranks k ranks ≡ false
unfolding are_ranks
no_ranks_there k ranks l = ap (λ b. b && ((slice_index ranks 0 == k) && (nat_le (length ranks) 255 && list_all (λ r. nat_le r k) ranks))) (lt-leb 1 (length ranks) l)

pub ranks_tested : (k : ℕ) (ranks : List ℕ) → 1 ≤ length ranks → are_ranks k ranks ≡ ((slice_index ranks 0 == k) && (nat_le (length ranks) 255 && list_all (λ r. nat_le r k) ranks))
unfolding are_ranks
ranks_tested k ranks l = ap (λ b. b && ((slice_index ranks 0 == k) && (nat_le (length ranks) 255 && list_all (λ r. nat_le r k) ranks))) (le-leb 1 (length ranks) l)

module _ (ms : Members) where
  pub no_k : None ≡ number_up_to 1 255 (number_at (codes "k") ms) → facts_at ms ≡ None
  unfolding facts_at facts_from provided
  no_k h = rw (sym h) refl

  pub no_size : (k : ℕ) → Some k ≡ number_up_to 1 255 (number_at (codes "k") ms) → None ≡ size_in ms → facts_at ms ≡ None
  unfolding facts_at facts_from provided
  no_size k h e = rw (sym h) (rw (sym e) refl)

  pub no_divisor : (k q : ℕ) → Some k ≡ number_up_to 1 255 (number_at (codes "k") ms) → Some q ≡ size_in ms → None ≡ number_up_to 1 255 (number_at (codes "divisor") ms) → facts_at ms ≡ None
  unfolding facts_at facts_from provided
  no_divisor k q h e d = rw (sym h) (rw (sym e) (rw (sym d) refl))

  pub no_first : (k q divisor : ℕ) → Some k ≡ number_up_to 1 255 (number_at (codes "k") ms) → Some q ≡ size_in ms → Some divisor ≡ number_up_to 1 255 (number_at (codes "divisor") ms) → None ≡ number_up_to 1 255 (number_at (codes "first") ms) → facts_at ms ≡ None
  unfolding facts_at facts_from provided
  no_first k q divisor h e d f = rw (sym h) (rw (sym e) (rw (sym d) (rw (sym f) refl)))

  pub no_ranks : (k q divisor first : ℕ) → Some k ≡ number_up_to 1 255 (number_at (codes "k") ms) → Some q ≡ size_in ms → Some divisor ≡ number_up_to 1 255 (number_at (codes "divisor") ms) → Some first ≡ number_up_to 1 255 (number_at (codes "first") ms) → None ≡ list_at (codes "ranks") ms → facts_at ms ≡ None
  unfolding facts_at facts_from provided
  no_ranks k q divisor first h e d f r = rw (sym h) (rw (sym e) (rw (sym d) (rw (sym f) (rw (sym r) refl))))

  facts_tested : (k q divisor first : ℕ) (ranks : List ℕ) → Some k ≡ number_up_to 1 255 (number_at (codes "k") ms) → Some q ≡ size_in ms → Some divisor ≡ number_up_to 1 255 (number_at (codes "divisor") ms) → Some first ≡ number_up_to 1 255 (number_at (codes "first") ms) → Some ranks ≡ list_at (codes "ranks") ms → facts_at ms ≡ (if are_ranks k ranks then Some (record { k = k; q = q; ranks = ranks; divisor = divisor; first = first }) else None)
  unfolding facts_at facts_from provided
  facts_tested k q divisor first ranks h e d f r = rw (sym h) (rw (sym e) (rw (sym d) (rw (sym f) (rw (sym r) refl))))

  pub other_ranks : (k q divisor first : ℕ) (ranks : List ℕ) → Some k ≡ number_up_to 1 255 (number_at (codes "k") ms) → Some q ≡ size_in ms → Some divisor ≡ number_up_to 1 255 (number_at (codes "divisor") ms) → Some first ≡ number_up_to 1 255 (number_at (codes "first") ms) → Some ranks ≡ list_at (codes "ranks") ms → are_ranks k ranks ≡ false → facts_at ms ≡ None
  other_ranks k q divisor first ranks h e d f r t = facts_tested k q divisor first ranks h e d f r ∙ ap (λ b. if b then Some (record { k = k; q = q; ranks = ranks; divisor = divisor; first = first }) else None) t

  pub facts_read : (k q divisor first : ℕ) (ranks : List ℕ) → Some k ≡ number_up_to 1 255 (number_at (codes "k") ms) → Some q ≡ size_in ms → Some divisor ≡ number_up_to 1 255 (number_at (codes "divisor") ms) → Some first ≡ number_up_to 1 255 (number_at (codes "first") ms) → Some ranks ≡ list_at (codes "ranks") ms → are_ranks k ranks ≡ true → facts_at ms ≡ Some (record { k = k; q = q; ranks = ranks; divisor = divisor; first = first })
  facts_read k q divisor first ranks h e d f r t = facts_tested k q divisor first ranks h e d f r ∙ ap (λ b. if b then Some (record { k = k; q = q; ranks = ranks; divisor = divisor; first = first }) else None) t

  pub no_start : None ≡ number_up_to 0 (2 ^ 40) (number_at (codes "from") ms) → part_at ms ≡ None
  unfolding part_at part_from provided
  no_start h = rw (sym h) refl

  pub no_count : (start : ℕ) → Some start ≡ number_up_to 0 (2 ^ 40) (number_at (codes "from") ms) → None ≡ number_up_to 1 (2 ^ 40) (number_at (codes "count") ms) → part_at ms ≡ None
  unfolding part_at part_from provided
  no_count start h c = rw (sym h) (rw (sym c) refl)

  pub no_weight : (start count : ℕ) → Some start ≡ number_up_to 0 (2 ^ 40) (number_at (codes "from") ms) → Some count ≡ number_up_to 1 (2 ^ 40) (number_at (codes "count") ms) → None ≡ number_up_to 1 255 (number_at (codes "weight") ms) → part_at ms ≡ None
  unfolding part_at part_from provided
  no_weight start count h c w = rw (sym h) (rw (sym c) (rw (sym w) refl))

  pub no_place : (start count weight : ℕ) → Some start ≡ number_up_to 0 (2 ^ 40) (number_at (codes "from") ms) → Some count ≡ number_up_to 1 (2 ^ 40) (number_at (codes "count") ms) → Some weight ≡ number_up_to 1 255 (number_at (codes "weight") ms) → None ≡ number_up_to 0 (2 ^ 52 - 1) (number_at (codes "place") ms) → part_at ms ≡ None
  unfolding part_at part_from provided
  no_place start count weight h c w p = rw (sym h) (rw (sym c) (rw (sym w) (rw (sym p) refl)))

  part_tested : (start count weight place : ℕ) → Some start ≡ number_up_to 0 (2 ^ 40) (number_at (codes "from") ms) → Some count ≡ number_up_to 1 (2 ^ 40) (number_at (codes "count") ms) → Some weight ≡ number_up_to 1 255 (number_at (codes "weight") ms) → Some place ≡ number_up_to 0 (2 ^ 52 - 1) (number_at (codes "place") ms) → part_at ms ≡ (if nat_le (start + count) (2 ^ 40) then Some (record { start = start; count = count; weight = weight; place = place }) else None)
  unfolding part_at part_from provided
  part_tested start count weight place h c w p = rw (sym h) (rw (sym c) (rw (sym w) (rw (sym p) refl)))

  pub part_past : (start count weight place : ℕ) → Some start ≡ number_up_to 0 (2 ^ 40) (number_at (codes "from") ms) → Some count ≡ number_up_to 1 (2 ^ 40) (number_at (codes "count") ms) → Some weight ≡ number_up_to 1 255 (number_at (codes "weight") ms) → Some place ≡ number_up_to 0 (2 ^ 52 - 1) (number_at (codes "place") ms) → 2 ^ 40 < start + count → part_at ms ≡ None
  part_past start count weight place h c w p l = part_tested start count weight place h c w p ∙ ap (λ b. if b then Some (record { start = start; count = count; weight = weight; place = place }) else None) (lt-leb (start + count) (2 ^ 40) l)

  pub part_read : (start count weight place : ℕ) → Some start ≡ number_up_to 0 (2 ^ 40) (number_at (codes "from") ms) → Some count ≡ number_up_to 1 (2 ^ 40) (number_at (codes "count") ms) → Some weight ≡ number_up_to 1 255 (number_at (codes "weight") ms) → Some place ≡ number_up_to 0 (2 ^ 52 - 1) (number_at (codes "place") ms) → start + count ≤ 2 ^ 40 → part_at ms ≡ Some (record { start = start; count = count; weight = weight; place = place })
  part_read start count weight place h c w p l = part_tested start count weight place h c w p ∙ ap (λ b. if b then Some (record { start = start; count = count; weight = weight; place = place }) else None) (le-leb (start + count) (2 ^ 40) l)

  pub no_keys : (member_count ms == 11) ≡ false → line_in ms ≡ None
  unfolding line_in
  no_keys e = rw e refl

  pub no_script : (member_count ms == 11) ≡ true → None ≡ script_in ms → line_in ms ≡ None
  unfolding line_in line_from
  no_script e s = rw e (rw (sym s) refl)

  pub no_part : (script : List ℕ) → (member_count ms == 11) ≡ true → Some script ≡ script_in ms → None ≡ part_at ms → line_in ms ≡ None
  unfolding line_in line_from
  no_part script e s p = rw e (rw (sym s) (rw (sym p) refl))

  pub no_facts : (script : List ℕ) (part : Part) → (member_count ms == 11) ≡ true → Some script ≡ script_in ms → Some part ≡ part_at ms → None ≡ facts_at ms → line_in ms ≡ None
  unfolding line_in line_from
  no_facts script part e s p f = rw e (rw (sym s) (rw (sym p) (rw (sym f) refl)))

  pub line_read : (script : List ℕ) (part : Part) (facts : Facts) → (member_count ms == 11) ≡ true → Some script ≡ script_in ms → Some part ≡ part_at ms → Some facts ≡ facts_at ms → line_in ms ≡ Some (record { script = script; facts = facts; part = part })
  unfolding line_in line_from
  line_read script part facts e s p f = rw e (rw (sym s) (rw (sym p) (rw (sym f) refl)))

  pub no_version : (o : Option ℕ) → None ≡ o → read_of (Err Shape) ≡ versioned ms o
  unfolding versioned read_of refusal_of
  no_version o h = ap (versioned ms) h

  by_number : (v : ℕ) (o : Option ℕ) → Some v ≡ o → versioned ms o ≡ (if v == 1 then line_or_shape (line_in ms) else refused (other_version v))
  unfolding versioned
  by_number v o h = ap (versioned ms) (sym h)

  pub version_other : (v : ℕ) (o : Option ℕ) → Some v ≡ o → (v == 1) ≡ false → read_of (Err (Version v)) ≡ versioned ms o
  unfolding read_of refusal_of
  version_other v o h e = sym (by_number v o h ∙ ap (λ b. if b then line_or_shape (line_in ms) else refused (other_version v)) e)

  version_one : (v : ℕ) (o : Option ℕ) → Some v ≡ o → (v == 1) ≡ true → versioned ms o ≡ line_or_shape (line_in ms)
  version_one v o h e = by_number v o h ∙ ap (λ b. if b then line_or_shape (line_in ms) else refused (other_version v)) e

  pub no_line : (v : ℕ) (o : Option ℕ) → Some v ≡ o → (v == 1) ≡ true → None ≡ line_in ms → read_of (Err Shape) ≡ versioned ms o
  unfolding read_of refusal_of line_or_shape
  no_line v o h e n = sym (version_one v o h e ∙ ap line_or_shape (sym n))

  pub line_known : (v : ℕ) (o : Option ℕ) (l : PartLine) → Some v ≡ o → (v == 1) ≡ true → Some (line_of l) ≡ line_in ms → read_of (Ok l) ≡ versioned ms o
  unfolding read_of line_or_shape
  line_known v o l h e n = sym (version_one v o h e ∙ ap line_or_shape (sym n))

pub is_damaged : (bytes : List ℕ) → is_headed bytes ≡ false → read_of (Err Damaged) ≡ part_in bytes
unfolding part_in read_of refusal_of
is_damaged bytes e = sym (ap (λ b. if b then body_in (json_in (drop 65 bytes)) else refused damaged) e)

pub no_body : (bytes : List ℕ) → is_headed bytes ≡ true → None ≡ json_in (drop 65 bytes) → read_of (Err Shape) ≡ part_in bytes
unfolding part_in body_in read_of refusal_of
no_body bytes e h = sym (ap (λ b. if b then body_in (json_in (drop 65 bytes)) else refused damaged) e ∙ ap body_in (sym h))

body_members : (d : Data) → body_in (Some d) ≡ versioned (members_in d) (number_at (codes "version") (members_in d))
unfolding body_in versioned number_at
body_members null = refl
body_members (boolean b) = refl
body_members (number n) = refl
body_members (string s) = refl
body_members (array ds) = refl
body_members (object ms) = refl

pub body_is : (bytes : List ℕ) (d : Data) → is_headed bytes ≡ true → Some d ≡ json_in (drop 65 bytes) → part_in bytes ≡ versioned (members_in d) (number_at (codes "version") (members_in d))
unfolding part_in
body_is bytes d e h = ap (λ b. if b then body_in (json_in (drop 65 bytes)) else refused damaged) e ∙ ap body_in (sym h) ∙ body_members d

pub damaged_answered : (bytes : List ℕ) (r : Result (Result PartLine LineRefusal) NoMemory) → is_headed bytes ≡ true → is_headed bytes ≡ false → IsOk r
damaged_answered bytes r e h = absurd (false≢true (sym h ∙ e))

one_ranged : (bytes : List ℕ) (r : Result PartLine LineRefusal) → read_of r ≡ part_in bytes → IfOk r (λ l. IsInRange (line_of l))
unfolding read_of
one_ranged bytes (Ok l) e = line_ranged bytes (line_of l) (sym e)
one_ranged bytes (Err x) e = tt

pub read_ranged : (bytes : List ℕ) (d : Data) (r : Result (Result PartLine LineRefusal) NoMemory) → is_headed bytes ≡ true → Some d ≡ json_in (drop 65 bytes) → IfOk r (λ x. read_of x ≡ versioned (members_in d) (number_at (codes "version") (members_in d))) → IfOk r (λ x. IfOk x (λ l. IsInRange (line_of l)))
read_ranged bytes d (Ok x) h j e = one_ranged bytes x (e ∙ sym (body_is bytes d h j))
read_ranged bytes d (Err n) h j e = e

pub ruleset is_headed_laws = (headed_short, headed_other, headed_blank)

pub ruleset size_at_laws = (size_found, size_other, size_nowhere)

pub ruleset are_ranks_laws = (no_ranks_there, ranks_tested)

pub ruleset facts_at_laws = (no_k, no_size, no_divisor, no_first, no_ranks, other_ranks, facts_read)

pub ruleset part_at_laws = (no_start, no_count, no_weight, no_place, part_past, part_read)

pub ruleset line_at_laws = (no_keys, no_script, no_part, no_facts, line_read)

pub ruleset line_of_laws = (no_version, version_other, no_line, line_known)

pub ruleset read_laws = (is_damaged, no_body, body_is, damaged_answered)
