-- Checkpoints, as a reader takes them.
--   whole_short, whole_long, whole_test, whole_other, whole_line      whether the bytes are a sealed body
--   ranged_found, ranged_low, ranged_high, ranged_nowhere      a number within its range
--   script_found, script_nowhere      the digest of the script
--   no_blocks, no_weight, no_place, current_read      how far the search of the current need is
--   no_keys, no_script, no_turn, no_current, no_done, state_read      the state in a body
--   no_version, version_other, no_budget, no_state, state_known      the version and the budget
--   is_damaged, no_body, body_is      the body
--   body_undamaged, sealed_undamaged      a body is never damaged, so bytes that are damaged have no seal
--   read_ranged              what was read is in range
use Rattle.std.proofs.Common.{◌≡◌, ℕ, suc, zero, ◌-◌, ◌^◌, ◌<◌, ◌≤◌, ◌==◌, ◌&&◌, ◌||◌, Bool, true, false, not, nat_le, List, [], ◌∷◌, ◌++◌, length, get_or, take, drop, codes, Option, Some, None, option_map, option_and_then, refl, sym, ap, ◌∙◌, arith}
use Rattle.std.specs.Prelude.{if◌then◌else◌, Result, Ok, Err, IfOk, IsErrOf}
use Rattle.std.proofs.lemmas.Bool.{le-leb, lt-leb, and_from, and_right}
use Rattle.sha2.specs.Sha256.{sha256}
use Rattle.hex.specs.Hex.{encode_lower}
use Rattle.serde_json.specs.Data.{Data, null, boolean, number, string, array, object, Members}
use Rattle.serde_json.specs.Find.{get_member, as_str}
use Rattle.lc_algebra.proofs.CommonLaws.{and_regrouped}
use Rattle.lc_enumeration.specs.Records.{Progress}
use Rattle.lc_formats.specs.Text.{same_bytes}
use Rattle.lc_formats.specs.Json.{number_at, provided, member_count, json_in}
use Rattle.lc_formats.specs.Checkpoint.{Checkpoint, IsInRange, ReadCheckpoint, point, refused, damaged, other_version, shape, sealed, is_whole, number_up_to, digest_in, script_in, done_in, state_in, point_or_shape, versioned, body_in, checkpoint_in}
use Rattle.lc_formats.proofs.CheckpointBack.{same_itself, seal_length}
use Rattle.lc_formats.proofs.CheckpointRange.{checkpoint_ranged}
use Rattle.lc_json.specs.Inside.{members_in}
use Rattle.lc_checkpoint.specs.declared.checkpoint.Checkpoint as made
use Rattle.lc_checkpoint.specs.declared.refusal.CheckpointRefusal.{CheckpointRefusal}
use Rattle.lc_checkpoint.specs.declared.refusal.CheckpointRefusal.TheVariants.{Damaged}
use Rattle.lc_checkpoint.specs.Seen.{settled_of, point_of}
use Rattle.lc_checkpoint.specs.Reading.{current_from, current_in}

and_yes : (a : Bool) → (a && true) ≡ a
and_yes true = refl
and_yes false = refl

pub whole_short : (bytes : List ℕ) → length bytes < 65 → is_whole bytes ≡ false
unfolding is_whole
whole_short bytes l = ap (λ b. b && (nat_le (length bytes) 4194304 && same_bytes bytes (sealed (drop 65 bytes)))) (lt-leb 65 (length bytes) l)

pub whole_long : (bytes : List ℕ) → 4194304 < length bytes → is_whole bytes ≡ false
unfolding is_whole
whole_long bytes l = and_right (nat_le 65 (length bytes)) (nat_le (length bytes) 4194304 && same_bytes bytes (sealed (drop 65 bytes))) (ap (λ b. b && same_bytes bytes (sealed (drop 65 bytes))) (lt-leb (length bytes) 4194304 l))

split_same : (ds xs : List ℕ) (n : ℕ) → length ds ≡ n → n < length xs → same_bytes xs (ds ++ 10 ∷ drop (suc n) xs) ≡ (same_bytes (take n xs) ds && (get_or xs n 0 == 10))
unfolding same_bytes
split_same [] [] n e l = absurd (omega (arith, l))
split_same [] (x ∷ xs) zero e l = ap (λ b. (x == 10) && b) (same_itself xs) ∙ and_yes (x == 10)
split_same [] (x ∷ xs) (suc n) e l = absurd (omega (arith, e))
split_same (d ∷ ds) [] n e l = absurd (omega (arith, l))
split_same (d ∷ ds) (x ∷ xs) zero e l = absurd (omega (arith, e))
split_same (d ∷ ds) (x ∷ xs) (suc n) e l = ap (λ b. (x == d) && b) (split_same ds xs n (omega (arith, e)) (omega (arith, l))) ∙ and_regrouped (x == d) (same_bytes (take n xs) ds) (get_or xs n 0 == 10)

pub whole_test : (bytes seal : List ℕ) → 65 ≤ length bytes → length bytes ≤ 4194304 → seal ≡ encode_lower (sha256 (drop 65 bytes)) → is_whole bytes ≡ (same_bytes (take 64 bytes) seal && (get_or bytes 64 0 == 10))
unfolding is_whole sealed
whole_test bytes seal l m e =
    ap (λ b. b && (nat_le (length bytes) 4194304 && same_bytes bytes (sealed (drop 65 bytes)))) (le-leb 65 (length bytes) l)
    ∙ ap (λ b. b && same_bytes bytes (sealed (drop 65 bytes))) (le-leb (length bytes) 4194304 m)
    ∙ split_same (encode_lower (sha256 (drop 65 bytes))) bytes 64 (seal_length (drop 65 bytes)) (omega (arith, l))
    ∙ ap (λ s. same_bytes (take 64 bytes) s && (get_or bytes 64 0 == 10)) (sym e)

pub whole_other : (bytes seal : List ℕ) → 65 ≤ length bytes → length bytes ≤ 4194304 → seal ≡ encode_lower (sha256 (drop 65 bytes)) → same_bytes (take 64 bytes) seal ≡ false → is_whole bytes ≡ false
whole_other bytes seal l m e k = whole_test bytes seal l m e ∙ ap (λ b. b && (get_or bytes 64 0 == 10)) k

pub whole_line : (bytes seal : List ℕ) → 65 ≤ length bytes → length bytes ≤ 4194304 → seal ≡ encode_lower (sha256 (drop 65 bytes)) → same_bytes (take 64 bytes) seal ≡ true → is_whole bytes ≡ (get_or bytes 64 0 == 10)
whole_line bytes seal l m e k = whole_test bytes seal l m e ∙ ap (λ b. b && (get_or bytes 64 0 == 10)) k

pub ranged_found : (low high n : ℕ) (o : Option ℕ) → Some n ≡ o → low ≤ n → n ≤ high → number_up_to low high o ≡ Some n
unfolding number_up_to provided
ranged_found low high n o h l m = ap (number_up_to low high) (sym h) ∙ ap (λ b. if b then Some n else None) (and_from (nat_le low n) (nat_le n high) (le-leb low n l) (le-leb n high m))

pub ranged_low : (low high n : ℕ) (o : Option ℕ) → Some n ≡ o → n < low → number_up_to low high o ≡ None
unfolding number_up_to provided
ranged_low low high n o h l = ap (number_up_to low high) (sym h) ∙ ap (λ b. if b && nat_le n high then Some n else None) (lt-leb low n l)

pub ranged_high : (low high n : ℕ) (o : Option ℕ) → Some n ≡ o → high < n → number_up_to low high o ≡ None
unfolding number_up_to provided
ranged_high low high n o h l = ap (number_up_to low high) (sym h) ∙ ap (λ b. if b then Some n else None) (and_right (nat_le low n) (nat_le n high) (lt-leb n high l))

pub ranged_nowhere : (low high : ℕ) (o : Option ℕ) → None ≡ o → number_up_to low high o ≡ None
unfolding number_up_to provided
ranged_nowhere low high o h = ap (number_up_to low high) (sym h)

pub script_found : (ms : Members) (text : List ℕ) → Some text ≡ option_and_then as_str (get_member (codes "script") ms) → script_in ms ≡ digest_in text
unfolding script_in
script_found ms text h = ap (option_and_then digest_in) (sym h)

pub script_nowhere : (ms : Members) → None ≡ option_and_then as_str (get_member (codes "script") ms) → script_in ms ≡ None
unfolding script_in
script_nowhere ms h = ap (option_and_then digest_in) (sym h)

current_is : (blocks weight place : Option ℕ) (b w p : Option ℕ) → blocks ≡ b → weight ≡ w → place ≡ p → current_from blocks weight place ≡ current_from b w p
current_is blocks weight place b w p h k m = rw (h, k, m) refl

no_place_from : (b w : Option ℕ) → current_from b w None ≡ None
unfolding current_from
no_place_from None w = refl
no_place_from (Some b) None = refl
no_place_from (Some b) (Some w) = refl

no_weight_from : (b p : Option ℕ) → current_from b None p ≡ None
unfolding current_from
no_weight_from None p = refl
no_weight_from (Some b) p = refl

pub no_blocks : (budget : ℕ) (ms : Members) → None ≡ number_up_to 0 budget (number_at (codes "blocks") ms) → current_in budget ms ≡ None
unfolding current_in current_from
no_blocks budget ms h = ap (λ b. current_from b (number_up_to 1 255 (number_at (codes "weight") ms)) (number_up_to 0 (2 ^ 52 - 1) (number_at (codes "place") ms))) (sym h)

pub no_weight : (budget : ℕ) (ms : Members) → None ≡ number_up_to 1 255 (number_at (codes "weight") ms) → current_in budget ms ≡ None
unfolding current_in
no_weight budget ms h =
    ap (λ w. current_from (number_up_to 0 budget (number_at (codes "blocks") ms)) w (number_up_to 0 (2 ^ 52 - 1) (number_at (codes "place") ms))) (sym h)
    ∙ no_weight_from (number_up_to 0 budget (number_at (codes "blocks") ms)) (number_up_to 0 (2 ^ 52 - 1) (number_at (codes "place") ms))

pub no_place : (budget : ℕ) (ms : Members) → None ≡ number_up_to 0 (2 ^ 52 - 1) (number_at (codes "place") ms) → current_in budget ms ≡ None
unfolding current_in
no_place budget ms h =
    ap (λ p. current_from (number_up_to 0 budget (number_at (codes "blocks") ms)) (number_up_to 1 255 (number_at (codes "weight") ms)) p) (sym h)
    ∙ no_place_from (number_up_to 0 budget (number_at (codes "blocks") ms)) (number_up_to 1 255 (number_at (codes "weight") ms))

pub current_read : (budget : ℕ) (ms : Members) (b w p : ℕ) → Some b ≡ number_up_to 0 budget (number_at (codes "blocks") ms) → Some w ≡ number_up_to 1 255 (number_at (codes "weight") ms) → Some p ≡ number_up_to 0 (2 ^ 52 - 1) (number_at (codes "place") ms) → current_in budget ms ≡ Some (settled_of (record { blocks = b; weight = w; place = p }))
unfolding current_in current_from settled_of
current_read budget ms b w p h k m = current_is _ _ _ (Some b) (Some w) (Some p) (sym h) (sym k) (sym m)

-- the state, once its parts are there
unfoldable combined : ℕ → ℕ → Option (List ℕ) → Option ℕ → Option (List Progress) → Option Progress → Option Checkpoint
combined version budget s t d c =
    option_and_then (λ script. option_and_then (λ turn. option_and_then (λ settled. option_map (λ p. record { version = version; script = script; budget = budget; turn = turn; settled = settled; blocks = p.blocks; weight = p.weight; place = p.place }) c) d) t) s

-- the order in which the parts are read
unfoldable chained : ℕ → ℕ → Option (List ℕ) → Option ℕ → Option (List Progress) → Option ℕ → Option ℕ → Option ℕ → Option Checkpoint
chained version budget s t d b w p =
    option_and_then (λ script. option_and_then (λ turn. option_and_then (λ settled. option_and_then (λ blocks. option_and_then (λ weight. option_map (λ place. record { version = version; script = script; budget = budget; turn = turn; settled = settled; blocks = blocks; weight = weight; place = place }) p) w) b) d) t) s

grouped : (version budget : ℕ) (s : Option (List ℕ)) (t : Option ℕ) (d : Option (List Progress)) (b w p : Option ℕ) → chained version budget s t d b w p ≡ combined version budget s t d (current_from b w p)
unfolding chained combined current_from
grouped version budget None t d b w p = refl
grouped version budget (Some s) None d b w p = refl
grouped version budget (Some s) (Some t) None b w p = refl
grouped version budget (Some s) (Some t) (Some d) None w p = refl
grouped version budget (Some s) (Some t) (Some d) (Some b) None p = refl
grouped version budget (Some s) (Some t) (Some d) (Some b) (Some w) None = refl
grouped version budget (Some s) (Some t) (Some d) (Some b) (Some w) (Some p) = refl

pub no_keys : (ms : Members) (version budget : ℕ) → (member_count ms == 8) ≡ false → state_in ms version budget ≡ None
unfolding state_in chained
no_keys ms version budget e = ap (λ b. if not b then None else chained version budget (script_in ms) (number_up_to 0 (2 ^ 60) (number_at (codes "turn") ms)) (done_in budget ms) (number_up_to 0 budget (number_at (codes "blocks") ms)) (number_up_to 1 255 (number_at (codes "weight") ms)) (number_up_to 0 (2 ^ 52 - 1) (number_at (codes "place") ms))) e

state_is : (ms : Members) (version budget : ℕ) → (member_count ms == 8) ≡ true → state_in ms version budget ≡ combined version budget (script_in ms) (number_up_to 0 (2 ^ 60) (number_at (codes "turn") ms)) (done_in budget ms) (current_in budget ms)
unfolding state_in current_in chained
state_is ms version budget e =
    ap (λ b. if not b then None else chained version budget (script_in ms) (number_up_to 0 (2 ^ 60) (number_at (codes "turn") ms)) (done_in budget ms) (number_up_to 0 budget (number_at (codes "blocks") ms)) (number_up_to 1 255 (number_at (codes "weight") ms)) (number_up_to 0 (2 ^ 52 - 1) (number_at (codes "place") ms))) e
    ∙ grouped version budget (script_in ms) (number_up_to 0 (2 ^ 60) (number_at (codes "turn") ms)) (done_in budget ms) (number_up_to 0 budget (number_at (codes "blocks") ms)) (number_up_to 1 255 (number_at (codes "weight") ms)) (number_up_to 0 (2 ^ 52 - 1) (number_at (codes "place") ms))

pub no_script : (ms : Members) (version budget : ℕ) → (member_count ms == 8) ≡ true → None ≡ script_in ms → state_in ms version budget ≡ None
unfolding combined
no_script ms version budget e h = state_is ms version budget e ∙ ap (λ s. combined version budget s (number_up_to 0 (2 ^ 60) (number_at (codes "turn") ms)) (done_in budget ms) (current_in budget ms)) (sym h)

no_turn_from : (version budget : ℕ) (s : Option (List ℕ)) (d : Option (List Progress)) (c : Option Progress) → combined version budget s None d c ≡ None
unfolding combined
no_turn_from version budget None d c = refl
no_turn_from version budget (Some s) d c = refl

no_done_from : (version budget : ℕ) (s : Option (List ℕ)) (t : Option ℕ) (c : Option Progress) → combined version budget s t None c ≡ None
unfolding combined
no_done_from version budget None t c = refl
no_done_from version budget (Some s) None c = refl
no_done_from version budget (Some s) (Some t) c = refl

no_current_from : (version budget : ℕ) (s : Option (List ℕ)) (t : Option ℕ) (d : Option (List Progress)) → combined version budget s t d None ≡ None
unfolding combined
no_current_from version budget None t d = refl
no_current_from version budget (Some s) None d = refl
no_current_from version budget (Some s) (Some t) None = refl
no_current_from version budget (Some s) (Some t) (Some d) = refl

pub no_turn : (ms : Members) (version budget : ℕ) → (member_count ms == 8) ≡ true → None ≡ number_up_to 0 (2 ^ 60) (number_at (codes "turn") ms) → state_in ms version budget ≡ None
no_turn ms version budget e h =
    state_is ms version budget e
    ∙ ap (λ t. combined version budget (script_in ms) t (done_in budget ms) (current_in budget ms)) (sym h)
    ∙ no_turn_from version budget (script_in ms) (done_in budget ms) (current_in budget ms)

pub no_current : (ms : Members) (version budget : ℕ) → (member_count ms == 8) ≡ true → None ≡ current_in budget ms → state_in ms version budget ≡ None
no_current ms version budget e h =
    state_is ms version budget e
    ∙ ap (λ c. combined version budget (script_in ms) (number_up_to 0 (2 ^ 60) (number_at (codes "turn") ms)) (done_in budget ms) c) (sym h)
    ∙ no_current_from version budget (script_in ms) (number_up_to 0 (2 ^ 60) (number_at (codes "turn") ms)) (done_in budget ms)

pub no_done : (ms : Members) (version budget : ℕ) → (member_count ms == 8) ≡ true → None ≡ done_in budget ms → state_in ms version budget ≡ None
no_done ms version budget e h =
    state_is ms version budget e
    ∙ ap (λ d. combined version budget (script_in ms) (number_up_to 0 (2 ^ 60) (number_at (codes "turn") ms)) d (current_in budget ms)) (sym h)
    ∙ no_done_from version budget (script_in ms) (number_up_to 0 (2 ^ 60) (number_at (codes "turn") ms)) (current_in budget ms)

all_there : (version budget : ℕ) (s : Option (List ℕ)) (t : Option ℕ) (d : Option (List Progress)) (c : Option Progress) (script : List ℕ) (turn : ℕ) (settled : List Progress) (p : Progress) → s ≡ Some script → t ≡ Some turn → d ≡ Some settled → c ≡ Some p → combined version budget s t d c ≡ Some (record { version = version; script = script; budget = budget; turn = turn; settled = settled; blocks = p.blocks; weight = p.weight; place = p.place })
unfolding combined
all_there version budget s t d c script turn settled p h k m n = rw (h, k, m, n) refl

pub state_read : (ms : Members) (version budget : ℕ) (script : List ℕ) (turn : ℕ) (settled : List Progress) (p : Progress) → (member_count ms == 8) ≡ true → Some script ≡ script_in ms → Some turn ≡ number_up_to 0 (2 ^ 60) (number_at (codes "turn") ms) → Some settled ≡ done_in budget ms → Some p ≡ current_in budget ms → state_in ms version budget ≡ Some (record { version = version; script = script; budget = budget; turn = turn; settled = settled; blocks = p.blocks; weight = p.weight; place = p.place })
state_read ms version budget script turn settled p e h k m n = state_is ms version budget e ∙ all_there version budget _ _ _ _ script turn settled p (sym h) (sym k) (sym m) (sym n)

pub no_version : (ms : Members) (o : Option ℕ) → None ≡ o → versioned ms o ≡ refused shape
unfolding versioned
no_version ms o h = ap (versioned ms) (sym h)

abbrev budgeted : Members → ℕ → ReadCheckpoint
budgeted ms v = point_or_shape (option_and_then (state_in ms v) (number_up_to 0 (2 ^ 40) (number_at (codes "budget") ms)))

by_number : (ms : Members) (v : ℕ) (o : Option ℕ) → Some v ≡ o → versioned ms o ≡ (if (v == 1) || (v == 2) then budgeted ms v else refused (other_version v))
unfolding versioned
by_number ms v o h = ap (versioned ms) (sym h)

pub version_other : (ms : Members) (v : ℕ) (o : Option ℕ) → Some v ≡ o → ((v == 1) || (v == 2)) ≡ false → versioned ms o ≡ refused (other_version v)
version_other ms v o h e = by_number ms v o h ∙ ap (λ b. if b then budgeted ms v else refused (other_version v)) e

version_known : (ms : Members) (v : ℕ) (o : Option ℕ) → Some v ≡ o → ((v == 1) || (v == 2)) ≡ true → versioned ms o ≡ budgeted ms v
version_known ms v o h e = by_number ms v o h ∙ ap (λ b. if b then budgeted ms v else refused (other_version v)) e

pub no_budget : (ms : Members) (v : ℕ) (o : Option ℕ) → Some v ≡ o → ((v == 1) || (v == 2)) ≡ true → None ≡ number_up_to 0 (2 ^ 40) (number_at (codes "budget") ms) → versioned ms o ≡ refused shape
unfolding point_or_shape
no_budget ms v o h e k = version_known ms v o h e ∙ ap (λ b. point_or_shape (option_and_then (state_in ms v) b)) (sym k)

pub no_state : (ms : Members) (v budget : ℕ) (o : Option ℕ) → Some v ≡ o → ((v == 1) || (v == 2)) ≡ true → Some budget ≡ number_up_to 0 (2 ^ 40) (number_at (codes "budget") ms) → None ≡ state_in ms v budget → versioned ms o ≡ refused shape
unfolding point_or_shape
no_state ms v budget o h e k m = version_known ms v o h e ∙ ap (λ b. point_or_shape (option_and_then (state_in ms v) b)) (sym k) ∙ ap point_or_shape (sym m)

pub state_known : (ms : Members) (v budget : ℕ) (o : Option ℕ) (p : Checkpoint) → Some v ≡ o → ((v == 1) || (v == 2)) ≡ true → Some budget ≡ number_up_to 0 (2 ^ 40) (number_at (codes "budget") ms) → Some p ≡ state_in ms v budget → versioned ms o ≡ point p
unfolding point_or_shape
state_known ms v budget o p h e k m = version_known ms v o h e ∙ ap (λ b. point_or_shape (option_and_then (state_in ms v) b)) (sym k) ∙ ap point_or_shape (sym m)

pub is_damaged : (bytes : List ℕ) → is_whole bytes ≡ false → checkpoint_in bytes ≡ refused damaged
unfolding checkpoint_in
is_damaged bytes e = ap (λ b. if b then body_in (json_in (drop 65 bytes)) else refused damaged) e

pub no_body : (bytes : List ℕ) → is_whole bytes ≡ true → None ≡ json_in (drop 65 bytes) → checkpoint_in bytes ≡ refused shape
unfolding checkpoint_in body_in
no_body bytes e h = ap (λ b. if b then body_in (json_in (drop 65 bytes)) else refused damaged) e ∙ ap body_in (sym h)

body_members : (d : Data) → body_in (Some d) ≡ versioned (members_in d) (number_at (codes "version") (members_in d))
unfolding body_in versioned number_at
body_members null = refl
body_members (boolean b) = refl
body_members (number n) = refl
body_members (string s) = refl
body_members (array ds) = refl
body_members (object ms) = refl

pub body_is : (bytes : List ℕ) (d : Data) → is_whole bytes ≡ true → Some d ≡ json_in (drop 65 bytes) → checkpoint_in bytes ≡ versioned (members_in d) (number_at (codes "version") (members_in d))
unfolding checkpoint_in
body_is bytes d e h = ap (λ b. if b then body_in (json_in (drop 65 bytes)) else refused damaged) e ∙ ap body_in (sym h) ∙ body_members d

other_undamaged : (v : ℕ) → refused (other_version v) ≡ refused damaged → ⊥
other_undamaged v e = cc

option_undamaged : (o : Option Checkpoint) → point_or_shape o ≡ refused damaged → ⊥
unfolding point_or_shape
option_undamaged None e = cc
option_undamaged (Some p) e = cc

either_undamaged : (b : Bool) (x y : ReadCheckpoint) → (x ≡ refused damaged → ⊥) → (y ≡ refused damaged → ⊥) → (if b then x else y) ≡ refused damaged → ⊥
either_undamaged true x y f g e = f e
either_undamaged false x y f g e = g e

versioned_undamaged : (ms : Members) (o : Option ℕ) → versioned ms o ≡ refused damaged → ⊥
unfolding versioned
versioned_undamaged ms None e = cc
versioned_undamaged ms (Some v) e = either_undamaged ((v == 1) || (v == 2)) _ _ (option_undamaged _) (other_undamaged v) e

pub body_undamaged : (o : Option Data) → body_in o ≡ refused damaged → ⊥
unfolding body_in
body_undamaged None e = cc
body_undamaged (Some null) e = cc
body_undamaged (Some (boolean b)) e = cc
body_undamaged (Some (number n)) e = cc
body_undamaged (Some (string s)) e = cc
body_undamaged (Some (array ds)) e = cc
body_undamaged (Some (object ms)) e = versioned_undamaged ms _ e

pub sealed_undamaged : (bytes : List ℕ) (r : Result made.Checkpoint CheckpointRefusal) → is_whole bytes ≡ true → checkpoint_in bytes ≡ refused damaged → IsErrOf r Damaged
unfolding checkpoint_in
sealed_undamaged bytes r e h = absurd (body_undamaged (json_in (drop 65 bytes)) (sym (ap (λ b. if b then body_in (json_in (drop 65 bytes)) else refused damaged) e) ∙ h))

pub read_ranged : (bytes : List ℕ) (d : Data) (r : Result made.Checkpoint CheckpointRefusal) → is_whole bytes ≡ true → Some d ≡ json_in (drop 65 bytes) → IfOk r (λ p. versioned (members_in d) (number_at (codes "version") (members_in d)) ≡ point (point_of p)) → IfOk r (λ p. IsInRange (point_of p))
read_ranged bytes d (Ok p) w h e = checkpoint_ranged bytes (point_of p) (body_is bytes d w h ∙ e)
read_ranged bytes d (Err x) w h e = e

pub ruleset is_whole_laws = (whole_short, whole_long, whole_other, whole_line)

pub ruleset ranged_at_laws = (ranged_found, ranged_low, ranged_high, ranged_nowhere)

pub ruleset script_at_laws = (script_found, script_nowhere)

pub ruleset current_at_laws = (no_blocks, no_weight, no_place, current_read)

pub ruleset state_of_laws = (no_keys, no_script, no_turn, no_current, no_done, state_read)

pub ruleset point_from_laws = (no_version, version_other, no_budget, no_state, state_known)

pub ruleset decode_laws = (is_damaged, no_body, body_is, sealed_undamaged)
