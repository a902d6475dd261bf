-- How the bytes of a certificate of either version are read, the shape of one by construction, and what the command `check` prints.
-- Bytes that are no JSON object with the version 2 are read as a certificate of version 1. For version 2 the rules are, in order:
-- 3 `field` is the size of a symbol field; 12 the rules of claims; 5 `word` is a nonempty list, entries below the size; 6 `distance`
-- is a whole number of at least 1; 11 there are no other keys, in the object and in the sets of its searches. Rule 12 says of each
-- claim: its kind is one of the ten, its keys are those of the kind; numbers are whole; points and multipliers are at most 255;
-- entries of rows are below the size of the claim's field; `large` is the size of a symbol field; in a search the rules 4 to 10 hold.
-- After them come the limits: a list of more than 255 entries, more than 1,024 claims, or claims more than 32 deep.
--   Kind, all_kinds, kind_text        the kinds of claims, and what stands at the key `kind`
--   object_at key ms                  the object at a key
--   claim_from most f ms              the claim over the field that members are, by rule 12; claims more than `most` deep are none
--   are_closed most ms                whether the sets of its searches have no other keys
--   is_long claim, is_tree_beyond_limit b      the limits
--   DocumentRead, document_in bytes   how the bytes read
--   IsShapedClaim f claim, IsShapedTree b      the shape: what was read has it, and so must what is written or checked
--   IsCheckText bytes text            the line that `check` prints
use Rattle.std.specs.Prelude.{◌≡◌, ℕ, zero, suc, ◌-◌, ◌^◌, ◌<◌, ◌≤◌, Bool, true, not, nat_le, nat_lt, ◌==◌, ◌&&◌, ◌||◌, if◌then◌else◌, List, [], ◌∷◌, length, find, codes, All, Option, Some, None, option_map, option_and_then}
use Rattle.std.specs.List.{list_all, list_any}
use Rattle.serde_json.specs.Data.{Data, Members, members_depth}
use Rattle.serde_json.specs.Find.{get_member, as_str, as_object}
use Rattle.lc_algebra.specs.declared.FieldName.{FieldName}
use Rattle.lc_algebra.specs.Field.{size, is_symbol}
use Rattle.lc_algebra.specs.Word.{Fits}
use Rattle.lc_constructions.specs.Code.{longest}
use Rattle.lc_constructions.specs.Cyclic.{all_fields}
use Rattle.lc_constructions.specs.Refusals.{are_elements, have_elements}
use Rattle.lc_formats.specs.Text.{same_bytes}
use Rattle.lc_formats.specs.Certificate.{Reason, shape, limit, Verdict}
use Rattle.lc_formats.specs.Claim.{PairKind, uuv, direct_sum, product, PlaceKind, puncture, shorten, Claim, search, alternant, pair, concat, subcode, at_places, extend, Built, Document, plain, tree, claim_total, claim_depth, pair_text, place_text}
use Rattle.lc_formats.specs.Json.{number_at, list_at, provided, member_count, json_in}
use Rattle.lc_formats.specs.Shape.{IsShaped}
use Rattle.lc_formats.specs.Check.{CertificateRead, reads_as, refused_as, rows_at, field_at, parts_in, key_count, are_set_keys, is_beyond_limit, above, is_version, data_in, reason_line, verdict_line, line_of_verdict}
use Rattle.lc_formats.specs.ClaimMeaning.{IsTreeVerdict}

pub data Kind : Type 0 where
  of_search : Kind
  of_form : Kind
  of_pair : PairKind → Kind
  of_concat : Kind
  of_subcode : Kind
  of_places : PlaceKind → Kind
  of_extend : Kind

unfoldable pub kind_text : Kind → List ℕ
kind_text of_search = codes "search"
kind_text of_form = codes "alternant"
kind_text (of_pair kind) = pair_text kind
kind_text of_concat = codes "concat"
kind_text of_subcode = codes "subcode"
kind_text (of_places kind) = place_text kind
kind_text of_extend = codes "extend"

unfoldable pub all_kinds : List Kind
all_kinds = of_search ∷ of_form ∷ of_pair uuv ∷ of_pair direct_sum ∷ of_pair product ∷ of_concat ∷ of_subcode ∷ of_places puncture ∷ of_places shorten ∷ of_extend ∷ []

unfoldable pub kind_at : Members → Option Kind
kind_at ms = option_and_then (λ text. find (λ kind. same_bytes (kind_text kind) text) all_kinds) (option_and_then as_str (get_member (codes "kind") ms))

unfoldable pub object_at : List ℕ → Members → Option Members
object_at key ms = option_and_then as_object (get_member key ms)

-- x, if the object has so many keys
unfoldable pub with_keys : {X : Type 0} → ℕ → Members → Option X → Option X
with_keys count ms x = provided (λ y. member_count ms == count) x

-- a list of numbers of at most 255
unfoldable pub bytes_at : List ℕ → Members → Option (List ℕ)
bytes_at key ms = provided (λ entries. list_all (λ a. nat_le a 255) entries) (list_at key ms)

unfoldable pub symbol_field : ℕ → Option FieldName
symbol_field q = find (λ f. (size f == q) && is_symbol f) all_fields

-- its keys are those of a certificate, but for `field` and `version`, and with `kind`
unfoldable pub search_of : Members → CertificateRead → Option Claim
search_of ms (refused_as r) = None
search_of ms (reads_as c) = with_keys (key_count c.proof - 1) ms (Some (search c))

-- part g key is the claim over g at a key
unfoldable pub claim_of_kind : FieldName → Members → (FieldName → List ℕ → Option Claim) → Kind → Option Claim
claim_of_kind f ms part of_search = search_of ms (parts_in ms f)
claim_of_kind f ms part of_form =
    with_keys 5 ms (option_and_then (λ locator. option_and_then (λ points. option_and_then (λ multipliers. option_map (alternant locator points multipliers)
    (number_at (codes "r") ms))
    (bytes_at (codes "multipliers") ms))
    (bytes_at (codes "points") ms))
    (number_at (codes "locator") ms))
claim_of_kind f ms part (of_pair kind) = with_keys 3 ms (option_and_then (λ left. option_map (pair kind left) (part f (codes "right"))) (part f (codes "left")))
claim_of_kind f ms part of_concat =
    with_keys 4 ms (option_and_then (λ K. option_and_then (λ outer. option_map (concat (size K) outer)
    (part f (codes "inner")))
    (part K (codes "outer")))
    (option_and_then symbol_field (number_at (codes "large") ms)))
claim_of_kind f ms part of_subcode = with_keys 3 ms (option_and_then (λ of. option_map (subcode of) (provided (have_elements f) (rows_at ms))) (part f (codes "of")))
claim_of_kind f ms part (of_places kind) = with_keys 3 ms (option_and_then (λ of. option_map (at_places kind of) (list_at (codes "places") ms)) (part f (codes "of")))
claim_of_kind f ms part of_extend = with_keys 2 ms (option_map extend (part f (codes "of")))

unfoldable pub claim_from : ℕ → FieldName → Members → Option Claim
claim_from zero f ms = None
claim_from (suc most) f ms = option_and_then (claim_of_kind f ms (λ g key. option_and_then (claim_from most g) (object_at key ms))) (kind_at ms)

unfoldable pub part_keys : List (List ℕ)
part_keys = codes "left" ∷ codes "right" ∷ codes "outer" ∷ codes "inner" ∷ codes "of" ∷ []

unfoldable pub all_of : (Members → Bool) → Option Members → Bool
all_of test None = true
all_of test (Some ms) = test ms

unfoldable pub are_closed : ℕ → Members → Bool
are_closed zero ms = true
are_closed (suc most) ms = are_set_keys ms && list_all (λ key. all_of (are_closed most) (object_at key ms)) part_keys

unfoldable pub is_long : Claim → Bool
is_long (search c) = is_beyond_limit c
is_long (alternant locator points multipliers r) = above (length points) || above (length multipliers)
is_long (pair kind left right) = is_long left || is_long right
is_long (concat large outer inner) = is_long outer || is_long inner
is_long (subcode of rows) = is_long of || (above (length rows) || list_any (λ row. above (length row)) rows)
is_long (at_places kind of places) = is_long of || above (length places)
is_long (extend of) = is_long of

unfoldable pub is_tree_beyond_limit : Built → Bool
is_tree_beyond_limit b = above (length b.word) || (is_long b.claim || (nat_lt 1024 (claim_total b.claim) || nat_lt 32 (claim_depth b.claim)))

pub data DocumentRead : Type 0 where
  document : Document → DocumentRead
  no_document : Reason → DocumentRead

unfoldable pub plain_read : CertificateRead → DocumentRead
plain_read (reads_as c) = document (plain c)
plain_read (refused_as r) = no_document r

-- how deep the claims of the object may be nested: no deeper than the object itself
unfoldable pub tree_closed : Members → Built → DocumentRead
tree_closed ms b =
    if not ((member_count ms == 5) && all_of (are_closed (members_depth ms)) (object_at (codes "claim") ms)) then no_document (shape 11) else
    if is_tree_beyond_limit b then no_document limit else document (tree b)

unfoldable pub tree_distance_in : Members → (ℕ → Built) → Option ℕ → DocumentRead
tree_distance_in ms make None = no_document (shape 6)
tree_distance_in ms make (Some d) = tree_closed ms (make d)

unfoldable pub built_over : FieldName → Claim → List ℕ → ℕ → Built
built_over f claim word d = record { field = f; claim = claim; word = word; distance = d }

unfoldable pub tree_word_in : Members → FieldName → Claim → Option (List ℕ) → DocumentRead
tree_word_in ms f claim None = no_document (shape 5)
tree_word_in ms f claim (Some word) = tree_distance_in ms (built_over f claim word) (provided (nat_le 1) (number_at (codes "distance") ms))

unfoldable pub is_tree_word : FieldName → List ℕ → Bool
is_tree_word f word = nat_le 1 (length word) && are_elements f word

unfoldable pub tree_claim_in : Members → FieldName → Option Claim → DocumentRead
tree_claim_in ms f None = no_document (shape 12)
tree_claim_in ms f (Some claim) = tree_word_in ms f claim (provided (is_tree_word f) (list_at (codes "word") ms))

unfoldable pub tree_field_in : Members → Option FieldName → DocumentRead
tree_field_in ms None = no_document (shape 3)
tree_field_in ms (Some f) = tree_claim_in ms f (option_and_then (claim_from (members_depth ms) f) (object_at (codes "claim") ms))

unfoldable pub either_version : Data → Option Members → DocumentRead
either_version d None = plain_read (data_in (Some d))
either_version d (Some ms) = (if is_version 2 ms then tree_field_in ms (field_at ms) else plain_read (data_in (Some d)))

unfoldable pub document_of : Option Data → DocumentRead
document_of None = plain_read (data_in None)
document_of (Some d) = either_version d (as_object d)

unfoldable pub document_in : List ℕ → DocumentRead
document_in bytes = document_of (json_in bytes)

abbrev pub AreBytes : List ℕ → Type 0
AreBytes entries = (length entries ≤ longest) × All (λ a. a ≤ 255) entries

abbrev pub IsShapedClaim : FieldName → Claim → Type 0
IsShapedClaim f (search c) = (c.field ≡ f) × IsShaped c
IsShapedClaim f (alternant locator points multipliers r) = (locator < 2 ^ 64) × AreBytes points × AreBytes multipliers × (r < 2 ^ 64)
IsShapedClaim f (pair kind left right) = IsShapedClaim f left × IsShapedClaim f right
IsShapedClaim f (concat large outer inner) = (K : FieldName) × (size K ≡ large) × (is_symbol K ≡ true) × IsShapedClaim K outer × IsShapedClaim f inner
IsShapedClaim f (subcode of rows) = IsShapedClaim f of × (length rows ≤ longest) × All (λ row. (length row ≤ longest) × Fits f row) rows
IsShapedClaim f (at_places kind of places) = IsShapedClaim f of × (length places ≤ longest) × All (λ place. place < 2 ^ 64) places
IsShapedClaim f (extend of) = IsShapedClaim f of

pub record IsShapedTree (b : Built) : Type 0 where
  pub field_fits : is_symbol b.field ≡ true
  pub claims_fit : IsShapedClaim b.field b.claim
  pub few_claims : claim_total b.claim ≤ 1024
  pub shallow : claim_depth b.claim ≤ 32
  pub has_columns : 1 ≤ length b.word
  pub few_columns : length b.word ≤ longest
  pub word_fits : Fits b.field b.word
  pub positive : 1 ≤ b.distance
  pub distance_fits : b.distance < 2 ^ 64

abbrev pub IsCheckLine : DocumentRead → List ℕ → Type 0
IsCheckLine (no_document r) text = text ≡ reason_line r
IsCheckLine (document (plain c)) text = text ≡ verdict_line c
IsCheckLine (document (tree b)) text = (v : Verdict) × IsTreeVerdict b v × (text ≡ line_of_verdict b.distance v)

abbrev pub IsCheckText : List ℕ → List ℕ → Type 0
IsCheckText bytes text = IsCheckLine (document_in bytes) text
