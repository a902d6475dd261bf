-- Claims with their parts, as a reader takes them.
--   too_deep, no_kind, claim_by_kind      the claim that an object states
--   part_found, part_nowhere         the claim at a key
--   no_pair_keys, no_left, no_right, pair_read      two claims combined
--   larger_found, larger_nowhere     the field of an outer claim
--   no_nest_keys, no_larger, no_outer, no_inner, nest_read      a concatenation
--   no_span_keys, no_span_part, no_span_rows, span_read      the span of some rows
--   no_place_keys, no_place_part, no_places, places_read      a code punctured or shortened
--   no_extend_keys, no_extend_part, extend_read      an extended code
use Rattle.std.proofs.Common.{◌≡◌, ◌≢◌, ℕ, zero, suc, ◌-◌, ◌==◌, true, false, List, codes, Option, Some, None, option_map, option_and_then, refl, sym, ap, ◌∙◌, arith}
use Rattle.serde_json.specs.Data.{Members}
use Rattle.lc_algebra.specs.declared.FieldName.{FieldName}
use Rattle.lc_algebra.specs.Field.{size}
use Rattle.lc_constructions.specs.Refusals.{have_elements}
use Rattle.lc_formats.specs.Claim.{PairKind, PlaceKind, Claim, pair, concat, subcode, at_places, extend}
use Rattle.lc_formats.specs.Json.{number_at, list_at, provided, member_count}
use Rattle.lc_formats.specs.Check.{rows_at, parts_in}
use Rattle.lc_formats.specs.Document.{Kind, of_search, of_form, of_pair, of_concat, of_subcode, of_places, of_extend, kind_at, object_at, symbol_field, search_of, claim_of_kind, claim_from}
use Rattle.lc_documents.specs.Parts.{form_in, part_of, kind_claim}
use Rattle.lc_documents.proofs.LeafLaws.{no_keys, keys_are}

pub too_deep : (most : ℕ) (f : FieldName) (ms : Members) → most ≡ 0 → claim_from most f ms ≡ None
unfolding claim_from
too_deep most f ms e = ap (λ k. claim_from k f ms) e

pub no_kind : (most : ℕ) (f : FieldName) (ms : Members) → None ≡ kind_at ms → claim_from most f ms ≡ None
unfolding claim_from
no_kind zero f ms h = refl
no_kind (suc most) f ms h = ap (option_and_then (claim_of_kind f ms (λ g key. option_and_then (claim_from most g) (object_at key ms)))) (sym h)

pub claim_by_kind : (most : ℕ) (f : FieldName) (ms : Members) (k : Kind) → most ≢ 0 → Some k ≡ kind_at ms → claim_from most f ms ≡ kind_claim (most - 1) f ms k
unfolding claim_from kind_claim part_of
claim_by_kind zero f ms k n h = absurd (n refl)
claim_by_kind (suc most) f ms k n h =
    ap (option_and_then (claim_of_kind f ms (λ g key. option_and_then (claim_from most g) (object_at key ms)))) (sym h)
    ∙ ap (λ m. claim_of_kind f ms (λ g key. option_and_then (claim_from m g) (object_at key ms)) k) {x = most} {y = suc most - 1} (omega arith)

pub claim_is_search : (most : ℕ) (f : FieldName) (ms : Members) → most ≢ 0 → Some of_search ≡ kind_at ms → claim_from most f ms ≡ search_of ms (parts_in ms f)
unfolding kind_claim claim_of_kind
claim_is_search most f ms n h = claim_by_kind most f ms of_search n h

pub claim_is_form : (most : ℕ) (f : FieldName) (ms : Members) → most ≢ 0 → Some of_form ≡ kind_at ms → claim_from most f ms ≡ form_in ms
unfolding kind_claim claim_of_kind form_in
claim_is_form most f ms n h = claim_by_kind most f ms of_form n h

pub part_found : (most : ℕ) (f : FieldName) (key : List ℕ) (ms part : Members) → Some part ≡ object_at key ms → part_of most f key ms ≡ claim_from most f part
unfolding part_of
part_found most f key ms part h = ap (option_and_then (claim_from most f)) (sym h)

pub part_nowhere : (most : ℕ) (f : FieldName) (key : List ℕ) (ms : Members) → None ≡ object_at key ms → part_of most f key ms ≡ None
unfolding part_of
part_nowhere most f key ms h = ap (option_and_then (claim_from most f)) (sym h)

-- two claims combined

pub no_pair_keys : (most : ℕ) (f : FieldName) (ms : Members) (k : PairKind) → (member_count ms == 3) ≡ false → kind_claim most f ms (of_pair k) ≡ None
unfolding kind_claim claim_of_kind
no_pair_keys most f ms k e = no_keys 3 ms _ e

pair_keys : (most : ℕ) (f : FieldName) (ms : Members) (k : PairKind) → (member_count ms == 3) ≡ true → kind_claim most f ms (of_pair k) ≡ option_and_then (λ left. option_map (pair k left) (part_of most f (codes "right") ms)) (part_of most f (codes "left") ms)
unfolding kind_claim claim_of_kind
pair_keys most f ms k e = keys_are 3 ms _ e

pub no_left : (most : ℕ) (f : FieldName) (ms : Members) (k : PairKind) → (member_count ms == 3) ≡ true → None ≡ part_of most f (codes "left") ms → kind_claim most f ms (of_pair k) ≡ None
no_left most f ms k e h = pair_keys most f ms k e ∙ ap (option_and_then (λ left. option_map (pair k left) (part_of most f (codes "right") ms))) (sym h)

with_left : (most : ℕ) (f : FieldName) (ms : Members) (k : PairKind) (left : Claim) → (member_count ms == 3) ≡ true → Some left ≡ part_of most f (codes "left") ms → kind_claim most f ms (of_pair k) ≡ option_map (pair k left) (part_of most f (codes "right") ms)
with_left most f ms k left e h = pair_keys most f ms k e ∙ ap (option_and_then (λ x. option_map (pair k x) (part_of most f (codes "right") ms))) (sym h)

pub no_right : (most : ℕ) (f : FieldName) (ms : Members) (k : PairKind) (left : Claim) → (member_count ms == 3) ≡ true → Some left ≡ part_of most f (codes "left") ms → None ≡ part_of most f (codes "right") ms → kind_claim most f ms (of_pair k) ≡ None
no_right most f ms k left e h m = with_left most f ms k left e h ∙ ap (option_map (pair k left)) (sym m)

pub pair_read : (most : ℕ) (f : FieldName) (ms : Members) (k : PairKind) (left right : Claim) → (member_count ms == 3) ≡ true → Some left ≡ part_of most f (codes "left") ms → Some right ≡ part_of most f (codes "right") ms → kind_claim most f ms (of_pair k) ≡ Some (pair k left right)
pair_read most f ms k left right e h m = with_left most f ms k left e h ∙ ap (option_map (pair k left)) (sym m)

-- a concatenation

pub larger_found : (ms : Members) (q : ℕ) → Some q ≡ number_at (codes "large") ms → option_and_then symbol_field (number_at (codes "large") ms) ≡ symbol_field q
larger_found ms q h = ap (option_and_then symbol_field) (sym h)

pub larger_nowhere : (ms : Members) → None ≡ number_at (codes "large") ms → option_and_then symbol_field (number_at (codes "large") ms) ≡ None
larger_nowhere ms h = ap (option_and_then symbol_field) (sym h)

pub no_nest_keys : (most : ℕ) (f : FieldName) (ms : Members) → (member_count ms == 4) ≡ false → kind_claim most f ms of_concat ≡ None
unfolding kind_claim claim_of_kind
no_nest_keys most f ms e = no_keys 4 ms _ e

unfoldable with_outer_of : ℕ → FieldName → Members → FieldName → Claim → Option Claim
with_outer_of most f ms K outer = option_map (concat (size K) outer) (part_of most f (codes "inner") ms)

unfoldable with_field_of : ℕ → FieldName → Members → FieldName → Option Claim
with_field_of most f ms K = option_and_then (with_outer_of most f ms K) (part_of most K (codes "outer") ms)

nest_keys : (most : ℕ) (f : FieldName) (ms : Members) → (member_count ms == 4) ≡ true → kind_claim most f ms of_concat ≡ option_and_then (with_field_of most f ms) (option_and_then symbol_field (number_at (codes "large") ms))
unfolding kind_claim claim_of_kind with_field_of with_outer_of
nest_keys most f ms e = keys_are 4 ms _ e

pub no_larger : (most : ℕ) (f : FieldName) (ms : Members) → (member_count ms == 4) ≡ true → None ≡ option_and_then symbol_field (number_at (codes "large") ms) → kind_claim most f ms of_concat ≡ None
no_larger most f ms e h = nest_keys most f ms e ∙ ap (option_and_then (with_field_of most f ms)) (sym h)

with_larger : (most : ℕ) (f : FieldName) (ms : Members) (K : FieldName) → (member_count ms == 4) ≡ true → Some K ≡ option_and_then symbol_field (number_at (codes "large") ms) → kind_claim most f ms of_concat ≡ with_field_of most f ms K
with_larger most f ms K e h = nest_keys most f ms e ∙ ap (option_and_then (with_field_of most f ms)) (sym h)

pub no_outer : (most : ℕ) (f : FieldName) (ms : Members) (K : FieldName) → (member_count ms == 4) ≡ true → Some K ≡ option_and_then symbol_field (number_at (codes "large") ms) → None ≡ part_of most K (codes "outer") ms → kind_claim most f ms of_concat ≡ None
unfolding with_field_of
no_outer most f ms K e h m = with_larger most f ms K e h ∙ ap (option_and_then (with_outer_of most f ms K)) (sym m)

with_outer : (most : ℕ) (f : FieldName) (ms : Members) (K : FieldName) (outer : Claim) → (member_count ms == 4) ≡ true → Some K ≡ option_and_then symbol_field (number_at (codes "large") ms) → Some outer ≡ part_of most K (codes "outer") ms → kind_claim most f ms of_concat ≡ with_outer_of most f ms K outer
unfolding with_field_of
with_outer most f ms K outer e h m = with_larger most f ms K e h ∙ ap (option_and_then (with_outer_of most f ms K)) (sym m)

pub no_inner : (most : ℕ) (f : FieldName) (ms : Members) (K : FieldName) (outer : Claim) → (member_count ms == 4) ≡ true → Some K ≡ option_and_then symbol_field (number_at (codes "large") ms) → Some outer ≡ part_of most K (codes "outer") ms → None ≡ part_of most f (codes "inner") ms → kind_claim most f ms of_concat ≡ None
unfolding with_outer_of
no_inner most f ms K outer e h m n = with_outer most f ms K outer e h m ∙ ap (option_map (concat (size K) outer)) (sym n)

pub nest_read : (most : ℕ) (f : FieldName) (ms : Members) (K : FieldName) (large : ℕ) (outer inner : Claim) → (member_count ms == 4) ≡ true → Some K ≡ option_and_then symbol_field (number_at (codes "large") ms) → large ≡ size K → Some outer ≡ part_of most K (codes "outer") ms → Some inner ≡ part_of most f (codes "inner") ms → kind_claim most f ms of_concat ≡ Some (concat large outer inner)
unfolding with_outer_of
nest_read most f ms K large outer inner e h same m n = with_outer most f ms K outer e h m ∙ ap (option_map (concat (size K) outer)) (sym n) ∙ ap (λ q. Some (concat q outer inner)) (sym same)

-- the span of some rows

pub no_span_keys : (most : ℕ) (f : FieldName) (ms : Members) → (member_count ms == 3) ≡ false → kind_claim most f ms of_subcode ≡ None
unfolding kind_claim claim_of_kind
no_span_keys most f ms e = no_keys 3 ms _ e

span_keys : (most : ℕ) (f : FieldName) (ms : Members) → (member_count ms == 3) ≡ true → kind_claim most f ms of_subcode ≡ option_and_then (λ of. option_map (subcode of) (provided (have_elements f) (rows_at ms))) (part_of most f (codes "of") ms)
unfolding kind_claim claim_of_kind
span_keys most f ms e = keys_are 3 ms _ e

pub no_span_part : (most : ℕ) (f : FieldName) (ms : Members) → (member_count ms == 3) ≡ true → None ≡ part_of most f (codes "of") ms → kind_claim most f ms of_subcode ≡ None
no_span_part most f ms e h = span_keys most f ms e ∙ ap (option_and_then (λ of. option_map (subcode of) (provided (have_elements f) (rows_at ms)))) (sym h)

with_span_part : (most : ℕ) (f : FieldName) (ms : Members) (of : Claim) → (member_count ms == 3) ≡ true → Some of ≡ part_of most f (codes "of") ms → kind_claim most f ms of_subcode ≡ option_map (subcode of) (provided (have_elements f) (rows_at ms))
with_span_part most f ms of e h = span_keys most f ms e ∙ ap (option_and_then (λ x. option_map (subcode x) (provided (have_elements f) (rows_at ms)))) (sym h)

pub no_span_rows : (most : ℕ) (f : FieldName) (ms : Members) (of : Claim) → (member_count ms == 3) ≡ true → Some of ≡ part_of most f (codes "of") ms → None ≡ provided (have_elements f) (rows_at ms) → kind_claim most f ms of_subcode ≡ None
no_span_rows most f ms of e h m = with_span_part most f ms of e h ∙ ap (option_map (subcode of)) (sym m)

pub span_read : (most : ℕ) (f : FieldName) (ms : Members) (of : Claim) (rows : List (List ℕ)) → (member_count ms == 3) ≡ true → Some of ≡ part_of most f (codes "of") ms → Some rows ≡ provided (have_elements f) (rows_at ms) → kind_claim most f ms of_subcode ≡ Some (subcode of rows)
span_read most f ms of rows e h m = with_span_part most f ms of e h ∙ ap (option_map (subcode of)) (sym m)

-- a code punctured or shortened

pub no_place_keys : (most : ℕ) (f : FieldName) (ms : Members) (k : PlaceKind) → (member_count ms == 3) ≡ false → kind_claim most f ms (of_places k) ≡ None
unfolding kind_claim claim_of_kind
no_place_keys most f ms k e = no_keys 3 ms _ e

place_keys : (most : ℕ) (f : FieldName) (ms : Members) (k : PlaceKind) → (member_count ms == 3) ≡ true → kind_claim most f ms (of_places k) ≡ option_and_then (λ of. option_map (at_places k of) (list_at (codes "places") ms)) (part_of most f (codes "of") ms)
unfolding kind_claim claim_of_kind
place_keys most f ms k e = keys_are 3 ms _ e

pub no_place_part : (most : ℕ) (f : FieldName) (ms : Members) (k : PlaceKind) → (member_count ms == 3) ≡ true → None ≡ part_of most f (codes "of") ms → kind_claim most f ms (of_places k) ≡ None
no_place_part most f ms k e h = place_keys most f ms k e ∙ ap (option_and_then (λ of. option_map (at_places k of) (list_at (codes "places") ms))) (sym h)

with_place_part : (most : ℕ) (f : FieldName) (ms : Members) (k : PlaceKind) (of : Claim) → (member_count ms == 3) ≡ true → Some of ≡ part_of most f (codes "of") ms → kind_claim most f ms (of_places k) ≡ option_map (at_places k of) (list_at (codes "places") ms)
with_place_part most f ms k of e h = place_keys most f ms k e ∙ ap (option_and_then (λ x. option_map (at_places k x) (list_at (codes "places") ms))) (sym h)

pub no_places : (most : ℕ) (f : FieldName) (ms : Members) (k : PlaceKind) (of : Claim) → (member_count ms == 3) ≡ true → Some of ≡ part_of most f (codes "of") ms → None ≡ list_at (codes "places") ms → kind_claim most f ms (of_places k) ≡ None
no_places most f ms k of e h m = with_place_part most f ms k of e h ∙ ap (option_map (at_places k of)) (sym m)

pub places_read : (most : ℕ) (f : FieldName) (ms : Members) (k : PlaceKind) (of : Claim) (places : List ℕ) → (member_count ms == 3) ≡ true → Some of ≡ part_of most f (codes "of") ms → Some places ≡ list_at (codes "places") ms → kind_claim most f ms (of_places k) ≡ Some (at_places k of places)
places_read most f ms k of places e h m = with_place_part most f ms k of e h ∙ ap (option_map (at_places k of)) (sym m)

-- an extended code

pub no_extend_keys : (most : ℕ) (f : FieldName) (ms : Members) → (member_count ms == 2) ≡ false → kind_claim most f ms of_extend ≡ None
unfolding kind_claim claim_of_kind
no_extend_keys most f ms e = no_keys 2 ms _ e

extend_keys : (most : ℕ) (f : FieldName) (ms : Members) → (member_count ms == 2) ≡ true → kind_claim most f ms of_extend ≡ option_map extend (part_of most f (codes "of") ms)
unfolding kind_claim claim_of_kind
extend_keys most f ms e = keys_are 2 ms _ e

pub no_extend_part : (most : ℕ) (f : FieldName) (ms : Members) → (member_count ms == 2) ≡ true → None ≡ part_of most f (codes "of") ms → kind_claim most f ms of_extend ≡ None
no_extend_part most f ms e h = extend_keys most f ms e ∙ ap (option_map extend) (sym h)

pub extend_read : (most : ℕ) (f : FieldName) (ms : Members) (of : Claim) → (member_count ms == 2) ≡ true → Some of ≡ part_of most f (codes "of") ms → kind_claim most f ms of_extend ≡ Some (extend of)
extend_read most f ms of e h = extend_keys most f ms e ∙ ap (option_map extend) (sym h)

pub ruleset claim_from_laws = (too_deep, no_kind, claim_by_kind, claim_is_search, claim_is_form)

pub ruleset part_of_laws = (part_found, part_nowhere)

pub ruleset pair_at_laws = (no_pair_keys, no_left, no_right, pair_read)

pub ruleset larger_field_laws = (larger_found, larger_nowhere)

pub ruleset concat_at_laws = (no_nest_keys, no_larger, no_outer, no_inner, nest_read)

pub ruleset subcode_at_laws = (no_span_keys, no_span_part, no_span_rows, span_read)

pub ruleset places_at_laws = (no_place_keys, no_place_part, no_places, places_read)

pub ruleset extend_at_laws = (no_extend_keys, no_extend_part, extend_read)
