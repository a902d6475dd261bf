-- A certificate of either version that was read has the shape.
--   list_fits                  the numbers of a list are below 2^64
--   map_some                   what holds of the image of what is there
--   HasClaimRules f claim      a claim meets all rules but the limits
--   claim_ruled                so does one that was read
--   claim_limited              within the limits, it has the shape
--   document_shaped            a document that bytes read as has the shape
use Rattle.std.proofs.Common.{◌≡◌, ℕ, zero, suc, ◌-◌, ◌^◌, ◌<◌, ◌≤◌, Bool, true, false, not, nat_le, nat_lt, ◌==◌, ◌&&◌, ◌||◌, if◌then◌else◌, List, [], ◌∷◌, length, codes, All, Option, Some, None, option_map, option_and_then, refl, subst, arith}
use Rattle.std.specs.List.{list_all, list_any}
use Rattle.std.proofs.lemmas.Bool.{and_parts, leb-true, ltb-false, or_parts}
use Rattle.std.proofs.lemmas.Option.{option_and_then_some, same_Some}
use Rattle.std.proofs.lemmas.List.Elements.{All-cons, All-head, All-tail}
use Rattle.serde_json.specs.Data.{Data, Members, null, boolean, number, string, array, object, members_depth}
use Rattle.serde_json.specs.Find.{get_member, as_object}
use Rattle.lc_algebra.specs.declared.FieldName.{FieldName}
use Rattle.lc_algebra.specs.Field.{size, is_symbol}
use Rattle.lc_algebra.specs.Word.{Fits}
use Rattle.lc_constructions.specs.Code.{longest}
use Rattle.lc_constructions.specs.Refusals.{are_elements, have_elements}
use Rattle.lc_constructions.proofs.RefusalLaws.{elements_fit}
use Rattle.lc_formats.specs.Certificate.{Certificate, Reason, limit, shape as broken}
use Rattle.lc_formats.specs.Claim.{Claim, search, alternant, pair, concat, subcode, at_places, extend, Built, Document, plain, tree, claim_total, claim_depth}
use Rattle.lc_formats.specs.Json.{number_at, listed, plain_number, numbers_of, list_at, provided, member_count, json_in}
use Rattle.lc_formats.specs.Shape.{IsShaped}
use Rattle.lc_formats.specs.Check.{CertificateRead, reads_as, refused_as, rows_at, field_at, parts_in, key_count, above, is_version, data_in}
use Rattle.lc_formats.specs.Document.{Kind, of_search, of_form, of_pair, of_concat, of_subcode, of_places, of_extend, kind_at, object_at, with_keys, bytes_at, symbol_field, search_of, claim_of_kind, claim_from, all_of, are_closed, is_long, is_tree_beyond_limit, DocumentRead, document, no_document, plain_read, tree_closed, tree_distance_in, built_over, tree_word_in, is_tree_word, tree_claim_in, tree_field_in, either_version, document_of, document_in, IsShapedClaim, IsShapedTree}
use Rattle.lc_formats.proofs.TestLaws.{all_holds}
use Rattle.lc_formats.proofs.ReadLaws.{AreFit, MembersFit, json_fits, number_fits, member_fits, object_fits, listed_fit, whole_fits, provided_inside, each_all}
use Rattle.lc_formats.proofs.CertificateShaped.{HasRules, HasRulesOver, parts_ruled, limited, is_below_limit, field_found, data_shaped}

pub map_some : {X Y : Type 0} (g : X → Y) (o : Option X) (y : Y) (P : Y → Type 0) → ((x : X) → o ≡ Some x → P (g x)) → option_map g o ≡ Some y → P y
map_some g None y P h e = absurd cc
map_some g (Some x) y P h e = subst P (same_Some (g x) y e) (h x refl)

numbers_fit : (d : Data) (u : List ℕ) → AreFit d → numbers_of d ≡ Some u → All (λ n. n < 2 ^ 64) u
unfolding numbers_of plain_number
numbers_fit null u h e = absurd cc
numbers_fit (boolean b) u h e = absurd cc
numbers_fit (number n) u h e = absurd cc
numbers_fit (string s) u h e = absurd cc
numbers_fit (array ds) u h e = each_all plain_number AreFit (λ n. n < 2 ^ 64) (λ d n fit same. whole_fits d n fit same) (listed ds) u (listed_fit ds h) e
numbers_fit (object ms) u h e = absurd cc

pub list_fits : (key : List ℕ) (ms : Members) (u : List ℕ) → MembersFit ms → list_at key ms ≡ Some u → All (λ n. n < 2 ^ 64) u
unfolding list_at
list_fits key ms u h e = option_and_then_some numbers_of (get_member key ms) u e (λ d there made. numbers_fit d u (member_fits key ms d h there) made)

abbrev pub HasClaimRules : FieldName → Claim → Type 0
HasClaimRules f (search c) = (c.field ≡ f) × HasRules c
HasClaimRules f (alternant locator points multipliers r) = (locator < 2 ^ 64) × All (λ a. a ≤ 255) points × All (λ a. a ≤ 255) multipliers × (r < 2 ^ 64)
HasClaimRules f (pair kind left right) = HasClaimRules f left × HasClaimRules f right
HasClaimRules f (concat large outer inner) = (K : FieldName) × (size K ≡ large) × (is_symbol K ≡ true) × HasClaimRules K outer × HasClaimRules f inner
HasClaimRules f (subcode of rows) = HasClaimRules f of × All (Fits f) rows
HasClaimRules f (at_places kind of places) = HasClaimRules f of × All (λ place. place < 2 ^ 64) places
HasClaimRules f (extend of) = HasClaimRules f of

keys_inside : {X : Type 0} (count : ℕ) (ms : Members) (o : Option X) (x : X) → with_keys count ms o ≡ Some x → o ≡ Some x
unfolding with_keys
keys_inside count ms o x e = (provided_inside (λ y. member_count ms == count) o x e).there

bytes_ruled : (key : List ℕ) (ms : Members) (u : List ℕ) → bytes_at key ms ≡ Some u → All (λ a. a ≤ 255) u
unfolding bytes_at
bytes_ruled key ms u e = all_holds (λ a. nat_le a 255) (λ a. a ≤ 255) (λ a h. leb-true a 255 h) u (provided_inside (λ entries. list_all (λ a. nat_le a 255) entries) (list_at key ms) u e).passes

search_ruled : (f : FieldName) (ms : Members) (r : CertificateRead) (claim : Claim) → HasRulesOver f r → search_of ms r ≡ Some claim → HasClaimRules f claim
unfolding search_of
search_ruled f ms (refused_as r) claim h e = absurd cc
search_ruled f ms (reads_as c) claim h e = subst (HasClaimRules f) (same_Some (search c) claim (keys_inside (key_count c.proof - 1) ms (Some (search c)) claim e)) (h c refl)

rows_ruled : (f : FieldName) (ms : Members) (rows : List (List ℕ)) → provided (have_elements f) (rows_at ms) ≡ Some rows → All (Fits f) rows
unfolding have_elements
rows_ruled f ms rows e = all_holds (are_elements f) (Fits f) (elements_fit f) rows (provided_inside (have_elements f) (rows_at ms) rows e).passes

abbrev PartsRuled : (FieldName → List ℕ → Option Claim) → Type 0
PartsRuled part = (g : FieldName) (key : List ℕ) (claim : Claim) → is_symbol g ≡ true → part g key ≡ Some claim → HasClaimRules g claim

kind_ruled : (f : FieldName) (ms : Members) (part : FieldName → List ℕ → Option Claim) (kind : Kind) (claim : Claim) → is_symbol f ≡ true → MembersFit ms → PartsRuled part → claim_of_kind f ms part kind ≡ Some claim → HasClaimRules f claim
unfolding claim_of_kind symbol_field
kind_ruled f ms part of_search claim s fits h e = search_ruled f ms (parts_in ms f) claim (parts_ruled ms f s fits) e
kind_ruled f ms part of_form claim s fits h e =
    let r_at = number_at (codes "r") ms in
    let multipliers_at = bytes_at (codes "multipliers") ms in
    let points_at = bytes_at (codes "points") ms in
    option_and_then_some (λ locator. option_and_then (λ points. option_and_then (λ multipliers. option_map (alternant locator points multipliers) r_at) multipliers_at) points_at) (number_at (codes "locator") ms) claim (keys_inside 5 ms _ claim e) (λ locator locator_is rest.
    option_and_then_some (λ points. option_and_then (λ multipliers. option_map (alternant locator points multipliers) r_at) multipliers_at) points_at claim rest (λ points points_is rest.
    option_and_then_some (λ multipliers. option_map (alternant locator points multipliers) r_at) multipliers_at claim rest (λ multipliers multipliers_is rest.
    map_some (alternant locator points multipliers) r_at claim (HasClaimRules f) (λ r r_is. (number_fits (codes "locator") ms locator fits locator_is, bytes_ruled (codes "points") ms points points_is, bytes_ruled (codes "multipliers") ms multipliers multipliers_is, number_fits (codes "r") ms r fits r_is)) rest)))
kind_ruled f ms part (of_pair kind) claim s fits h e =
    option_and_then_some (λ left. option_map (pair kind left) (part f (codes "right"))) (part f (codes "left")) claim (keys_inside 3 ms _ claim e) (λ left left_is rest.
    map_some (pair kind left) (part f (codes "right")) claim (HasClaimRules f) (λ right right_is. (h f (codes "left") left s left_is, h f (codes "right") right s right_is)) rest)
kind_ruled f ms part of_concat claim s fits h e =
    option_and_then_some (λ K. option_and_then (λ outer. option_map (concat (size K) outer) (part f (codes "inner"))) (part K (codes "outer"))) (option_and_then symbol_field (number_at (codes "large") ms)) claim (keys_inside 4 ms _ claim e) (λ K K_is rest.
    let symbol = field_found (number_at (codes "large") ms) K K_is in
    option_and_then_some (λ outer. option_map (concat (size K) outer) (part f (codes "inner"))) (part K (codes "outer")) claim rest (λ outer outer_is rest.
    map_some (concat (size K) outer) (part f (codes "inner")) claim (HasClaimRules f) (λ inner inner_is. (K, refl, symbol, h K (codes "outer") outer symbol outer_is, h f (codes "inner") inner s inner_is)) rest))
kind_ruled f ms part of_subcode claim s fits h e =
    option_and_then_some (λ of. option_map (subcode of) (provided (have_elements f) (rows_at ms))) (part f (codes "of")) claim (keys_inside 3 ms _ claim e) (λ of of_is rest.
    map_some (subcode of) (provided (have_elements f) (rows_at ms)) claim (HasClaimRules f) (λ rows rows_is. (h f (codes "of") of s of_is, rows_ruled f ms rows rows_is)) rest)
kind_ruled f ms part (of_places kind) claim s fits h e =
    option_and_then_some (λ of. option_map (at_places kind of) (list_at (codes "places") ms)) (part f (codes "of")) claim (keys_inside 3 ms _ claim e) (λ of of_is rest.
    map_some (at_places kind of) (list_at (codes "places") ms) claim (HasClaimRules f) (λ places places_is. (h f (codes "of") of s of_is, list_fits (codes "places") ms places fits places_is)) rest)
kind_ruled f ms part of_extend claim s fits h e =
    map_some extend (part f (codes "of")) claim (HasClaimRules f) (λ of of_is. h f (codes "of") of s of_is) (keys_inside 2 ms _ claim e)

object_at_fits : (key : List ℕ) (ms part : Members) → MembersFit ms → object_at key ms ≡ Some part → MembersFit part
unfolding object_at
object_at_fits key ms part fits e = option_and_then_some as_object (get_member key ms) part e (λ d there made. object_fits d part (member_fits key ms d fits there) made)

pub claim_ruled : (most : ℕ) (f : FieldName) (ms : Members) (claim : Claim) → is_symbol f ≡ true → MembersFit ms → claim_from most f ms ≡ Some claim → HasClaimRules f claim
unfolding claim_from
claim_ruled zero f ms claim s fits e = absurd cc
claim_ruled (suc most) f ms claim s fits e =
    let part = λ (g : FieldName) (key : List ℕ). option_and_then (claim_from most g) (object_at key ms) in
    option_and_then_some (claim_of_kind f ms part) (kind_at ms) claim e (λ kind kind_is made.
    kind_ruled f ms part kind claim s fits (λ g key c symbol there.
    option_and_then_some (claim_from most g) (object_at key ms) c there (λ inner inner_is read. claim_ruled most g inner c symbol (object_at_fits key ms inner fits inner_is) read)) made)

-- each row is short and over the field
rows_limited : (f : FieldName) (rows : List (List ℕ)) → All (Fits f) rows → list_any (λ row. above (length row)) rows ≡ false → All (λ row. (length row ≤ longest) × Fits f row) rows
rows_limited f [] a e = λ k d l. absurd (omega (arith, l))
rows_limited f (row ∷ rows) a e =
    let s = or_parts (above (length row)) (list_any (λ row. above (length row)) rows) e in
    All-cons (λ row. (length row ≤ longest) × Fits f row) row rows (is_below_limit (length row) s.0, All-head (Fits f) row rows a) (rows_limited f rows (All-tail (Fits f) row rows a) s.1)

pub claim_limited : (f : FieldName) (claim : Claim) → HasClaimRules f claim → is_long claim ≡ false → IsShapedClaim f claim
unfolding is_long
claim_limited f (search c) h e = (h.0, limited c h.1 e)
claim_limited f (alternant locator points multipliers r) h e =
    let s = or_parts (above (length points)) (above (length multipliers)) e in
    (h.0, (is_below_limit (length points) s.0, h.1), (is_below_limit (length multipliers) s.1, h.2), h.3)
claim_limited f (pair kind left right) h e =
    let s = or_parts (is_long left) (is_long right) e in
    (claim_limited f left h.0 s.0, claim_limited f right h.1 s.1)
claim_limited f (concat large outer inner) h e =
    let s = or_parts (is_long outer) (is_long inner) e in
    (h.0, h.1, h.2, claim_limited h.0 outer h.3 s.0, claim_limited f inner h.4 s.1)
claim_limited f (subcode of rows) h e =
    let s = or_parts (is_long of) (above (length rows) || list_any (λ row. above (length row)) rows) e in
    let t = or_parts (above (length rows)) (list_any (λ row. above (length row)) rows) s.1 in
    (claim_limited f of h.0 s.0, is_below_limit (length rows) t.0, rows_limited f rows h.1 t.1)
claim_limited f (at_places kind of places) h e =
    let s = or_parts (is_long of) (above (length places)) e in
    (claim_limited f of h.0 s.0, is_below_limit (length places) s.1, h.1)
claim_limited f (extend of) h e = claim_limited f of h e

abbrev pub IsShapedDocument : Document → Type 0
IsShapedDocument (plain c) = IsShaped c
IsShapedDocument (tree b) = IsShapedTree b

abbrev AreShapedReads : DocumentRead → Type 0
AreShapedReads r = (x : Document) → r ≡ document x → IsShapedDocument x

refused_document : (r : Reason) → AreShapedReads (no_document r)
refused_document r x e = absurd cc

either_document : (b : Bool) (x y : DocumentRead) → (b ≡ true → AreShapedReads x) → (b ≡ false → AreShapedReads y) → AreShapedReads (if b then x else y)
either_document true x y h k = h refl
either_document false x y h k = k refl

same_document : (x y : Document) → document x ≡ document y → x ≡ y
same_document x y e = cc e

plain_shaped : (r : CertificateRead) → ((c : Certificate) → r ≡ reads_as c → IsShaped c) → AreShapedReads (plain_read r)
unfolding plain_read
plain_shaped (reads_as c) h x e = subst IsShapedDocument {x = plain c} (same_document (plain c) x e) (h c refl)
plain_shaped (refused_as r) h x e = absurd cc

closed_tree : (ms : Members) (b : Built) → (is_tree_beyond_limit b ≡ false → IsShapedTree b) → AreShapedReads (tree_closed ms b)
unfolding tree_closed
closed_tree ms b h =
    either_document (not ((member_count ms == 5) && all_of (are_closed (members_depth ms)) (object_at (codes "claim") ms))) (no_document (broken 11)) (if is_tree_beyond_limit b then no_document limit else document (tree b)) (λ e. refused_document (broken 11))
    (λ e. either_document (is_tree_beyond_limit b) (no_document limit) (document (tree b)) (λ k. refused_document limit)
    (λ k x same. subst IsShapedDocument {x = tree b} (same_document (tree b) x same) (h k)))

tree_limited : (f : FieldName) (claim : Claim) (word : List ℕ) (d : ℕ) → is_symbol f ≡ true → HasClaimRules f claim → 1 ≤ length word → Fits f word → 1 ≤ d → d < 2 ^ 64 → is_tree_beyond_limit (built_over f claim word d) ≡ false → IsShapedTree (built_over f claim word d)
unfolding is_tree_beyond_limit built_over
tree_limited f claim word d s rules some fits positive small e =
    let one = or_parts (above (length word)) (is_long claim || (nat_lt 1024 (claim_total claim) || nat_lt 32 (claim_depth claim))) e in
    let two = or_parts (is_long claim) (nat_lt 1024 (claim_total claim) || nat_lt 32 (claim_depth claim)) one.1 in
    let three = or_parts (nat_lt 1024 (claim_total claim)) (nat_lt 32 (claim_depth claim)) two.1 in
    record {
      field_fits = s;
      claims_fit = claim_limited f claim rules two.0;
      few_claims = ltb-false 1024 (claim_total claim) three.0;
      shallow = ltb-false 32 (claim_depth claim) three.1;
      has_columns = some;
      few_columns = is_below_limit (length word) one.0;
      word_fits = fits;
      positive = positive;
      distance_fits = small;
    }

distance_of_tree : (ms : Members) (f : FieldName) (claim : Claim) (word : List ℕ) → is_symbol f ≡ true → HasClaimRules f claim → MembersFit ms → 1 ≤ length word → Fits f word → (o : Option ℕ) → provided (nat_le 1) (number_at (codes "distance") ms) ≡ o → AreShapedReads (tree_distance_in ms (built_over f claim word) o)
unfolding tree_distance_in
distance_of_tree ms f claim word s rules fits some w None e = refused_document (broken 6)
distance_of_tree ms f claim word s rules fits some w (Some d) e =
    let p = provided_inside (nat_le 1) (number_at (codes "distance") ms) d e in
    closed_tree ms (built_over f claim word d) (tree_limited f claim word d s rules some w (leb-true 1 d p.passes) (number_fits (codes "distance") ms d fits p.there))

word_of_tree : (ms : Members) (f : FieldName) (claim : Claim) → is_symbol f ≡ true → HasClaimRules f claim → MembersFit ms → (o : Option (List ℕ)) → provided (is_tree_word f) (list_at (codes "word") ms) ≡ o → AreShapedReads (tree_word_in ms f claim o)
unfolding tree_word_in is_tree_word
word_of_tree ms f claim s rules fits None e = refused_document (broken 5)
word_of_tree ms f claim s rules fits (Some word) e =
    let p = and_parts (nat_le 1 (length word)) (are_elements f word) (provided_inside (is_tree_word f) (list_at (codes "word") ms) word e).passes in
    distance_of_tree ms f claim word s rules fits (leb-true 1 (length word) p.0) (elements_fit f word p.1) (provided (nat_le 1) (number_at (codes "distance") ms)) refl

claim_of_tree : (ms : Members) (f : FieldName) → is_symbol f ≡ true → MembersFit ms → (o : Option Claim) → option_and_then (claim_from (members_depth ms) f) (object_at (codes "claim") ms) ≡ o → AreShapedReads (tree_claim_in ms f o)
unfolding tree_claim_in
claim_of_tree ms f s fits None e = refused_document (broken 12)
claim_of_tree ms f s fits (Some claim) e =
    let rules : HasClaimRules f claim = option_and_then_some (claim_from (members_depth ms) f) (object_at (codes "claim") ms) claim e (λ inner there read. claim_ruled (members_depth ms) f inner claim s (object_at_fits (codes "claim") ms inner fits there) read) in
    word_of_tree ms f claim s rules fits (provided (is_tree_word f) (list_at (codes "word") ms)) refl

field_of_tree : (ms : Members) → MembersFit ms → (o : Option FieldName) → field_at ms ≡ o → AreShapedReads (tree_field_in ms o)
unfolding tree_field_in field_at
field_of_tree ms fits None e = refused_document (broken 3)
field_of_tree ms fits (Some f) e = claim_of_tree ms f (field_found (number_at (codes "field") ms) f e) fits (option_and_then (claim_from (members_depth ms) f) (object_at (codes "claim") ms)) refl

version_shaped : (d : Data) (o : Option Members) → AreFit d → as_object d ≡ o → AreShapedReads (either_version d o)
unfolding either_version
version_shaped d None fits e = plain_shaped (data_in (Some d)) (data_shaped (Some d) (λ x same. subst AreFit (same_Some d x same) fits))
version_shaped d (Some ms) fits e =
    either_document (is_version 2 ms) (tree_field_in ms (field_at ms)) (plain_read (data_in (Some d))) (λ k. field_of_tree ms (object_fits d ms fits e) (field_at ms) refl)
    (λ k. plain_shaped (data_in (Some d)) (data_shaped (Some d) (λ x same. subst AreFit (same_Some d x same) fits)))

document_of_shaped : (o : Option Data) → ((d : Data) → o ≡ Some d → AreFit d) → AreShapedReads (document_of o)
unfolding document_of
document_of_shaped None h = plain_shaped (data_in None) (data_shaped None h)
document_of_shaped (Some d) h = version_shaped d (as_object d) (h d refl) refl

pub document_shaped : (bytes : List ℕ) (x : Document) → document_in bytes ≡ document x → IsShapedDocument x
unfolding document_in
document_shaped bytes x e = document_of_shaped (json_in bytes) (λ d same. json_fits bytes d same) x e
