-- A certificate by construction that has the shape is read back from its text.
--   claim_plain, claim_shallow, claim_deep      the value of a claim is a plain one, little deeper than the claim, and no less deep
--   pair_kind, place_kind      the kind of a claim is read back
--   claim_back                 the members of a claim read as the claim
--   claim_closed               the sets of its searches have no other keys
--   within_limits              a certificate of the shape is within the limits
--   document_back              its text reads as the certificate
use Rattle.std.proofs.Common.{◌≡◌, ℕ, zero, suc, ◌+◌, ◌^◌, ◌<◌, ◌≤◌, true, false, not, nat_le, nat_lt, ◌==◌, ◌&&◌, ◌||◌, if◌then◌else◌, List, [], ◌∷◌, map, length, find, codes, All, Some, option_map, option_and_then, unwrap_or, refl, sym, ap, ◌∙◌, arith}
use Rattle.std.specs.List.{list_all, list_any}
use Rattle.std.proofs.lemmas.Bool.{and_from, le-leb, le-ltb, or_from}
use Rattle.std.proofs.lemmas.List.{length-map}
use Rattle.std.proofs.lemmas.List.Elements.{All-head, All-tail}
use Rattle.serde_json.specs.Data.{object, string, depth, members_depth}
use Rattle.lc_algebra.specs.declared.FieldName.{FieldName}
use Rattle.lc_algebra.specs.Field.{size, is_symbol}
use Rattle.lc_algebra.specs.Word.{Fits}
use Rattle.lc_constructions.specs.Code.{longest}
use Rattle.lc_constructions.specs.Cyclic.{all_fields}
use Rattle.lc_constructions.specs.Refusals.{are_elements, have_elements}
use Rattle.lc_constructions.proofs.RefusalLaws.{rows_fit_elements, fits_elements}
use Rattle.lc_formats.specs.Text.{same_bytes}
use Rattle.lc_formats.specs.Certificate.{Certificate, SetClaim, Proof, scan, levels, code_length, shape as broken, limit}
use Rattle.lc_formats.specs.CertificateText.{claim_members, claim_json, way_text, with_sets}
use Rattle.lc_formats.specs.Claim.{PairKind, uuv, direct_sum, product, PlaceKind, puncture, shorten, Claim, search, alternant, pair, concat, subcode, at_places, extend, Built, tree, claim_total, claim_depth, pair_text, place_text, rows_json, claim_members_of, built_members, built_text}
use Rattle.lc_formats.specs.Json.{number_json, numbers_json, number_at, numbers_of, list_at, provided, member_count}
use Rattle.lc_formats.specs.Shape.{AreShapedSets, IsShaped}
use Rattle.lc_formats.specs.Check.{rows_at, field_at, parts_in, key_count, are_set_keys, sets_at, set_total, is_beyond_limit, above, is_version}
use Rattle.lc_formats.specs.Document.{of_pair, of_places, kind_text, all_kinds, kind_at, object_at, with_keys, bytes_at, symbol_field, search_of, claim_of_kind, claim_from, part_keys, all_of, are_closed, is_long, is_tree_beyond_limit, document, no_document, tree_closed, tree_distance_in, built_over, tree_word_in, is_tree_word, tree_claim_in, tree_field_in, either_version, document_of, document_in, AreBytes, IsShapedClaim, IsShapedTree}
use Rattle.lc_formats.proofs.JsonLaws.{IsPlain, plain_items, plain_numbers, items_shallow, numbers_shallow, numbers_back, json_back}
use Rattle.lc_formats.proofs.TestLaws.{all_passes}
use Rattle.lc_formats.proofs.CertificateBack.{mapped_all, provided_some, symbol_size, symbols_small, field_back, lists_back, not_above, few, by, rows_plain, word_plain, set_plain, set_shallow, objects_back, keys_of_sets, parts_back}

small_entries : (entries : List ℕ) → AreBytes entries → IsPlain (numbers_json entries)
small_entries entries h = plain_numbers entries (λ k d l. omega (arith, h.1 k d l))

symbols_plain : (f : FieldName) (row : List ℕ) → is_symbol f ≡ true → Fits f row → IsPlain (numbers_json row)
symbols_plain f row s h = plain_numbers row (symbols_small f (length row) row s (record { long = refl; fits = h }))

search_plain : (c : Certificate) → IsShaped c → (p : Proof) → AreShapedSets (code_length c) p → IsPlain (object (claim_members_of (search (by c p))))
unfolding claim_members_of with_sets way_text number_json rows_json
search_plain c h scan s = ((refl, refl, (refl, h.distance_fits, (refl, refl, (refl, rows_plain c h, (refl, word_plain c h, tt))))), (tt, ((refl, tt), ((refl, (refl, tt)), ((refl, (refl, (refl, tt))), ((refl, (refl, (refl, (refl, tt)))), tt))))))
search_plain c h (levels claims) s =
    let sets = plain_items (map claim_json claims) (mapped_all claim_json IsPlain claims (λ k d l. set_plain (code_length c) _ h.few_columns (s.2 k d l))) in
    ((refl, refl, (refl, h.distance_fits, (refl, refl, (refl, rows_plain c h, (refl, sets, (refl, word_plain c h, tt)))))), (tt, ((refl, tt), ((refl, (refl, tt)), ((refl, (refl, (refl, tt))), ((refl, (refl, (refl, (refl, tt)))), ((refl, (refl, (refl, (refl, (refl, tt))))), tt)))))))

pair_ascii : (kind : PairKind) → IsPlain (string (pair_text kind))
unfolding pair_text
pair_ascii uuv = refl
pair_ascii direct_sum = refl
pair_ascii product = refl

place_ascii : (kind : PlaceKind) → IsPlain (string (place_text kind))
unfolding place_text
place_ascii puncture = refl
place_ascii shorten = refl

pub claim_plain : (f : FieldName) (claim : Claim) → is_symbol f ≡ true → IsShapedClaim f claim → IsPlain (object (claim_members_of claim))
unfolding claim_members_of number_json rows_json
claim_plain f (search c) s h = search_plain c h.1 c.proof h.1.sets_fit
claim_plain f (alternant locator points multipliers r) s h = ((refl, refl, (refl, h.0, (refl, small_entries multipliers h.2, (refl, small_entries points h.1, (refl, h.3, tt))))), (tt, ((refl, tt), ((refl, (refl, tt)), ((refl, (refl, (refl, tt))), ((refl, (refl, (refl, (refl, tt)))), tt))))))
claim_plain f (pair kind left right) s h = ((refl, pair_ascii kind, (refl, claim_plain f left s h.0, (refl, claim_plain f right s h.1, tt))), (tt, ((refl, tt), ((refl, (refl, tt)), tt))))
claim_plain f (concat large outer inner) s h =
    let K = h.0 in
    let small : large < 2 ^ 64 = omega (arith, h.1, symbol_size K h.2) in
    ((refl, claim_plain f inner s h.4, (refl, refl, (refl, small, (refl, claim_plain K outer h.2 h.3, tt)))), (tt, ((refl, tt), ((refl, (refl, tt)), ((refl, (refl, (refl, tt))), tt)))))
claim_plain f (subcode of rows) s h =
    let plain_rows = plain_items (map numbers_json rows) (mapped_all numbers_json IsPlain rows (λ k d l. symbols_plain f _ s (h.2 k d l).1)) in
    ((refl, refl, (refl, claim_plain f of s h.0, (refl, plain_rows, tt))), (tt, ((refl, tt), ((refl, (refl, tt)), tt))))
claim_plain f (at_places kind of places) s h = ((refl, place_ascii kind, (refl, claim_plain f of s h.0, (refl, plain_numbers places h.2, tt))), (tt, ((refl, tt), ((refl, (refl, tt)), tt))))
claim_plain f (extend of) s h = ((refl, refl, (refl, claim_plain f of s h, tt)), (tt, ((refl, tt), tt)))

rows_shallow : (rows : List (List ℕ)) → depth (rows_json rows) ≤ 2
unfolding rows_json
rows_shallow rows = omega (arith, items_shallow 1 (map numbers_json rows) (mapped_all numbers_json (λ d. depth d ≤ 1) rows (λ k d l. numbers_shallow _)))

search_shallow : (c : Certificate) (p : Proof) → depth (object (claim_members_of (search (by c p)))) ≤ 4
unfolding claim_members_of with_sets number_json
search_shallow c scan = omega (arith, numbers_shallow c.word, rows_shallow c.rows)
search_shallow c (levels claims) = omega (arith, numbers_shallow c.word, rows_shallow c.rows, items_shallow 2 (map claim_json claims) (mapped_all claim_json (λ d. depth d ≤ 2) claims (λ k d l. set_shallow _)))

pub claim_shallow : (claim : Claim) → depth (object (claim_members_of claim)) ≤ claim_depth claim + 3
unfolding claim_members_of claim_depth number_json
claim_shallow (search c) = omega (arith, search_shallow c c.proof)
claim_shallow (alternant locator points multipliers r) = omega (arith, numbers_shallow points, numbers_shallow multipliers)
claim_shallow (pair kind left right) = omega (arith, claim_shallow left, claim_shallow right)
claim_shallow (concat large outer inner) = omega (arith, claim_shallow outer, claim_shallow inner)
claim_shallow (subcode of rows) = omega (arith, claim_shallow of, rows_shallow rows)
claim_shallow (at_places kind of places) = omega (arith, claim_shallow of, numbers_shallow places)
claim_shallow (extend of) = omega (arith, claim_shallow of)

pub claim_deep : (claim : Claim) → claim_depth claim ≤ depth (object (claim_members_of claim))
unfolding claim_members_of claim_depth number_json
claim_deep (search c) = omega arith
claim_deep (alternant locator points multipliers r) = omega arith
claim_deep (pair kind left right) = omega (arith, claim_deep left, claim_deep right)
claim_deep (concat large outer inner) = omega (arith, claim_deep outer, claim_deep inner)
claim_deep (subcode of rows) = omega (arith, claim_deep of)
claim_deep (at_places kind of places) = omega (arith, claim_deep of)
claim_deep (extend of) = omega (arith, claim_deep of)

some_claim : (claim : Claim) → 1 ≤ claim_depth claim
unfolding claim_depth
some_claim (search c) = omega arith
some_claim (alternant locator points multipliers r) = omega arith
some_claim (pair kind left right) = omega arith
some_claim (concat large outer inner) = omega arith
some_claim (subcode of rows) = omega arith
some_claim (at_places kind of places) = omega arith
some_claim (extend of) = omega arith

pair_kind : (kind : PairKind) (left right : Claim) → kind_at (claim_members_of (pair kind left right)) ≡ Some (of_pair kind)
unfolding kind_at all_kinds kind_text claim_members_of pair_text same_bytes
pair_kind uuv left right = refl
pair_kind direct_sum left right = refl
pair_kind product left right = refl

place_kind : (kind : PlaceKind) (of : Claim) (places : List ℕ) → kind_at (claim_members_of (at_places kind of places)) ≡ Some (of_places kind)
unfolding kind_at all_kinds kind_text claim_members_of pair_text place_text same_bytes
place_kind puncture of places = refl
place_kind shorten of places = refl

bytes_back : (entries : List ℕ) → AreBytes entries → provided (λ u. list_all (λ a. nat_le a 255) u) (numbers_of (numbers_json entries)) ≡ Some entries
bytes_back entries h =
    ap (provided (λ u. list_all (λ a. nat_le a 255) u)) (numbers_back entries)
    ∙ provided_some (λ u. list_all (λ a. nat_le a 255) u) entries (all_passes (λ a. nat_le a 255) (λ a. a ≤ 255) (λ a l. le-leb a 255 l) entries h.1)

search_sets : (c : Certificate) (claims : List SetClaim) → AreShapedSets (code_length c) (levels claims) → sets_at (claim_members_of (search (by c (levels claims)))) ≡ Some (map claim_members claims)
unfolding sets_at claim_members_of with_sets
search_sets c claims s =
    ap (provided (λ sets. nat_le 1 (length sets))) (objects_back claims)
    ∙ provided_some (λ sets. nat_le 1 (length sets)) (map claim_members claims) (le-leb 1 (length (map claim_members claims)) (omega (arith, length-map claims claim_members, s.0)))

search_back : (c : Certificate) → IsShaped c → (p : Proof) → AreShapedSets (code_length c) p → search_of (claim_members_of (search (by c p))) (parts_in (claim_members_of (search (by c p))) c.field) ≡ Some (search (by c p))
unfolding claim_members_of rows_json rows_at list_at number_at number_json with_sets sets_at search_of with_keys provided member_count key_count
search_back c h scan s = ap (search_of (claim_members_of (search (by c scan)))) (parts_back (claim_members_of (search (by c scan))) c scan h s (lists_back c.rows) (numbers_back c.word) refl refl refl)
search_back c h (levels claims) s = ap (search_of (claim_members_of (search (by c (levels claims))))) (parts_back (claim_members_of (search (by c (levels claims)))) c (levels claims) h s (lists_back c.rows) (numbers_back c.word) refl refl (search_sets c claims s))

pub claim_back : (most : ℕ) (f : FieldName) (claim : Claim) → is_symbol f ≡ true → IsShapedClaim f claim → claim_depth claim ≤ most → claim_from most f (claim_members_of claim) ≡ Some claim
unfolding claim_from claim_depth claim_of_kind claim_members_of kind_at all_kinds kind_text pair_text place_text same_bytes object_at with_keys provided member_count number_at number_json list_at bytes_at rows_json rows_at symbol_field
claim_back zero f claim s h l = absurd (omega (arith, l, some_claim claim))
claim_back (suc most) f (search c) s h l = ap (λ g. search_of (claim_members_of (search c)) (parts_in (claim_members_of (search c)) g)) (sym h.0) ∙ search_back c h.1 c.proof h.1.sets_fit
claim_back (suc most) f (alternant locator points multipliers r) s h l =
    let ms = claim_members_of (alternant locator points multipliers r) in
    let read = λ (key : List ℕ). provided (λ u. list_all (λ a. nat_le a 255) u) (list_at key ms) in
    ap (λ o. with_keys 5 ms (option_and_then (λ u. option_and_then (λ v. Some (alternant locator u v r)) (read (codes "multipliers"))) o)) (bytes_back points h.1)
    ∙ ap (λ o. with_keys 5 ms (option_and_then (λ v. Some (alternant locator points v r)) o)) (bytes_back multipliers h.2)
claim_back (suc most) f (pair kind left right) s h l =
    let ms = claim_members_of (pair kind left right) in
    let part = λ (g : FieldName) (key : List ℕ). option_and_then (claim_from most g) (object_at key ms) in
    ap (option_and_then (claim_of_kind f ms part)) (pair_kind kind left right)
    ∙ ap (λ o. with_keys 3 ms (option_and_then (λ x. option_map (pair kind x) (part f (codes "right"))) o)) (claim_back most f left s h.0 (omega (arith, l)))
    ∙ ap (λ o. with_keys 3 ms (option_map (pair kind left) o)) (claim_back most f right s h.1 (omega (arith, l)))
claim_back (suc most) f (concat large outer inner) s h l =
    let ms = claim_members_of (concat large outer inner) in
    let part = λ (g : FieldName) (key : List ℕ). option_and_then (claim_from most g) (object_at key ms) in
    let K = h.0 in
    ap (λ o. with_keys 4 ms (option_and_then (λ K. option_and_then (λ outer. option_map (concat (size K) outer) (part f (codes "inner"))) (part K (codes "outer"))) o)) (ap (λ q. find (λ g. (size g == q) && is_symbol g) all_fields) (sym h.1) ∙ field_back K h.2)
    ∙ ap (λ o. with_keys 4 ms (option_and_then (λ outer. option_map (concat (size K) outer) (part f (codes "inner"))) o)) (claim_back most K outer h.2 h.3 (omega (arith, l)))
    ∙ ap (λ o. with_keys 4 ms (option_map (concat (size K) outer) o)) (claim_back most f inner s h.4 (omega (arith, l)))
    ∙ ap (λ q. Some (concat q outer inner)) h.1
claim_back (suc most) f (subcode of rows) s h l =
    let ms = claim_members_of (subcode of rows) in
    ap (λ o. with_keys 3 ms (option_and_then (λ x. option_map (subcode x) (provided (have_elements f) (rows_at ms))) o)) (claim_back most f of s h.0 (omega (arith, l)))
    ∙ ap (λ o. with_keys 3 ms (option_map (subcode of) (provided (have_elements f) o))) (lists_back rows)
    ∙ ap (λ o. with_keys 3 ms (option_map (subcode of) o)) (provided_some (have_elements f) rows (rows_fit_elements f rows (λ k d l. (h.2 k d l).1)))
claim_back (suc most) f (at_places kind of places) s h l =
    let ms = claim_members_of (at_places kind of places) in
    let part = λ (g : FieldName) (key : List ℕ). option_and_then (claim_from most g) (object_at key ms) in
    ap (option_and_then (claim_of_kind f ms part)) (place_kind kind of places)
    ∙ ap (λ o. with_keys 3 ms (option_and_then (λ x. option_map (at_places kind x) (list_at (codes "places") ms)) o)) (claim_back most f of s h.0 (omega (arith, l)))
    ∙ ap (λ o. with_keys 3 ms (option_map (at_places kind of) o)) (numbers_back places)
claim_back (suc most) f (extend of) s h l = ap (λ o. with_keys 2 (claim_members_of (extend of)) (option_map extend o)) (claim_back most f of s h (omega (arith, l)))

set_keys_back : (c : Certificate) (p : Proof) → AreShapedSets (code_length c) p → are_set_keys (claim_members_of (search (by c p))) ≡ true
unfolding are_set_keys claim_members_of with_sets sets_at provided
set_keys_back c scan s = refl
set_keys_back c (levels claims) s = ap (λ o. list_all (λ k. member_count k == 3) (unwrap_or o [])) (search_sets c claims s) ∙ keys_of_sets claims

closed_search : (most : ℕ) (c : Certificate) (p : Proof) → AreShapedSets (code_length c) p → are_closed (suc most) (claim_members_of (search (by c p))) ≡ true
unfolding are_closed part_keys all_of object_at claim_members_of with_sets
closed_search most c scan s = ap (λ b. b && true) (set_keys_back c scan s)
closed_search most c (levels claims) s = ap (λ b. b && true) (set_keys_back c (levels claims) s)

pub claim_closed : (most : ℕ) (f : FieldName) (claim : Claim) → IsShapedClaim f claim → are_closed most (claim_members_of claim) ≡ true
unfolding are_closed part_keys all_of object_at claim_members_of are_set_keys sets_at provided
claim_closed zero f claim h = refl
claim_closed (suc most) f (search c) h = closed_search most c c.proof h.1.sets_fit
claim_closed (suc most) f (alternant locator points multipliers r) h = refl
claim_closed (suc most) f (pair kind left right) h = ap (λ b. b && (are_closed most (claim_members_of right) && true)) (claim_closed most f left h.0) ∙ ap (λ b. b && true) (claim_closed most f right h.1)
claim_closed (suc most) f (concat large outer inner) h = ap (λ b. b && (are_closed most (claim_members_of inner) && true)) (claim_closed most h.0 outer h.3) ∙ ap (λ b. b && true) (claim_closed most f inner h.4)
claim_closed (suc most) f (subcode of rows) h = ap (λ b. b && true) (claim_closed most f of h.0)
claim_closed (suc most) f (at_places kind of places) h = ap (λ b. b && true) (claim_closed most f of h.0)
claim_closed (suc most) f (extend of) h = ap (λ b. b && true) (claim_closed most f of h)

within_sets : (n : ℕ) (p : Proof) → AreShapedSets n p → set_total p ≤ longest
unfolding set_total
within_sets n scan s = omega arith
within_sets n (levels claims) s = s.1

rows_within : (f : FieldName) (rows : List (List ℕ)) → All (λ row. (length row ≤ longest) × Fits f row) rows → list_any (λ row. above (length row)) rows ≡ false
rows_within f [] a = refl
rows_within f (row ∷ rows) a =
    or_from (above (length row)) (list_any (λ row. above (length row)) rows)
    (not_above (length row) (All-head (λ row. (length row ≤ longest) × Fits f row) row rows a).0)
    (rows_within f rows (All-tail (λ row. (length row ≤ longest) × Fits f row) row rows a))

claim_within : (f : FieldName) (claim : Claim) → IsShapedClaim f claim → is_long claim ≡ false
unfolding is_long is_beyond_limit code_length
claim_within f (search c) h = few (length c.word) (length c.rows) (set_total c.proof) h.1.few_columns h.1.few_rows (within_sets (length c.word) c.proof h.1.sets_fit)
claim_within f (alternant locator points multipliers r) h = or_from (above (length points)) (above (length multipliers)) (not_above (length points) h.1.0) (not_above (length multipliers) h.2.0)
claim_within f (pair kind left right) h = or_from (is_long left) (is_long right) (claim_within f left h.0) (claim_within f right h.1)
claim_within f (concat large outer inner) h = or_from (is_long outer) (is_long inner) (claim_within h.0 outer h.3) (claim_within f inner h.4)
claim_within f (subcode of rows) h = or_from (is_long of) _ (claim_within f of h.0) (or_from (above (length rows)) _ (not_above (length rows) h.1) (rows_within f rows h.2))
claim_within f (at_places kind of places) h = or_from (is_long of) (above (length places)) (claim_within f of h.0) (not_above (length places) h.1)
claim_within f (extend of) h = claim_within f of h

pub within_limits : (b : Built) → IsShapedTree b → is_tree_beyond_limit b ≡ false
unfolding is_tree_beyond_limit
within_limits b h =
    or_from (above (length b.word)) _ (not_above (length b.word) h.few_columns)
    (or_from (is_long b.claim) _ (claim_within b.field b.claim h.claims_fit)
    (or_from (nat_lt 1024 (claim_total b.claim)) (nat_lt 32 (claim_depth b.claim)) (le-ltb 1024 (claim_total b.claim) h.few_claims) (le-ltb 32 (claim_depth b.claim) h.shallow)))

built_plain : (b : Built) → IsShapedTree b → IsPlain (object (built_members b))
unfolding built_members number_json
built_plain b h =
    let small : size b.field < 2 ^ 64 = omega (arith, symbol_size b.field h.field_fits) in
    ((refl, claim_plain b.field b.claim h.field_fits h.claims_fit, (refl, h.distance_fits, (refl, small, (refl, omega arith, (refl, symbols_plain b.field b.word h.field_fits h.word_fits, tt))))), (tt, ((refl, tt), ((refl, (refl, tt)), ((refl, (refl, (refl, tt))), ((refl, (refl, (refl, (refl, tt)))), tt))))))

built_shallow : (b : Built) → IsShapedTree b → depth (object (built_members b)) ≤ 36
unfolding built_members number_json
built_shallow b h = omega (arith, claim_shallow b.claim, h.shallow, numbers_shallow b.word)

deep_enough : (b : Built) → claim_depth b.claim ≤ members_depth (built_members b)
unfolding built_members number_json
deep_enough b = omega (arith, claim_deep b.claim)

tree_word_back : (f : FieldName) (word : List ℕ) → 1 ≤ length word → Fits f word → is_tree_word f word ≡ true
unfolding is_tree_word
tree_word_back f word some fits = and_from (nat_le 1 (length word)) (are_elements f word) (le-leb 1 (length word) some) (fits_elements f word fits)

tree_back : (b : Built) → IsShapedTree b → document_of (Some (object (built_members b))) ≡ document (tree b)
unfolding built_members document_of either_version is_version field_at number_at number_json provided tree_field_in tree_claim_in tree_word_in tree_distance_in tree_closed built_over object_at list_at all_of member_count
tree_back b h =
    let ms = built_members b in
    let f = b.field in
    let most = members_depth ms in
    ap (tree_field_in ms) (field_back f h.field_fits)
    ∙ ap (tree_claim_in ms f) (claim_back most f b.claim h.field_fits h.claims_fit (deep_enough b))
    ∙ ap (tree_word_in ms f b.claim) (ap (provided (is_tree_word f)) (numbers_back b.word) ∙ provided_some (is_tree_word f) b.word (tree_word_back f b.word h.has_columns h.word_fits))
    ∙ ap (tree_distance_in ms (built_over f b.claim b.word)) (provided_some (nat_le 1) b.distance (le-leb 1 b.distance h.positive))
    ∙ ap (λ x. if not x then no_document (broken 11) else (if is_tree_beyond_limit b then no_document limit else document (tree b))) (claim_closed most f b.claim h.claims_fit)
    ∙ ap (λ x. if x then no_document limit else document (tree b)) (within_limits b h)

pub document_back : (b : Built) → IsShapedTree b → document_in (built_text b) ≡ document (tree b)
unfolding document_in built_text
document_back b h = ap document_of (json_back (object (built_members b)) (built_plain b h) (omega (arith, built_shallow b h))) ∙ tree_back b h
