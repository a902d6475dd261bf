-- A certificate that has the shape is read back from its text.
--   mapped_all               each element of a list that was mapped
--   provided_some            what passes a test is let through
--   symbols_small            elements of a symbol field are below 2^64
--   field_back               a symbol field is found by its size
--   lists_back               lists of numbers are read back
--   rows_pass                rows of one length pass the test of a reader
--   not_above                what isn't above the limit
--   set_members_back, sets_are_back      the sets of a certificate are read back
--   parts_back                 the rules of the parts, for members that have what is written
--   certificate_plain, certificate_shallow      its JSON value is a plain one, three deep
--   reads_members            its members read as the certificate
--   certificate_back         its text reads as the certificate
use Rattle.std.proofs.Common.{codes, ◌≡◌, ℕ, suc, ◌^◌, ◌<◌, ◌≤◌, Bool, true, false, not, nat_le, ◌==◌, ◌&&◌, ◌||◌, if◌then◌else◌, List, [], ◌∷◌, map, length, find, All, Some, None, option_map, option_and_then, unwrap_or, refl, ap, ◌∙◌, arith, is_some}
use Rattle.std.specs.List.{list_all}
use Rattle.std.proofs.lemmas.Bool.{and_from, leb-true, le-leb, le-ltb, false≢true}
use Rattle.std.proofs.lemmas.List.{length-map}
use Rattle.std.proofs.lemmas.List.Elements.{All-cons, All-head, All-tail}
use Rattle.serde_json.specs.Data.{depth, Members}
use Rattle.serde_json.specs.Find.{as_object, get_member, as_str}
use Rattle.lc_algebra.specs.declared.FieldName.{FieldName}
use Rattle.lc_algebra.specs.declared.FieldName.TheVariants.{Gf2, Gf3, Gf4, Gf5, Gf7, Gf8, Gf9, Gf11, Gf13, Gf16, Gf25, Gf27, Gf32, Gf64, Gf81, Gf128, Gf243, Gf256}
use Rattle.lc_algebra.specs.Field.{shape, shape_of, size, is_symbol}
use Rattle.lc_algebra.specs.Word.{IsWord}
use Rattle.lc_algebra.specs.Matrix.{AreRows}
use Rattle.lc_constructions.specs.Cyclic.{all_fields}
use Rattle.lc_constructions.specs.Code.{longest}
use Rattle.lc_constructions.specs.Refusals.{columns_of}
use Rattle.lc_formats.specs.Certificate.{Certificate, SetClaim, Proof, scan, levels, code_length, shape as broken, limit}
use Rattle.lc_formats.specs.Json.{number_json, items, numbers_json, number_at, listed, each, numbers_of, list_at, provided, member_count}
use Rattle.lc_formats.specs.Text.{same_bytes}
use Rattle.lc_formats.specs.CertificateText.{claim_members, claim_json, way_text, with_sets, certificate_members, certificate_json, certificate_text}
use Rattle.lc_formats.specs.Shape.{IsShapedSet, AreShapedSets, IsShaped}
use Rattle.lc_formats.specs.Check.{reads_as, refused_as, rows_at, field_at, fit, are_rows, is_scan, are_places, claim_in, sets_at, fresh_in_basis, above, certificate_over, levels_in, sets_in, way_in, distance_in, word_in, rows_in, parts_in, key_count, are_set_keys, set_total, is_beyond_limit, closed, field_in, is_version, object_in, data_in, certificate_in}
use Rattle.lc_formats.proofs.JsonLaws.{IsPlain, ArePlain, plain_items, plain_numbers, items_shallow, numbers_shallow, listed_items, each_back, numbers_back, json_back}
use Rattle.lc_formats.proofs.TestLaws.{all_passes, word_passes, places_pass, part_passes}

-- a certificate whose proof is p
abbrev pub by : Certificate → Proof → Certificate
by c p = record { field = c.field; rows = c.rows; word = c.word; distance = c.distance; proof = p }

pub mapped_all : {X Y : Type 0} (write : X → Y) (P : Y → Type 0) (xs : List X) → All (λ x. P (write x)) xs → All P (map write xs)
mapped_all write P [] a = λ k d l. absurd (omega (arith, l))
mapped_all write P (x ∷ xs) a = All-cons P (write x) (map write xs) (All-head (λ x. P (write x)) x xs a) (mapped_all write P xs (All-tail (λ x. P (write x)) x xs a))

pub provided_some : {X : Type 0} (test : X → Bool) (x : X) → test x ≡ true → provided test (Some x) ≡ Some x
unfolding provided
provided_some test x e = ap (λ b. if b then Some x else None) e

pub symbol_size : (f : FieldName) → is_symbol f ≡ true → size f ≤ 16
unfolding is_symbol
symbol_size f e = leb-true (size f) 16 e

pub symbols_small : (f : FieldName) (n : ℕ) (w : List ℕ) → is_symbol f ≡ true → IsWord f n w → All (λ a. a < 2 ^ 64) w
symbols_small f n [] s h = λ k d l. absurd (omega (arith, l))
symbols_small f n (a ∷ w) s h = All-cons (λ a. a < 2 ^ 64) a w (omega (arith, symbol_size f s, h.fits 0 (omega arith))) (symbols_small f (length w) w s (record { long = refl; fits = λ i l. h.fits (suc i) (omega (arith, l)) }))

pub field_back : (f : FieldName) → is_symbol f ≡ true → find (λ g. (size g == size f) && is_symbol g) all_fields ≡ Some f
unfolding all_fields size is_symbol shape_of shape
field_back Gf2 e = refl
field_back Gf3 e = refl
field_back Gf4 e = refl
field_back Gf5 e = refl
field_back Gf7 e = refl
field_back Gf8 e = refl
field_back Gf9 e = refl
field_back Gf11 e = refl
field_back Gf13 e = refl
field_back Gf16 e = refl
field_back Gf25 e = absurd (false≢true e)
field_back Gf27 e = absurd (false≢true e)
field_back Gf32 e = absurd (false≢true e)
field_back Gf64 e = absurd (false≢true e)
field_back Gf81 e = absurd (false≢true e)
field_back Gf128 e = absurd (false≢true e)
field_back Gf243 e = absurd (false≢true e)
field_back Gf256 e = absurd (false≢true e)

pub lists_back : (rows : List (List ℕ)) → each (map numbers_of (listed (items (map numbers_json rows)))) ≡ Some rows
lists_back rows = ap (λ ds. each (map numbers_of ds)) (listed_items (map numbers_json rows)) ∙ each_back numbers_json numbers_of rows (λ k d l. numbers_back _)

pub columns_are : (f : FieldName) (n : ℕ) (rows : List (List ℕ)) → 1 ≤ length rows → AreRows f n rows → columns_of rows ≡ n
unfolding columns_of
columns_are f n [] l a = absurd (omega (arith, l))
columns_are f n (row ∷ rows) l a = (All-head (IsWord f n) row rows a).long

pub rows_pass : (f : FieldName) (n : ℕ) (rows : List (List ℕ)) → 1 ≤ length rows → 1 ≤ n → AreRows f n rows → are_rows f rows ≡ true
unfolding are_rows
rows_pass f n rows l m a =
    ap (λ k. nat_le 1 k && list_all (fit f k) rows) (columns_are f n rows l a)
    ∙ and_from (nat_le 1 n) (list_all (fit f n) rows) (le-leb 1 n m) (all_passes (fit f n) (IsWord f n) (word_passes f n) rows a)

pub not_above : (n : ℕ) → n ≤ longest → above n ≡ false
unfolding above
not_above n l = le-ltb longest n l

pub few : (a b d : ℕ) → a ≤ longest → b ≤ longest → d ≤ longest → (above a || (above b || above d)) ≡ false
few a b d l m n = ap (λ x. x || (above b || above d)) (not_above a l) ∙ ap (λ x. x || above d) (not_above b m) ∙ not_above d n

set_members_back : (n : ℕ) (claim : SetClaim) → IsShapedSet n claim → claim_in n (claim_members claim) ≡ Some claim
unfolding claim_in claim_members list_at number_at number_json
set_members_back n claim h =
    let take = λ (basis : List ℕ) (fresh : List ℕ). Some (record { basis = basis; fresh = fresh; level = claim.level }) in
    ap (λ o. option_and_then (λ basis. option_and_then (λ fresh. take basis fresh) (provided (are_places n) (numbers_of (numbers_json claim.fresh)))) (provided (are_places n) o)) (numbers_back claim.basis)
    ∙ ap (λ o. option_and_then (λ basis. option_and_then (λ fresh. take basis fresh) (provided (are_places n) (numbers_of (numbers_json claim.fresh)))) o) (provided_some (are_places n) claim.basis (places_pass n claim.basis h.basis_rises h.basis_inside))
    ∙ ap (λ o. option_and_then (λ fresh. take claim.basis fresh) (provided (are_places n) o)) (numbers_back claim.fresh)
    ∙ ap (option_and_then (λ fresh. take claim.basis fresh)) (provided_some (are_places n) claim.fresh (places_pass n claim.fresh h.fresh_rises h.fresh_inside))

each_object : (claims : List SetClaim) → each (map as_object (map claim_json claims)) ≡ Some (map claim_members claims)
unfolding each claim_json
each_object [] = refl
each_object (claim ∷ claims) = ap (option_map (λ rest. claim_members claim ∷ rest)) (each_object claims)

-- the members of each set
pub objects_back : (claims : List SetClaim) → each (map as_object (listed (items (map claim_json claims)))) ≡ Some (map claim_members claims)
objects_back claims = ap (λ ds. each (map as_object ds)) (listed_items (map claim_json claims)) ∙ each_object claims

claims_back : (n : ℕ) (claims : List SetClaim) → All (IsShapedSet n) claims → each (map (claim_in n) (map claim_members claims)) ≡ Some claims
claims_back n claims a = each_back claim_members (claim_in n) claims (λ k d l. set_members_back n _ (a k d l))

pub sets_are_back : (c : Certificate) (claims : List SetClaim) → AreShapedSets (code_length c) (levels claims) → sets_at (certificate_members (by c (levels claims))) ≡ Some (map claim_members claims)
unfolding sets_at certificate_members with_sets
sets_are_back c claims s =
    ap (provided (λ sets. nat_le 1 (length sets))) (objects_back claims)
    ∙ provided_some (λ sets. nat_le 1 (length sets)) (map claim_members claims) (le-leb 1 _ (omega (arith, length-map claims claim_members, s.0)))

pub keys_of_sets : (claims : List SetClaim) → list_all (λ s. member_count s == 3) (map claim_members claims) ≡ true
unfolding member_count claim_members
keys_of_sets [] = refl
keys_of_sets (claim ∷ claims) = keys_of_sets claims

pub set_plain : (n : ℕ) (claim : SetClaim) → n ≤ longest → IsShapedSet n claim → IsPlain (claim_json claim)
unfolding claim_json claim_members number_json
set_plain n claim l h =
    let small = λ (places : List ℕ) (a : All (λ place. place < n) places). plain_numbers places (λ k d m. omega (arith, l, a k d m)) in
    ((refl, small claim.basis h.basis_inside, (refl, small claim.fresh h.fresh_inside, (refl, h.level_fits, tt))), (tt, ((refl, tt), ((refl, (refl, tt)), tt))))

pub rows_plain : (c : Certificate) → IsShaped c → ArePlain (items (map numbers_json c.rows))
rows_plain c h = plain_items (map numbers_json c.rows) (mapped_all numbers_json IsPlain c.rows (λ k d l. plain_numbers _ (symbols_small c.field (code_length c) _ h.field_fits (h.rows_fit k d l))))

pub word_plain : (c : Certificate) → IsShaped c → IsPlain (numbers_json c.word)
word_plain c h = plain_numbers c.word (symbols_small c.field (code_length c) c.word h.field_fits h.word_fits)

plain_by : (c : Certificate) → IsShaped c → (p : Proof) → AreShapedSets (code_length c) p → IsPlain (certificate_json (by c p))
unfolding certificate_json certificate_members with_sets way_text number_json
plain_by c h scan s = ((refl, refl, (refl, h.distance_fits, (refl, omega (arith, symbol_size c.field h.field_fits), (refl, rows_plain c h, (refl, omega arith, (refl, word_plain c h, tt)))))), (tt, ((refl, tt), ((refl, (refl, tt)), ((refl, (refl, (refl, tt))), ((refl, (refl, (refl, (refl, tt)))), ((refl, (refl, (refl, (refl, (refl, tt))))), tt)))))))
plain_by c h (levels claims) s =
    let sets = plain_items (map claim_json claims) (mapped_all claim_json IsPlain claims (λ k d l. set_plain (code_length c) _ h.few_columns (s.2 k d l))) in
    ((refl, refl, (refl, h.distance_fits, (refl, omega (arith, symbol_size c.field h.field_fits), (refl, rows_plain c h, (refl, sets, (refl, omega arith, (refl, word_plain c h, tt))))))), (tt, ((refl, tt), ((refl, (refl, tt)), ((refl, (refl, (refl, tt))), ((refl, (refl, (refl, (refl, tt)))), ((refl, (refl, (refl, (refl, (refl, tt))))), ((refl, (refl, (refl, (refl, (refl, (refl, tt)))))), tt))))))))

pub certificate_plain : (c : Certificate) → IsShaped c → IsPlain (certificate_json c)
certificate_plain c h = plain_by c h c.proof h.sets_fit

pub set_shallow : (claim : SetClaim) → depth (claim_json claim) ≤ 2
unfolding claim_json claim_members number_json
set_shallow claim = omega (arith, numbers_shallow claim.basis, numbers_shallow claim.fresh)

shallow_by : (c : Certificate) (p : Proof) → depth (certificate_json (by c p)) ≤ 4
unfolding certificate_json certificate_members with_sets number_json
shallow_by c scan = omega (arith, numbers_shallow c.word, items_shallow 1 (map numbers_json c.rows) (mapped_all numbers_json (λ d. depth d ≤ 1) c.rows (λ k d l. numbers_shallow _)))
shallow_by c (levels claims) =
    omega (arith, numbers_shallow c.word, items_shallow 1 (map numbers_json c.rows) (mapped_all numbers_json (λ d. depth d ≤ 1) c.rows (λ k d l. numbers_shallow _)), items_shallow 2 (map claim_json claims) (mapped_all claim_json (λ d. depth d ≤ 2) claims (λ k d l. set_shallow _)))

pub certificate_shallow : (c : Certificate) → depth (certificate_json c) ≤ 4
certificate_shallow c = shallow_by c c.proof

-- what stands at the key `sets`
abbrev pub AreSetsAt : Members → Proof → Type 0
AreSetsAt ms scan = get_member (codes "sets") ms ≡ None
AreSetsAt ms (levels claims) = sets_at ms ≡ Some (map claim_members claims)

way_back : (ms : Members) (c : Certificate) (p : Proof) → AreShapedSets (code_length c) p → AreSetsAt ms p → way_in ms (code_length c) (certificate_over c.field c.rows c.word c.distance) (is_scan (way_text p)) ≡ reads_as (by c p)
unfolding way_text is_scan same_bytes way_in certificate_over sets_in levels_in
way_back ms c scan s at = ap (λ o. if is_some o then refused_as (broken 8) else reads_as (by c scan)) at
way_back ms c (levels claims) s at =
    let make = certificate_over c.field c.rows c.word c.distance in
    let n = code_length c in
    ap (sets_in n make) at
    ∙ ap (levels_in make) (claims_back n claims s.2)
    ∙ ap (λ b. if b then reads_as (by c (levels claims)) else refused_as (broken 10)) (all_passes fresh_in_basis (IsShapedSet n) (λ claim shaped. part_passes claim shaped.part) claims s.2)

-- the rules 4 to 10, for members that have what is written at the keys
pub parts_back : (ms : Members) (c : Certificate) (p : Proof) → IsShaped c → AreShapedSets (code_length c) p → rows_at ms ≡ Some c.rows → list_at (codes "word") ms ≡ Some c.word → number_at (codes "distance") ms ≡ Some c.distance → option_and_then as_str (get_member (codes "by") ms) ≡ Some (way_text p) → AreSetsAt ms p → parts_in ms c.field ≡ reads_as (by c p)
unfolding parts_in rows_in word_in distance_in code_length
parts_back ms c p h s rows word distance way sets =
    let f = c.field in
    ap (rows_in ms f) (ap (provided (are_rows f)) rows ∙ provided_some (are_rows f) c.rows (rows_pass f (code_length c) c.rows h.has_rows h.has_columns h.rows_fit))
    ∙ ap (word_in ms f c.rows) (ap (provided (fit f (columns_of c.rows))) word ∙ provided_some (fit f (columns_of c.rows)) c.word (ap (λ k. fit f k c.word) (columns_are f (code_length c) c.rows h.has_rows h.rows_fit) ∙ word_passes f (code_length c) c.word h.word_fits))
    ∙ ap (distance_in ms (length c.word) (certificate_over f c.rows c.word)) (ap (provided (nat_le 1)) distance ∙ provided_some (nat_le 1) c.distance (le-leb 1 c.distance h.positive))
    ∙ ap (λ o. way_in ms (length c.word) (certificate_over f c.rows c.word c.distance) (option_and_then is_scan o)) way
    ∙ way_back ms c p s sets

written_parts : (c : Certificate) → IsShaped c → (p : Proof) → AreShapedSets (code_length c) p → parts_in (certificate_members (by c p)) c.field ≡ reads_as (by c p)
unfolding certificate_members rows_at list_at number_at number_json with_sets
written_parts c h scan s = parts_back (certificate_members (by c scan)) c scan h s (lists_back c.rows) (numbers_back c.word) refl refl refl
written_parts c h (levels claims) s = parts_back (certificate_members (by c (levels claims))) c (levels claims) h s (lists_back c.rows) (numbers_back c.word) refl refl (sets_are_back c claims s)

closed_back : (c : Certificate) → IsShaped c → (p : Proof) → AreShapedSets (code_length c) p → closed (certificate_members (by c p)) (reads_as (by c p)) ≡ reads_as (by c p)
unfolding certificate_members with_sets closed member_count key_count are_set_keys is_beyond_limit set_total sets_at code_length provided
closed_back c h scan s = ap (λ b. if b then refused_as limit else reads_as (by c scan)) (few (code_length c) (length c.rows) 0 h.few_columns h.few_rows (omega arith))
closed_back c h (levels claims) s =
    ap (λ o. if not (list_all (λ k. member_count k == 3) (unwrap_or o [])) then refused_as (broken 11) else (if is_beyond_limit (by c (levels claims)) then refused_as limit else reads_as (by c (levels claims)))) (sets_are_back c claims s)
    ∙ ap (λ b. if not b then refused_as (broken 11) else (if is_beyond_limit (by c (levels claims)) then refused_as limit else reads_as (by c (levels claims)))) (keys_of_sets claims)
    ∙ ap (λ b. if b then refused_as limit else reads_as (by c (levels claims))) (few (code_length c) (length c.rows) (length claims) h.few_columns h.few_rows s.1)

members_by : (c : Certificate) → IsShaped c → (p : Proof) → AreShapedSets (code_length c) p → data_in (Some (certificate_json (by c p))) ≡ reads_as (by c p)
unfolding data_in object_in is_version certificate_json certificate_members number_at number_json provided field_at field_in with_sets
members_by c h scan s =
    let ms = certificate_members (by c scan) in
    ap (λ o. closed ms (field_in ms o)) (field_back c.field h.field_fits) ∙ ap (closed ms) (written_parts c h scan s) ∙ closed_back c h scan s
members_by c h (levels claims) s =
    let ms = certificate_members (by c (levels claims)) in
    ap (λ o. closed ms (field_in ms o)) (field_back c.field h.field_fits) ∙ ap (closed ms) (written_parts c h (levels claims) s) ∙ closed_back c h (levels claims) s

pub reads_members : (c : Certificate) → IsShaped c → data_in (Some (certificate_json c)) ≡ reads_as c
reads_members c h = members_by c h c.proof h.sets_fit

pub certificate_back : (c : Certificate) → IsShaped c → certificate_in (certificate_text c) ≡ reads_as c
unfolding certificate_in certificate_text
certificate_back c h = ap data_in (json_back (certificate_json c) (certificate_plain c h) (omega (arith, certificate_shallow c))) ∙ reads_members c h
