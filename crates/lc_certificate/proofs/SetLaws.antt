-- Sets, as a reader takes them.
--   places_pass, places_fail, places_nowhere      the places at a key pass the test or don't
--   no_basis, no_fresh, no_level, set_read      what lacks a part is no set, and what has all three is one
--   bases_rise, seen_rise, read_rise      the bases of sets that were read rise
--   claims_none, claims_more, claims_whole      several sets
--   sets_none, sets_empty, sets_others, sets_are      there is no list; it is empty; one item is no object; all are
--   search_member                a binary search tells whether a number is in a list that rises
--   keys_of_sets, keys_of_none   whether each set has three keys
--   part_fails, part_whole, parts_fail, parts_whole      whether fresh places are in the basis, of a set and of several
--   way_found, way_nowhere       the word at `by`
--   no_way, scan_has_sets, scan_is, levels_are      how the distance is proved
--   no_sets, bad_sets, outside_basis, sets_read      the rules of sets
use Rattle.std.proofs.Common.{◌≡◌, ◌≢◌, ⊎_elim, unwrap_or, ℕ, suc, zero, ◌+◌, ◌-◌, ◌<◌, ◌≤◌, ◌==◌, ◌&&◌, Bool, true, false, nat_le, List, [], ◌∷◌, ◌++◌, length, get_or, take, map, codes, All, Contains, Option, Some, None, option_map, option_and_then, is_some, refl, sym, ap, subst, ◌∙◌, arith}
use Rattle.std.specs.Prelude.{⊤, if◌then◌else◌, is_ok, Result, Ok, Err, MatchResult}
use Rattle.std.specs.Ordering.{nat_cmp}
use Rattle.std.specs.List.{list_all}
use Rattle.std.specs.List.Sorted.{IsStrictlyIncreasing, IsBinarySearchResult}
use Rattle.std.proofs.lemmas.Bool.{and_parts, cases_lt, le-leb, false≢true, false_from_ne_true}
use Rattle.std.proofs.lemmas.List.{length-map, map-append, get_or_default}
use Rattle.std.proofs.lemmas.List.Elements.{Contains-from_at, at_from_Contains, at_read, All-cons, All-head, All-tail}
use Rattle.std.proofs.lemmas.List.Sorted.{searched}
use Rattle.std.proofs.lemmas.Simd.{map-map}
use Rattle.std.proofs.lemmas.Option.{same_Some}
use Rattle.serde_json.specs.declared.value.Value.{Value}
use Rattle.serde_json.specs.Data.{Data, null, boolean, number, string, array, object, Items, Members}
use Rattle.serde_json.specs.Find.{get_member, as_array, as_object, as_str}
use Rattle.serde_json.specs.View.{view}
use Rattle.lc_enumeration.specs.InformationSet.{is_member}
use Rattle.lc_enumeration.proofs.MemberLaws.{member_true, true_member}
use Rattle.lc_formats.specs.Certificate.{Certificate, SetClaim, Proof, scan, levels, shape}
use Rattle.lc_formats.specs.Json.{number_at, list_at, listed, each, provided, member_count}
use Rattle.lc_formats.specs.Check.{reads_as, refused_as, is_scan, are_places, claim_in, sets_at, fresh_in_basis, levels_in, sets_in, way_in, are_set_keys}
use Rattle.lc_formats.proofs.TestLaws.{places_hold}
use Rattle.lc_formats.proofs.ReadLaws.{provided_inside, each_all}
use Rattle.lc_json.specs.Inside.{members_in}
use Rattle.lc_json.proofs.EachLaws.{none_first, each_none, each_more, each_whole, each_start, each_of_none, each_cons}
use Rattle.lc_certificate.specs.declared.certificate.SetClaim as made
use Rattle.lc_certificate.specs.declared.certificate.Proof.TheVariants.{Scan}
use Rattle.lc_certificate.specs.Reading.{way_at}
use Rattle.lc_certificate.specs.Seen.{claim_of, proof_of}
use Rattle.lc_certificate.proofs.ListLaws.{all_next, all_whole, all_fails, all_mapped}
use Rattle.lc_certificate.proofs.PartLaws.{members_there}

pub no_basis : (n : ℕ) (ms : Members) → None ≡ provided (are_places n) (list_at (codes "basis") ms) → claim_in n ms ≡ None
unfolding claim_in
no_basis n ms h = ap (option_and_then (λ basis. option_and_then (λ fresh. option_map (λ level. record { basis = basis; fresh = fresh; level = level }) (number_at (codes "level") ms)) (provided (are_places n) (list_at (codes "fresh") ms)))) (sym h)

with_basis : (n : ℕ) (ms : Members) (basis : List ℕ) → Some basis ≡ provided (are_places n) (list_at (codes "basis") ms) → claim_in n ms ≡ option_and_then (λ fresh. option_map (λ level. record { basis = basis; fresh = fresh; level = level }) (number_at (codes "level") ms)) (provided (are_places n) (list_at (codes "fresh") ms))
unfolding claim_in
with_basis n ms basis h = ap (option_and_then (λ b. option_and_then (λ fresh. option_map (λ level. record { basis = b; fresh = fresh; level = level }) (number_at (codes "level") ms)) (provided (are_places n) (list_at (codes "fresh") ms)))) (sym h)

pub no_fresh : (n : ℕ) (ms : Members) (basis : List ℕ) → Some basis ≡ provided (are_places n) (list_at (codes "basis") ms) → None ≡ provided (are_places n) (list_at (codes "fresh") ms) → claim_in n ms ≡ None
no_fresh n ms basis h k = with_basis n ms basis h ∙ ap (option_and_then (λ fresh. option_map (λ level. record { basis = basis; fresh = fresh; level = level }) (number_at (codes "level") ms))) (sym k)

with_fresh : (n : ℕ) (ms : Members) (basis fresh : List ℕ) → Some basis ≡ provided (are_places n) (list_at (codes "basis") ms) → Some fresh ≡ provided (are_places n) (list_at (codes "fresh") ms) → claim_in n ms ≡ option_map (λ level. record { basis = basis; fresh = fresh; level = level }) (number_at (codes "level") ms)
with_fresh n ms basis fresh h k = with_basis n ms basis h ∙ ap (option_and_then (λ f. option_map (λ level. record { basis = basis; fresh = f; level = level }) (number_at (codes "level") ms))) (sym k)

pub no_level : (n : ℕ) (ms : Members) (basis fresh : List ℕ) → Some basis ≡ provided (are_places n) (list_at (codes "basis") ms) → Some fresh ≡ provided (are_places n) (list_at (codes "fresh") ms) → None ≡ number_at (codes "level") ms → claim_in n ms ≡ None
no_level n ms basis fresh h k m = with_fresh n ms basis fresh h k ∙ ap (option_map (λ level. record { basis = basis; fresh = fresh; level = level })) (sym m)

pub set_read : (n : ℕ) (ms : Members) (basis fresh : List ℕ) (level : ℕ) → Some basis ≡ provided (are_places n) (list_at (codes "basis") ms) → Some fresh ≡ provided (are_places n) (list_at (codes "fresh") ms) → Some level ≡ number_at (codes "level") ms → claim_in n ms ≡ Some (record { basis = basis; fresh = fresh; level = level })
set_read n ms basis fresh level h k m = with_fresh n ms basis fresh h k ∙ ap (option_map (λ l. record { basis = basis; fresh = fresh; level = l })) (sym m)

-- what is read as a set has a basis that was let through
basis_from : (n : ℕ) (ms : Members) (o : Option (List ℕ)) → provided (are_places n) (list_at (codes "basis") ms) ≡ o → (claim : SetClaim) → claim_in n ms ≡ Some claim → IsStrictlyIncreasing claim.basis
basis_from n ms None h claim e = absurd (cc (no_basis n ms (sym h), e))
basis_from n ms (Some basis) h claim e = subst IsStrictlyIncreasing (from_fresh (provided (are_places n) (list_at (codes "fresh") ms)) refl) (places_hold n basis (provided_inside (are_places n) (list_at (codes "basis") ms) basis h).passes).0
  where
    from_level : (fresh : List ℕ) → Some fresh ≡ provided (are_places n) (list_at (codes "fresh") ms) → (o : Option ℕ) → number_at (codes "level") ms ≡ o → basis ≡ claim.basis
    from_level fresh k None m = absurd (cc (no_level n ms basis fresh (sym h) k (sym m), e))
    from_level fresh k (Some level) m = ap (λ c. c.basis) (same_Some (record { basis = basis; fresh = fresh; level = level }) claim (sym (set_read n ms basis fresh level (sym h) k (sym m)) ∙ e))

    from_fresh : (o : Option (List ℕ)) → provided (are_places n) (list_at (codes "fresh") ms) ≡ o → basis ≡ claim.basis
    from_fresh None k = absurd (cc (no_fresh n ms basis (sym h) (sym k), e))
    from_fresh (Some fresh) k = from_level fresh (sym k) (number_at (codes "level") ms) refl

pub bases_rise : (n : ℕ) (vs : List Value) (claims : List SetClaim) → each (map (λ v. claim_in n (members_in (view v))) vs) ≡ Some claims → All (λ claim. IsStrictlyIncreasing claim.basis) claims
bases_rise n vs claims e = each_all (λ v. claim_in n (members_in (view v))) (λ v. ⊤) (λ claim. IsStrictlyIncreasing claim.basis) (λ v claim t same. basis_from n (members_in (view v)) _ refl claim same) vs claims (λ k d l. tt) e

pub places_pass : (n : ℕ) (places : List ℕ) (o : Option (List ℕ)) → Some places ≡ o → are_places n places ≡ true → provided (are_places n) o ≡ Some places
unfolding provided
places_pass n places o h e = ap (provided (are_places n)) (sym h) ∙ ap (λ b. if b then Some places else None) e

pub places_fail : (n : ℕ) (places : List ℕ) (o : Option (List ℕ)) → Some places ≡ o → are_places n places ≡ false → provided (are_places n) o ≡ None
unfolding provided
places_fail n places o h e = ap (provided (are_places n)) (sym h) ∙ ap (λ b. if b then Some places else None) e

pub places_nowhere : (n : ℕ) (o : Option (List ℕ)) → None ≡ o → provided (are_places n) o ≡ None
unfolding provided
places_nowhere n o h = ap (provided (are_places n)) (sym h)

pub claims_none : {A : Type 0} (f : A → Option SetClaim) (xs : List A) (i : ℕ) (d : A) → i < length xs → None ≡ f (get_or xs i d) → each (map f xs) ≡ None
claims_none f xs i d l e = each_none f xs i d l (sym e)

pub claims_more : {A C : Type 0} (f : A → Option SetClaim) (see : C → SetClaim) (xs : List A) (i j : ℕ) (d : A) (cs ds : List C) (c : C) → i < length xs → each (map f (take i xs)) ≡ Some (map see cs) → Some (see c) ≡ f (get_or xs i d) → j ≡ suc i → ds ≡ cs ++ c ∷ [] → each (map f (take j xs)) ≡ Some (map see ds)
claims_more f see xs i j d cs ds c l e k same made = each_more f xs i j d (map see cs) (map see ds) (see c) l e (sym k) same (ap (map see) made ∙ map-append see cs (c ∷ []))

pub claims_whole : {A : Type 0} (f : A → Option SetClaim) (xs : List A) (i : ℕ) (ys : List SetClaim) → length xs ≤ i → each (map f (take i xs)) ≡ Some ys → each (map f xs) ≡ Some ys
claims_whole f xs i ys l e = each_whole f xs i ys l e

unfoldable objects_in : Option Items → Option (List Members)
objects_in o = provided (λ sets. nat_le 1 (length sets)) (option_and_then (λ ds. each (map as_object (listed ds))) o)

-- the items, as the reader sees them
seen_items : (o : Option Items) (ds : List Data) → Some ds ≡ option_map listed o → objects_in o ≡ provided (λ sets. nat_le 1 (length sets)) (each (map as_object ds))
unfolding objects_in
seen_items None ds h = absurd cc
seen_items (Some es) ds h = ap (λ t. provided (λ sets. nat_le 1 (length sets)) (each (map as_object t))) (cc h)

pub sets_none : (ms : Members) → None ≡ option_map listed (option_and_then as_array (get_member (codes "sets") ms)) → sets_at ms ≡ None
unfolding sets_at provided
sets_none ms h = from_items (option_and_then as_array (get_member (codes "sets") ms)) h
  where
    from_items : (o : Option Items) → None ≡ option_map listed o → provided (λ sets. nat_le 1 (length sets)) (option_and_then (λ ds. each (map as_object (listed ds))) o) ≡ None
    from_items None k = refl
    from_items (Some es) k = absurd cc

sets_seen : (ms : Members) (vs : List Value) → Some (map view vs) ≡ option_map listed (option_and_then as_array (get_member (codes "sets") ms)) → sets_at ms ≡ provided (λ sets. nat_le 1 (length sets)) (each (map (λ v. as_object (view v)) vs))
unfolding sets_at objects_in
sets_seen ms vs h = seen_items (option_and_then as_array (get_member (codes "sets") ms)) (map view vs) h ∙ ap (λ t. provided (λ sets. nat_le 1 (length sets)) (each t)) (map-map as_object view vs)

pub sets_empty : (ms : Members) (vs : List Value) → Some (map view vs) ≡ option_map listed (option_and_then as_array (get_member (codes "sets") ms)) → length vs ≡ 0 → sets_at ms ≡ None
unfolding each provided
sets_empty ms [] h l = sets_seen ms [] h
sets_empty ms (v ∷ vs) h l = absurd (omega (arith, l))

no_object : (d : Data) → is_some (as_object d) ≡ false → as_object d ≡ None
no_object null e = refl
no_object (boolean b) e = refl
no_object (number n) e = refl
no_object (string s) e = refl
no_object (array ds) e = refl
no_object (object ms) e = absurd (false≢true (sym e))

all_objects : (vs : List Value) → list_all (λ v. is_some (as_object (view v))) vs ≡ true → each (map (λ v. as_object (view v)) vs) ≡ Some (map (λ v. members_in (view v)) vs)
unfolding each
all_objects [] e = refl
all_objects (v ∷ vs) e =
    let s = and_parts (is_some (as_object (view v))) (list_all (λ w. is_some (as_object (view w))) vs) e in
    each_cons (members_in (view v)) (as_object (view v)) (map (λ w. as_object (view w)) vs) (map (λ w. members_in (view w)) vs) (members_there (view v) s.0) (all_objects vs s.1)

split_objects : (o : Option Members) (b : Bool) (rest : List (Option Members)) → is_some o ≡ b → (b ≡ true → each rest ≡ None) → each (o ∷ rest) ≡ None
split_objects None b rest e h = none_first rest
split_objects (Some ms) b rest e h = each_of_none (Some ms) rest (h (sym e))

not_all_objects : (vs : List Value) → list_all (λ v. is_some (as_object (view v))) vs ≡ false → each (map (λ v. as_object (view v)) vs) ≡ None
not_all_objects [] e = absurd (false≢true (sym e))
not_all_objects (v ∷ vs) e = split_objects (as_object (view v)) (is_some (as_object (view v))) (map (λ w. as_object (view w)) vs) refl (λ k. not_all_objects vs (sym (ap (λ b. b && list_all (λ w. is_some (as_object (view w))) vs) k) ∙ e))

pub sets_others : (ms : Members) (vs : List Value) → Some (map view vs) ≡ option_map listed (option_and_then as_array (get_member (codes "sets") ms)) → list_all (λ v. is_some (as_object (view v))) vs ≡ false → sets_at ms ≡ None
unfolding provided
sets_others ms vs h e = sets_seen ms vs h ∙ ap (provided (λ sets. nat_le 1 (length sets))) (not_all_objects vs e)

pub sets_are : (ms : Members) (vs : List Value) → Some (map view vs) ≡ option_map listed (option_and_then as_array (get_member (codes "sets") ms)) → length vs ≢ 0 → list_all (λ v. is_some (as_object (view v))) vs ≡ true → sets_at ms ≡ Some (map (λ v. members_in (view v)) vs)
unfolding provided
sets_are ms vs h l e =
    sets_seen ms vs h
    ∙ ap (provided (λ sets. nat_le 1 (length sets))) (all_objects vs e)
    ∙ ap (λ b. if b then Some (map (λ v. members_in (view v)) vs) else None) (le-leb 1 (length (map (λ v. members_in (view v)) vs)) (omega (arith, l, length-map vs (λ v. members_in (view v)))))

pub keys_of_sets : (ms : Members) (vs : List Value) → Some (map (λ v. members_in (view v)) vs) ≡ sets_at ms → are_set_keys ms ≡ list_all (λ v. member_count (members_in (view v)) == 3) vs
unfolding are_set_keys
keys_of_sets ms vs h = ap (λ o. list_all (λ s. member_count s == 3) (unwrap_or o [])) (sym h) ∙ all_mapped (λ s. member_count s == 3) (λ v. members_in (view v)) vs

pub keys_of_none : (ms : Members) → None ≡ sets_at ms → are_set_keys ms ≡ true
unfolding are_set_keys
keys_of_none ms h = ap (λ o. list_all (λ s. member_count s == 3) (unwrap_or o [])) (sym h)

rises_far : (xs : List ℕ) → IsStrictlyIncreasing xs → (i k : ℕ) → i + k < length xs → get_or xs i 0 ≤ get_or xs (i + k) 0
rises_far xs h i zero l = subst (λ j. get_or xs i 0 ≤ get_or xs j 0) {x = i} {y = i + 0} (omega arith) (omega arith)
rises_far xs h i (suc k) l = subst (λ j. get_or xs i 0 ≤ get_or xs j 0) {x = i + k + 1} {y = i + suc k} (omega arith) (omega (arith, rises_far xs h i k (omega (arith, l)), h (i + k) (omega (arith, l))))

rises_all : (xs : List ℕ) → IsStrictlyIncreasing xs → (i j : ℕ) → i ≤ j → j < length xs → get_or xs i 0 ≤ get_or xs j 0
rises_all xs h i j l m = subst (λ k. get_or xs i 0 ≤ get_or xs k 0) {x = i + (j - i)} {y = j} (omega (arith, l)) (rises_far xs h i (j - i) (omega (arith, l, m)))

found_member : (xs : List ℕ) (x i : ℕ) → i < length xs → get_or xs i 0 ≡ x → is_member xs x ≡ true
found_member xs x i l e = member_true xs x (Contains-from_at xs x (i, l, at_read xs (λ y. y ≡ x) i x l (sym e ∙ get_or_default xs i 0 x l) refl))

not_member : (xs : List ℕ) (x i : ℕ) → ((k : ℕ) → k < i → get_or xs k 0 < x) → ((k : ℕ) → i ≤ k → k < length xs → x < get_or xs k 0) → Contains xs x → ⊥
not_member xs x i below above c =
    let a = at_from_Contains xs x c in
    ⊎_elim (λ l. omega (arith, below a.0 l, a.2 0)) (λ l. omega (arith, above a.0 l a.1, a.2 0)) (cases_lt a.0 i)

search_by : (xs : List ℕ) (x : ℕ) (r : Result ℕ ℕ) → MatchResult r (λ i. (i < length xs) × (get_or xs i 0 ≡ x)) (λ i. (i ≤ length xs) × ((k : ℕ) → k < i → get_or xs k 0 < x) × ((k : ℕ) → i ≤ k → k < length xs → x < get_or xs k 0)) → is_ok r ≡ is_member xs x
search_by xs x (Ok i) h = sym (found_member xs x i h.0 h.1)
search_by xs x (Err i) h = sym (false_from_ne_true (is_member xs x) (λ e. not_member xs x i h.1 h.2 (true_member xs x e)))

pub search_member : (xs : List ℕ) (x : ℕ) (r : Result ℕ ℕ) → IsStrictlyIncreasing xs → IsBinarySearchResult (λ y. nat_cmp y x) xs r → is_ok r ≡ is_member xs x
search_member xs x r h b = search_by xs x r (searched xs x r b (rises_all xs h))

pub part_fails : (claim : made.SetClaim) (i d : ℕ) → i < length claim.fresh.items → is_member claim.basis.items (get_or claim.fresh.items i d) ≡ false → fresh_in_basis (claim_of claim) ≡ false
unfolding fresh_in_basis claim_of
part_fails claim i d l e = all_fails (is_member claim.basis.items) claim.fresh.items i d l e

pub part_whole : (claim : made.SetClaim) (i : ℕ) → length claim.fresh.items ≤ i → list_all (is_member claim.basis.items) (take i claim.fresh.items) ≡ true → fresh_in_basis (claim_of claim) ≡ true
unfolding fresh_in_basis claim_of
part_whole claim i l e = all_whole (is_member claim.basis.items) claim.fresh.items i l e

pub parts_fail : {C : Type 0} (see : C → SetClaim) (cs : List C) (i : ℕ) (d : C) → i < length cs → fresh_in_basis (see (get_or cs i d)) ≡ false → list_all fresh_in_basis (map see cs) ≡ false
parts_fail see cs i d l e = all_mapped fresh_in_basis see cs ∙ all_fails (λ c. fresh_in_basis (see c)) cs i d l e

pub parts_whole : {C : Type 0} (see : C → SetClaim) (cs : List C) (i : ℕ) → length cs ≤ i → list_all (λ c. fresh_in_basis (see c)) (take i cs) ≡ true → list_all fresh_in_basis (map see cs) ≡ true
parts_whole see cs i l e = all_mapped fresh_in_basis see cs ∙ all_whole (λ c. fresh_in_basis (see c)) cs i l e

pub way_found : (ms : Members) (text : List ℕ) → Some text ≡ option_and_then as_str (get_member (codes "by") ms) → way_at ms ≡ is_scan text
unfolding way_at
way_found ms text h = ap (option_and_then is_scan) (sym h)

pub way_nowhere : (ms : Members) → None ≡ option_and_then as_str (get_member (codes "by") ms) → way_at ms ≡ None
unfolding way_at
way_nowhere ms h = ap (option_and_then is_scan) (sym h)

pub no_sets : (n : ℕ) (make : Proof → Certificate) (o : Option (List Members)) → None ≡ o → sets_in n make o ≡ refused_as (shape 8)
unfolding sets_in
no_sets n make o h = ap (sets_in n make) (sym h)

map_claims : (n : ℕ) (vs : List Value) → map (claim_in n) (map (λ v. members_in (view v)) vs) ≡ map (λ v. claim_in n (members_in (view v))) vs
map_claims n [] = refl
map_claims n (v ∷ vs) = ap (λ t. claim_in n (members_in (view v)) ∷ t) (map_claims n vs)

with_sets : (n : ℕ) (make : Proof → Certificate) (o : Option (List Members)) (vs : List Value) → Some (map (λ v. members_in (view v)) vs) ≡ o → sets_in n make o ≡ levels_in make (each (map (λ v. claim_in n (members_in (view v))) vs))
unfolding sets_in
with_sets n make o vs h = ap (sets_in n make) (sym h) ∙ ap (λ t. levels_in make (each t)) (map_claims n vs)

pub bad_sets : (n : ℕ) (make : Proof → Certificate) (o : Option (List Members)) (vs : List Value) → Some (map (λ v. members_in (view v)) vs) ≡ o → None ≡ each (map (λ v. claim_in n (members_in (view v))) vs) → sets_in n make o ≡ refused_as (shape 9)
unfolding levels_in
bad_sets n make o vs h k = with_sets n make o vs h ∙ ap (levels_in make) (sym k)

pub outside_basis : (n : ℕ) (make : Proof → Certificate) (o : Option (List Members)) (vs : List Value) (claims : List SetClaim) → Some (map (λ v. members_in (view v)) vs) ≡ o → Some claims ≡ each (map (λ v. claim_in n (members_in (view v))) vs) → list_all fresh_in_basis claims ≡ false → sets_in n make o ≡ refused_as (shape 10)
unfolding levels_in
outside_basis n make o vs claims h k e = with_sets n make o vs h ∙ ap (levels_in make) (sym k) ∙ ap (λ b. if b then reads_as (make (levels claims)) else refused_as (shape 10)) e

pub sets_read : (n : ℕ) (make : Proof → Certificate) (o : Option (List Members)) (vs : List Value) (claims : List SetClaim) → Some (map (λ v. members_in (view v)) vs) ≡ o → Some claims ≡ each (map (λ v. claim_in n (members_in (view v))) vs) → list_all fresh_in_basis claims ≡ true → sets_in n make o ≡ reads_as (make (levels claims))
unfolding levels_in
sets_read n make o vs claims h k e = with_sets n make o vs h ∙ ap (levels_in make) (sym k) ∙ ap (λ b. if b then reads_as (make (levels claims)) else refused_as (shape 10)) e

pub no_way : (ms : Members) (n : ℕ) (make : Proof → Certificate) (o : Option Bool) → o ≡ None → way_in ms n make o ≡ refused_as (shape 7)
unfolding way_in
no_way ms n make o h = ap (way_in ms n make) h

pub scan_has_sets : (ms : Members) (n : ℕ) (make : Proof → Certificate) (o : Option Bool) → o ≡ Some true → is_some (get_member (codes "sets") ms) ≡ true → way_in ms n make o ≡ refused_as (shape 8)
unfolding way_in
scan_has_sets ms n make o h e = ap (way_in ms n make) h ∙ ap (λ b. if b then refused_as (shape 8) else reads_as (make scan)) e

pub scan_is : (ms : Members) (n : ℕ) (make : Proof → Certificate) (o : Option Bool) → o ≡ Some true → is_some (get_member (codes "sets") ms) ≡ false → way_in ms n make o ≡ reads_as (make (proof_of Scan))
unfolding way_in proof_of
scan_is ms n make o h e = ap (way_in ms n make) h ∙ ap (λ b. if b then refused_as (shape 8) else reads_as (make scan)) e

pub levels_are : (ms : Members) (n : ℕ) (make : Proof → Certificate) (o : Option Bool) → o ≡ Some false → way_in ms n make o ≡ sets_in n make (sets_at ms)
unfolding way_in
levels_are ms n make o h = ap (way_in ms n make) h

pub seen_rise : {C : Type 0} (see : C → SetClaim) (cs : List C) → All (λ claim. IsStrictlyIncreasing claim.basis) (map see cs) → All (λ c. IsStrictlyIncreasing (see c).basis) cs
seen_rise see [] a = λ k d l. absurd (omega (arith, l))
seen_rise see (c ∷ cs) a = All-cons (λ x. IsStrictlyIncreasing (see x).basis) c cs (All-head (λ claim. IsStrictlyIncreasing claim.basis) (see c) (map see cs) a) (seen_rise see cs (All-tail (λ claim. IsStrictlyIncreasing claim.basis) (see c) (map see cs) a))

pub read_rise : {C : Type 0} (see : C → SetClaim) (n : ℕ) (vs : List Value) (cs : List C) → Some (map see cs) ≡ each (map (λ v. claim_in n (members_in (view v))) vs) → All (λ c. IsStrictlyIncreasing (see c).basis) cs
read_rise see n vs cs h = seen_rise see cs (bases_rise n vs (map see cs) (sym h))

pub ruleset places_at_laws = (places_pass, places_fail, places_nowhere)

pub ruleset set_of_laws = (no_basis, no_fresh, no_level, set_read)

pub ruleset sets_of_laws = (claims_none, claims_more, claims_whole, each_start)

pub ruleset sets_at_laws = (sets_none, sets_empty, sets_others, sets_are)

pub ruleset is_fresh_in_basis_laws = (part_fails, part_whole, all_next)

pub ruleset are_fresh_in_bases_laws = (parts_fail, parts_whole, all_next)

pub ruleset levels_at_laws = (no_sets, bad_sets, outside_basis, sets_read, bases_rise)

pub ruleset proof_at_laws = (no_way, scan_has_sets, scan_is, levels_are)
