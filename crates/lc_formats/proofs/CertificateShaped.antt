-- A certificate that was read has the shape.
--   IsShapedRead r             if r is a certificate, it has the shape
--   either_way                 by cases on a test
--   is_below_limit             what isn't above the limit
--   find_passes                what was found passes the test
--   field_found                a field that was found is a symbol field
--   HasRulesRead r             if r is a certificate, it meets all rules but the limits
--   closed_shaped              with the limits, it has the shape
--   levels_shaped .. object_shaped      the parts of the reading, from its end on
--   certificate_shaped         a certificate that bytes read as has the shape
use Rattle.std.proofs.Common.{◌≡◌, ℕ, ◌^◌, ◌<◌, ◌≤◌, Bool, true, false, not, nat_le, ◌==◌, ◌&&◌, ◌||◌, cond, if◌then◌else◌, List, [], ◌∷◌, map, length, find, is_some, All, Contains, Option, Some, None, option_map, option_and_then, refl, sym, subst, arith}
use Rattle.std.specs.Prelude.{⊤, codes}
use Rattle.std.specs.List.{list_all}
use Rattle.std.specs.List.Sorted.{IsStrictlyIncreasing}
use Rattle.std.proofs.lemmas.Bool.{and_parts, leb-true, ltb-false, or_parts}
use Rattle.std.proofs.lemmas.Option.{option_and_then_some}
use Rattle.serde_json.specs.Data.{Data, Items, Members}
use Rattle.serde_json.specs.Find.{get_member, as_array, as_object, as_str}
use Rattle.lc_algebra.specs.declared.FieldName.{FieldName}
use Rattle.lc_algebra.specs.Field.{size, is_symbol}
use Rattle.lc_algebra.specs.Word.{IsWord}
use Rattle.lc_algebra.specs.Matrix.{AreRows}
use Rattle.lc_constructions.specs.Cyclic.{all_fields}
use Rattle.lc_constructions.specs.Code.{longest}
use Rattle.lc_constructions.specs.Refusals.{columns_of}
use Rattle.lc_formats.specs.Certificate.{Certificate, SetClaim, Proof, scan, levels, code_length, Reason, limit, not_json, shape as broken}
use Rattle.lc_formats.specs.Json.{number_at, listed, each, list_at, provided, member_count, json_in}
use Rattle.lc_formats.specs.Shape.{IsShapedSet, AreShapedSets, IsShaped}
use Rattle.lc_formats.specs.Check.{CertificateRead, reads_as, refused_as, rows_at, field_at, fit, are_rows, is_scan, are_places, claim_in, sets_at, fresh_in_basis, above, certificate_over, levels_in, sets_in, way_in, distance_in, word_in, rows_in, parts_in, key_count, are_set_keys, set_total, is_beyond_limit, closed, field_in, is_version, object_in, data_in, certificate_in}
use Rattle.lc_formats.proofs.TestLaws.{all_holds, word_holds, places_hold, part_holds}
use Rattle.lc_formats.proofs.ReadLaws.{AreFit, MembersFit, json_fits, number_fits, object_fits, listed_fit, array_fits_at, provided_inside, each_all, each_length}

chosen_passes : {X : Type 0} (b : Bool) (p : X → Bool) (a x : X) (rest : Option X) → p a ≡ b → (rest ≡ Some x → p x ≡ true) → cond b (Some a) rest ≡ Some x → p x ≡ true
chosen_passes true p a x rest t h e = subst (λ y. p y ≡ true) (cc e) t
chosen_passes false p a x rest t h e = h e

pub find_passes : {X : Type 0} (p : X → Bool) (xs : List X) (x : X) → find p xs ≡ Some x → p x ≡ true
find_passes p [] x e = absurd cc
find_passes p (a ∷ xs) x e = chosen_passes (p a) p a x (find p xs) refl (find_passes p xs x) e

same_read : (c d : Certificate) → reads_as c ≡ reads_as d → c ≡ d
same_read c d e = cc e

abbrev pub IsShapedRead : CertificateRead → Type 0
IsShapedRead r = (c : Certificate) → r ≡ reads_as c → IsShaped c

refused_shaped : (r : Reason) → IsShapedRead (refused_as r)
refused_shaped r c e = absurd cc

either_way : (b : Bool) (x y : CertificateRead) → (b ≡ true → IsShapedRead x) → (b ≡ false → IsShapedRead y) → IsShapedRead (if b then x else y)
either_way true x y h k = h refl
either_way false x y h k = k refl

pub is_below_limit : (n : ℕ) → above n ≡ false → n ≤ longest
unfolding above
is_below_limit n e = ltb-false longest n e

-- all but the rules of the sets
pub record IsNearlyShaped (f : FieldName) (rows : List (List ℕ)) (word : List ℕ) (d : ℕ) : Type 0 where
  pub symbol : is_symbol f ≡ true
  pub some_rows : 1 ≤ length rows
  pub some_columns : 1 ≤ length word
  pub rows_fit : AreRows f (length word) rows
  pub word_fits : IsWord f (length word) word
  pub positive : 1 ≤ d
  pub small : d < 2 ^ 64

-- a certificate but for the limits
abbrev pub AreSets : ℕ → Proof → Type 0
AreSets n scan = ⊤
AreSets n (levels claims) = (1 ≤ length claims) × All (IsShapedSet n) claims

pub record HasRules (c : Certificate) : Type 0 where
  pub parts : IsNearlyShaped c.field c.rows c.word c.distance
  pub sets : AreSets (length c.word) c.proof

abbrev HasRulesRead : CertificateRead → Type 0
HasRulesRead r = (c : Certificate) → r ≡ reads_as c → HasRules c

limited_sets : (n : ℕ) (p : Proof) → AreSets n p → set_total p ≤ longest → AreShapedSets n p
unfolding set_total
limited_sets n scan h l = tt
limited_sets n (levels claims) h l = (h.0, l, h.1)

pub limited : (c : Certificate) → HasRules c → is_beyond_limit c ≡ false → IsShaped c
unfolding is_beyond_limit code_length
limited c h e =
    let s = or_parts (above (length c.word)) (above (length c.rows) || above (set_total c.proof)) e in
    let t = or_parts (above (length c.rows)) (above (set_total c.proof)) s.1 in
    record {
      field_fits = h.parts.symbol;
      has_rows = h.parts.some_rows;
      few_rows = is_below_limit (length c.rows) t.0;
      has_columns = h.parts.some_columns;
      few_columns = is_below_limit (length c.word) s.0;
      rows_fit = h.parts.rows_fit;
      word_fits = h.parts.word_fits;
      positive = h.parts.positive;
      distance_fits = h.parts.small;
      sets_fit = limited_sets (length c.word) c.proof h.sets (is_below_limit (set_total c.proof) t.1);
    }

closed_shaped : (ms : Members) (r : CertificateRead) → HasRulesRead r → IsShapedRead (closed ms r)
unfolding closed
closed_shaped ms (refused_as r) h = refused_shaped r
closed_shaped ms (reads_as c) h =
    either_way (not ((member_count ms == key_count c.proof) && are_set_keys ms)) (refused_as (broken 11)) (if is_beyond_limit c then refused_as limit else reads_as c) (λ e. refused_shaped (broken 11))
    (λ e. either_way (is_beyond_limit c) (refused_as limit) (reads_as c) (λ k. refused_shaped limit)
    (λ k d same. subst IsShaped (same_read c d same) (limited c (h c refl) k)))

-- and it is over the field
abbrev pub HasRulesOver : FieldName → CertificateRead → Type 0
HasRulesOver f r = (c : Certificate) → r ≡ reads_as c → (c.field ≡ f) × HasRules c

refused_ruled : (f : FieldName) (r : Reason) → HasRulesOver f (refused_as r)
refused_ruled f r c e = absurd cc

either_ruled : (f : FieldName) (b : Bool) (x y : CertificateRead) → (b ≡ true → HasRulesOver f x) → (b ≡ false → HasRulesOver f y) → HasRulesOver f (if b then x else y)
either_ruled f true x y h k = h refl
either_ruled f false x y h k = k refl

made_ruled : (f : FieldName) (rows : List (List ℕ)) (word : List ℕ) (d : ℕ) (p : Proof) → IsNearlyShaped f rows word d → AreSets (length word) p → HasRulesOver f (reads_as (certificate_over f rows word d p))
unfolding certificate_over
made_ruled f rows word d p h s c e = subst (λ r. (r.field ≡ f) × HasRules r) {x = certificate_over f rows word d p} (same_read (certificate_over f rows word d p) c e) (refl, record { parts = h; sets = s })

-- a set but for its places being in the basis
record IsNearlySet (n : ℕ) (claim : SetClaim) : Type 0 where
  pub basis : IsStrictlyIncreasing claim.basis × All (λ place. place < n) claim.basis
  pub fresh : IsStrictlyIncreasing claim.fresh × All (λ place. place < n) claim.fresh
  pub level : claim.level < 2 ^ 64

made_set : (n : ℕ) (basis fresh : List ℕ) (o : Option ℕ) (claim : SetClaim) → ((level : ℕ) → o ≡ Some level → level < 2 ^ 64) → IsStrictlyIncreasing basis × All (λ place. place < n) basis → IsStrictlyIncreasing fresh × All (λ place. place < n) fresh → option_map (λ level. record { basis = basis; fresh = fresh; level = level }) o ≡ Some claim → IsNearlySet n claim
made_set n basis fresh None claim small b f e = absurd cc
made_set n basis fresh (Some level) claim small b f e = subst (IsNearlySet n) {x = record { basis = basis; fresh = fresh; level = level }} (cc e) (record { basis = b; fresh = f; level = small level refl })

set_shaped : (n : ℕ) (ms : Members) (claim : SetClaim) → MembersFit ms → claim_in n ms ≡ Some claim → IsNearlySet n claim
unfolding claim_in
set_shaped n ms claim h e =
    option_and_then_some _ (provided (are_places n) (list_at (codes "basis") ms)) claim e (λ basis one rest.
    option_and_then_some _ (provided (are_places n) (list_at (codes "fresh") ms)) claim rest (λ fresh two more.
    made_set n basis fresh (number_at (codes "level") ms) claim (λ level same. number_fits (codes "level") ms level h same)
    (places_hold n basis (provided_inside (are_places n) (list_at (codes "basis") ms) basis one).passes)
    (places_hold n fresh (provided_inside (are_places n) (list_at (codes "fresh") ms) fresh two).passes) more))

shaped_set : (n : ℕ) (claim : SetClaim) → IsNearlySet n claim → All (Contains claim.basis) claim.fresh → IsShapedSet n claim
shaped_set n claim h part = record {
  basis_rises = h.basis.0;
  basis_inside = h.basis.1;
  fresh_rises = h.fresh.0;
  fresh_inside = h.fresh.1;
  level_fits = h.level;
  part = part;
}

both_all : (n : ℕ) (claims : List SetClaim) → All (IsNearlySet n) claims → list_all fresh_in_basis claims ≡ true → All (IsShapedSet n) claims
both_all n claims a e =
    let parts = all_holds fresh_in_basis (λ claim. All (Contains claim.basis) claim.fresh) part_holds claims e in
    λ k d l. shaped_set n _ (a k d l) (parts k d l)

levels_shaped : (f : FieldName) (rows : List (List ℕ)) (word : List ℕ) (d : ℕ) (sets : List Members) → IsNearlyShaped f rows word d → All MembersFit sets → 1 ≤ length sets → (o : Option (List SetClaim)) → each (map (claim_in (length word)) sets) ≡ o → HasRulesOver f (levels_in (certificate_over f rows word d) o)
unfolding levels_in certificate_over
levels_shaped f rows word d sets h fits some None e = refused_ruled f (broken 9)
levels_shaped f rows word d sets h fits some (Some claims) e =
    let near = each_all (claim_in (length word)) MembersFit (IsNearlySet (length word)) (set_shaped (length word)) sets claims fits e in
    let long = each_length (claim_in (length word)) sets claims e in
    either_ruled f (list_all fresh_in_basis claims) (reads_as (certificate_over f rows word d (levels claims))) (refused_as (broken 10))
    (λ k. made_ruled f rows word d (levels claims) h (omega (arith, some, long), both_all (length word) claims near k))
    (λ k. refused_ruled f (broken 10))

objects_fit : (o : Option Items) (sets : List Members) → ((ds : Items) → o ≡ Some ds → All AreFit (listed ds)) → option_and_then (λ ds. each (map as_object (listed ds))) o ≡ Some sets → All MembersFit sets
objects_fit None sets h e = absurd cc
objects_fit (Some ds) sets h e = each_all as_object AreFit MembersFit (λ d ms fit found. object_fits d ms fit found) (listed ds) sets (h ds refl) e

sets_shaped : (ms : Members) (f : FieldName) (rows : List (List ℕ)) (word : List ℕ) (d : ℕ) → IsNearlyShaped f rows word d → MembersFit ms → (o : Option (List Members)) → sets_at ms ≡ o → HasRulesOver f (sets_in (length word) (certificate_over f rows word d) o)
unfolding sets_in sets_at
sets_shaped ms f rows word d h fits None e = refused_ruled f (broken 8)
sets_shaped ms f rows word d h fits (Some sets) e =
    let some = provided_inside (λ ss. nat_le 1 (length ss)) (option_and_then (λ ds. each (map as_object (listed ds))) (option_and_then as_array (get_member (codes "sets") ms))) sets e in
    let all = objects_fit (option_and_then as_array (get_member (codes "sets") ms)) sets (λ ds k. listed_fit ds (array_fits_at (codes "sets") ms ds fits k)) some.there in
    levels_shaped f rows word d sets h all (leb-true 1 (length sets) some.passes) (each (map (claim_in (length word)) sets)) refl

way_shaped : (ms : Members) (f : FieldName) (rows : List (List ℕ)) (word : List ℕ) (d : ℕ) → IsNearlyShaped f rows word d → MembersFit ms → (o : Option Bool) → HasRulesOver f (way_in ms (length word) (certificate_over f rows word d) o)
unfolding way_in certificate_over
way_shaped ms f rows word d h fits None = refused_ruled f (broken 7)
way_shaped ms f rows word d h fits (Some true) =
    either_ruled f (is_some (get_member (codes "sets") ms)) (refused_as (broken 8)) (reads_as (certificate_over f rows word d scan)) (λ k. refused_ruled f (broken 8)) (λ k. made_ruled f rows word d scan h tt)
way_shaped ms f rows word d h fits (Some false) = sets_shaped ms f rows word d h fits (sets_at ms) refl

distance_shaped : (ms : Members) (f : FieldName) (rows : List (List ℕ)) (word : List ℕ) → is_symbol f ≡ true → MembersFit ms → 1 ≤ length rows → 1 ≤ length word → AreRows f (length word) rows → IsWord f (length word) word → (o : Option ℕ) → provided (nat_le 1) (number_at (codes "distance") ms) ≡ o → HasRulesOver f (distance_in ms (length word) (certificate_over f rows word) o)
unfolding distance_in
distance_shaped ms f rows word s fits some columns r w None e = refused_ruled f (broken 6)
distance_shaped ms f rows word s fits some columns r w (Some d) e =
    let p = provided_inside (nat_le 1) (number_at (codes "distance") ms) d e in
    way_shaped ms f rows word d (record {
      symbol = s;
      some_rows = some;
      some_columns = columns;
      rows_fit = r;
      word_fits = w;
      positive = leb-true 1 d p.passes;
      small = number_fits (codes "distance") ms d fits p.there;
    }) fits (option_and_then is_scan (option_and_then as_str (get_member (codes "by") ms)))

word_shaped : (ms : Members) (f : FieldName) (rows : List (List ℕ)) → is_symbol f ≡ true → MembersFit ms → 1 ≤ length rows → 1 ≤ columns_of rows → AreRows f (columns_of rows) rows → (o : Option (List ℕ)) → provided (fit f (columns_of rows)) (list_at (codes "word") ms) ≡ o → HasRulesOver f (word_in ms f rows o)
unfolding word_in
word_shaped ms f rows s fits some columns r None e = refused_ruled f (broken 5)
word_shaped ms f rows s fits some columns r (Some word) e =
    let w = word_holds f (columns_of rows) word (provided_inside (fit f (columns_of rows)) (list_at (codes "word") ms) word e).passes in
    distance_shaped ms f rows word s fits some (omega (arith, columns, w.long)) (subst (λ n. AreRows f n rows) (sym w.long) r) (subst (λ n. IsWord f n word) (sym w.long) w) (provided (nat_le 1) (number_at (codes "distance") ms)) refl

some_row : (rows : List (List ℕ)) → 1 ≤ columns_of rows → 1 ≤ length rows
unfolding columns_of
some_row [] l = absurd (omega (arith, l))
some_row (row ∷ rows) l = omega arith

rows_shaped : (ms : Members) (f : FieldName) → is_symbol f ≡ true → MembersFit ms → (o : Option (List (List ℕ))) → provided (are_rows f) (rows_at ms) ≡ o → HasRulesOver f (rows_in ms f o)
unfolding rows_in are_rows
rows_shaped ms f s fits None e = refused_ruled f (broken 4)
rows_shaped ms f s fits (Some rows) e =
    let p = and_parts (nat_le 1 (columns_of rows)) (list_all (fit f (columns_of rows)) rows) (provided_inside (are_rows f) (rows_at ms) rows e).passes in
    let columns = leb-true 1 (columns_of rows) p.0 in
    word_shaped ms f rows s fits (some_row rows columns) columns (all_holds (fit f (columns_of rows)) (IsWord f (columns_of rows)) (word_holds f (columns_of rows)) rows p.1) (provided (fit f (columns_of rows)) (list_at (codes "word") ms)) refl

pub field_found : (o : Option ℕ) (f : FieldName) → option_and_then (λ q. find (λ g. (size g == q) && is_symbol g) all_fields) o ≡ Some f → is_symbol f ≡ true
field_found None f e = absurd cc
field_found (Some q) f e = (and_parts (size f == q) (is_symbol f) (find_passes (λ g. (size g == q) && is_symbol g) all_fields f e)).1

pub parts_ruled : (ms : Members) (f : FieldName) → is_symbol f ≡ true → MembersFit ms → HasRulesOver f (parts_in ms f)
unfolding parts_in
parts_ruled ms f s fits = rows_shaped ms f s fits (provided (are_rows f) (rows_at ms)) refl

field_shaped : (ms : Members) → MembersFit ms → (o : Option FieldName) → field_at ms ≡ o → HasRulesRead (field_in ms o)
unfolding field_in field_at
field_shaped ms fits None e = λ c same. absurd cc
field_shaped ms fits (Some f) e = λ c same. (parts_ruled ms f (field_found (number_at (codes "field") ms) f e) fits c same).1

object_shaped : (o : Option Members) → ((ms : Members) → o ≡ Some ms → MembersFit ms) → IsShapedRead (object_in o)
unfolding object_in is_version
object_shaped None h = refused_shaped (broken 1)
object_shaped (Some ms) h =
    either_way (is_some (provided (λ v. v == 1) (number_at (codes "version") ms))) (closed ms (field_in ms (field_at ms))) (refused_as (broken 2)) (λ e. closed_shaped ms (field_in ms (field_at ms)) (field_shaped ms (h ms refl) (field_at ms) refl)) (λ e. refused_shaped (broken 2))

pub data_shaped : (o : Option Data) → ((d : Data) → o ≡ Some d → AreFit d) → IsShapedRead (data_in o)
unfolding data_in
data_shaped None h = refused_shaped not_json
data_shaped (Some d) h = object_shaped (as_object d) (λ ms e. object_fits d ms (h d refl) e)

pub certificate_shaped : (bytes : List ℕ) (c : Certificate) → certificate_in bytes ≡ reads_as c → IsShaped c
unfolding certificate_in
certificate_shaped bytes c e = data_shaped (json_in bytes) (λ d same. json_fits bytes d same) c e
