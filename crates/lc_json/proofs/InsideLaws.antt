-- The parts of a JSON value, as a reader finds them.
--   json_found, json_missing           the JSON value that bytes are, and that they are none
--   get_inside                         what is looked up is looked up in the members
--   number_found, number_missing       the number at a key
--   listed_view, array_found           the items of an array, and of the one at a key
--   list_found, list_missing           the numbers listed at a key
--   plain_number_is                    the number that a value is
--   numbers_are, no_numbers, numbers_missing, numbers_done      the numbers that a value lists, and that it lists none
--   members_counted, no_members_counted      how many members a value has
use Rattle.std.proofs.Common.{◌≡◌, ℕ, suc, ◌<◌, ◌≤◌, Bool, true, false, if◌then◌else◌, List, [], ◌∷◌, length, get_or, take, map, Option, Some, None, option_map, option_and_then, refl, sym, ap, ◌∙◌}
use Rattle.std.specs.Prelude.{String}
use Rattle.std.specs.declared.alloc.Global.{Global}
use Rattle.std.specs.Str.{IsUtf8, is_utf8}
use Rattle.std.proofs.lemmas.List.{length-map}
use Rattle.std.proofs.lemmas.Str.{IsUtf8-from_is_utf8, is_utf8-from_IsUtf8}
use Rattle.serde_json.specs.declared.value.Value.{Value}
use Rattle.serde_json.specs.Data.{Data, null, boolean, number, string, array, object, Members}
use Rattle.serde_json.specs.Find.{get, get_member, as_number, as_u64, as_array, as_object}
use Rattle.serde_json.specs.Read.{read}
use Rattle.serde_json.specs.View.{view, items_view, members_of, members_view}
use Rattle.lc_formats.specs.Json.{json_in, number_at, numbers_of, list_at, listed, member_count, each, plain_number}
use Rattle.lc_json.specs.Inside.{members_in}
use Rattle.lc_json.proofs.EachLaws.{each_none, each_next, each_whole}

pub json_found : (bytes : List ℕ) (d : Data) → IsUtf8 bytes → read bytes ≡ Some d → json_in bytes ≡ Some d
unfolding json_in
json_found bytes d u e = ap (λ b. if b then read bytes else None) (is_utf8-from_IsUtf8 bytes u) ∙ e

either_missing : (bytes : List ℕ) (b : Bool) → (b ≡ true → read bytes ≡ None) → (if b then read bytes else None) ≡ None
either_missing bytes true h = h refl
either_missing bytes false h = refl

pub json_missing : (bytes : List ℕ) → (IsUtf8 bytes → read bytes ≡ None) → json_in bytes ≡ None
unfolding json_in
json_missing bytes h = either_missing bytes (is_utf8 bytes) (λ e. h (IsUtf8-from_is_utf8 bytes e))

pub get_inside : (k : List ℕ) (d : Data) → get k d ≡ get_member k (members_in d)
get_inside k null = refl
get_inside k (boolean b) = refl
get_inside k (number n) = refl
get_inside k (string s) = refl
get_inside k (array ds) = refl
get_inside k (object ms) = refl

inside : (k : List ℕ) (d : Data) (o : Option Data) → o ≡ get k d → get_member k (members_in d) ≡ o
inside k d o e = sym (get_inside k d) ∙ sym e

pub number_found : (k : List ℕ) (d e : Data) → Some e ≡ get k d → number_at k (members_in d) ≡ option_and_then as_u64 (as_number e)
unfolding number_at
number_found k d e h = ap (λ o. option_and_then as_u64 (option_and_then as_number o)) (inside k d (Some e) h)

pub number_missing : (k : List ℕ) (d : Data) → None ≡ get k d → number_at k (members_in d) ≡ None
unfolding number_at
number_missing k d h = ap (λ o. option_and_then as_u64 (option_and_then as_number o)) (inside k d None h)

pub listed_view : (vs : List Value) → listed (items_view vs) ≡ map view vs
unfolding listed
listed_view [] = refl
listed_view (v ∷ vs) = ap (λ ds. view v ∷ ds) (listed_view vs)

array_seen : {V : Type 0} (f : V → List Value) (r : Option V) → option_map (λ v. map view (f v)) r ≡ option_map listed (option_map (λ v. items_view (f v)) r)
array_seen f None = refl
array_seen f (Some v) = ap Some (sym (listed_view (f v)))

pub array_found : {V : Type 0} (f : V → List Value) (r : Option V) (k : List ℕ) (d e : Data) → Some e ≡ get k d → option_map (λ v. items_view (f v)) r ≡ as_array e → option_map (λ v. map view (f v)) r ≡ option_map listed (option_and_then as_array (get_member k (members_in d)))
array_found f r k d e h a = array_seen f r ∙ ap (option_map listed) (a ∙ ap (option_and_then as_array) (sym (inside k d (Some e) h)))

pub list_found : (k : List ℕ) (d e : Data) → Some e ≡ get k d → list_at k (members_in d) ≡ numbers_of e
unfolding list_at
list_found k d e h = ap (option_and_then numbers_of) (inside k d (Some e) h)

pub list_missing : (k : List ℕ) (d : Data) → None ≡ get k d → list_at k (members_in d) ≡ None
unfolding list_at
list_missing k d h = ap (option_and_then numbers_of) (inside k d None h)

pub plain_number_is : (d : Data) → plain_number d ≡ option_and_then as_u64 (as_number d)
unfolding plain_number
plain_number_is d = refl

map_map : (vs : List Value) → map plain_number (map view vs) ≡ map (λ v. plain_number (view v)) vs
map_map [] = refl
map_map (v ∷ vs) = ap (λ t. plain_number (view v) ∷ t) (map_map vs)

pub numbers_are : (vs : List Value) (d : Data) → Some (items_view vs) ≡ as_array d → numbers_of d ≡ each (map (λ v. plain_number (view v)) vs)
unfolding numbers_of
numbers_are vs d h = ap (option_and_then (λ ds. each (map plain_number (listed ds)))) (sym h) ∙ ap (λ ds. each (map plain_number ds)) (listed_view vs) ∙ ap each (map_map vs)

pub no_numbers : (d : Data) → None ≡ as_array d → numbers_of d ≡ None
unfolding numbers_of
no_numbers d h = ap (option_and_then (λ ds. each (map plain_number (listed ds)))) (sym h)

count_members : (ms : List (String Global × Data)) → member_count (members_of ms) ≡ length ms
unfolding member_count
count_members [] = refl
count_members (m ∷ ms) = ap suc (count_members ms)

members_are : (ms : Members) (d : Data) → Some ms ≡ as_object d → members_in d ≡ ms
members_are ms null h = absurd cc
members_are ms (boolean b) h = absurd cc
members_are ms (number n) h = absurd cc
members_are ms (string s) h = absurd cc
members_are ms (array ds) h = absurd cc
members_are ms (object found) h = cc h

pub members_counted : (es : List (String Global × Value)) (d : Data) → Some (members_view es) ≡ as_object d → member_count (members_in d) ≡ length es
members_counted es d h = ap member_count (members_are (members_view es) d h) ∙ count_members (map (λ m. (m.0, view m.1)) es) ∙ length-map es (λ m. (m.0, view m.1))

pub no_members_counted : (d : Data) → None ≡ as_object d → member_count (members_in d) ≡ 0
unfolding member_count
no_members_counted null h = refl
no_members_counted (boolean b) h = refl
no_members_counted (number n) h = refl
no_members_counted (string s) h = refl
no_members_counted (array ds) h = refl
no_members_counted (object ms) h = absurd cc

pub numbers_missing : (vs : List Value) (d : Data) (i : ℕ) (v : Value) → Some (items_view vs) ≡ as_array d → i < length vs → option_and_then as_u64 (as_number (view (get_or vs i v))) ≡ None → numbers_of d ≡ None
unfolding plain_number
numbers_missing vs d i v h l e = numbers_are vs d h ∙ each_none (λ w. plain_number (view w)) vs i v l e

pub numbers_done : (vs : List Value) (d : Data) (i : ℕ) (ys : List ℕ) → Some (items_view vs) ≡ as_array d → length vs ≤ i → each (map (λ v. plain_number (view v)) (take i vs)) ≡ Some ys → numbers_of d ≡ Some ys
numbers_done vs d i ys h l e = numbers_are vs d h ∙ each_whole (λ w. plain_number (view w)) vs i ys l e

pub ruleset read_laws = (json_found, json_missing)

pub ruleset number_at_laws = (number_found, number_missing)

pub ruleset numbers_of_laws = (plain_number_is, numbers_are, no_numbers, each_none, each_next)

pub ruleset list_at_laws = (list_found, list_missing)

pub ruleset has_keys_laws = (members_counted, no_members_counted)
