-- Rows and words, as a reader takes them.
--   word_no_array, word_other_length      no list, or one of another length, is no word
--   word_missing, word_done      a list one of whose numbers is no element of the field is none, and one whose numbers all are is one
--   word_found, word_nowhere     the word at a key
--   word_there                   an object with an array at the key
--   rows_none, rows_no_array, rows_empty      what begins with no row is no rows
--   rows_missing, rows_done      rows one of which doesn't fit are none, and those that all fit are some
--   rows_found, rows_nowhere     the rows of an object
--   rows_there, rows_read        an object whose rows were found, or read, has an array of rows
use Rattle.std.proofs.Common.{◌≡◌, ◌≢◌, ℕ, ◌<◌, ◌≤◌, ◌&&◌, false, nat_lt, nat_le, List, [], ◌∷◌, length, get_or, take, map, codes, Option, Some, None, IsSome, option_map, option_and_then, refl, sym, ap, subst, ◌∙◌, arith}
use Rattle.std.specs.List.{list_all}
use Rattle.std.proofs.lemmas.Bool.{eq-eqb, le-leb, ne_eqb}
use Rattle.std.proofs.lemmas.Simd.{map-map}
use Rattle.serde_json.specs.declared.value.Value.{Value}
use Rattle.serde_json.specs.Data.{Data, Items, Members}
use Rattle.serde_json.specs.Find.{get, get_member, as_array}
use Rattle.serde_json.specs.View.{view, items_view}
use Rattle.lc_algebra.specs.declared.FieldName.{FieldName}
use Rattle.lc_algebra.specs.Field.{size}
use Rattle.lc_constructions.specs.Refusals.{columns_of, are_elements}
use Rattle.lc_formats.specs.Json.{plain_number, numbers_of, list_at, listed, each, provided}
use Rattle.lc_formats.specs.Check.{fit, are_rows, rows_at}
use Rattle.lc_formats.proofs.ReadLaws.{each_length}
use Rattle.lc_json.specs.Inside.{members_in}
use Rattle.lc_certificate.specs.Reading.{HasArray}
use Rattle.lc_json.proofs.EachLaws.{some_of, each_none, each_whole, each_provided, provided_same, provided_none, each_next, each_start}
use Rattle.lc_json.proofs.InsideLaws.{get_inside, numbers_are, no_numbers}

abbrev symbol_in : FieldName → Value → Option ℕ
symbol_in f v = provided (λ a. nat_lt a (size f)) (plain_number (view v))

pub word_no_array : (f : FieldName) (n : ℕ) (d : Data) → None ≡ as_array d → provided (fit f n) (numbers_of d) ≡ None
unfolding provided
word_no_array f n d h = ap (provided (fit f n)) (no_numbers d h)

same_long : (f : FieldName) (n : ℕ) (row : List ℕ) → length row ≡ n → fit f n row ≡ are_elements f row
unfolding fit
same_long f n row l = ap (λ b. b && are_elements f row) (eq-eqb (length row) n l)

other_long : (f : FieldName) (n : ℕ) (row : List ℕ) → length row ≢ n → fit f n row ≡ false
unfolding fit
other_long f n row l = ap (λ b. b && are_elements f row) (ne_eqb (length row) n l)

read_length : (vs : List Value) (d : Data) (row : List ℕ) → Some (items_view vs) ≡ as_array d → numbers_of d ≡ Some row → length row ≡ length vs
read_length vs d row h e = each_length (λ v. plain_number (view v)) vs row (sym (numbers_are vs d h) ∙ e)

pub word_other_length : (f : FieldName) (n : ℕ) (vs : List Value) (d : Data) → Some (items_view vs) ≡ as_array d → length vs ≢ n → provided (fit f n) (numbers_of d) ≡ None
word_other_length f n vs d h l = provided_none (fit f n) (numbers_of d) (λ row e. other_long f n row (λ same. l (sym (read_length vs d row h e) ∙ same)))

word_symbols : (f : FieldName) (n : ℕ) (vs : List Value) (d : Data) → Some (items_view vs) ≡ as_array d → length vs ≡ n → provided (fit f n) (numbers_of d) ≡ each (map (symbol_in f) vs)
unfolding are_elements
word_symbols f n vs d h l =
    provided_same (fit f n) (are_elements f) (numbers_of d) (λ row e. same_long f n row (read_length vs d row h e ∙ l))
    ∙ ap (provided (are_elements f)) (numbers_are vs d h)
    ∙ sym (each_provided (λ a. nat_lt a (size f)) (λ v. plain_number (view v)) vs)

pub word_missing : (f : FieldName) (n : ℕ) (vs : List Value) (d : Data) (i : ℕ) (v : Value) → Some (items_view vs) ≡ as_array d → length vs ≡ n → i < length vs → provided (λ a. nat_lt a (size f)) (plain_number (view (get_or vs i v))) ≡ None → provided (fit f n) (numbers_of d) ≡ None
word_missing f n vs d i v h l m e = word_symbols f n vs d h l ∙ each_none (symbol_in f) vs i v m e

pub word_done : (f : FieldName) (n : ℕ) (vs : List Value) (d : Data) (i : ℕ) (ys : List ℕ) → Some (items_view vs) ≡ as_array d → length vs ≡ n → length vs ≤ i → each (map (λ v. provided (λ a. nat_lt a (size f)) (plain_number (view v))) (take i vs)) ≡ Some ys → provided (fit f n) (numbers_of d) ≡ Some ys
word_done f n vs d i ys h l m e = word_symbols f n vs d h l ∙ each_whole (symbol_in f) vs i ys m e

pub word_found : (f : FieldName) (n : ℕ) (k : List ℕ) (d e : Data) → Some e ≡ get k d → provided (fit f n) (list_at k (members_in d)) ≡ provided (fit f n) (numbers_of e)
unfolding list_at
word_found f n k d e h = ap (λ o. provided (fit f n) (option_and_then numbers_of o)) (sym (get_inside k d) ∙ sym h)

pub word_nowhere : (f : FieldName) (n : ℕ) (k : List ℕ) (d : Data) → None ≡ get k d → provided (fit f n) (list_at k (members_in d)) ≡ None
unfolding list_at provided
word_nowhere f n k d h = ap (λ o. provided (fit f n) (option_and_then numbers_of o)) (sym (get_inside k d) ∙ sym h)

pub word_there : (k : List ℕ) (d e : Data) → Some e ≡ get k d → IsSome (as_array e) → HasArray k (members_in d)
unfolding HasArray
word_there k d e h some = subst (λ o. IsSome (option_and_then as_array o)) (h ∙ get_inside k d) some

pub rows_none : (f : FieldName) (vs : List Value) → length vs < 1 → provided (are_rows f) (each (map numbers_of (map view vs))) ≡ None
unfolding each provided are_rows columns_of
rows_none f [] l = refl
rows_none f (v ∷ vs) l = absurd (omega arith)

-- the values that are read as rows
rows_seen : (f : FieldName) (vs : List Value) → provided (are_rows f) (each (map numbers_of (map view vs))) ≡ provided (are_rows f) (each (map (λ v. numbers_of (view v)) vs))
rows_seen f vs = ap (λ t. provided (are_rows f) (each t)) (map-map numbers_of view vs)

pub rows_no_array : (f : FieldName) (vs : List Value) (v : Value) → 1 ≤ length vs → None ≡ as_array (view (get_or vs 0 v)) → provided (are_rows f) (each (map numbers_of (map view vs))) ≡ None
unfolding provided
rows_no_array f vs v l h = rows_seen f vs ∙ ap (provided (are_rows f)) (each_none (λ w. numbers_of (view w)) vs 0 v l (no_numbers (view (get_or vs 0 v)) h))

-- the first of several rows is read from the first value
first_row : (vs : List Value) (v : Value) (us : List Value) (rows : List (List ℕ)) → 1 ≤ length vs → Some (items_view us) ≡ as_array (view (get_or vs 0 v)) → each (map (λ w. numbers_of (view w)) vs) ≡ Some rows → columns_of rows ≡ length us
unfolding each columns_of
first_row [] v us rows l h e = absurd (omega (arith, l))
first_row (w ∷ vs) v us rows l h e =
    let s = some_of (numbers_of (view w)) (map (λ x. numbers_of (view x)) vs) rows e in
    ap columns_of s.1.3 ∙ read_length us (view w) s.0 h s.1.1

pub rows_empty : (f : FieldName) (vs : List Value) (v : Value) (us : List Value) → 1 ≤ length vs → Some (items_view us) ≡ as_array (view (get_or vs 0 v)) → length us ≡ 0 → provided (are_rows f) (each (map numbers_of (map view vs))) ≡ None
unfolding are_rows
rows_empty f vs v us l h z =
    rows_seen f vs
    ∙ provided_none (are_rows f) (each (map (λ w. numbers_of (view w)) vs)) (λ rows e. ap (λ k. nat_le 1 k && list_all (fit f k) rows) (first_row vs v us rows l h e ∙ z))

rows_together : (f : FieldName) (n : ℕ) (vs : List Value) (v : Value) (us : List Value) → 1 ≤ length vs → Some (items_view us) ≡ as_array (view (get_or vs 0 v)) → length us ≡ n → n ≢ 0 → provided (are_rows f) (each (map numbers_of (map view vs))) ≡ each (map (λ w. provided (fit f n) (numbers_of (view w))) vs)
unfolding are_rows
rows_together f n vs v us l h same z =
    rows_seen f vs
    ∙ provided_same (are_rows f) (list_all (fit f n)) (each (map (λ w. numbers_of (view w)) vs)) (λ rows e. ap (λ k. nat_le 1 k && list_all (fit f k) rows) (first_row vs v us rows l h e ∙ same) ∙ ap (λ b. b && list_all (fit f n) rows) (le-leb 1 n (omega (arith, z))))
    ∙ sym (each_provided (fit f n) (λ w. numbers_of (view w)) vs)

pub rows_missing : (f : FieldName) (n : ℕ) (vs : List Value) (v : Value) (us : List Value) (i : ℕ) (w : Value) → 1 ≤ length vs → Some (items_view us) ≡ as_array (view (get_or vs 0 v)) → length us ≡ n → n ≢ 0 → i < length vs → provided (fit f n) (numbers_of (view (get_or vs i w))) ≡ None → provided (are_rows f) (each (map numbers_of (map view vs))) ≡ None
rows_missing f n vs v us i w l h same z m e = rows_together f n vs v us l h same z ∙ each_none (λ x. provided (fit f n) (numbers_of (view x))) vs i w m e

pub rows_done : (f : FieldName) (n : ℕ) (vs : List Value) (v : Value) (us : List Value) (i : ℕ) (rows : List (List ℕ)) → 1 ≤ length vs → Some (items_view us) ≡ as_array (view (get_or vs 0 v)) → length us ≡ n → n ≢ 0 → length vs ≤ i → each (map (λ x. provided (fit f n) (numbers_of (view x))) (take i vs)) ≡ Some rows → provided (are_rows f) (each (map numbers_of (map view vs))) ≡ Some rows
rows_done f n vs v us i rows l h same z m e = rows_together f n vs v us l h same z ∙ each_whole (λ x. provided (fit f n) (numbers_of (view x))) vs i rows m e

items_found : (f : FieldName) (o : Option Items) (ds : List Data) → Some ds ≡ option_map listed o → provided (are_rows f) (option_and_then (λ es. each (map numbers_of (listed es))) o) ≡ provided (are_rows f) (each (map numbers_of ds))
items_found f None ds h = absurd cc
items_found f (Some es) ds h = ap (λ t. provided (are_rows f) (each (map numbers_of t))) (cc h)

items_nowhere : (f : FieldName) (o : Option Items) → None ≡ option_map listed o → provided (are_rows f) (option_and_then (λ es. each (map numbers_of (listed es))) o) ≡ None
unfolding provided
items_nowhere f None h = refl
items_nowhere f (Some es) h = absurd cc

pub rows_found : (f : FieldName) (ms : Members) (ds : List Data) → Some ds ≡ option_map listed (option_and_then as_array (get_member (codes "rows") ms)) → provided (are_rows f) (rows_at ms) ≡ provided (are_rows f) (each (map numbers_of ds))
unfolding rows_at
rows_found f ms ds h = items_found f (option_and_then as_array (get_member (codes "rows") ms)) ds h

pub rows_nowhere : (f : FieldName) (ms : Members) → None ≡ option_map listed (option_and_then as_array (get_member (codes "rows") ms)) → provided (are_rows f) (rows_at ms) ≡ None
unfolding rows_at
rows_nowhere f ms h = items_nowhere f (option_and_then as_array (get_member (codes "rows") ms)) h

pub ruleset word_of_laws = (word_no_array, word_other_length, word_missing, word_done, each_next, each_start)

pub ruleset rows_of_laws = (rows_none, rows_no_array, rows_empty, rows_missing, rows_done, each_next, each_start)

items_there : (o : Option Items) (ds : List Data) → Some ds ≡ option_map listed o → IsSome o
items_there None ds h = absurd cc
items_there (Some es) ds h = refl

pub rows_there : (ms : Members) (ds : List Data) → Some ds ≡ option_map listed (option_and_then as_array (get_member (codes "rows") ms)) → HasArray (codes "rows") ms
unfolding HasArray
rows_there ms ds h = items_there (option_and_then as_array (get_member (codes "rows") ms)) ds h

items_read : (f : FieldName) (o : Option Items) (rows : List (List ℕ)) → Some rows ≡ provided (are_rows f) (option_and_then (λ es. each (map numbers_of (listed es))) o) → IsSome o
unfolding provided
items_read f None rows h = absurd cc
items_read f (Some es) rows h = refl

pub rows_read : (f : FieldName) (ms : Members) (rows : List (List ℕ)) → Some rows ≡ provided (are_rows f) (rows_at ms) → HasArray (codes "rows") ms
unfolding HasArray rows_at
rows_read f ms rows h = items_read f (option_and_then as_array (get_member (codes "rows") ms)) rows h

pub ruleset word_at_laws = (word_found, word_nowhere, word_there)

pub ruleset rows_at_laws = (rows_found, rows_nowhere, rows_there)
