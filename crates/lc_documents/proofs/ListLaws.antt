-- Lists of numbers of any length, as a reader takes them.
--   symbols_fail, symbols_whole      a number that isn't below the limit, and numbers that all are
--   bytes_found, bytes_nowhere       the numbers of at most 255 at a key
--   tree_word_found, tree_word_empty, tree_word_nowhere      the word of a certificate by construction
--   word_listed, word_unlisted       the word that a value lists
--   words_missing, words_done        values one of which lists no word, and values that all do
--   words_found, words_nowhere       the words at `rows`
use Rattle.std.proofs.Common.{◌≡◌, ◌≢◌, ℕ, ◌<◌, ◌≤◌, ◌&&◌, true, if◌then◌else◌, nat_lt, nat_le, List, length, get_or, take, map, codes, Option, Some, None, option_map, option_and_then, refl, sym, ap, ◌∙◌, ⊎_elim, arith}
use Rattle.std.specs.List.{list_all}
use Rattle.std.proofs.Math.Path.{fun_ext}
use Rattle.std.proofs.lemmas.Bool.{le-leb, lt-leb, lt-ltb, le-ltb, cases_lt}
use Rattle.std.proofs.lemmas.Simd.{map-map}
use Rattle.serde_json.specs.declared.value.Value.{Value}
use Rattle.serde_json.specs.Data.{Data, Items, Members}
use Rattle.serde_json.specs.Find.{get_member, as_array}
use Rattle.serde_json.specs.View.{view}
use Rattle.lc_algebra.specs.declared.FieldName.{FieldName}
use Rattle.lc_algebra.specs.Field.{size}
use Rattle.lc_constructions.specs.Refusals.{are_elements, have_elements}
use Rattle.lc_formats.specs.Json.{numbers_of, list_at, listed, each, provided}
use Rattle.lc_formats.specs.Check.{rows_at}
use Rattle.lc_formats.specs.Document.{bytes_at, is_tree_word}
use Rattle.lc_json.proofs.EachLaws.{each_none, each_whole, each_provided, each_next, each_start}
use Rattle.lc_certificate.proofs.ListLaws.{all_next, all_whole, all_fails}
use Rattle.lc_documents.specs.Parts.{are_below}

pub symbols_fail : (limit : ℕ) (us : List ℕ) (i d : ℕ) → i < length us → limit ≤ get_or us i d → provided (are_below limit) (Some us) ≡ None
unfolding provided are_below
symbols_fail limit us i d l e = ap (λ b. if b then Some us else None) (all_fails (λ a. nat_lt a limit) us i d l (le-ltb (get_or us i d) limit e))

pub symbols_whole : (limit : ℕ) (us : List ℕ) (i : ℕ) → length us ≤ i → list_all (λ a. nat_lt a limit) (take i us) ≡ true → provided (are_below limit) (Some us) ≡ Some us
unfolding provided are_below
symbols_whole limit us i l e = ap (λ b. if b then Some us else None) (all_whole (λ a. nat_lt a limit) us i l e)

is_byte : (a : ℕ) → nat_le a 255 ≡ nat_lt a 256
is_byte a = ⊎_elim (λ l. le-leb a 255 (omega (arith, l)) ∙ sym (lt-ltb a 256 l)) (λ l. lt-leb a 255 (omega (arith, l)) ∙ sym (le-ltb a 256 l)) (cases_lt a 256)

below_bytes : (us : List ℕ) → list_all (λ a. nat_le a 255) us ≡ are_below 256 us
unfolding are_below
below_bytes us = ap (λ test. list_all test us) (fun_ext is_byte)

pub bytes_found : (key : List ℕ) (ms : Members) (us : List ℕ) → Some us ≡ list_at key ms → bytes_at key ms ≡ provided (are_below 256) (Some us)
unfolding bytes_at provided
bytes_found key ms us h = ap (provided (λ entries. list_all (λ a. nat_le a 255) entries)) (sym h) ∙ ap (λ b. if b then Some us else None) (below_bytes us)

pub bytes_nowhere : (key : List ℕ) (ms : Members) → None ≡ list_at key ms → bytes_at key ms ≡ None
unfolding bytes_at provided
bytes_nowhere key ms h = ap (provided (λ entries. list_all (λ a. nat_le a 255) entries)) (sym h)

pub tree_word_found : (f : FieldName) (us : List ℕ) (n : ℕ) (o : Option (List ℕ)) → Some us ≡ o → length us ≢ 0 → n ≡ size f → provided (is_tree_word f) o ≡ provided (are_below n) (Some us)
unfolding is_tree_word are_elements provided are_below
tree_word_found f us n o h l same =
    ap (provided (is_tree_word f)) (sym h)
    ∙ ap (λ b. if b && are_elements f us then Some us else None) (le-leb 1 (length us) (omega (arith, l)))
    ∙ ap (λ k. if list_all (λ a. nat_lt a k) us then Some us else None) (sym same)

pub tree_word_empty : (f : FieldName) (us : List ℕ) (o : Option (List ℕ)) → Some us ≡ o → length us ≡ 0 → provided (is_tree_word f) o ≡ None
unfolding is_tree_word provided
tree_word_empty f us o h l =
    ap (provided (is_tree_word f)) (sym h)
    ∙ ap (λ k. if nat_le 1 k && are_elements f us then Some us else None) l

pub tree_word_nowhere : (f : FieldName) (o : Option (List ℕ)) → None ≡ o → provided (is_tree_word f) o ≡ None
unfolding provided
tree_word_nowhere f o h = ap (provided (is_tree_word f)) (sym h)

pub word_listed : (f : FieldName) (us : List ℕ) (n : ℕ) (d : Data) → Some us ≡ numbers_of d → n ≡ size f → provided (are_elements f) (numbers_of d) ≡ provided (are_below n) (Some us)
unfolding are_elements provided are_below
word_listed f us n d h same = ap (provided (are_elements f)) (sym h) ∙ ap (λ k. if list_all (λ a. nat_lt a k) us then Some us else None) (sym same)

pub word_unlisted : (f : FieldName) (d : Data) → None ≡ numbers_of d → provided (are_elements f) (numbers_of d) ≡ None
unfolding provided
word_unlisted f d h = ap (provided (are_elements f)) (sym h)

words_seen : (f : FieldName) (vs : List Value) → provided (have_elements f) (each (map numbers_of (map view vs))) ≡ each (map (λ v. provided (are_elements f) (numbers_of (view v))) vs)
unfolding have_elements
words_seen f vs = ap (λ t. provided (have_elements f) (each t)) (map-map numbers_of view vs) ∙ sym (each_provided (are_elements f) (λ v. numbers_of (view v)) vs)

pub words_missing : (f : FieldName) (vs : List Value) (i : ℕ) (d : Value) → i < length vs → provided (are_elements f) (numbers_of (view (get_or vs i d))) ≡ None → provided (have_elements f) (each (map numbers_of (map view vs))) ≡ None
words_missing f vs i d l e = words_seen f vs ∙ each_none (λ v. provided (are_elements f) (numbers_of (view v))) vs i d l e

pub words_done : (f : FieldName) (vs : List Value) (i : ℕ) (words : List (List ℕ)) → length vs ≤ i → each (map (λ v. provided (are_elements f) (numbers_of (view v))) (take i vs)) ≡ Some words → provided (have_elements f) (each (map numbers_of (map view vs))) ≡ Some words
words_done f vs i words l e = words_seen f vs ∙ each_whole (λ v. provided (are_elements f) (numbers_of (view v))) vs i words l e

items_found : (o : Option Items) (ds : List Data) → Some ds ≡ option_map listed o → option_and_then (λ es. each (map numbers_of (listed es))) o ≡ each (map numbers_of ds)
items_found None ds h = absurd cc
items_found (Some es) ds h = ap (λ t. each (map numbers_of t)) (cc h)

items_nowhere : (o : Option Items) → None ≡ option_map listed o → option_and_then (λ es. each (map numbers_of (listed es))) o ≡ None
items_nowhere None h = refl
items_nowhere (Some es) h = absurd cc

pub words_found : (f : FieldName) (ms : Members) (ds : List Data) → Some ds ≡ option_map listed (option_and_then as_array (get_member (codes "rows") ms)) → provided (have_elements f) (rows_at ms) ≡ provided (have_elements f) (each (map numbers_of ds))
unfolding rows_at
words_found f ms ds h = ap (provided (have_elements f)) (items_found (option_and_then as_array (get_member (codes "rows") ms)) ds h)

pub words_nowhere : (f : FieldName) (ms : Members) → None ≡ option_map listed (option_and_then as_array (get_member (codes "rows") ms)) → provided (have_elements f) (rows_at ms) ≡ None
unfolding rows_at provided
words_nowhere f ms h = ap (provided (have_elements f)) (items_nowhere (option_and_then as_array (get_member (codes "rows") ms)) h)

pub ruleset symbols_of_laws = (symbols_fail, symbols_whole, all_next)

pub ruleset bytes_at_laws = (bytes_found, bytes_nowhere)

pub ruleset tree_word_laws = (tree_word_found, tree_word_empty, tree_word_nowhere)

pub ruleset word_of_laws = (word_listed, word_unlisted)

pub ruleset words_of_laws = (words_missing, words_done, each_next, each_start)

pub ruleset words_at_laws = (words_found, words_nowhere)
