-- JSON values, written and read: what certificates and checkpoints are made of.
--   number_json, numbers_json   the JSON value of a number, and of a list of numbers
--   items ds                    the items of an array
--   listed items                the list of them
--   plain_number d              the number that a JSON value is, if it is a whole number of 64 bits; None otherwise
--   each xs                     all of them, if each is there; None otherwise
--   number_at key ms            the number at a key of an object; numbers_of d, list_at key ms the list of numbers
--   provided test x             x, if it is there and passes the test; None otherwise
--   member_count ms             how many members an object has
--   json_in bytes               the JSON value that bytes are; bytes that are not UTF-8 are none
use Rattle.std.specs.Prelude.{ℕ, if◌then◌else◌, List, [], ◌∷◌, map, suc, Bool, Option, Some, None, option_map, option_and_then}
use Rattle.serde_json.specs.Data.{Data, Items, Members, item, no_items, member, no_members, array, unsigned}
use Rattle.serde_json.specs.Data as json
use Rattle.std.specs.Str.{is_utf8}
use Rattle.serde_json.specs.Find.{get_member, as_number, as_u64, as_array}
use Rattle.serde_json.specs.Read.{read}

unfoldable pub number_json : ℕ → Data
number_json n = json.number (unsigned n)

unfoldable pub items : List Data → Items
items [] = no_items
items (d ∷ ds) = item d (items ds)

unfoldable pub numbers_json : List ℕ → Data
numbers_json u = array (items (map number_json u))

unfoldable pub number_at : List ℕ → Members → Option ℕ
number_at key ms = option_and_then as_u64 (option_and_then as_number (get_member key ms))

unfoldable pub listed : Items → List Data
listed no_items = []
listed (item d ds) = d ∷ listed ds

-- all of them, where each is there
unfoldable pub each : {X : Type 0} → List (Option X) → Option (List X)
each [] = Some []
each (None ∷ xs) = None
each (Some x ∷ xs) = option_map (λ rest. x ∷ rest) (each xs)

unfoldable pub plain_number : Data → Option ℕ
plain_number d = option_and_then as_u64 (as_number d)

unfoldable pub member_count : Members → ℕ
member_count no_members = 0
member_count (member _ _ ms) = suc (member_count ms)

unfoldable pub json_in : List ℕ → Option Data
json_in bytes = (if is_utf8 bytes then read bytes else None)

unfoldable pub numbers_of : Data → Option (List ℕ)
numbers_of d = option_and_then (λ ds. each (map plain_number (listed ds))) (as_array d)

unfoldable pub list_at : List ℕ → Members → Option (List ℕ)
list_at key ms = option_and_then numbers_of (get_member key ms)

unfoldable pub provided : {X : Type 0} → (X → Bool) → Option X → Option X
provided test None = None
provided test (Some x) = (if test x then Some x else None)
