-- The names that are bound.
--   bindings_of values           the bindings of a map, one for each name
--   IsBound b old new            of the bindings new each name has the value that it has of old and, after these, b
use Rattle.std.specs.Prelude.{◌≡◌, ℕ, List, ◌∷◌, map, String, string_bytes}
use Rattle.std.specs.BTreeMap.{BTreeMap}
use Rattle.lc_language.specs.Value as language
use Rattle.lc_language.specs.Value.{value_named}
use Rattle.lc_calls.specs.declared.values.Value.{Value}
use Rattle.lc_calls.specs.Value.{value_of}

abbrev pub bindings_of : {Y : Type 0} → BTreeMap (String Y) Value → List language.Binding
bindings_of values = map (λ e. record { name = string_bytes e.0; value = value_of e.1 }) values.entries

abbrev pub IsBound : language.Binding → List language.Binding → List language.Binding → Type 0
IsBound b old new = (x : List ℕ) → value_named x new ≡ value_named x (b ∷ old)
