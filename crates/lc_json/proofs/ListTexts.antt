-- Lists of numbers as compact JSON.
--   items_led                         the items after the first
--   compact_items, compact_numbers    an array's text is its items' texts in brackets
use Rattle.std.proofs.Common.{◌≡◌, refl, ℕ, List, [], ◌∷◌, ◌++◌, map, flat_map, codes, true, ◌∙◌, ap, append_assoc, sym}
use Rattle.serde_json.specs.Data.{Data, array}
use Rattle.serde_json.specs.Written.{compact_text, items_text}
use Rattle.lc_formats.specs.Json.{number_json, items, numbers_json}
use Rattle.lc_formats.specs.Text.{bracketed, numbers_text}
use Rattle.lc_formats.proofs.ListTexts.{join_led}

items_led : {A : Type 0} (f : A → Data) (xs : List A) → items_text true (items (map f xs)) ≡ flat_map (λ y. 44 ∷ compact_text (f y)) xs ++ codes "]"
unfolding items
items_led f [] = refl
items_led f (x ∷ xs) = ap (λ t. 44 ∷ (compact_text (f x) ++ t)) (items_led f xs) ∙ ap (λ t. 44 ∷ t) (sym (append_assoc (compact_text (f x)) (flat_map (λ y. 44 ∷ compact_text (f y)) xs) (codes "]")))

pub compact_items : {A : Type 0} (f : A → Data) (xs : List A) → compact_text (array (items (map f xs))) ≡ bracketed (map (λ y. compact_text (f y)) xs)
unfolding items bracketed
compact_items f [] = refl
compact_items f (x ∷ xs) =
    ap (λ t. 91 ∷ (compact_text (f x) ++ t)) (items_led f xs)
    ∙ ap (λ t. 91 ∷ t) (sym (append_assoc (compact_text (f x)) (flat_map (λ y. 44 ∷ compact_text (f y)) xs) (codes "]")))
    ∙ ap (λ t. 91 ∷ (t ++ codes "]")) (sym (join_led 44 (λ y. compact_text (f y)) x xs))

pub compact_numbers : (u : List ℕ) → compact_text (numbers_json u) ≡ numbers_text u
unfolding numbers_json numbers_text number_json
compact_numbers u = compact_items number_json u
