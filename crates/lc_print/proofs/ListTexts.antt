-- Lists of lists and values behind `with`, as the code puts them.
--   lists_none, lists_more                an empty list of lists, and one that has a first list
--   spaced_led                            values, each with a space before it
--   with_values_none, with_values_more    what a fault carries: nothing, or `with` and the values
use Rattle.std.proofs.Common.{◌≡◌, refl, ℕ, ◌<◌, ◌≤◌, ◌-◌, List, [], ◌∷◌, ◌++◌, length, get_or, drop, take, map, flat_map, codes, decimal, arith, ◌∙◌, ap}
use Rattle.std.proofs.lemmas.List.{length-map, take_rest}
use Rattle.std.proofs.lemmas.Simd.{map-map}
use Rattle.lc_formats.specs.Text.{bracketed, numbers_text, lists_text, spaced, with_values}
use Rattle.lc_formats.proofs.ListTexts.{bracketed_none, bracketed_more}

pub lists_none : {A : Type 0} (f : A → List ℕ) (xs : List A) → length xs < 1 → lists_text (map f xs) ≡ codes "[]"
unfolding lists_text
lists_none f xs l = bracketed_none numbers_text (map f xs) (rw (length-map xs f) l)

pub lists_more : {A : Type 0} (f : A → List ℕ) (xs : List A) (d : A) → 1 ≤ length xs → lists_text (map f xs) ≡ codes "[" ++ (numbers_text (f (get_or xs 0 d)) ++ (flat_map (λ y. 44 ∷ numbers_text (f y)) (take (length xs - 1) (drop 1 xs)) ++ codes "]"))
unfolding lists_text
lists_more f xs d l = ap bracketed (map-map numbers_text f xs) ∙ bracketed_more (λ y. numbers_text (f y)) xs d l

pub spaced_led : (values : List ℕ) → spaced values ≡ flat_map (λ n. 32 ∷ decimal n) values
unfolding spaced
spaced_led [] = refl
spaced_led (n ∷ values) = ap (λ t. (32 ∷ decimal n) ++ t) (spaced_led values)

pub with_values_none : (values : List ℕ) → length values ≡ 0 → with_values values ≡ []
unfolding with_values
with_values_none [] l = refl
with_values_none (n ∷ values) l = absurd (omega arith)

pub with_values_more : (values : List ℕ) (d : ℕ) → 1 ≤ length values → with_values values ≡ codes " with " ++ (decimal (get_or values 0 d) ++ flat_map (λ n. 32 ∷ decimal n) (take (length values - 1) (drop 1 values)))
unfolding with_values spaced
with_values_more [] d l = absurd (omega arith)
with_values_more (n ∷ values) d l = rw (take_rest (n ∷ values) 1) (ap (λ t. codes " with " ++ (decimal n ++ t)) (spaced_led values))
