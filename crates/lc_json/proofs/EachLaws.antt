-- All of a list of things, if each is there.
--   none_first               none stands first
--   each_none                one that isn't there is enough for none
--   some_of                  the first and the others
--   each_next, each_more     one more
--   each_whole               all of a whole list
--   each_start               nothing, to begin with
--   provided_same, provided_none      what passes the same test, and what fails it
--   each_provided            a test of each is a test of all
use Rattle.std.proofs.Common.{◌≡◌, ℕ, zero, suc, ◌<◌, ◌≤◌, Bool, true, false, if◌then◌else◌, ◌&&◌, List, [], ◌∷◌, ◌++◌, length, get_or, take, map, Option, Some, None, option_map, option_and_then, refl, ap, sym, ◌∙◌, arith}
use Rattle.std.specs.List.{list_all}
use Rattle.std.proofs.lemmas.List.{take_all}
use Rattle.lc_formats.specs.Json.{each, provided}

pub none_first : {X : Type 0} (rest : List (Option X)) → each {X = X} (None ∷ rest) ≡ None
unfolding each
none_first rest = refl

pub each_of_none : {X : Type 0} (o : Option X) (rest : List (Option X)) → each rest ≡ None → each (o ∷ rest) ≡ None
unfolding each
each_of_none None rest e = refl
each_of_none (Some x) rest e = ap (option_map (λ xs. x ∷ xs)) e

pub each_none : {A X : Type 0} (f : A → Option X) (xs : List A) (i : ℕ) (d : A) → i < length xs → f (get_or xs i d) ≡ None → each (map f xs) ≡ None
each_none f [] i d l e = absurd (omega (arith, l))
each_none f (x ∷ xs) zero d l e = ap (λ o. each (o ∷ map f xs)) e ∙ none_first (map f xs)
each_none f (x ∷ xs) (suc i) d l e = each_of_none (f x) (map f xs) (each_none f xs i d (omega (arith, l)) e)

pub each_cons : {X : Type 0} (x : X) (o : Option X) (rest : List (Option X)) (ys : List X) → o ≡ Some x → each rest ≡ Some ys → each (o ∷ rest) ≡ Some (x ∷ ys)
unfolding each
each_cons x o rest ys e k = ap (λ p. each (p ∷ rest)) e ∙ ap (option_map (λ more. x ∷ more)) k

pub some_of : {X : Type 0} (o : Option X) (rest : List (Option X)) (ys : List X) → each (o ∷ rest) ≡ Some ys → (x : X) × ((more : List X) × (o ≡ Some x) × (each rest ≡ Some more) × (ys ≡ x ∷ more))
unfolding each
some_of {X = X} None rest ys e = absurd cc
some_of {X = X} (Some x) rest ys e = more_of (each rest) refl ys e
  where
    more_of : (m : Option (List X)) → each rest ≡ m → (ys : List X) → option_map (λ more. x ∷ more) m ≡ Some ys → (y : X) × ((more : List X) × (Some x ≡ Some y) × (each rest ≡ Some more) × (ys ≡ y ∷ more))
    more_of None k ys e = absurd cc
    more_of (Some more) k ys e = (x, (more, refl, k, sym (cc e)))

pub each_next : {A X : Type 0} (f : A → Option X) (xs : List A) (i : ℕ) (d : A) (ys : List X) (y : X) → i < length xs → each (map f (take i xs)) ≡ Some ys → f (get_or xs i d) ≡ Some y → each (map f (take (suc i) xs)) ≡ Some (ys ++ y ∷ [])
unfolding each
each_next f [] i d ys y l e k = absurd (omega (arith, l))
each_next f (x ∷ xs) zero d ys y l e k = each_cons y (f x) [] [] k refl ∙ ap (λ zs. Some (zs ++ y ∷ [])) {x = []} {y = ys} (cc e)
each_next f (x ∷ xs) (suc i) d ys y l e k =
    let s = some_of (f x) (map f (take i xs)) ys e in
    each_cons s.0 (f x) (map f (take (suc i) xs)) (s.1.0 ++ y ∷ []) s.1.1 (each_next f xs i d s.1.0 y (omega (arith, l)) s.1.2 k)
    ∙ ap (λ zs. Some (zs ++ y ∷ [])) (sym s.1.3)

pub each_start : {X : Type 0} (ys : List X) → ys ≡ [] → each [] ≡ Some ys
unfolding each
each_start ys e = ap Some (sym e)

pub each_whole : {A X : Type 0} (f : A → Option X) (xs : List A) (i : ℕ) (ys : List X) → length xs ≤ i → each (map f (take i xs)) ≡ Some ys → each (map f xs) ≡ Some ys
each_whole f xs i ys l e = ap (λ zs. each (map f zs)) (sym (take_all i xs l)) ∙ e

pub provided_same : {X : Type 0} (p q : X → Bool) (o : Option X) → ((x : X) → o ≡ Some x → p x ≡ q x) → provided p o ≡ provided q o
unfolding provided
provided_same p q None h = refl
provided_same p q (Some x) h = ap (λ b. if b then Some x else None) (h x refl)

pub provided_none : {X : Type 0} (p : X → Bool) (o : Option X) → ((x : X) → o ≡ Some x → p x ≡ false) → provided p o ≡ None
unfolding provided
provided_none p None h = refl
provided_none p (Some x) h = ap (λ b. if b then Some x else None) (h x refl)

first_tested : {X : Type 0} (test : X → Bool) (b : Bool) (y : X) (rest : List (Option X)) (o : Option (List X)) → each rest ≡ provided (list_all test) o → each ((if b then Some y else None) ∷ rest) ≡ (option_and_then (λ ys. if b && list_all test ys then Some (y ∷ ys) else None) o)
unfolding each provided
first_tested test true y rest None e = ap (option_map (λ more. y ∷ more)) e
first_tested test false y rest None e = refl
first_tested test true y rest (Some ys) e = ap (option_map (λ more. y ∷ more)) e ∙ mapped (list_all test ys)
  where
    mapped : (b : Bool) → option_map (λ more. y ∷ more) (if b then Some ys else None) ≡ (if b then Some (y ∷ ys) else None)
    mapped true = refl
    mapped false = refl
first_tested test false y rest (Some ys) e = refl

all_of_first : {X : Type 0} (test : X → Bool) (y : X) (o : Option (List X)) → option_and_then (λ ys. if test y && list_all test ys then Some (y ∷ ys) else None) o ≡ provided (list_all test) (option_map (λ more. y ∷ more) o)
unfolding provided
all_of_first test y None = refl
all_of_first test y (Some ys) = refl

both_tested : {X : Type 0} (test : X → Bool) (first : Option X) (rest tested : List (Option X)) → each tested ≡ provided (list_all test) (each rest) → each (provided test first ∷ tested) ≡ provided (list_all test) (each (first ∷ rest))
unfolding each provided
both_tested test None rest tested e = refl
both_tested test (Some y) rest tested e = first_tested test (test y) y tested (each rest) e ∙ all_of_first test y (each rest)

pub each_provided : {A X : Type 0} (test : X → Bool) (g : A → Option X) (xs : List A) → each (map (λ x. provided test (g x)) xs) ≡ provided (list_all test) (each (map g xs))
unfolding each provided
each_provided test g [] = refl
each_provided test g (x ∷ xs) = both_tested test (g x) (map g xs) (map (λ y. provided test (g y)) xs) (each_provided test g xs)

pub each_more : {A X : Type 0} (f : A → Option X) (xs : List A) (i j : ℕ) (d : A) (ys zs : List X) (y : X) → i < length xs → each (map f (take i xs)) ≡ Some ys → f (get_or xs i d) ≡ Some y → j ≡ suc i → zs ≡ ys ++ y ∷ [] → each (map f (take j xs)) ≡ Some zs
each_more f xs i j d ys zs y l e k same made = rw (same, made) (each_next f xs i d ys y l e k)
