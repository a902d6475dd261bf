-- Tests of all elements of a list.
--   all_next                 one more
--   all_whole                all of a whole list
--   all_fails                one that fails is enough
--   all_mapped               a list that was mapped
use Rattle.std.proofs.Common.{◌≡◌, ℕ, suc, zero, ◌<◌, ◌≤◌, Bool, true, false, ◌&&◌, List, [], ◌∷◌, length, get_or, take, map, refl, sym, ap, ◌∙◌, arith}
use Rattle.std.specs.List.{list_all}
use Rattle.std.proofs.lemmas.Bool.{and_parts, and_from, and_right}
use Rattle.std.proofs.lemmas.List.{take_all}

next_passes : {A : Type 0} (p : A → Bool) (xs : List A) (i : ℕ) (d : A) → i < length xs → list_all p (take i xs) ≡ true → p (get_or xs i d) ≡ true → list_all p (take (suc i) xs) ≡ true
next_passes p [] i d l e k = absurd (omega (arith, l))
next_passes p (x ∷ xs) zero d l e k = and_from (p x) true k refl
next_passes p (x ∷ xs) (suc i) d l e k =
    let s = and_parts (p x) (list_all p (take i xs)) e in
    and_from (p x) (list_all p (take (suc i) xs)) s.0 (next_passes p xs i d (omega (arith, l)) s.1 k)

pub all_next : {A : Type 0} (p : A → Bool) (xs : List A) (i j : ℕ) (d : A) → i < length xs → list_all p (take i xs) ≡ true → p (get_or xs i d) ≡ true → j ≡ suc i → list_all p (take j xs) ≡ true
all_next p xs i j d l e k same = rw same (next_passes p xs i d l e k)

pub all_whole : {A : Type 0} (p : A → Bool) (xs : List A) (i : ℕ) → length xs ≤ i → list_all p (take i xs) ≡ true → list_all p xs ≡ true
all_whole p xs i l e = ap (list_all p) (sym (take_all i xs l)) ∙ e

pub all_fails : {A : Type 0} (p : A → Bool) (xs : List A) (i : ℕ) (d : A) → i < length xs → p (get_or xs i d) ≡ false → list_all p xs ≡ false
all_fails p [] i d l e = absurd (omega (arith, l))
all_fails p (x ∷ xs) zero d l e = ap (λ b. b && list_all p xs) e
all_fails p (x ∷ xs) (suc i) d l e = and_right (p x) (list_all p xs) (all_fails p xs i d (omega (arith, l)) e)

pub all_mapped : {A B : Type 0} (p : B → Bool) (f : A → B) (xs : List A) → list_all p (map f xs) ≡ list_all (λ x. p (f x)) xs
all_mapped p f [] = refl
all_mapped p f (x ∷ xs) = ap (λ b. p (f x) && b) (all_mapped p f xs)
