-- How the text of a list is put together, and texts that grow.
--   join_led                          items with a byte between each two: the first, then each other with the byte before it
--   bracketed_none, bracketed_more    an empty list in brackets, and one that has a first item
--   five, six                         a text that grows by several pieces
use Rattle.std.proofs.Common.{◌≡◌, refl, ℕ, ◌<◌, ◌≤◌, ◌-◌, List, [], ◌∷◌, ◌++◌, length, get_or, drop, take, map, flat_map, codes, arith, rules, ◌∙◌, ap, append_assoc, append-nil, sym}
use Rattle.std.proofs.lemmas.List.{take_rest}
use Rattle.std.specs.List.{join_with_byte}
use Rattle.lc_formats.specs.Text.{bracketed}

pub join_led : {A : Type 0} (c : ℕ) (f : A → List ℕ) (x : A) (xs : List A) → join_with_byte c (map f (x ∷ xs)) ≡ f x ++ flat_map (λ y. c ∷ f y) xs
join_led c f x [] = sym (append-nil (f x))
join_led c f x (y ∷ xs) = ap (λ t. f x ++ (c ∷ t)) (join_led c f y xs)

pub bracketed_none : {A : Type 0} (f : A → List ℕ) (xs : List A) → length xs < 1 → bracketed (map f xs) ≡ codes "[]"
unfolding bracketed
bracketed_none f [] l = refl
bracketed_none f (x ∷ xs) l = absurd (omega arith)

pub bracketed_more : {A : Type 0} (f : A → List ℕ) (xs : List A) (d : A) → 1 ≤ length xs → bracketed (map f xs) ≡ codes "[" ++ (f (get_or xs 0 d) ++ (flat_map (λ y. 44 ∷ f y) (take (length xs - 1) (drop 1 xs)) ++ codes "]"))
unfolding bracketed
bracketed_more f [] d l = absurd (omega arith)
bracketed_more f (x ∷ rest) d l = rw (take_rest (x ∷ rest) 1, join_led 44 f x rest) (append_assoc (codes "[") (f x ++ flat_map (λ y. 44 ∷ f y) rest) (codes "]") ∙ ap (λ t. codes "[" ++ t) (append_assoc (f x) (flat_map (λ y. 44 ∷ f y) rest) (codes "]")))

pub five : (t0 t1 t2 t3 t4 t5 a b c d e : List ℕ) → t1 ≡ t0 ++ a → t2 ≡ t1 ++ b → t3 ≡ t2 ++ c → t4 ≡ t3 ++ d → t5 ≡ t4 ++ e → t5 ≡ t0 ++ (a ++ (b ++ (c ++ (d ++ e))))
five t0 t1 t2 t3 t4 t5 a b c d e p q r s t = search (rules, append_assoc)

pub six : (t0 t1 t2 t3 t4 t5 t6 a b c d e f : List ℕ) → t1 ≡ t0 ++ a → t2 ≡ t1 ++ b → t3 ≡ t2 ++ c → t4 ≡ t3 ++ d → t5 ≡ t4 ++ e → t6 ≡ t5 ++ f → t6 ≡ t0 ++ (a ++ (b ++ (c ++ (d ++ (e ++ f)))))
six t0 t1 t2 t3 t4 t5 t6 a b c d e f p q r s t u = search (rules, append_assoc)
