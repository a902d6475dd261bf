-- Facts on lists, truth values and numbers that several crates use.
--   map_flat_map, drop_whole, zero_at     lists
--   find_here, find_later      the first that passes a test is the head, or that of the rest
--   same_test, and_regrouped, small_bit   truth values
--   below_product, positive_not_zero      numbers
use Rattle.std.proofs.Common.{if◌then◌else◌, ◌≡◌, ◌+◌, ◌-◌, List, [], ◌∷◌, ◌++◌, map, flat_map, refl, sym, ap, ◌∙◌, Bool, true, false, ◌≤◌, ℕ, zero, suc, length, drop, arith, ◌&&◌, ◌*◌, ◌<◌, slice_index, ◌==◌, find, Some}
use Rattle.std.proofs.lemmas.List.{map-append}
use Rattle.std.proofs.lemmas.List.Concat.{flat_map-cons}
use Rattle.std.proofs.Math.Nat.{mul-le-mul_right, suc-mul}
use Rattle.std.proofs.lemmas.Bool.{ne_eqb}

pub map_flat_map : {X Y Z : Type 0} (g : Y → Z) (h : X → List Y) (xs : List X) → map g (flat_map h xs) ≡ flat_map (λ x. map g (h x)) xs
map_flat_map g h [] = refl
map_flat_map g h (x ∷ xs) = ap (map g) (flat_map-cons h x xs) ∙ map-append g (h x) (flat_map h xs) ∙ ap (λ ys. map g (h x) ++ ys) (map_flat_map g h xs) ∙ sym (flat_map-cons (λ x. map g (h x)) x xs)

pub same_test : (a b : Bool) → (a ≡ true → b ≡ true) → (b ≡ true → a ≡ true) → a ≡ b
same_test true b h k = sym (h refl)
same_test false true h k = k refl
same_test false false h k = refl

pub drop_whole : {A : Type 0} (xs : List A) (n : ℕ) → length xs ≤ n → drop n xs ≡ []
drop_whole [] zero l = refl
drop_whole [] (suc n) l = refl
drop_whole (x ∷ xs) zero l = absurd (omega (arith, l))
drop_whole (x ∷ xs) (suc n) l = drop_whole xs n (omega (arith, l))

pub and_regrouped : (a b c : Bool) → (a && (b && c)) ≡ ((a && b) && c)
and_regrouped true b c = refl
and_regrouped false b c = refl

pub below_product : (a b i j : ℕ) → i < a → j < b → i * b + j < a * b
below_product a b i j l m = omega (arith, m, mul-le-mul_right b l, suc-mul i b)

pub zero_at : (i : ℕ) → slice_index (0 ∷ []) i ≡ 0
zero_at zero = refl
zero_at (suc i) = refl

pub positive_not_zero : (a : ℕ) → 0 < a → (a == 0) ≡ false
positive_not_zero a p = ne_eqb a 0 (λ e. omega (arith, p, e))

pub small_bit : (b : Bool) → (if b then 1 else 0) < 2
small_bit true = omega arith
small_bit false = omega arith

pub find_here : {X : Type 0} (p : X → Bool) (x : X) (xs : List X) → p x ≡ true → find p (x ∷ xs) ≡ Some x
find_here p x xs e = rw e refl

pub find_later : {X : Type 0} (p : X → Bool) (x : X) (xs : List X) → p x ≡ false → find p (x ∷ xs) ≡ find p xs
find_later p x xs e = rw e refl
