-- The list of all pairs of two lists, row after row, and its element at a place.
--   product f xs ys            f x y for each x of xs, and for each y of ys below it
--   get-append_left, get-append_right      an element of two lists, one after the other
--   map_part                   an element of a mapped list is the image of the one at its place
--   length-product             its length is the product of the two lengths
--   ProductPart f xs ys n z    z stands in row a and column b of the product, at place n
--   product_part               each element of a product does
--   product_at                 the element in row a and column b
use Rattle.std.proofs.Common.{◌≡◌, ℕ, zero, suc, ◌+◌, ◌-◌, ◌*◌, ◌<◌, List, [], ◌∷◌, ◌++◌, map, length, Some, refl, ap, sym, ◌∙◌, arith, length-append, inl, inr}
use Rattle.std.specs.Prelude.{slice_get}
use Rattle.std.specs.List.{flat_map}
use Rattle.std.specs.Option.{option_map}
use Rattle.std.proofs.lemmas.Bool.{cases_lt}
use Rattle.std.proofs.lemmas.List.{length-map}
use Rattle.std.proofs.lemmas.Option.{slice_get-map, slice_get_within}

abbrev pub product : {A B C : Type 0} → (A → B → C) → List A → List B → List C
product f xs ys = flat_map (λ x. map (f x) ys) xs

pub get-append_left : {X : Type 0} (xs ys : List X) (n : ℕ) → n < length xs → slice_get (xs ++ ys) n ≡ slice_get xs n
get-append_left [] ys n l = absurd (omega arith)
get-append_left (x ∷ xs) ys zero l = refl
get-append_left (x ∷ xs) ys (suc n) l = get-append_left xs ys n (omega arith)

pub get-append_right : {X : Type 0} (xs ys : List X) (n : ℕ) → slice_get (xs ++ ys) (length xs + n) ≡ slice_get ys n
get-append_right [] ys n = let e : 0 + n ≡ n = omega arith in rw e refl
get-append_right (x ∷ xs) ys n = let e : suc (length xs) + n ≡ suc (length xs + n) = omega arith in rw e (get-append_right xs ys n)

pub length-product : {A B C : Type 0} (f : A → B → C) (xs : List A) (ys : List B) → length (product f xs ys) ≡ length xs * length ys
length-product f [] ys = omega arith
length-product f (x ∷ xs) ys = omega (arith, length-append (map (f x) ys) (product f xs ys), length-map ys (f x), length-product f xs ys)

pub record ProductPart {A B C : Type 0} (f : A → B → C) (xs : List A) (ys : List B) (n : ℕ) (z : C) : Type 0 where
  pub row : ℕ
  pub column : ℕ
  pub left : A
  pub right : B
  pub place : n ≡ row * length ys + column
  pub left_at : slice_get xs row ≡ Some left
  pub right_at : slice_get ys column ≡ Some right
  pub is : z ≡ f left right

pub map_part : {B C : Type 0} (g : B → C) (ys : List B) (n : ℕ) (z : C) → slice_get (map g ys) n ≡ Some z → (y : B) × (slice_get ys n ≡ Some y) × (z ≡ g y)
map_part g [] n z e = absurd (cc)
map_part g (y ∷ ys) zero z e = (y, refl, cc)
map_part g (y ∷ ys) (suc n) z e = map_part g ys n z e

pub product_part : {A B C : Type 0} (f : A → B → C) (xs : List A) (ys : List B) (n : ℕ) (z : C) → slice_get (product f xs ys) n ≡ Some z → ProductPart f xs ys n z
product_part f [] ys n z e = absurd (cc)
product_part f (x ∷ xs) ys n z e =
    elim (cases_lt n (length ys)) [
      | inl l ↦ (
          let here : n < length (map (f x) ys) = omega (arith, length-map ys (f x)) in
          let p = map_part (f x) ys n z (sym (get-append_left (map (f x) ys) (product f xs ys) n here) ∙ e) in
          record { row = 0; column = n; left = x; right = p.0; place = omega arith; left_at = refl; right_at = p.1; is = p.2 })
      | inr l ↦ (
          let split : n ≡ length (map (f x) ys) + (n - length ys) = omega (arith, length-map ys (f x)) in
          let later : slice_get (product f xs ys) (n - length ys) ≡ Some z = sym (get-append_right (map (f x) ys) (product f xs ys) (n - length ys)) ∙ (rw (← split) e) in
          let p = product_part f xs ys (n - length ys) z later in
          record { row = suc p.row; column = p.column; left = p.left; right = p.right; place = omega (arith, p.place); left_at = p.left_at; right_at = p.right_at; is = p.is })
    ]

pub product_at : {A B C : Type 0} (f : A → B → C) (xs : List A) (ys : List B) (a b : ℕ) (x : A) (y : B) → slice_get xs a ≡ Some x → slice_get ys b ≡ Some y → slice_get (product f xs ys) (a * length ys + b) ≡ Some (f x y)
product_at f [] ys a b x y e d = absurd (cc)
product_at f (w ∷ xs) ys zero b x y e d =
    let l : b < length (map (f w) ys) = omega (arith, length-map ys (f w), slice_get_within ys b y d) in
    let place : 0 * length ys + b ≡ b = omega arith in
    rw place (get-append_left (map (f w) ys) (product f xs ys) b l ∙ slice_get-map (f w) ys b ∙ cc (ap (option_map (f w)) d))
product_at f (w ∷ xs) ys (suc a) b x y e d =
    let place : suc a * length ys + b ≡ length (map (f w) ys) + (a * length ys + b) = omega (arith, length-map ys (f w)) in
    rw place (get-append_right (map (f w) ys) (product f xs ys) (a * length ys + b) ∙ product_at f xs ys a b x y e d)
