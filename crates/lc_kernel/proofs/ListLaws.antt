-- The lists of coefficients of a support, by their index.
--   one_list              the list of one element
--   lists_split           a list, from its beginning and its end
--   leading_split         the same for lists that begin with 1
--   leading_pair          a list that ends with a pair of elements
--   leading_there         each index below their number has a list
--   listed_message        the messages with a support of the level
--   listed_next           the message after one of them, with the same support
--   listed_along          the messages after it
--   listed_turn           the first message with the next support
use Rattle.std.proofs.Common.{◌≡◌, ℕ, zero, suc, ◌+◌, ◌-◌, ◌*◌, ◌/◌, ◌%◌, ◌^◌, ◌<◌, ◌≤◌, List, [], ◌∷◌, ◌++◌, length, replicate, Some, None, slice_get, slice_index_or, Contains, refl, sym, ap, ◌∙◌, arith}
use Rattle.std.specs.Option.{option_map}
use Rattle.std.proofs.Math.Nat.{pow-suc, pow-zero, mod-lt}
use Rattle.std.proofs.lemmas.Nat.{pow-add, div-add-mod', div_below}
use Rattle.std.proofs.lemmas.Option.{slice_get-map, slice_get-get_or, slice_get_past}
use Rattle.lc_enumeration.specs.Message.{messages, supports_from, numbers_from, nonzero_lists, leading_lists}
use Rattle.lc_place.proofs.Products.{product, ProductPart, product_part, product_at, map_part}
use Rattle.lc_place.proofs.Coefficients.{nonzero_digit, length-nonzero_lists, length-leading_lists, only_nil}
use Rattle.lc_place.proofs.Supports.{next_support}
use Rattle.lc_place.proofs.Messages.{message_of, next_leading, turned, leading_next, leading_shape, leading_first, message_at, message_next, supports_are, from_contains, to_contains}
use Rattle.lc_place.proofs.Unranking.{nothing}
use Rattle.lc_kernel.specs.Grid.{tail_pair}

no_list : (q r : ℕ) (u : List ℕ) → slice_get (nonzero_lists q 0) r ≡ Some u → (r ≡ 0) × (u ≡ [])
unfolding nonzero_lists
no_list q r u e = only_nil r u e

abbrev ConsAll : ℕ → ℕ → List (List ℕ)
ConsAll q n = product (λ (c : ℕ) (u : List ℕ). c ∷ u) (numbers_from 1 (q - 1)) (nonzero_lists q n)

cons_all : (q n : ℕ) → nonzero_lists q (suc n) ≡ ConsAll q n
unfolding nonzero_lists
cons_all q n = refl

pub one_list : (q c : ℕ) → c < q - 1 → slice_get (nonzero_lists q 1) c ≡ Some ((c + 1) ∷ [])
one_list q c l =
    let d = q - 1 in
    let none : d ^ 0 ≡ 1 = pow-zero d in
    let one : d ^ suc 0 ≡ d = pow-suc d 0 ∙ ap (λ z. z * d) none ∙ omega arith in
    let left : c % d ^ 0 ≡ 0 = ap (λ z. c % z) none ∙ omega arith in
    let row : c / d ^ 0 ≡ c = ap (λ z. c / z) none ∙ omega arith in
    let at = nonzero_digit q 0 c [] (omega (arith, one, l)) (ap (slice_get (nonzero_lists q 0)) left ∙ nothing q) in
    let digit : 1 + c / d ^ 0 ≡ c + 1 = omega (arith, row) in
    at ∙ ap (λ z. Some (z ∷ [])) digit

split_place : (x row column N M P t L : ℕ) → x ≡ row * N + column → P ≡ N * M → L ≡ P → row * L + (column * M + t) ≡ x * M + t
split_place x row column N M P t L e p l = rw (l, p, e) (omega arith)

pub lists_split : (q n m x t : ℕ) (h g : List ℕ) → slice_get (nonzero_lists q n) x ≡ Some h → slice_get (nonzero_lists q m) t ≡ Some g → slice_get (nonzero_lists q (n + m)) (x * (q - 1) ^ m + t) ≡ Some (h ++ g)
lists_split q zero m x t h g a b =
    let nil = no_list q x h a in
    let place : x * (q - 1) ^ m + t ≡ t = ap (λ z. z * (q - 1) ^ m + t) nil.0 ∙ omega arith in
    let more : zero + m ≡ m = omega arith in
    rw (place, more, nil.1) b
lists_split q (suc n) m x t h g a b =
    let d = q - 1 in
    let p : ProductPart (λ (c : ℕ) (u : List ℕ). c ∷ u) (numbers_from 1 d) (nonzero_lists q n) x h = product_part (λ (c : ℕ) (u : List ℕ). c ∷ u) (numbers_from 1 d) (nonzero_lists q n) x h (rw (cons_all q n) at a) in
    let rest = lists_split q n m p.column t p.right g p.right_at b in
    let at = product_at (λ (c : ℕ) (u : List ℕ). c ∷ u) (numbers_from 1 d) (nonzero_lists q (n + m)) p.row (p.column * d ^ m + t) p.left (p.right ++ g) p.left_at rest in
    let place : p.row * length (nonzero_lists q (n + m)) + (p.column * d ^ m + t) ≡ x * d ^ m + t = split_place x p.row p.column (length (nonzero_lists q n)) (d ^ m) (d ^ (n + m)) t (length (nonzero_lists q (n + m))) p.place (pow-add d n m ∙ ap (λ z. z * d ^ m) (sym (length-nonzero_lists q n))) (length-nonzero_lists q (n + m)) in
    let more : suc n + m ≡ suc (n + m) = omega arith in
    ap (λ z. slice_get (nonzero_lists q z) (x * d ^ m + t)) more ∙ ap (λ z. slice_get z (x * d ^ m + t)) (cons_all q (n + m)) ∙ ap (slice_get (ConsAll q (n + m))) (sym place) ∙ at ∙ ap (λ z. Some (z ++ g)) (sym p.is)

lead : (q n : ℕ) (x : ℕ) → slice_get (leading_lists q (suc n)) x ≡ option_map (λ (u : List ℕ). 1 ∷ u) (slice_get (nonzero_lists q n) x)
unfolding leading_lists
lead q n x = slice_get-map (λ (u : List ℕ). 1 ∷ u) (nonzero_lists q n) x

pub leading_part : (q n x : ℕ) (h : List ℕ) → slice_get (leading_lists q (suc n)) x ≡ Some h → (u : List ℕ) × (slice_get (nonzero_lists q n) x ≡ Some u) × (h ≡ 1 ∷ u)
unfolding leading_lists
leading_part q n x h e = map_part (λ (u : List ℕ). 1 ∷ u) (nonzero_lists q n) x h e

pub leading_split : (q n m x t : ℕ) (h g : List ℕ) → 1 ≤ n → slice_get (leading_lists q n) x ≡ Some h → slice_get (nonzero_lists q m) t ≡ Some g → slice_get (leading_lists q (n + m)) (x * (q - 1) ^ m + t) ≡ Some (h ++ g)
leading_split q zero m x t h g some a b = absurd (omega (arith, some))
leading_split q (suc n) m x t h g some a b =
    let p = leading_part q n x h a in
    let more : suc n + m ≡ suc (n + m) = omega arith in
    let at = lists_split q n m x t p.0 g p.1 b in
    ap (λ z. slice_get (leading_lists q z) (x * (q - 1) ^ m + t)) more ∙ lead q (n + m) (x * (q - 1) ^ m + t) ∙ ap (option_map (λ (u : List ℕ). 1 ∷ u)) at ∙ ap (λ z. Some (z ++ g)) (sym p.2)

two_lists : (q t : ℕ) → t < (q - 1) * (q - 1) → slice_get (nonzero_lists q 2) t ≡ Some (tail_pair q t)
two_lists q t l =
    let d = q - 1 in
    let one : d ^ 1 ≡ d = pow-suc d 0 ∙ ap (λ z. z * d) (pow-zero d) ∙ omega arith in
    let some : 0 < d = some_of d t l in
    let row : t / d < d = div_below t d d some l in
    let column : t % d < d = mod-lt t some in
    let at : slice_get (nonzero_lists q (1 + 1)) (t / d * d ^ 1 + t % d) ≡ Some (((t / d + 1) ∷ []) ++ ((t % d + 1) ∷ [])) = lists_split q 1 1 (t / d) (t % d) _ _ (one_list q (t / d) row) (one_list q (t % d) column) in
    let place : t / d * d ^ 1 + t % d ≡ t = ap (λ z. t / d * z + t % d) one ∙ div-add-mod' t d in
    rw place at at
  where
    some_of : (d t : ℕ) → t < d * d → 0 < d
    some_of zero t l = absurd (omega (arith, l))
    some_of (suc d) t l = omega arith

pub leading_pair : (q n x t : ℕ) (h : List ℕ) → 1 ≤ n → t < (q - 1) * (q - 1) → slice_get (leading_lists q n) x ≡ Some h → slice_get (leading_lists q (n + 2)) (x * ((q - 1) * (q - 1)) + t) ≡ Some (h ++ tail_pair q t)
leading_pair q n x t h some l a =
    let d = q - 1 in
    let square : d ^ 2 ≡ d * d = pow-suc d 1 ∙ ap (λ z. z * d) (pow-suc d 0 ∙ ap (λ z. z * d) (pow-zero d)) ∙ omega arith in
    let at = leading_split q n 2 x t h (tail_pair q t) some a (two_lists q t l) in
    ap (λ z. slice_get (leading_lists q (n + 2)) (x * z + t)) (sym square) ∙ at

pub leading_there : (q n y : ℕ) → y < (q - 1) ^ (n - 1) → slice_get (leading_lists q n) y ≡ Some (slice_index_or (leading_lists q n) y [])
leading_there q n y l = slice_get-get_or (leading_lists q n) y [] (omega (arith, l, length-leading_lists q n))

pub listed_message : (k q w y : ℕ) (s u : List ℕ) → Contains (supports_from 0 k w) s → slice_get (leading_lists q w) y ≡ Some u → Contains (messages k q w) (message_of s u)
listed_message k q w y s u h at =
    let n = from_contains (supports_from 0 k w) s h in
    to_contains (messages k q w) (message_of s u) (n.0 * length (leading_lists q w) + y) (message_at k q w n.0 y s u (ap (λ l. slice_get l n.0) (supports_are k w) ∙ n.1) at)

pub listed_next : (k q w n y : ℕ) (s u v : List ℕ) → 1 < q → slice_get (messages k q w) n ≡ Some (message_of s u) → slice_get (leading_lists q w) y ≡ Some u → slice_get (leading_lists q w) (suc y) ≡ Some v → slice_get (messages k q w) (suc n) ≡ Some (message_of s v)
listed_next k q w n y s u v l at here next =
    message_next k q w n l (message_of s u) at
    ∙ ap (λ o. turned (message_of s u) o (next_support 0 k s)) (sym (leading_next q w y u here) ∙ next)

pub listed_along : (k q w n y i : ℕ) (s : List ℕ) → 1 < q → y + i < (q - 1) ^ (w - 1) → slice_get (messages k q w) n ≡ Some (message_of s (slice_index_or (leading_lists q w) y [])) → slice_get (messages k q w) (n + i) ≡ Some (message_of s (slice_index_or (leading_lists q w) (y + i) []))
listed_along k q w n y zero s l inside at =
    let a : n + 0 ≡ n = omega arith in
    let b : y + 0 ≡ y = omega arith in
    rw (a, b) at
listed_along k q w n y (suc i) s l inside at =
    let before = listed_along k q w n y i s l (omega (arith, inside)) at in
    let a : n + suc i ≡ suc (n + i) = omega arith in
    let b : y + suc i ≡ suc (y + i) = omega arith in
    rw (a, b) (listed_next k q w (n + i) (y + i) s _ _ l before (leading_there q w (y + i) (omega (arith, inside))) (leading_there q w (suc (y + i)) (omega (arith, inside))))

pub listed_turn : (k q w n y : ℕ) (s t : List ℕ) → 1 < q → suc y ≡ (q - 1) ^ (w - 1) → slice_get (messages k q w) n ≡ Some (message_of s (slice_index_or (leading_lists q w) y [])) → next_support 0 k s ≡ Some t → slice_get (messages k q w) (suc n) ≡ Some (message_of t (slice_index_or (leading_lists q w) 0 []))
listed_turn k q w n y s t l last at next =
    let u = slice_index_or (leading_lists q w) y [] in
    let here : slice_get (leading_lists q w) y ≡ Some u = leading_there q w y (omega (arith, last)) in
    let none : next_leading q u ≡ None = sym (leading_next q w y u here) ∙ slice_get_past (leading_lists q w) (suc y) (omega (arith, last, length-leading_lists q w)) in
    let many : length u ≡ w = (leading_shape q w y u here).many in
    let first : slice_index_or (leading_lists q w) 0 [] ≡ replicate w 1 = first_of (leading_there q w 0 (omega (arith, last))) (leading_first q w l) in
    message_next k q w n l (message_of s u) at
    ∙ ap (λ o. turned (message_of s u) o (next_support 0 k s)) none
    ∙ ap (turned (message_of s u) None) next
    ∙ ap (λ z. Some (message_of t (replicate z 1))) many
    ∙ ap (λ z. Some (message_of t z)) (sym first)
  where
    first_of : {a b : List ℕ} {o : _} → o ≡ Some a → o ≡ Some b → a ≡ b
    first_of e f = cc
