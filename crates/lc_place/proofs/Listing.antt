-- The messages of a level are in order, each once, and the blocks of a phase list them.
--   InOrder R xs             each element of xs is in the relation R to each later one
--   product_in_order         a product is in order where its parts are
--   supports_in_order, nonzero_in_order, leading_in_order, messages_in_order
--   pairs_in_order           the same by the places of any two elements
--   pieces_list              a list cut into pieces of 4,096
--   blocks_list              the blocks of a phase, one after the other, are the messages of its level
--   block_message            a message of a block, by its place in the level
use Rattle.std.proofs.Common.{◌≡◌, ℕ, zero, suc, ◌+◌, ◌-◌, ◌*◌, ◌<◌, ◌≤◌, List, [], ◌∷◌, ◌++◌, length, get_or, take, drop, Some, refl, ap, sym, ◌∙◌, arith, ◌⊎◌, inl, inr}
use Rattle.std.specs.Prelude.{slice_get}
use Rattle.std.specs.List.{flat_map, AllPairs}
use Rattle.std.proofs.Math.Nat.{mul-le-mul_right}
use Rattle.std.proofs.lemmas.Bool.{cases_lt}
use Rattle.std.proofs.lemmas.List.{drop_all, take-append-drop, drop-drop}
use Rattle.std.proofs.lemmas.Option.{slice_get_within, slice_get-get_or}
use Rattle.lc_enumeration.specs.Message.{supports_from, supports, numbers_from, nonzero_lists, leading_lists, messages, message_count}
use Rattle.lc_enumeration.specs.Plan.{blocks_before, level_blocks, phase_level, block_messages}
use Rattle.lc_place.specs.Order.{ListLess, MessageLess}
use Rattle.lc_place.proofs.Products.{product, product_part, map_part}
use Rattle.lc_place.proofs.Coefficients.{numbers_inside}
use Rattle.lc_place.proofs.Supports.{support_shape, which_part}
use Rattle.lc_place.proofs.Messages.{message_of, length-messages}

abbrev pub InOrder : {X : Type 0} → (X → X → Type 0) → List X → Type 0
InOrder {X} R xs = (i j : ℕ) (x y : X) → i < j → slice_get xs i ≡ Some x → slice_get xs j ≡ Some y → R x y

rows_or_columns : (a b c d n i j : ℕ) → b < n → d < n → i ≡ a * n + b → j ≡ c * n + d → i < j → (a < c) ⊎ ((a ≡ c) × (b < d))
rows_or_columns a b c d n i j bn dn e f l =
    elim (cases_lt a c) [
      | inl m ↦ inl m
      | inr m ↦ elim (cases_lt c a) [
        | inl o ↦ absurd (omega (arith, above c a n d b dn o, e, f, l))
        | inr o ↦ (let same : a ≡ c = omega (arith, m, o) in inr (same, omega (arith, rw same at e, f, l)))
      ]
    ]
  where
    above : (c a n d b : ℕ) → d < n → c < a → c * n + d < a * n + b
    above c a n d b l m = let le : suc c ≤ a = omega (arith, m) in omega (arith, mul-le-mul_right {m = suc c} {n = a} n le, l)

pub product_in_order : {A B C : Type 0} (f : A → B → C) (RA : A → A → Type 0) (RB : B → B → Type 0) (RC : C → C → Type 0) → ((x x' : A) (y y' : B) → RA x x' → RC (f x y) (f x' y')) → ((x : A) (y y' : B) → RB y y' → RC (f x y) (f x y')) → (xs : List A) (ys : List B) → InOrder RA xs → InOrder RB ys → InOrder RC (product f xs ys)
product_in_order f RA RB RC by_row by_column xs ys rows columns i j x y l e d =
    let p = product_part f xs ys i x e in
    let r = product_part f xs ys j y d in
    rw (p.is, r.is) (elim (rows_or_columns p.row p.column r.row r.column (length ys) i j (slice_get_within ys p.column p.right p.right_at) (slice_get_within ys r.column r.right r.right_at) p.place r.place l) [
      | inl m ↦ by_row p.left r.left p.right r.right (rows p.row r.row p.left r.left m p.left_at r.left_at)
      | inr m ↦ (
          let same : p.left ≡ r.left = cc (m.0, p.left_at, r.left_at) in
          rw same (by_column r.left p.right r.right (columns p.column r.column p.right r.right m.1 p.right_at r.right_at)))
    ])

numbers_in_order : (i n : ℕ) → InOrder (λ (a b : ℕ). a < b) (numbers_from i n)
numbers_in_order i n a b x y l e d = omega (arith, (numbers_inside i n a x e).1, (numbers_inside i n b y d).1, l)

only_place : {X : Type 0} (x : X) (i j : ℕ) (a b : X) → i < j → slice_get (x ∷ []) i ≡ Some a → slice_get (x ∷ []) j ≡ Some b → ⊥
only_place x i zero a b l e d = omega (arith, l)
only_place x i (suc j) a b l e d = cc

pub nonzero_in_order : (q n : ℕ) → InOrder ListLess (nonzero_lists q n)
unfolding nonzero_lists
nonzero_in_order q zero i j x y l e d = absurd (only_place [] i j x y l e d)
nonzero_in_order q (suc n) i j x y l e d = product_in_order (λ (c : ℕ) (u : List ℕ). c ∷ u) (λ (a b : ℕ). a < b) ListLess ListLess (λ x x' y y' h. inl h) (λ x y y' h. inr (refl, h)) (numbers_from 1 (q - 1)) (nonzero_lists q n) (numbers_in_order 1 (q - 1)) (nonzero_in_order q n) i j x y l e d

pub leading_in_order : (q w : ℕ) → InOrder ListLess (leading_lists q w)
unfolding leading_lists
leading_in_order q zero i j x y l e d = absurd (only_place [] i j x y l e d)
leading_in_order q (suc w) i j x y l e d =
    let p = map_part (λ (u : List ℕ). 1 ∷ u) (nonzero_lists q w) i x e in
    let r = map_part (λ (u : List ℕ). 1 ∷ u) (nonzero_lists q w) j y d in
    rw (p.2, r.2) (inr (refl, nonzero_in_order q w i j p.0 r.0 l p.1 r.1))

below_head : (i : ℕ) (s t : List ℕ) → 0 < length t → suc i ≤ get_or t 0 0 → ListLess (i ∷ s) t
below_head i s [] l m = absurd (omega (arith, l))
below_head i s (b ∷ t) l m = inl m

pub supports_in_order : (i k w : ℕ) → InOrder ListLess (supports_from i k w)
unfolding supports_from
supports_in_order i k zero a b x y l e d = absurd (only_place [] a b x y l e d)
supports_in_order i zero (suc w) a b x y l e d = absurd (cc)
supports_in_order i (suc k) (suc w) a b x y l e d =
    elim (which_part i k w a x e) [
      | inl p ↦ elim (which_part i k w b y d) [
        | inl r ↦ rw (p.is, r.is) (inr (refl, supports_in_order (suc i) k w a b p.rest r.rest l p.at r.at))
        | inr r ↦ (
            let shape = support_shape (suc i) k (suc w) r.place y r.at in
            rw p.is (below_head i p.rest y (omega (arith, shape.many)) (shape.low 0 (omega arith))))
      ]
      | inr p ↦ elim (which_part i k w b y d) [
        | inl r ↦ absurd (omega (arith, p.is, r.inside, l))
        | inr r ↦ supports_in_order (suc i) k (suc w) p.place r.place x y (omega (arith, p.is, r.is, l)) p.at r.at
      ]
    ]

pub messages_in_order : (k q w : ℕ) → InOrder MessageLess (messages k q w)
unfolding messages supports
messages_in_order k q w = product_in_order message_of ListLess ListLess MessageLess (λ x x' y y' h. inl h) (λ x y y' h. inr (refl, h)) (supports k w) (leading_lists q w) (supports_in_order 0 k w) (leading_in_order q w)

pub pairs_in_order : {X : Type 0} (R : X → X → Type 0) (xs : List X) → InOrder R xs → AllPairs R xs
pairs_in_order R xs h i j d l m = h i j (get_or xs i d) (get_or xs j d) l (slice_get-get_or xs i d (omega (arith, l, m))) (slice_get-get_or xs j d m)

-- the blocks b to b + n - 1 of 4,096 elements, where block 0 begins at the block number s
abbrev pub piece : {X : Type 0} → List X → ℕ → ℕ → List X
piece xs s b = take 4096 (drop (4096 * (b - s)) xs)

pub pieces_list : {X : Type 0} (xs : List X) (s b n : ℕ) → s ≤ b → length xs ≤ 4096 * (b - s + n) → flat_map (λ a. piece xs s a) (numbers_from b n) ≡ drop (4096 * (b - s)) xs
unfolding numbers_from
pieces_list xs s b zero l m = sym (drop_all (4096 * (b - s)) xs (omega (arith, m)))
pieces_list xs s b (suc n) l m =
    let next : suc b - s ≡ b - s + 1 = omega (arith, l) in
    let later : flat_map (λ a. piece xs s a) (numbers_from (suc b) n) ≡ drop (4096 * (suc b - s)) xs = pieces_list xs s (suc b) n (omega (arith, l)) (omega (arith, next, m)) in
    let place : 4096 * (suc b - s) ≡ 4096 * (b - s) + 4096 = omega (arith, next) in
    let rest : drop (4096 * (suc b - s)) xs ≡ drop 4096 (drop (4096 * (b - s)) xs) = ap (λ a. drop a xs) place ∙ sym (drop-drop 4096 (4096 * (b - s)) xs) in
    ap (λ a. piece xs s b ++ a) (later ∙ rest) ∙ take-append-drop 4096 (drop (4096 * (b - s)) xs)

enough : (k q w : ℕ) → message_count k q w ≤ 4096 * level_blocks k q w
unfolding level_blocks
enough k q w = omega arith

pub blocks_list : (k q m p : ℕ) → flat_map (block_messages k q m p) (numbers_from (blocks_before k q m p) (level_blocks k q (phase_level m p))) ≡ messages k q (phase_level m p)
unfolding block_messages
blocks_list k q m p =
    let zero : blocks_before k q m p - blocks_before k q m p ≡ 0 = omega arith in
    pieces_list (messages k q (phase_level m p)) (blocks_before k q m p) (blocks_before k q m p) (level_blocks k q (phase_level m p)) (omega arith) (omega (arith, length-messages k q (phase_level m p), enough k q (phase_level m p), zero))
    ∙ ap (λ a. drop (4096 * a) (messages k q (phase_level m p))) zero

get-drop : {X : Type 0} (xs : List X) (n t : ℕ) → slice_get (drop n xs) t ≡ slice_get xs (n + t)
get-drop xs zero t = let e : 0 + t ≡ t = omega arith in ap (slice_get xs) (sym e)
get-drop [] (suc n) t = refl
get-drop (x ∷ xs) (suc n) t = let e : suc n + t ≡ suc (n + t) = omega arith in rw e (get-drop xs n t)

get-take : {X : Type 0} (xs : List X) (n t : ℕ) → t < n → slice_get (take n xs) t ≡ slice_get xs t
get-take xs zero t l = absurd (omega (arith, l))
get-take [] (suc n) t l = refl
get-take (x ∷ xs) (suc n) zero l = refl
get-take (x ∷ xs) (suc n) (suc t) l = get-take xs n t (omega (arith, l))

pub block_message : (k q m p b t : ℕ) → t < 4096 → slice_get (block_messages k q m p b) t ≡ slice_get (messages k q (phase_level m p)) (4096 * (b - blocks_before k q m p) + t)
unfolding block_messages
block_message k q m p b t l = get-take (drop (4096 * (b - blocks_before k q m p)) (messages k q (phase_level m p))) 4096 t l ∙ get-drop (messages k q (phase_level m p)) (4096 * (b - blocks_before k q m p)) t
