-- The messages of a weight: the next one, and the one at a place.
--   next_message k q m         the message after m; None after the last
--   IsMessage k q w m          w places below k, rising, and as many elements from 1 to q - 1, the first one 1
--   message_shape              each message is one
--   leading_shape, leading_next, leading_first      the coefficients: what they are, the next ones, the first ones
--   length-messages            how many there are
--   message_at                 the message at a place, from its support and its coefficients
--   message_next               the message at the next place is the next message
--   from_contains, to_contains      between a place in a list and membership
use Rattle.std.proofs.Common.{◌≡◌, ℕ, zero, suc, ◌+◌, ◌-◌, ◌*◌, ◌^◌, ◌<◌, ◌≤◌, List, [], ◌∷◌, length, get_or, replicate, Option, Some, None, refl, ap, sym, ◌∙◌, arith, inl, inr}
use Rattle.std.specs.Prelude.{slice_get}
use Rattle.std.specs.List.{Contains}
use Rattle.std.specs.Option.{option_map}
use Rattle.std.proofs.lemmas.Bool.{cases_lt}
use Rattle.std.proofs.lemmas.Option.{slice_get-map, slice_get_within, slice_get_past, slice_get-get_or, get_or_from_slice_get, none-some}
use Rattle.lc_enumeration.specs.Message.{Message, supports_from, supports, nonzero_lists, leading_lists, messages, message_count, choose}
use Rattle.lc_place.proofs.Products.{product, length-product, ProductPart, product_part, product_at, map_part}
use Rattle.lc_place.proofs.Coefficients.{next_numbers, nonzero_next, nonzero_first, nonzero_shape, NonzeroEntries, length-leading_lists}
use Rattle.lc_place.proofs.Supports.{next_support, support_next, IsSupport, support_shape, length-supports}

abbrev pub message_of : List ℕ → List ℕ → Message
message_of s u = record { support = s; coefficients = u }

abbrev pub next_leading : ℕ → List ℕ → Option (List ℕ)
next_leading q [] = None
next_leading q (c ∷ u) = option_map (λ v. c ∷ v) (next_numbers (q - 1) u)

abbrev pub turned : Message → Option (List ℕ) → Option (List ℕ) → Option Message
turned m (Some u) o = Some (message_of m.support u)
turned m None (Some s) = Some (message_of s (replicate (length m.coefficients) 1))
turned m None None = None

abbrev pub next_message : ℕ → ℕ → Message → Option Message
next_message k q m = turned m (next_leading q m.coefficients) (next_support 0 k m.support)

message_product : (k q w : ℕ) → messages k q w ≡ product message_of (supports k w) (leading_lists q w)
unfolding messages
message_product k q w = refl

pub supports_are : (k w : ℕ) → supports k w ≡ supports_from 0 k w
unfolding supports
supports_are k w = refl

pub length-messages : (k q w : ℕ) → length (messages k q w) ≡ message_count k q w
unfolding messages supports message_count
length-messages k q w = length-product message_of (supports k w) (leading_lists q w) ∙ times _ _ (choose k w) ((q - 1) ^ (w - 1)) (length-supports 0 k w) (length-leading_lists q w)
  where
    times : (a b c d : ℕ) → a ≡ c → b ≡ d → a * b ≡ c * d
    times a b c d e f = rw (e, f) refl

pub record IsMessage (k q w : ℕ) (m : Message) : Type 0 where
  pub support : IsSupport 0 k w m.support
  pub many : length m.coefficients ≡ w
  pub low : (u : ℕ) → u < w → 1 ≤ get_or m.coefficients u 0
  pub high : 1 < q → (u : ℕ) → u < w → get_or m.coefficients u 0 < q
  pub first : 0 < w → get_or m.coefficients 0 0 ≡ 1

pub record IsLeading (q w : ℕ) (u : List ℕ) : Type 0 where
  pub many : length u ≡ w
  pub low : (k : ℕ) → k < w → 1 ≤ get_or u k 0
  pub high : 1 < q → (k : ℕ) → k < w → get_or u k 0 < q
  pub first : 0 < w → get_or u 0 0 ≡ 1

leading_cons : (q w : ℕ) (u v : List ℕ) → v ≡ 1 ∷ u → NonzeroEntries q w u → IsLeading q (suc w) v
leading_cons q w u v e h = rw e (record {
  many = omega (arith, h.many);
  low = lows h.low;
  high = highs h.high;
  first = λ _. refl;
})
  where
    lows : ((k : ℕ) → k < w → 1 ≤ get_or u k 0) → (k : ℕ) → k < suc w → 1 ≤ get_or (1 ∷ u) k 0
    lows a zero l = omega arith
    lows a (suc k) l = a k (omega arith)

    highs : ((k : ℕ) → k < w → get_or u k 0 < q) → 1 < q → (k : ℕ) → k < suc w → get_or (1 ∷ u) k 0 < q
    highs a b zero l = b
    highs a b (suc k) l = a k (omega arith)

only_nil : (r : ℕ) (u : List ℕ) → slice_get ([] ∷ []) r ≡ Some u → u ≡ []
only_nil zero u e = cc
only_nil (suc r) u e = absurd (cc)

pub leading_shape : (q w r : ℕ) (u : List ℕ) → slice_get (leading_lists q w) r ≡ Some u → IsLeading q w u
unfolding leading_lists
leading_shape q zero r u e =
    let nil : u ≡ [] = only_nil r u e in
    rw nil (record { many = refl; low = λ k l. absurd (omega (arith, l)); high = λ _ k l. absurd (omega (arith, l)); first = λ l. absurd (omega (arith, l)) })
leading_shape q (suc w) r u e =
    let p = map_part (λ (u : List ℕ). 1 ∷ u) (nonzero_lists q w) r u e in
    leading_cons q w p.0 u p.2 (nonzero_shape q w r p.0 p.1)

pub leading_next : (q w r : ℕ) (u : List ℕ) → slice_get (leading_lists q w) r ≡ Some u → slice_get (leading_lists q w) (suc r) ≡ next_leading q u
unfolding leading_lists
leading_next q zero r u e = sym (ap (next_leading q) (only_nil r u e))
leading_next q (suc w) r u e =
    let p = map_part (λ (u : List ℕ). 1 ∷ u) (nonzero_lists q w) r u e in
    slice_get-map (λ (u : List ℕ). 1 ∷ u) (nonzero_lists q w) (suc r) ∙ ap (option_map (λ (u : List ℕ). 1 ∷ u)) (nonzero_next q w r p.0 p.1) ∙ sym (ap (next_leading q) p.2)

pub leading_first : (q w : ℕ) → 1 < q → slice_get (leading_lists q w) 0 ≡ Some (replicate w 1)
unfolding leading_lists
leading_first q zero l = refl
leading_first q (suc w) l = slice_get-map (λ (u : List ℕ). 1 ∷ u) (nonzero_lists q w) 0 ∙ ap (option_map (λ (u : List ℕ). 1 ∷ u)) (nonzero_first q w l)

-- the support, the coefficients and the two places of a message
abbrev pub MessagePart : ℕ → ℕ → ℕ → ℕ → Message → Type 0
MessagePart k q w n m = ProductPart message_of (supports k w) (leading_lists q w) n m

pub message_part : (k q w n : ℕ) (m : Message) → slice_get (messages k q w) n ≡ Some m → MessagePart k q w n m
message_part k q w n m e = product_part message_of (supports k w) (leading_lists q w) n m (rw (message_product k q w) at e)

pub message_at : (k q w a b : ℕ) (s u : List ℕ) → slice_get (supports k w) a ≡ Some s → slice_get (leading_lists q w) b ≡ Some u → slice_get (messages k q w) (a * length (leading_lists q w) + b) ≡ Some (message_of s u)
message_at k q w a b s u e d = rw (message_product k q w) (product_at message_of (supports k w) (leading_lists q w) a b s u e d)

pub message_shape : (k q w n : ℕ) (m : Message) → slice_get (messages k q w) n ≡ Some m → IsMessage k q w m
message_shape k q w n m e =
    let p = message_part k q w n m e in
    let s = support_shape 0 k w p.row p.left (ap (λ l. slice_get l p.row) (sym (supports_are k w)) ∙ p.left_at) in
    let u = leading_shape q w p.column p.right p.right_at in
    rw p.is (record { support = s; many = u.many; low = u.low; high = u.high; first = u.first })

same_support : (k q w n : ℕ) (m : Message) (p : MessagePart k q w n m) (v : List ℕ) → slice_get (leading_lists q w) (suc p.column) ≡ Some v → slice_get (messages k q w) (suc n) ≡ Some (message_of p.left v)
same_support k q w n m p v e =
    let place : suc n ≡ p.row * length (leading_lists q w) + suc p.column = omega (arith, p.place) in
    ap (slice_get (messages k q w)) place ∙ message_at k q w p.row (suc p.column) p.left v p.left_at e

last_column : (k q w n : ℕ) (m : Message) (p : MessagePart k q w n m) → slice_get (leading_lists q w) (suc p.column) ≡ None → suc p.column ≡ length (leading_lists q w)
last_column k q w n m p e =
    elim (cases_lt (suc p.column) (length (leading_lists q w))) [
      | inl l ↦ absurd (none-some _ (sym e ∙ slice_get-get_or (leading_lists q w) (suc p.column) [] l))
      | inr l ↦ omega (arith, slice_get_within (leading_lists q w) p.column p.right p.right_at)
    ]

next_row : (k q w n : ℕ) → 1 < q → (m : Message) (p : MessagePart k q w n m) (s : List ℕ) → slice_get (leading_lists q w) (suc p.column) ≡ None → slice_get (supports k w) (suc p.row) ≡ Some s → slice_get (messages k q w) (suc n) ≡ Some (message_of s (replicate w 1))
next_row k q w n l m p s e d =
    let place : suc n ≡ suc p.row * length (leading_lists q w) + 0 = omega (arith, p.place, last_column k q w n m p e) in
    ap (slice_get (messages k q w)) place ∙ message_at k q w (suc p.row) 0 s (replicate w 1) d (leading_first q w l)

no_row : (k q w n : ℕ) (m : Message) (p : MessagePart k q w n m) → slice_get (leading_lists q w) (suc p.column) ≡ None → slice_get (supports k w) (suc p.row) ≡ None → slice_get (messages k q w) (suc n) ≡ None
no_row k q w n m p e d =
    let rows : suc p.row ≡ length (supports k w) = elim (cases_lt (suc p.row) (length (supports k w))) [
      | inl l ↦ absurd (none-some _ (sym d ∙ slice_get-get_or (supports k w) (suc p.row) [] l))
      | inr l ↦ omega (arith, slice_get_within (supports k w) p.row p.left p.left_at)
    ] in
    let place : suc n ≡ suc p.row * length (leading_lists q w) = omega (arith, p.place, last_column k q w n m p e) in
    let many : length (messages k q w) ≡ suc p.row * length (leading_lists q w) = ap length (message_product k q w) ∙ length-product message_of (supports k w) (leading_lists q w) ∙ ap (λ a. a * length (leading_lists q w)) (sym rows) in
    slice_get_past (messages k q w) (suc n) (omega (arith, place, many))

turn : (k q w n : ℕ) → 1 < q → (m : Message) (p : MessagePart k q w n m) (a b : Option (List ℕ)) → length p.right ≡ w → slice_get (leading_lists q w) (suc p.column) ≡ a → slice_get (supports k w) (suc p.row) ≡ b → slice_get (messages k q w) (suc n) ≡ turned (message_of p.left p.right) a b
turn k q w n l m p (Some v) b many e d = same_support k q w n m p v e
turn k q w n l m p None (Some s) many e d = next_row k q w n l m p s e d ∙ ap (λ c. Some (message_of s (replicate c 1))) (sym many)
turn k q w n l m p None None many e d = no_row k q w n m p e d

pub message_next : (k q w n : ℕ) → 1 < q → (m : Message) → slice_get (messages k q w) n ≡ Some m → slice_get (messages k q w) (suc n) ≡ next_message k q m
message_next k q w n l m e =
    let p = message_part k q w n m e in
    let many : length p.right ≡ w = (leading_shape q w p.column p.right p.right_at).many in
    let first : slice_get (leading_lists q w) (suc p.column) ≡ next_leading q p.right = leading_next q w p.column p.right p.right_at in
    let second : slice_get (supports k w) (suc p.row) ≡ next_support 0 k p.left = ap (λ l. slice_get l (suc p.row)) (supports_are k w) ∙ support_next 0 k w p.row p.left (ap (λ l. slice_get l p.row) (sym (supports_are k w)) ∙ p.left_at) in
    turn k q w n l m p _ _ many first second ∙ sym (ap (next_message k q) p.is)

pub from_contains : {X : Type 0} (xs : List X) (x : X) → Contains xs x → (n : ℕ) × (slice_get xs n ≡ Some x)
from_contains xs x h = (h.0, slice_get-get_or xs h.0 x h.1 ∙ ap Some h.2)

pub to_contains : {X : Type 0} (xs : List X) (x : X) (n : ℕ) → slice_get xs n ≡ Some x → Contains xs x
to_contains xs x n e = (n, slice_get_within xs n x e, get_or_from_slice_get xs n x x e)
