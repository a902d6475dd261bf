-- Supports that share a head: all but their last places. They stand one after another, their tails in the order of the
-- supports of as many places.
--   tail_next                 the next support has the same head as long as the tail has a next one
--   tail_along                so it goes on from tail to tail
--   support_of, message_of_support      over 2 elements the messages are the supports
--   message_along             the messages of a head, from tail to tail
use Rattle.std.proofs.Common.{◌≡◌, ℕ, zero, suc, ◌+◌, ◌-◌, ◌*◌, ◌^◌, ◌<◌, ◌≤◌, List, [], ◌∷◌, ◌++◌, length, get_or, replicate, Option, Some, None, refl, ap, sym, ◌∙◌, arith, inl, inr, length-append}
use Rattle.std.specs.Prelude.{slice_get}
use Rattle.std.proofs.Math.Nat.{pow-suc, pow-zero}
use Rattle.std.proofs.Math.Seq.{get_or-append_seam}
use Rattle.std.proofs.lemmas.Bool.{cases_lt}
use Rattle.std.proofs.lemmas.Option.{slice_get_within, slice_get-get_or, none-some}
use Rattle.lc_enumeration.specs.Message.{Message, supports_from, supports, leading_lists, messages}
use Rattle.lc_place.proofs.Coefficients.{length-leading_lists}
use Rattle.lc_place.proofs.Supports.{next_support, next_at, next_past, moved_tail, IsRising, rising_tail, rising_from, head_above, support_next, support_shape}
use Rattle.lc_place.proofs.Messages.{message_of, message_part, message_at, leading_first, supports_are}

no_next : (i : ℕ) (t u : List ℕ) → next_support i zero t ≡ Some u → ⊥
no_next i t u e = none-some _ e

above_head : (p a : ℕ) (h t : List ℕ) → IsRising (p ∷ h ++ a ∷ t) → p < a
above_head p a h t r =
    let inside : suc (length h) < length (p ∷ h ++ a ∷ t) = omega (arith, length-append h (a ∷ t)) in
    omega (arith, rising_from (p ∷ h ++ a ∷ t) (suc (length h)) r inside, get_or-append_seam h a t 0)

pub tail_next : (i k : ℕ) (h t u : List ℕ) → IsRising (h ++ t) → (0 < length (h ++ t) → i ≤ get_or (h ++ t) 0 0) → 0 < length t → next_support i k t ≡ Some u → next_support i k (h ++ t) ≡ Some (h ++ u)
tail_next i k [] t u r low some e = e
tail_next i zero (p ∷ h) t u r low some e = absurd (no_next i t u e)
tail_next i (suc k) (p ∷ h) [] u r low some e = absurd (omega (arith, some))
tail_next i (suc k) (p ∷ h) (a ∷ t) u r low some e =
    let above : p < a = above_head p a h t r in
    let from : i ≤ p = low (omega arith) in
    let later : next_support (suc i) k (a ∷ t) ≡ Some u = sym (next_past i k a t (omega (arith, above, from))) ∙ e in
    elim (cases_lt i p) [
      | inl l ↦ next_past i k p (h ++ a ∷ t) l ∙ tail_next (suc i) k (p ∷ h) (a ∷ t) u r (λ _. l) some later
      | inr l ↦ (
          let is : p ≡ i = omega (arith, l, from) in
          let rest = tail_next (suc i) k h (a ∷ t) u (rising_tail p (h ++ a ∷ t) r) (λ m. head_above i p (h ++ a ∷ t) r is m) some later in
          next_at i k p (h ++ a ∷ t) is ∙ moved_tail i k (h ++ a ∷ t) (h ++ u) rest ∙ ap (λ x. Some (x ∷ h ++ u)) (sym is))
    ]

pub tail_along : (k w v n r j : ℕ) (h t u : List ℕ) → 0 < v → slice_get (supports_from 0 k w) n ≡ Some (h ++ t) → slice_get (supports_from 0 k v) r ≡ Some t → slice_get (supports_from 0 k v) (r + j) ≡ Some u → slice_get (supports_from 0 k w) (n + j) ≡ Some (h ++ u)
tail_along k w v n r zero h t u some at a b =
    let z : r + 0 ≡ r = omega arith in
    let y : n + 0 ≡ n = omega arith in
    let same : Some t ≡ Some u = sym a ∙ ap (slice_get (supports_from 0 k v)) (sym z) ∙ b in
    ap (slice_get (supports_from 0 k w)) y ∙ at ∙ cc (same)
tail_along k w v n r (suc j) h t u some at a b =
    let all = supports_from 0 k v in
    let z : r + suc j ≡ suc (r + j) = omega arith in
    let y : n + suc j ≡ suc (n + j) = omega arith in
    let inside = slice_get_within all (r + suc j) u b in
    let m = get_or all (r + j) [] in
    let here : slice_get all (r + j) ≡ Some m = slice_get-get_or all (r + j) [] (omega (arith, inside)) in
    let before = tail_along k w v n r j h t m some at a here in
    let step : next_support 0 k m ≡ Some u = sym (support_next 0 k v (r + j) m here) ∙ ap (slice_get all) (sym z) ∙ b in
    let shape = support_shape 0 k w (n + j) (h ++ m) before in
    let tail = support_shape 0 k v (r + j) m here in
    ap (slice_get (supports_from 0 k w)) y ∙ support_next 0 k w (n + j) (h ++ m) before ∙ tail_next 0 k h m u shape.rises (λ _. omega arith) (omega (arith, tail.many, some)) step

power_one : (n : ℕ) → 1 ^ n ≡ 1
power_one zero = pow-zero 1
power_one (suc n) = omega (arith, pow-suc 1 n, power_one n)

one_leading : (w : ℕ) → length (leading_lists 2 w) ≡ 1
one_leading w = length-leading_lists 2 w ∙ power_one (w - 1)

pub support_of : (k w n : ℕ) (m : Message) → slice_get (messages k 2 w) n ≡ Some m → slice_get (supports_from 0 k w) n ≡ Some m.support
support_of k w n m e =
    let p = message_part k 2 w n m e in
    let first : p.column < length (leading_lists 2 w) = slice_get_within (leading_lists 2 w) p.column p.right p.right_at in
    let one = one_leading w in
    let row : p.row * length (leading_lists 2 w) ≡ p.row = ap (λ x. p.row * x) one ∙ omega arith in
    let place : n ≡ p.row = omega (arith, p.place, first, one, row) in
    ap (slice_get (supports_from 0 k w)) place ∙ ap (λ l. slice_get l p.row) (sym (supports_are k w)) ∙ p.left_at ∙ ap (λ (x : Message). Some x.support) (sym p.is)

pub message_of_support : (k w n : ℕ) (s : List ℕ) → slice_get (supports_from 0 k w) n ≡ Some s → slice_get (messages k 2 w) n ≡ Some (message_of s (replicate w 1))
message_of_support k w n s e =
    let one = one_leading w in
    let place : n * length (leading_lists 2 w) + 0 ≡ n = ap (λ x. n * x + 0) one ∙ omega arith in
    ap (slice_get (messages k 2 w)) (sym place) ∙ message_at k 2 w n 0 s (replicate w 1) (ap (λ l. slice_get l n) (supports_are k w) ∙ e) (leading_first 2 w (omega arith))

pub message_along : (k w v n r j : ℕ) (h t u : List ℕ) (m : Message) → 0 < v → slice_get (messages k 2 w) n ≡ Some m → m.support ≡ h ++ t → slice_get (supports_from 0 k v) r ≡ Some t → slice_get (supports_from 0 k v) (r + j) ≡ Some u → slice_get (messages k 2 w) (n + j) ≡ Some (message_of (h ++ u) (replicate w 1))
message_along k w v n r j h t u m some at is a b =
    message_of_support k w (n + j) (h ++ u) (tail_along k w v n r j h t u some (support_of k w n m at ∙ ap Some is) a b)
