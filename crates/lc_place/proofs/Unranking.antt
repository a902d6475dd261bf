-- The message at a place: its support and its coefficients, entry by entry.
--   SupportSoFar k w r i s t       the support of place r begins with s, and goes on, from place i, as the one of place t
--   support_start, support_take, support_leave, support_end      its steps
--   entry_at, take_entry, leave_entry, support_rest              the same with the table of choices
--   EntriesSoFar q w r i u t       the coefficients of place r begin with the i entries u, and go on as the list of place t
--   entries_start, entries_more, entries_end                     its steps
--   divided                        a place below the bound is divided the same by a capped number
--   PutsEntry, puts_entry          one entry more, with the table of powers
--   message_from_parts             the message of a place, from a support and coefficients
use Rattle.std.proofs.Common.{◌≡◌, ℕ, zero, suc, ◌+◌, ◌-◌, ◌*◌, ◌/◌, ◌%◌, ◌^◌, ◌<◌, ◌≤◌, min, List, [], ◌∷◌, ◌++◌, length, Some, refl, ap, sym, ◌∙◌, arith, inl, inr, append_assoc, length-append}
use Rattle.std.specs.Prelude.{slice_get}
use Rattle.std.specs.Option.{option_map}
use Rattle.std.proofs.Math.Nat.{pow-suc, pow-zero, one-le-pow, div-eq_of_lt, mod-eq_of_lt, mod-lt}
use Rattle.std.proofs.lemmas.Bool.{cases_lt}
use Rattle.std.proofs.lemmas.List.{append-nil}
use Rattle.std.proofs.lemmas.Nat.{div_below, div-add-mod'}
use Rattle.std.proofs.lemmas.Option.{slice_get-map}
use Rattle.lc_enumeration.specs.Message.{choose, supports_from, nonzero_lists, leading_lists, messages}
use Rattle.lc_enumeration.proofs.ChooseLaws.{choose_next, choose_nothing}
use Rattle.lc_place.specs.Tables.{choose_entry, power_entry}
use Rattle.lc_place.proofs.Coefficients.{nonzero_digit, length-leading_lists}
use Rattle.lc_place.proofs.Supports.{support_takes, support_leaves, length-supports, only_nil}
use Rattle.lc_place.proofs.Messages.{message_of, message_at, supports_are}

pub record SupportSoFar (k w r i : ℕ) (s : List ℕ) (t : ℕ) : Type 0 where
  pub few : length s ≤ w
  pub below : t < choose (k - i) (w - length s)
  pub leads : (v : List ℕ) → slice_get (supports_from i (k - i) (w - length s)) t ≡ Some v → slice_get (supports_from 0 k w) r ≡ Some (s ++ v)

support_nil : (k w r : ℕ) → r < choose k w → SupportSoFar k w r 0 [] r
support_nil k w r l =
    let e : k - 0 ≡ k = omega arith in
    let f : w - 0 ≡ w = omega arith in
    record { few = omega arith; below = rw (e, f) l; leads = λ v d. rw (e, f) at d }

pub support_start : (k w r : ℕ) (s : List ℕ) → s ≡ [] → r < choose k w → SupportSoFar k w r 0 s r
support_start k w r s e l = rw e (support_nil k w r l)

pub support_take : (k w r i : ℕ) (s v : List ℕ) (t : ℕ) → SupportSoFar k w r i s t → i < k → length s < w → t < choose (k - i - 1) (w - length s - 1) → v ≡ s ++ i ∷ [] → SupportSoFar k w r (i + 1) v t
support_take k w r i s v t h inside few take is =
    let a : k - i ≡ suc (k - (i + 1)) = omega arith in
    let b : length v ≡ length s + 1 = ap length is ∙ length-append s (i ∷ []) in
    let c : w - length s ≡ suc (w - length v) = omega arith in
    let d : k - i - 1 ≡ k - (i + 1) = omega arith in
    let f : w - length s - 1 ≡ w - length v = omega arith in
    let g : i + 1 ≡ suc i = omega arith in
    record {
      few = omega arith;
      below = rw (d, f) at take;
      leads = λ x e. (
          let at : slice_get (supports_from i (k - i) (w - length s)) t ≡ Some (i ∷ x) = rw (a, c) (support_takes i (k - (i + 1)) (w - length v) t x (rw (← g) e)) in
          h.leads (i ∷ x) at ∙ ap Some (sym (ap (λ y. y ++ x) is ∙ append_assoc s (i ∷ []) x)));
    }

choose_no_place : (j : ℕ) → choose 0 (suc j) ≡ 0
unfolding choose
choose_no_place j = refl

leave_by : (k w r i n j : ℕ) (s : List ℕ) (t : ℕ) → k - i ≡ suc n → k - (i + 1) ≡ n → w - length s ≡ suc j → SupportSoFar k w r i s t → choose n j ≤ t → SupportSoFar k w r (i + 1) s (t - choose n j)
leave_by k w r i n j s t a b c h leave =
    let below : t < choose (suc n) (suc j) = rw (a, c) at h.below in
    let later : t - choose n j < choose n (suc j) = omega (arith, below, choose_next n j, leave) in
    let g : i + 1 ≡ suc i = omega arith in
    let many : length (supports_from (suc i) n j) ≡ choose n j = length-supports (suc i) n j in
    let place : t ≡ length (supports_from (suc i) n j) + (t - choose n j) = omega (arith, many, leave) in
    record {
      few = h.few;
      below = rw (b, c) later;
      leads = λ x e. (
          let there : slice_get (supports_from (suc i) n (suc j)) (t - choose n j) ≡ Some x = rw (b, c, g) at e in
          let at : slice_get (supports_from i (suc n) (suc j)) t ≡ Some x = ap (slice_get (supports_from i (suc n) (suc j))) place ∙ support_leaves i n j (t - choose n j) ∙ there in
          h.leads x (rw (a, c) at));
    }

pub support_leave : (k w r i c : ℕ) (s : List ℕ) (t : ℕ) → SupportSoFar k w r i s t → i < k → length s < w → choose (k - i - 1) (w - length s - 1) ≤ t → c ≡ choose (k - i - 1) (w - length s - 1) → SupportSoFar k w r (i + 1) s (t - c)
support_leave k w r i c s t h inside few leave e = rw e (leave_by k w r i (k - i - 1) (w - length s - 1) s t (omega arith) (omega arith) (omega arith) h leave)

pub supports_nothing : (i k : ℕ) → slice_get (supports_from i k 0) 0 ≡ Some []
unfolding supports_from
supports_nothing i k = refl

support_done : (k w r i : ℕ) (s : List ℕ) (t : ℕ) → SupportSoFar k w r i s t → w - length s ≡ 0 → slice_get (supports_from 0 k w) r ≡ Some s
support_done k w r i s t h whole =
    let below : t < choose (k - i) 0 = rw whole at h.below in
    let zero : t ≡ 0 = omega (arith, below, choose_nothing (k - i)) in
    let at : slice_get (supports_from i (k - i) (w - length s)) t ≡ Some [] = rw (whole, zero) (supports_nothing i (k - i)) in
    h.leads [] at ∙ ap Some (append-nil s)

pub support_end : (k w r : ℕ) (s : List ℕ) (t : ℕ) → SupportSoFar k w r k s t → slice_get (supports_from 0 k w) r ≡ Some s
support_end k w r s t h =
    let none : k - k ≡ 0 = omega arith in
    elim (cases_lt (length s) w) [
      | inl l ↦ (
          let some : w - length s ≡ suc (w - length s - 1) = omega (arith, l) in
          let below : t < choose 0 (suc (w - length s - 1)) = rw (none, some) at h.below in
          absurd (omega (arith, below, choose_no_place (w - length s - 1))))
      | inr l ↦ support_done k w r k s t h (omega (arith, l))
    ]

-- how the coefficients of a place begin, and what is left of the place
pub record EntriesSoFar (q w r i : ℕ) (u : List ℕ) (t : ℕ) : Type 0 where
  pub many : length u ≡ i
  pub below : t < (q - 1) ^ (w - i)
  pub leads : (v : List ℕ) → slice_get (nonzero_lists q (w - i)) t ≡ Some v → slice_get (leading_lists q w) r ≡ Some (u ++ v)

leading_at : (q n r : ℕ) (v : List ℕ) → slice_get (nonzero_lists q n) r ≡ Some v → slice_get (leading_lists q (suc n)) r ≡ Some (1 ∷ v)
unfolding leading_lists
leading_at q n r v e = slice_get-map (λ (u : List ℕ). 1 ∷ u) (nonzero_lists q n) r ∙ ap (option_map (λ (u : List ℕ). 1 ∷ u)) e

pub entries_start : (q w r : ℕ) (u : List ℕ) → 1 ≤ w → u ≡ 1 ∷ [] → r < (q - 1) ^ (w - 1) → EntriesSoFar q w r 1 u r
entries_start q w r u l e below = rw e (record {
  many = refl;
  below = below;
  leads = λ v d. (
      let some : w ≡ suc (w - 1) = omega (arith, l) in
      ap (λ a. slice_get (leading_lists q a) r) some ∙ leading_at q (w - 1) r v d);
})

pub divided : (n t : ℕ) → 1 ≤ n → t < 2 ^ 53 → (t / min n (2 ^ 53) ≡ t / n) × (t % min n (2 ^ 53) ≡ t % n) × (0 < min n (2 ^ 53))
divided n t l m =
    elim (cases_lt n (2 ^ 53)) [
      | inl i ↦ (let e : min n (2 ^ 53) ≡ n = omega (arith, i) in rw e (refl, refl, l))
      | inr i ↦ (
          let e : min n (2 ^ 53) ≡ 2 ^ 53 = omega (arith, i) in
          let a : t < n = omega (arith, m, i) in
          rw e (div-eq_of_lt m ∙ sym (div-eq_of_lt a), mod-eq_of_lt m ∙ sym (mod-eq_of_lt a), omega arith))
    ]

pub entries_more : (q w r i : ℕ) (u v : List ℕ) (t d : ℕ) → 2 ≤ q → EntriesSoFar q w r i u t → i < w → d ≡ 1 + t / (q - 1) ^ (w - 1 - i) → v ≡ u ++ d ∷ [] → EntriesSoFar q w r (i + 1) v (t % (q - 1) ^ (w - 1 - i))
entries_more q w r i u v t d size h inside digit is =
    let a : w - i ≡ suc (w - 1 - i) = omega arith in
    let b : w - (i + 1) ≡ w - 1 - i = omega arith in
    let some : 1 ≤ (q - 1) ^ (w - 1 - i) = one-le-pow (w - 1 - i) (q - 1) (omega arith) in
    let below : t < (q - 1) ^ suc (w - 1 - i) = rw a at h.below in
    record {
      many = ap length is ∙ length-append u (d ∷ []) ∙ ap (λ x. x + 1) h.many;
      below = rw b (mod-lt t some);
      leads = λ x e. (
          let e' : slice_get (nonzero_lists q (w - 1 - i)) (t % (q - 1) ^ (w - 1 - i)) ≡ Some x = rw b at e in
          let at : slice_get (nonzero_lists q (w - i)) t ≡ Some (d ∷ x) = rw (a, digit) (nonzero_digit q (w - 1 - i) t x below e') in
          h.leads (d ∷ x) at ∙ ap Some (sym (ap (λ y. y ++ x) is ∙ append_assoc u (d ∷ []) x)));
    }

pub digit_few : (q w r i : ℕ) (u : List ℕ) (t : ℕ) → 2 ≤ q → EntriesSoFar q w r i u t → i < w → t / (q - 1) ^ (w - 1 - i) < q - 1
digit_few q w r i u t size h inside =
    let a : w - i ≡ suc (w - 1 - i) = omega arith in
    let some : 1 ≤ (q - 1) ^ (w - 1 - i) = one-le-pow (w - 1 - i) (q - 1) (omega arith) in
    let below : t < (q - 1) ^ suc (w - 1 - i) = rw a at h.below in
    div_below t ((q - 1) ^ (w - 1 - i)) (q - 1) some (omega (arith, below, pow-suc (q - 1) (w - 1 - i)))

pub nothing : (q : ℕ) → slice_get (nonzero_lists q 0) 0 ≡ Some []
unfolding nonzero_lists
nothing q = refl

pub entries_end : (q w r : ℕ) (u : List ℕ) (t : ℕ) → EntriesSoFar q w r w u t → slice_get (leading_lists q w) r ≡ Some u
entries_end q w r u t h =
    let none : w - w ≡ 0 = omega arith in
    let below : t < (q - 1) ^ 0 = rw none at h.below in
    let zero : t ≡ 0 = omega (arith, below, pow-zero (q - 1)) in
    let at : slice_get (nonzero_lists q (w - w)) t ≡ Some [] = rw (none, zero) (nothing q) in
    h.leads [] at ∙ ap Some (append-nil u)

-- the message at a place of its level
pub message_from_parts : (k q w r : ℕ) (s u : List ℕ) → slice_get (supports_from 0 k w) (r / (q - 1) ^ (w - 1)) ≡ Some s → slice_get (leading_lists q w) (r % (q - 1) ^ (w - 1)) ≡ Some u → slice_get (messages k q w) r ≡ Some (message_of s u)
message_from_parts k q w r s u e d =
    let place : r ≡ r / (q - 1) ^ (w - 1) * length (leading_lists q w) + r % (q - 1) ^ (w - 1) = sym (div-add-mod' r ((q - 1) ^ (w - 1))) ∙ ap (λ a. r / (q - 1) ^ (w - 1) * a + r % (q - 1) ^ (w - 1)) (sym (length-leading_lists q w)) in
    ap (slice_get (messages k q w)) place ∙ message_at k q w (r / (q - 1) ^ (w - 1)) (r % (q - 1) ^ (w - 1)) s u (ap (λ l. slice_get l (r / (q - 1) ^ (w - 1))) (supports_are k w) ∙ e) d

pub support_rest : (k w r i : ℕ) (s : List ℕ) (t : ℕ) → SupportSoFar k w r i s t → w ≤ length s → SupportSoFar k w r (i + 1) s t
support_rest k w r i s t h whole =
    let none : w - length s ≡ 0 = omega arith in
    let below : t < choose (k - i) 0 = rw none at h.below in
    record {
      few = h.few;
      below = rw none (omega (arith, below, choose_nothing (k - i), choose_nothing (k - (i + 1))));
      leads = λ v e. (
          let e' : slice_get (supports_from (i + 1) (k - (i + 1)) 0) t ≡ Some v = rw none at e in
          let p = only_nil (i + 1) (k - (i + 1)) t v e' in
          let at : slice_get (supports_from i (k - i) (w - length s)) t ≡ Some v = rw (none, p.0, p.1) (supports_nothing i (k - i)) in
          h.leads v at);
    }

pub entry_at : (n j : ℕ) → j < 256 → choose_entry (n * 256 + j) ≡ min (choose n j) (2 ^ 53)
entry_at n j l =
    let row : (n * 256 + j) / 256 ≡ n = omega arith in
    let column : (n * 256 + j) % 256 ≡ j = omega arith in
    ap (λ a. min (choose a ((n * 256 + j) % 256)) (2 ^ 53)) row ∙ ap (λ a. min (choose n a) (2 ^ 53)) column

pub take_entry : (k w r i c n : ℕ) (s v : List ℕ) (t : ℕ) → SupportSoFar k w r i s t → n ≡ length s → i < k → k ≤ 255 → n < w → w ≤ k → c ≡ choose_entry ((k - i - 1) * 256 + (w - n - 1)) → t < c → v ≡ s ++ i ∷ [] → SupportSoFar k w r (i + 1) v t
take_entry k w r i c n s v t h many inside small few level e take is =
    let e' : c ≡ choose_entry ((k - i - 1) * 256 + (w - length s - 1)) = rw many at e in
    support_take k w r i s v t h inside (omega (arith, few, many)) (omega (arith, e', take, entry_at (k - i - 1) (w - length s - 1) (omega arith))) is

pub leave_entry : (k w r i c n : ℕ) (s : List ℕ) (t : ℕ) → SupportSoFar k w r i s t → n ≡ length s → i < k → k ≤ 255 → n < w → w ≤ k → t < 2 ^ 52 → c ≡ choose_entry ((k - i - 1) * 256 + (w - n - 1)) → c ≤ t → SupportSoFar k w r (i + 1) s (t - c)
leave_entry k w r i c n s t h many inside small few level below e leave =
    let e' : c ≡ choose_entry ((k - i - 1) * 256 + (w - length s - 1)) = rw many at e in
    let at : choose_entry ((k - i - 1) * 256 + (w - length s - 1)) ≡ min (choose (k - i - 1) (w - length s - 1)) (2 ^ 53) = entry_at (k - i - 1) (w - length s - 1) (omega arith) in
    let exact : c ≡ choose (k - i - 1) (w - length s - 1) = omega (arith, e', at, leave, below) in
    support_leave k w r i c s t h inside (omega (arith, few, many)) (omega (arith, exact, leave)) exact

mod_le : (t n : ℕ) → t % n ≤ t
mod_le t n = omega (arith, div-add-mod' t n)

-- one entry more, from the capped power of the table
pub record PutsEntry (q w r i : ℕ) (u v : List ℕ) (t d : ℕ) : Type 0 where
  pub some : 0 < d
  pub few : t / d + 1 < q
  pub so_far : v ≡ u ++ (1 + t / d) ∷ [] → EntriesSoFar q w r (i + 1) v (t % d)
  pub small : t % d ≤ t

pub puts_entry : (q w r i : ℕ) (u v : List ℕ) (t d : ℕ) → 2 ≤ q → EntriesSoFar q w r i u t → i < w → t < 2 ^ 52 → d ≡ power_entry q (w - 1 - i) → PutsEntry q w r i u v t d
puts_entry q w r i u v t d size h inside small e =
    let some : 1 ≤ (q - 1) ^ (w - 1 - i) = one-le-pow (w - 1 - i) (q - 1) (omega arith) in
    let same = divided ((q - 1) ^ (w - 1 - i)) t some (omega (arith, small)) in
    let few : t / (q - 1) ^ (w - 1 - i) < q - 1 = digit_few q w r i u t size h inside in
    rw e (record {
      some = same.2;
      few = omega (arith, same.0, few);
      so_far = λ is. rw same.1 (entries_more q w r i u v t (1 + t / (q - 1) ^ (w - 1 - i)) size h inside refl (rw same.0 at is));
      small = omega (arith, same.1, mod_le t ((q - 1) ^ (w - 1 - i)));
    })

pub ruleset fill_support_laws = (support_start, support_end)

pub ruleset fill_coefficients_laws = (entries_start, entries_end)
