-- The blocks of phases.
--   cut_is                     the value of the cut
--   blocks_rise, blocks_least  the blocks before a phase are no fewer than those before an earlier one
--   start_is, end_is           where a phase starts and ends
--   Within, within             a block of a phase is below the cut, and between the blocks before the phase and after it
--   one_phase                  a block belongs to one phase
--   find_only                  a test that one element alone passes finds it
--   phase_is                   the phase of a block is found
use Rattle.std.proofs.Common.{◌≡◌, ℕ, zero, suc, ◌+◌, ◌-◌, ◌*◌, ◌^◌, ◌<◌, ◌≤◌, min, Bool, true, ◌&&◌, nat_le, nat_lt, find, List, [], ◌∷◌, Some, Contains, refl, sym, ap, ◌∙◌, ⊎_elim, arith}
use Rattle.std.proofs.lemmas.Bool.{cases_lt, cases_Bool, and_from, and_parts, false≢true, leb-true, ltb-true, le-leb, lt-ltb}
use Rattle.lc_algebra.specs.Span.{below}
use Rattle.lc_algebra.proofs.SpanLaws.{contains_head, contains_tail, contains_cases, contains_below, below_contains}
use Rattle.lc_enumeration.specs.Plan.{cut, phase_at, phase_of, blocks_before, IsInPhase}

pub cut_is : cut ≡ 2 ^ 40
unfolding cut
cut_is = refl

pub blocks_rise : (k q m p j : ℕ) → blocks_before k q m p ≤ blocks_before k q m (p + j)
unfolding blocks_before
blocks_rise k q m p zero = let f : p + 0 ≡ p = omega arith in rw f (omega arith)
blocks_rise k q m p (suc j) = let f : p + suc j ≡ suc (p + j) = omega arith in rw f (omega (arith, blocks_rise k q m p j))

pub blocks_least : (k q m p r : ℕ) → p ≤ r → blocks_before k q m p ≤ blocks_before k q m r
blocks_least k q m p r l = let e : p + (r - p) ≡ r = omega (arith, l) in rw e at (blocks_rise k q m p (r - p))

pub start_is : (k q m p : ℕ) → (phase_at k q m p).start ≡ min (blocks_before k q m p) cut
unfolding phase_at
start_is k q m p = refl

pub end_is : (k q m p : ℕ) → (phase_at k q m p).end ≡ min (blocks_before k q m (suc p)) cut
unfolding phase_at
end_is k q m p = refl

pub record Within (k q m p b : ℕ) : Type 0 where
  pub below_cut : b < 2 ^ 40
  pub start : (phase_at k q m p).start ≡ blocks_before k q m p
  pub after : blocks_before k q m p ≤ b
  pub before : b < blocks_before k q m (suc p)

pub within : (k q m p b : ℕ) → IsInPhase k q m p b → Within k q m p b
within k q m p b h =
    let c : cut ≡ 2 ^ 40 = cut_is in
    record {
      below_cut = omega (arith, h.before, end_is k q m p);
      start = omega (arith, h.after, h.before, start_is k q m p, end_is k q m p);
      after = omega (arith, h.after, h.before, start_is k q m p, end_is k q m p);
      before = omega (arith, h.before, end_is k q m p);
    }

not_later : (k q m p r b : ℕ) → IsInPhase k q m p b → IsInPhase k q m r b → p < r → ⊥
not_later k q m p r b h i l = omega (arith, (within k q m p b h).before, (within k q m r b i).after, blocks_least k q m (suc p) r l)

pub one_phase : (k q m p r b : ℕ) → IsInPhase k q m p b → IsInPhase k q m r b → p ≡ r
one_phase k q m p r b h i =
    ⊎_elim
    (λ l. absurd (not_later k q m p r b h i l))
    (λ l. ⊎_elim (λ n. absurd (not_later k q m r p b i h n)) (λ n. omega (arith, l, n)) (cases_lt r p))
    (cases_lt p r)

pub find_only : {X : Type 0} (p : X → Bool) (xs : List X) (x : X) → Contains xs x → p x ≡ true → ((y : X) → Contains xs y → p y ≡ true → y ≡ x) → find p xs ≡ Some x
find_only p [] x (k, l, s) t one = absurd (omega (arith, l))
find_only p (y ∷ xs) x l t one =
    ⊎_elim
    (λ e. rw e (ap Some (one y (contains_head y xs) e)))
    (λ e. rw e (find_only p xs x
    (⊎_elim (λ s. absurd (false≢true (sym e ∙ ap p s ∙ t))) (λ r. r) (contains_cases y x xs l))
    t (λ z r u. one z (contains_tail y z xs r) u)))
    (cases_Bool (p y))

pub phase_is : (k q m p b : ℕ) → IsInPhase k q m p b → phase_of k q m b ≡ Some p
unfolding phase_of
phase_is k q m p b h =
    find_only (λ r. nat_le (phase_at k q m r).start b && nat_lt b (phase_at k q m r).end) (below (k * m)) p
    (below_contains (k * m) p h.phase)
    (and_from (nat_le (phase_at k q m p).start b) (nat_lt b (phase_at k q m p).end) (le-leb (phase_at k q m p).start b h.after) (lt-ltb b (phase_at k q m p).end h.before))
    (λ r l t.
    let a = and_parts (nat_le (phase_at k q m r).start b) (nat_lt b (phase_at k q m r).end) t in
    one_phase k q m r p b (record {
      phase = contains_below (k * m) r l;
      after = leb-true (phase_at k q m r).start b a.0;
      before = ltb-true b (phase_at k q m r).end a.1;
    }) h)
