-- Lists of numbers that rise, by their neighbours.
--   rising_at, rising_all, rising_not     a list passes the test exactly if each entry is above the one before it
use Rattle.std.proofs.Common.{◌≡◌, ℕ, zero, suc, ◌-◌, ◌<◌, List, ◌∷◌, slice_index, arith, true, nat_lt, [], length, subst, refl, ◌≤◌, false, ⊎_elim}
use Rattle.std.proofs.lemmas.Bool.{and_parts, ltb-true, and_from, lt-ltb, cases_Bool}
use Rattle.lc_constructions.specs.Refusals.{is_rising}

pub later : (a : ℕ) (xs : List ℕ) (j : ℕ) → 0 < j → slice_index (a ∷ xs) j < slice_index (a ∷ xs) (suc j) → slice_index xs (j - 1) < slice_index xs j
later a xs zero l h = absurd (omega (arith, l))
later a xs (suc j) l h = let e : suc j - 1 ≡ j = omega arith in rw e h

pub rising_at : (xs : List ℕ) → is_rising xs ≡ true → (j : ℕ) → 0 < j → j < length xs → slice_index xs (j - 1) < slice_index xs j
unfolding is_rising
rising_at [] r j l m = absurd (omega (arith, m))
rising_at (a ∷ []) r j l m = absurd (omega (arith, l, m))
rising_at (a ∷ b ∷ xs) r zero l m = absurd (omega (arith, l))
rising_at (a ∷ b ∷ xs) r (suc zero) l m = ltb-true a b (and_parts (nat_lt a b) (is_rising (b ∷ xs)) r).0
rising_at (a ∷ b ∷ xs) r (suc (suc j)) l m =
    let t = rising_at (b ∷ xs) (and_parts (nat_lt a b) (is_rising (b ∷ xs)) r).1 (suc j) (omega arith) (omega (arith, m)) in
    let e : suc j - 1 ≡ j = omega arith in
    let d : suc (suc j) - 1 ≡ suc j = omega arith in
    rw d (subst (λ k. slice_index (b ∷ xs) k < slice_index (b ∷ xs) (suc j)) e t)

pub rising_all : (xs : List ℕ) → ((j : ℕ) → 0 < j → j < length xs → slice_index xs (j - 1) < slice_index xs j) → is_rising xs ≡ true
unfolding is_rising
rising_all [] h = refl
rising_all (a ∷ []) h = refl
rising_all (a ∷ b ∷ xs) h = and_from (nat_lt a b) (is_rising (b ∷ xs)) (lt-ltb a b (h 1 (omega arith) (omega arith))) (rising_all (b ∷ xs) (λ j l m. later a (b ∷ xs) j l (let e : suc j - 1 ≡ j = omega arith in subst (λ k. slice_index (a ∷ b ∷ xs) k < slice_index (a ∷ b ∷ xs) (suc j)) e (h (suc j) (omega arith) (omega (arith, m))))))

pub rising_not : (xs : List ℕ) (i : ℕ) → 0 < i → i < length xs → slice_index xs i ≤ slice_index xs (i - 1) → is_rising xs ≡ false
rising_not xs i l m k =
    ⊎_elim
    (λ t. absurd (omega (arith, k, rising_at xs t i l m)))
    (λ t. t)
    (cases_Bool (is_rising xs))

pub ruleset is_rising_laws = (rising_all, rising_not)
