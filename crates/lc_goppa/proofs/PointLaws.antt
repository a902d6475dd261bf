-- Points that occur twice, found one after another.
--   first_told             a search stops at the first number that passes
--   find_before, find_last, find_none, find_told       the first of the numbers below n that passes
--   index_told             the first index of a point
--   repeated_told, repeated_none      the first point that an earlier one is equal to
--   all_apart              points are distinct if each is the first of its kind
use Rattle.std.proofs.Common.{◌≡◌, ◌≢◌, ℕ, zero, suc, ◌+◌, ◌<◌, ◌≤◌, Bool, true, false, ◌==◌, nat_lt, List, [], ◌∷◌, ◌++◌, length, find, slice_index, AllPairs, Some, None, option_map, refl, sym, ap, subst, ◌∙◌, ⊎_elim, arith}
use Rattle.std.proofs.lemmas.Bool.{cases_Bool, cases_lt, cases_eq, eq-eqb, ne_eqb}
use Rattle.std.proofs.lemmas.Bool.Decides.{Decides-ltb}
use Rattle.std.proofs.lemmas.List.{get_or_default}
use Rattle.std.proofs.lemmas.Option.{none-some}
use Rattle.lc_algebra.specs.Embedding.{first_from, first_that}
use Rattle.lc_algebra.specs.Span.{below}
use Rattle.lc_algebra.proofs.CommonLaws.{find_here, find_later}
use Rattle.lc_constructions.specs.declared.refusal.CodeRefusal.TheVariants.{RepeatedPoint}
use Rattle.lc_constructions.specs.Refusals.{first_index, repeated_point}
use Rattle.lc_constructions.proofs.InverseLaws.{goes_on, stops}

above : (a b : ℕ) → a ≤ b → (b ≡ a → ⊥) → suc a ≤ b
above a b l n = ⊎_elim (λ m. m) (λ m. absurd (n (omega (arith, l, m)))) (cases_lt a b)

first_told : (test : ℕ → Bool) (start count i : ℕ) → start ≤ i → i < start + count → test i ≡ true → ((k : ℕ) → start ≤ k → k < i → test k ≡ false) → first_from test start count ≡ i
first_told test start zero i l m t h = absurd (omega (arith, l, m))
first_told test start (suc count) i l m t h =
    ⊎_elim
    (λ e. let s : test start ≡ true = subst (λ k. test k ≡ true) e t in stops test start count s ∙ sym e)
    (λ n.
    let d : suc start ≤ i = above start i l n in
    goes_on test start count (h start (omega arith) (omega (arith, d))) ∙ first_told test (suc start) count i d (omega (arith, m)) t (λ k a b. h k (omega (arith, a)) b))
    (cases_eq i start)

find_before : (p : ℕ → Bool) (xs ys : List ℕ) (x : ℕ) → find p xs ≡ Some x → find p (xs ++ ys) ≡ Some x
find_before p [] ys x h = absurd (none-some x h)
find_before p (a ∷ xs) ys x h =
    ⊎_elim
    (λ e. find_here p a (xs ++ ys) e ∙ sym (find_here p a xs e) ∙ h)
    (λ e. find_later p a (xs ++ ys) e ∙ find_before p xs ys x (sym (find_later p a xs e) ∙ h))
    (cases_Bool (p a))

find_last : (p : ℕ → Bool) (xs ys : List ℕ) → find p xs ≡ None → find p (xs ++ ys) ≡ find p ys
find_last p [] ys h = refl
find_last p (a ∷ xs) ys h =
    ⊎_elim
    (λ e. absurd (none-some a (sym h ∙ find_here p a xs e)))
    (λ e. find_later p a (xs ++ ys) e ∙ find_last p xs ys (sym (find_later p a xs e) ∙ h))
    (cases_Bool (p a))

pub find_none : (p : ℕ → Bool) (n : ℕ) → ((k : ℕ) → k < n → p k ≡ false) → find p (below n) ≡ None
unfolding below
find_none p zero h = refl
find_none p (suc n) h = find_last p (below n) (n ∷ []) (find_none p n (λ k l. h k (omega (arith, l)))) ∙ find_later p n [] (h n (omega arith))

pub find_told : (p : ℕ → Bool) (n j : ℕ) → j < n → p j ≡ true → ((k : ℕ) → k < j → p k ≡ false) → find p (below n) ≡ Some j
unfolding below
find_told p zero j l t h = absurd (omega (arith, l))
find_told p (suc n) j l t h =
    ⊎_elim
    (λ m. find_before p (below n) (n ∷ []) j (find_told p n j m t h))
    (λ m.
    let e : j ≡ n = omega (arith, l, m) in
    find_last p (below n) (n ∷ []) (find_none p n (λ k q. h k (omega (arith, q, e)))) ∙ find_here p n [] (subst (λ k. p k ≡ true) e t) ∙ ap Some (sym e))
    (cases_lt j n)

pub index_told : (xs : List ℕ) (j i : ℕ) → i ≤ j → j < length xs → slice_index xs i ≡ slice_index xs j → ((k : ℕ) → k < i → slice_index xs k ≢ slice_index xs j) → i ≡ first_index xs j
unfolding first_index first_that
index_told xs j i l m e h =
    sym (first_told (λ k. slice_index xs k == slice_index xs j) 0 (length xs) i (omega arith) (omega (arith, l, m)) (eq-eqb (slice_index xs i) (slice_index xs j) e) (λ k a b. ne_eqb (slice_index xs k) (slice_index xs j) (h k b)))

abbrev repeats : List ℕ → ℕ → Bool
repeats xs j = nat_lt (first_index xs j) j

not_below : (a b : ℕ) → (a < b → ⊥) → nat_lt a b ≡ false
not_below a b h = ⊎_elim (λ t. absurd (h ((Decides-ltb a b).0 t))) (λ t. t) (cases_Bool (nat_lt a b))

pub repeated_told : (xs : List ℕ) (j i : ℕ) → j < length xs → i ≡ first_index xs j → i < j → ((k : ℕ) → k < j → k ≤ first_index xs k) → Some (RepeatedPoint i j) ≡ repeated_point xs
unfolding repeated_point
repeated_told xs j i l e m h =
    let t : find (repeats xs) (below (length xs)) ≡ Some j = find_told (repeats xs) (length xs) j l ((Decides-ltb (first_index xs j) j).1 (omega (arith, m, e))) (λ k q. not_below (first_index xs k) k (λ r. omega (arith, r, h k q))) in
    ap (λ x. Some (RepeatedPoint x j)) e ∙ sym (ap (λ o. option_map (λ j. RepeatedPoint (first_index xs j) j) o) t)

pub repeated_none : (xs : List ℕ) → ((k : ℕ) → k < length xs → k ≤ first_index xs k) → None ≡ repeated_point xs
unfolding repeated_point
repeated_none xs h =
    let t : find (repeats xs) (below (length xs)) ≡ None = find_none (repeats xs) (length xs) (λ k q. not_below (first_index xs k) k (λ r. omega (arith, r, h k q))) in
    sym (ap (λ o. option_map (λ j. RepeatedPoint (first_index xs j) j) o) t)

pub all_apart : (xs : List ℕ) → ((k i : ℕ) → k < length xs → i < k → slice_index xs i ≢ slice_index xs k) → AllPairs (λ a b. a ≢ b) xs
all_apart xs h i j d l m e =
    h j i m l (sym (get_or_default xs i d 0 (omega (arith, l, m))) ∙ e ∙ get_or_default xs j d 0 m)

pub ruleset repeated_point_laws = (repeated_told, repeated_none, all_apart)
