-- The columns of a Hamming code's parity-check matrix, from those with one entry fewer.
--   columns_none          there are none without entries
--   columns_step          those that begin with 0 go on with such a column, those that begin with 1 with any list
use Rattle.std.proofs.Common.{◌≡◌, ℕ, zero, suc, ◌-◌, ◌<◌, Bool, true, false, List, [], ◌∷◌, ◌++◌, map, flat_map, refl, ap, ap₂, subst, ◌∙◌, ◌==◌, ⊎_elim, arith}
use Rattle.std.specs.Prelude.{filter}
use Rattle.std.proofs.lemmas.Bool.{cases_Bool, eqb-true}
use Rattle.std.proofs.lemmas.List.{append-nil}
use Rattle.std.proofs.lemmas.List.Elements.{filter-append}
use Rattle.std.proofs.lemmas.Grind.{flat_map-append}
use Rattle.lc_algebra.specs.Span.{below}
use Rattle.lc_constructions.specs.Basic.{all_lists, begins_with_one, hamming_columns}

pub columns_none : (q : ℕ) → hamming_columns q 0 ≡ []
unfolding all_lists begins_with_one hamming_columns
columns_none q = refl

filter_flat : {X Y : Type 0} (p : Y → Bool) (h : X → List Y) (xs : List X) → filter p (flat_map h xs) ≡ flat_map (λ x. filter p (h x)) xs
filter_flat p h [] = refl
filter_flat p h (x ∷ xs) = filter-append p (h x) (flat_map h xs) ∙ ap (λ t. filter p (h x) ++ t) (filter_flat p h xs)

two_of_all : (g : ℕ → List (List ℕ)) (m : ℕ) → ((c : ℕ) → g (suc (suc c)) ≡ []) → flat_map g (below (suc (suc m))) ≡ g 0 ++ g 1
unfolding below
two_of_all g zero h = ap (λ t. g 0 ++ t) (append-nil (g 1))
two_of_all g (suc m) h =
    flat_map-append g (below (suc (suc m))) (suc (suc m) ∷ []) ∙ ap₂ (λ s t. s ++ (t ++ [])) (two_of_all g m h) (h m) ∙ append-nil (g 0 ++ g 1)

zeros_step : (u : List ℕ) (us : List (List ℕ)) (b : Bool) → begins_with_one u ≡ b → filter begins_with_one (map (λ u. 0 ∷ u) us) ≡ map (λ u. 0 ∷ u) (filter begins_with_one us) → filter begins_with_one (map (λ u. 0 ∷ u) (u ∷ us)) ≡ map (λ u. 0 ∷ u) (filter begins_with_one (u ∷ us))
unfolding begins_with_one
zeros_step u us true e h = rw e (ap (λ t. (0 ∷ u) ∷ t) h)
zeros_step u us false e h = rw e h

zeros_before : (us : List (List ℕ)) → filter begins_with_one (map (λ u. 0 ∷ u) us) ≡ map (λ u. 0 ∷ u) (filter begins_with_one us)
zeros_before [] = refl
zeros_before (u ∷ us) = zeros_step u us (begins_with_one u) refl (zeros_before us)

ones_before : (us : List (List ℕ)) → filter begins_with_one (map (λ u. 1 ∷ u) us) ≡ map (λ u. 1 ∷ u) us
unfolding begins_with_one
ones_before [] = refl
ones_before (u ∷ us) = ap (λ t. (1 ∷ u) ∷ t) (ones_before us)

not_one : (c : ℕ) → (suc (suc c) == 1) ≡ false
not_one c = ⊎_elim (λ t. absurd (omega (arith, eqb-true (suc (suc c)) 1 t))) (λ e. e) (cases_Bool (suc (suc c) == 1))

not_zero : (c : ℕ) → (suc (suc c) == 0) ≡ false
not_zero c = ⊎_elim (λ t. absurd (omega (arith, eqb-true (suc (suc c)) 0 t))) (λ e. e) (cases_Bool (suc (suc c) == 0))

other_start : (c : ℕ) (u : List ℕ) → begins_with_one (suc (suc c) ∷ u) ≡ false
unfolding begins_with_one
other_start c u = rw (not_zero c) (not_one c)

skipped : (p : List ℕ → Bool) (u : List ℕ) (us : List (List ℕ)) → p u ≡ false → filter p (u ∷ us) ≡ filter p us
skipped p u us e = rw e refl

others_before : (c : ℕ) (us : List (List ℕ)) → filter begins_with_one (map (λ u. suc (suc c) ∷ u) us) ≡ []
others_before c [] = refl
others_before c (u ∷ us) = skipped begins_with_one (suc (suc c) ∷ u) (map (λ u. suc (suc c) ∷ u) us) (other_start c u) ∙ others_before c us

step_above : (m r : ℕ) → hamming_columns (suc (suc m)) (suc r) ≡ map (λ u. 0 ∷ u) (hamming_columns (suc (suc m)) r) ++ map (λ u. 1 ∷ u) (all_lists (suc (suc m)) r)
unfolding all_lists hamming_columns
step_above m r =
    let q = suc (suc m) in
    let us = all_lists q r in
    let g : ℕ → List (List ℕ) = λ c. filter begins_with_one (map (λ u. c ∷ u) us) in
    filter_flat begins_with_one (λ c. map (λ u. c ∷ u) us) (below q) ∙ two_of_all g m (λ c. others_before c us) ∙ ap₂ (λ s t. s ++ t) (zeros_before us) (ones_before us)

pub columns_step : (q r : ℕ) → 1 < q → hamming_columns q (suc r) ≡ map (λ u. 0 ∷ u) (hamming_columns q r) ++ map (λ u. 1 ∷ u) (all_lists q r)
columns_step q r l =
    let e : suc (suc (q - 2)) ≡ q = omega (arith, l) in
    subst (λ k. hamming_columns k (suc r) ≡ map (λ u. 0 ∷ u) (hamming_columns k r) ++ map (λ u. 1 ∷ u) (all_lists k r)) e (step_above (q - 2) r)

pub ruleset hamming_columns_one_more_laws = (columns_none, columns_step)
