-- How long a word is without some of its coordinates.
--   without_skip           a coordinate before the first one of a word takes nothing away
--   length_without_from, length_without      a word loses as many symbols as there are coordinates, if these rise and are its own
--   weight_removed         each symbol that is left out takes at most 1 from the weight
--   deleted_fine, deleted_length      coordinates that aren't refused are such
--   punctured_linear, shortened_linear      so punctured and shortened codes are linear codes of that length
use Rattle.std.proofs.Common.{◌≡◌, ℕ, suc, ◌+◌, ◌-◌, ◌<◌, ◌≤◌, Bool, true, false, cond, not, nat_le, ◌==◌, ◌||◌, List, [], ◌∷◌, length, None, is_some, Contains, refl, sym, ap, ◌∙◌, ⊎_elim, arith, true≢false}
use Rattle.std.specs.List.{list_any}
use Rattle.std.proofs.lemmas.Bool.{cases_Bool, cases_eq, cases_lt, or_parts, eqb-true, eq-eqb, le-leb}
use Rattle.lc_algebra.specs.Word.{zero_word, weight}
use Rattle.lc_algebra.specs.Matrix.{Matrix, AreRows}
use Rattle.lc_algebra.proofs.WordLaws.{length_zero_word, weight_cons, weight_cons_at_most}
use Rattle.lc_algebra.proofs.SpanLaws.{contains_head, contains_tail, contains_cases}
use Rattle.lc_algebra.proofs.SpanSearch.{any_contains, contains_any}
use Rattle.lc_constructions.specs.declared.refusal.CodeRefusal.TheVariants.{BadPositions}
use Rattle.lc_constructions.specs.Code.{IsClosed}
use Rattle.lc_constructions.specs.Combined.{without_from, without, InPunctured, InShortened}
use Rattle.lc_constructions.specs.Refusal.{refuse_if, first_refusal}
use Rattle.lc_constructions.specs.Refusals.{is_rising, deleted_refusals}
use Rattle.lc_constructions.proofs.LocatorLaws.{rising_head, rising_tail}
use Rattle.lc_constructions.proofs.ClosedLaws.{punctured_closed, shortened_closed}

no_match : (i : ℕ) (coordinates : List ℕ) → ((q : ℕ) → Contains coordinates q → i < q) → list_any (λ p. i == p) coordinates ≡ false
no_match i coordinates h =
    ⊎_elim
    (λ t. let (q, c, e) = any_contains (λ p. i == p) coordinates t in absurd (omega (arith, h q c, eqb-true i q e)))
    (λ t. t)
    (cases_Bool (list_any (λ p. i == p) coordinates))

pub kept : (i : ℕ) (coordinates : List ℕ) (a : ℕ) (w : List ℕ) → list_any (λ p. i == p) coordinates ≡ false → without_from i coordinates (a ∷ w) ≡ a ∷ without_from (suc i) coordinates w
unfolding without_from
kept i coordinates a w e = rw e refl

pub taken : (i : ℕ) (coordinates : List ℕ) (a : ℕ) (w : List ℕ) → list_any (λ p. i == p) coordinates ≡ true → without_from i coordinates (a ∷ w) ≡ without_from (suc i) coordinates w
unfolding without_from
taken i coordinates a w e = rw e refl

other_match : (i p : ℕ) (coordinates : List ℕ) (b : Bool) → p < i → list_any (λ q. i == q) coordinates ≡ b → list_any (λ q. i == q) (p ∷ coordinates) ≡ b
other_match i p coordinates b l e =
    let n : (i == p) ≡ false = ⊎_elim (λ t. absurd (omega (arith, l, eqb-true i p t))) (λ t. t) (cases_Bool (i == p)) in
    rw n e

without_skip : (i p : ℕ) (coordinates w : List ℕ) → p < i → without_from i (p ∷ coordinates) w ≡ without_from i coordinates w
unfolding without_from
without_skip i p coordinates [] l = refl
without_skip i p coordinates (a ∷ w) l =
    ⊎_elim
    (λ t. taken i (p ∷ coordinates) a w (other_match i p coordinates true l t) ∙ without_skip (suc i) p coordinates w (omega (arith, l)) ∙ sym (taken i coordinates a w t))
    (λ t. kept i (p ∷ coordinates) a w (other_match i p coordinates false l t) ∙ ap (λ u. a ∷ u) (without_skip (suc i) p coordinates w (omega (arith, l))) ∙ sym (kept i coordinates a w t))
    (cases_Bool (list_any (λ q. i == q) coordinates))

none_left : (i : ℕ) → length (without_from i [] []) + 0 ≡ 0
unfolding without_from
none_left i = refl

pub length_without_from : (i : ℕ) (coordinates w : List ℕ) → is_rising coordinates ≡ true → ((q : ℕ) → Contains coordinates q → i ≤ q) → ((q : ℕ) → Contains coordinates q → q < i + length w) → length (without_from i coordinates w) + length coordinates ≡ length w
length_without_from i [] [] r low high = none_left i
length_without_from i (p ∷ coordinates) [] r low high = absurd (omega (arith, low p (contains_head p coordinates), high p (contains_head p coordinates)))
length_without_from i [] (a ∷ w) r low high =
    omega (arith, ap (λ u. length u) (kept i [] a w (no_match i [] (λ q c. absurd (omega (arith, c.1))))), length_without_from (suc i) [] w r (λ q c. absurd (omega (arith, c.1))) (λ q c. absurd (omega (arith, c.1))))
length_without_from i (p ∷ coordinates) (a ∷ w) r low high =
    let above : (q : ℕ) → Contains coordinates q → p < q = λ q c. rising_head p coordinates q r c in
    ⊎_elim
    (λ e.
    let t : list_any (λ q. i == q) (p ∷ coordinates) ≡ true = contains_any (λ q. i == q) (p ∷ coordinates) p (contains_head p coordinates) (eq-eqb i p e) in
    let s : without_from i (p ∷ coordinates) (a ∷ w) ≡ without_from (suc i) coordinates w = taken i (p ∷ coordinates) a w t ∙ without_skip (suc i) p coordinates w (omega (arith, e)) in
    omega (arith, ap (λ u. length u) s, length_without_from (suc i) coordinates w (rising_tail p coordinates r) (λ q c. omega (arith, above q c, e)) (λ q c. omega (arith, high q (contains_tail p q coordinates c)))))
    (λ n.
    let less : i < p = omega (arith, low p (contains_head p coordinates), n) in
    let each : (q : ℕ) → Contains (p ∷ coordinates) q → i < q = λ q c. ⊎_elim (λ e. omega (arith, less, e)) (λ k. omega (arith, less, above q k)) (contains_cases p q coordinates c) in
    omega (arith, ap (λ u. length u) (kept i (p ∷ coordinates) a w (no_match i (p ∷ coordinates) each)), length_without_from (suc i) (p ∷ coordinates) w r (λ q c. omega (arith, each q c)) (λ q c. omega (arith, high q c))))
    (cases_eq i p)

pub length_without : (n : ℕ) (coordinates w : List ℕ) → length w ≡ n → is_rising coordinates ≡ true → list_any (nat_le n) coordinates ≡ false → length (without coordinates w) ≡ n - length coordinates
unfolding without
length_without n coordinates w e r o =
    let high : (q : ℕ) → Contains coordinates q → q < 0 + length w = λ q c. ⊎_elim (λ l. omega (arith, l, e)) (λ l. absurd (true≢false (sym (contains_any (nat_le n) coordinates q c (le-leb n q l)) ∙ o))) (cases_lt q n) in
    omega (arith, e, length_without_from 0 coordinates w r (λ q c. omega arith) high)

not_refused : (b : Bool) → first_refusal (refuse_if b BadPositions ∷ []) ≡ None → b ≡ false
unfolding first_refusal refuse_if
not_refused true h = absurd (true≢false (ap is_some h))
not_refused false h = refl

pub not_not : (b : Bool) → not b ≡ false → b ≡ true
not_not true h = refl
not_not false h = absurd (true≢false h)

pub deleted_fine : (C : Matrix) (coordinates : List ℕ) → first_refusal (deleted_refusals C coordinates) ≡ None → (is_rising coordinates ≡ true) × (list_any (nat_le C.columns) coordinates ≡ false)
unfolding deleted_refusals
deleted_fine C coordinates h =
    let t = or_parts (not (is_rising coordinates)) (list_any (nat_le C.columns) coordinates || (length coordinates == C.columns)) (not_refused (not (is_rising coordinates) || (list_any (nat_le C.columns) coordinates || (length coordinates == C.columns))) h) in
    (not_not (is_rising coordinates) t.0, (or_parts (list_any (nat_le C.columns) coordinates) (length coordinates == C.columns) t.1).0)

pub deleted_length : (C : Matrix) (coordinates : List ℕ) → first_refusal (deleted_refusals C coordinates) ≡ None → length (without coordinates (zero_word C.columns)) ≡ C.columns - length coordinates
deleted_length C coordinates h = let t = deleted_fine C coordinates h in length_without C.columns coordinates (zero_word C.columns) (length_zero_word C.columns) t.0 t.1

-- ---- the codes that a constructor may ask for

pub punctured_linear : (C : Matrix) (coordinates : List ℕ) → AreRows C.field C.columns C.rows → first_refusal (deleted_refusals C coordinates) ≡ None → IsClosed C.field (C.columns - length coordinates) (InPunctured C coordinates)
punctured_linear C coordinates r h = punctured_closed C coordinates (C.columns - length coordinates) r (deleted_length C coordinates h)

pub shortened_linear : (C : Matrix) (coordinates : List ℕ) → AreRows C.field C.columns C.rows → first_refusal (deleted_refusals C coordinates) ≡ None → IsClosed C.field (C.columns - length coordinates) (InShortened C coordinates)
shortened_linear C coordinates r h = shortened_closed C coordinates (C.columns - length coordinates) r (deleted_length C coordinates h)

cond_removed : (t : Bool) (a : ℕ) (u x : List ℕ) → weight u + length x ≤ weight x + length u → weight (a ∷ u) + length (cond t x (a ∷ x)) ≤ weight (cond t x (a ∷ x)) + length (a ∷ u)
cond_removed true a u x l = omega (arith, l, weight_cons_at_most a u)
cond_removed false a u x l = omega (arith, l, weight_cons a u, weight_cons a x)

pub weight_removed : (i : ℕ) (coordinates u : List ℕ) → weight u + length (without_from i coordinates u) ≤ weight (without_from i coordinates u) + length u
unfolding without_from
weight_removed i coordinates [] = omega arith
weight_removed i coordinates (a ∷ u) = cond_removed (list_any (λ p. i == p) coordinates) a u (without_from (suc i) coordinates u) (weight_removed (suc i) coordinates u)
