-- The information sets, one after another.
--   none_after                   at most no further set: there is none
--   one_after, short_after       a next set with enough fresh columns, or with too few
--   few_unused, told_few         there is no next set if too few columns are unused; the test for it
--   sets_short, sets_whole       the sets after some, if one has too few fresh columns, and after n
--   all_states                   the first set, and those after it
use Rattle.std.proofs.Common.{◌≡◌, ℕ, suc, ◌+◌, ◌-◌, ◌*◌, ◌<◌, ◌≤◌, Bool, true, false, not, cond, nat_le, nat_lt, filter, List, [], ◌∷◌, ◌++◌, length, map, refl, sym, ap, ◌∙◌, ⊎_elim, arith}
use Rattle.std.specs.Bool.{OnTrue, OnFalse}
use Rattle.std.proofs.lemmas.Bool.{cases_Bool, le-leb, leb-true, ltb-true, OnTrue_from, true≢false}
use Rattle.std.proofs.lemmas.List.{append-nil, append_assoc}
use Rattle.lc_algebra.specs.Span.{below}
use Rattle.lc_algebra.specs.Matrix.{Matrix, column}
use Rattle.lc_enumeration.specs.InformationSet.{is_member, greedy, first_basis, columns_in_order, with_fresh, next_set, sets_after, information_sets}
use Rattle.lc_enumeration.specs.Search.{sets_of}
use Rattle.lc_infoset.specs.Kept.{SetState, set_state, set_states, states_after}

pub none_after : (C : Matrix) (used : List ℕ) (now : List SetState) → now ++ states_after C used 0 ≡ now
unfolding sets_after
none_after C used now = append-nil now

one_more : (C : Matrix) (used : List ℕ) (m : ℕ) → sets_after C.field C.columns C.rows used (m + 1) ≡ cond (nat_le (length C.rows) (2 * length (next_set C.field C.columns C.rows used).fresh)) (next_set C.field C.columns C.rows used ∷ sets_after C.field C.columns C.rows (used ++ (next_set C.field C.columns C.rows used).fresh) m) []
unfolding sets_after
one_more C used m =
    let next : m + 1 ≡ suc m = omega arith in
    ap (sets_after C.field C.columns C.rows used) next

pub one_after : (C : Matrix) (used fresh more : List ℕ) (s : SetState) (old new : List SetState) (m : ℕ) → s ≡ set_state C (next_set C.field C.columns C.rows used) → length C.rows ≤ 2 * length s.set.fresh → fresh ≡ s.set.fresh → more ≡ used ++ fresh → new ≡ old ++ s ∷ [] → old ++ states_after C used (m + 1) ≡ new ++ states_after C more m
one_after C used fresh more s old new m e l ef em en =
    let t = next_set C.field C.columns C.rows used in
    let same : s.set.fresh ≡ t.fresh = ap (λ (x : SetState). x.set.fresh) e in
    let enough : nat_le (length C.rows) (2 * length t.fresh) ≡ true = le-leb (length C.rows) (2 * length t.fresh) (omega (arith, l, ap length same)) in
    let rest = sets_after C.field C.columns C.rows (used ++ t.fresh) m in
    let after : states_after C used (m + 1) ≡ set_state C t ∷ map (set_state C) rest = ap (map (set_state C)) (one_more C used m ∙ ap (λ b. cond b (t ∷ rest) []) enough) in
    let used_now : used ++ t.fresh ≡ more = ap (λ xs. used ++ xs) (sym (ef ∙ same)) ∙ sym em in
    ap (λ xs. old ++ xs) after ∙ sym (append_assoc old (set_state C t ∷ []) (map (set_state C) rest))
    ∙ ap (λ x. (old ++ x ∷ []) ++ map (set_state C) rest) (sym e)
    ∙ ap (λ xs. xs ++ map (set_state C) rest) (sym en)
    ∙ ap (λ xs. new ++ states_after C xs m) used_now

pub short_after : (C : Matrix) (used : List ℕ) (s : SetState) (old : List SetState) (m : ℕ) → s ≡ set_state C (next_set C.field C.columns C.rows used) → 2 * length s.set.fresh < length C.rows → old ++ states_after C used (m + 1) ≡ old
short_after C used s old m e l =
    let t = next_set C.field C.columns C.rows used in
    let same : s.set.fresh ≡ t.fresh = ap (λ (x : SetState). x.set.fresh) e in
    let short : nat_le (length C.rows) (2 * length t.fresh) ≡ false = ⊎_elim (λ b. absurd (omega (arith, leb-true (length C.rows) (2 * length t.fresh) b, l, ap length same))) (λ b. b) (cases_Bool (nat_le (length C.rows) (2 * length t.fresh))) in
    let rest = sets_after C.field C.columns C.rows (used ++ t.fresh) m in
    ap (λ xs. old ++ map (set_state C) xs) (one_more C used m ∙ ap (λ b. cond b (t ∷ rest) []) short) ∙ append-nil old

filter_twice : (p q : ℕ → Bool) (xs : List ℕ) → length (filter p (filter q xs)) ≤ length (filter p xs)
filter_twice p q [] = omega arith
filter_twice p q (x ∷ xs) = either (filter_twice p q xs) (q x)
  where
    front : length (filter p (filter q xs)) ≤ length (filter p xs) → (b : Bool) → length (cond b (x ∷ filter p (filter q xs)) (filter p (filter q xs))) ≤ length (cond b (x ∷ filter p xs) (filter p xs))
    front l true = omega (arith, l)
    front l false = l

    more : length (filter p (filter q xs)) ≤ length (filter p xs) → (b : Bool) → length (filter p (filter q xs)) ≤ length (cond b (x ∷ filter p xs) (filter p xs))
    more l true = omega (arith, l)
    more l false = l

    either : length (filter p (filter q xs)) ≤ length (filter p xs) → (b : Bool) → length (filter p (cond b (x ∷ filter q xs) (filter q xs))) ≤ length (filter p (x ∷ xs))
    either l true = front l (p x)
    either l false = more l (p x)

pub few_unused : (C : Matrix) (used columns : List ℕ) (old : List SetState) (m : ℕ) → columns ≡ filter (λ c. not (is_member used c)) (below C.columns) → 2 * length columns < length C.rows → old ++ states_after C used (m + 1) ≡ old
unfolding next_set with_fresh first_basis
few_unused C used columns old m e l =
    let chosen = greedy C.field (length C.rows) (column C.rows) [] (columns_in_order C.columns used) in
    let few = filter_twice (λ c. not (is_member used c)) (is_member chosen) (below C.columns) in
    short_after C used (set_state C (next_set C.field C.columns C.rows used)) old m refl (omega (arith, l, few, ap length e))

pub told_few : (C : Matrix) (used columns : List ℕ) (n k count : ℕ) → columns ≡ filter (λ c. not (is_member used c)) (below n) → n ≡ C.columns → k ≡ length C.rows → count ≡ length columns → OnTrue (nat_lt (2 * count) k) ((old : List SetState) (m : ℕ) → old ++ states_after C used (m + 1) ≡ old)
told_few C used columns n k count e en ek el =
    let unused : ℕ → Bool = λ c. not (is_member used c) in
    OnTrue_from (nat_lt (2 * count) k) ((old : List SetState) (m : ℕ) → old ++ states_after C used (m + 1) ≡ old)
    (λ t old m. few_unused C used columns old m (e ∙ ap (λ c. filter unused (below c)) en) (omega (arith, ltb-true (2 * count) k t, ek, el)))

pub all_states : (C : Matrix) (used : List ℕ) (s : SetState) (sets : List SetState) → s ≡ set_state C (next_set C.field C.columns C.rows []) → used ≡ s.set.fresh → sets ≡ (s ∷ []) ++ states_after C used C.columns → sets ≡ set_states C
unfolding sets_of information_sets
all_states C used s sets e eu es =
    let t = next_set C.field C.columns C.rows [] in
    let fresh : used ≡ t.fresh = eu ∙ ap (λ (x : SetState). x.set.fresh) e in
    es ∙ ap (λ xs. s ∷ states_after C xs C.columns) fresh ∙ ap (λ x. x ∷ states_after C t.fresh C.columns) e

pub sets_short : (C : Matrix) (first used : List ℕ) (old now new : List SetState) (n i : ℕ) (b : Bool) → old ++ states_after C first n ≡ now ++ states_after C used (n - i) → i < n → b ≡ false → OnFalse b ((m : ℕ) → now ++ states_after C used (m + 1) ≡ new) → new ≡ old ++ states_after C first n
sets_short C first used old now new n i true e l t h = absurd (true≢false t)
sets_short C first used old now new n i false e l t h =
    let left : n - suc i + 1 ≡ n - i = omega (arith, l) in
    sym (h (n - suc i)) ∙ ap (λ m. now ++ states_after C used m) left ∙ sym e

pub sets_whole : (C : Matrix) (first used : List ℕ) (old now : List SetState) (n i : ℕ) → old ++ states_after C first n ≡ now ++ states_after C used (n - i) → n ≤ i → now ≡ old ++ states_after C first n
sets_whole C first used old now n i e l =
    let left : n - i ≡ 0 = omega (arith, l) in
    sym (none_after C used now) ∙ ap (λ m. now ++ states_after C used m) (sym left) ∙ sym e
