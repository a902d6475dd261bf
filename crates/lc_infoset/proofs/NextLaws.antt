-- The next information set, in the shape of the calls.
--   filter_none, filter_kept, filter_left, filter_first, filter_more, filter_same      a filter of the numbers below c, one
--                                  number more
--   member_at, not_member          what is one of some columns
--   turned_none, turned_more       one column more, with its index
--   order_inside, turn_inside      columns and rows that there are
--   next_state                     the set, its fresh columns and its generator are the definition's
use Rattle.std.proofs.Common.{◌≡◌, ◌≢◌, ℕ, suc, ◌+◌, ◌<◌, Bool, true, false, not, cond, ◌==◌, filter, List, [], ◌∷◌, ◌++◌, length, map, slice_index, slice_index_or, All, Contains, refl, sym, ap, subst, ◌∙◌, ⊎_elim, arith}
use Rattle.std.proofs.lemmas.Bool.{cases_Bool, cases_lt}
use Rattle.std.proofs.lemmas.List.{length-map, length_push, get_or_push, get_or_default, append-nil, append_assoc}
use Rattle.std.proofs.Math.ListN.{get_or-append}
use Rattle.std.proofs.lemmas.List.Elements.{filter-append, Contains-get_or}
use Rattle.lc_algebra.specs.declared.FieldName.{FieldName}
use Rattle.lc_algebra.specs.Span.{below, AreIndependent}
use Rattle.lc_algebra.specs.Matrix.{Matrix, column}
use Rattle.lc_enumeration.specs.InformationSet.{is_member, greedy, first_basis, columns_in_order, with_fresh, next_set, systematic}
use Rattle.lc_enumeration.proofs.MemberLaws.{member_true, true_member}
use Rattle.lc_enumeration.proofs.GreedyLaws.{each_contained}
use Rattle.lc_matrix.specs.Elimination.{IsReducedTo}
use Rattle.lc_infoset.specs.Kept.{SetState, set_state}
use Rattle.lc_infoset.specs.Choice.{AreTurned}
use Rattle.lc_infoset.proofs.ChoiceLaws.{picked, IsReducedFrom, greedy_picked, turned_generator}
use Rattle.lc_infoset.proofs.GreedyLaws.{IsBasis, first_basis_is, in_order}

filter_next : (p : ℕ → Bool) (c : ℕ) → filter p (below (c + 1)) ≡ filter p (below c) ++ cond (p c) (c ∷ []) []
unfolding below
filter_next p c =
    let next : c + 1 ≡ suc c = omega arith in
    ap (λ m. filter p (below m)) next ∙ filter-append p (below c) (c ∷ [])

pub filter_none : (p : ℕ → Bool) (front : List ℕ) → front ≡ front ++ filter p (below 0)
unfolding below
filter_none p front = sym (append-nil front)

pub filter_kept : (p : ℕ → Bool) (c : ℕ) (front now : List ℕ) → p c ≡ true → now ≡ front ++ filter p (below c) → now ++ c ∷ [] ≡ front ++ filter p (below (c + 1))
filter_kept p c front now t e =
    ap (λ xs. xs ++ c ∷ []) e ∙ append_assoc front (filter p (below c)) (c ∷ [])
    ∙ ap (λ xs. front ++ xs) (ap (λ b. filter p (below c) ++ cond b (c ∷ []) []) (sym t) ∙ sym (filter_next p c))

pub filter_left : (p : ℕ → Bool) (c : ℕ) (front now : List ℕ) → p c ≡ false → now ≡ front ++ filter p (below c) → now ≡ front ++ filter p (below (c + 1))
filter_left p c front now t e =
    e ∙ ap (λ xs. front ++ xs) (sym (append-nil (filter p (below c))) ∙ ap (λ b. filter p (below c) ++ cond b (c ∷ []) []) (sym t) ∙ sym (filter_next p c))

pub filter_first : (p : ℕ → Bool) (now : List ℕ) → now ≡ [] → now ≡ filter p (below 0)
unfolding below
filter_first p now e = e

pub filter_more : (p : ℕ → Bool) (c : ℕ) (now : List ℕ) → p c ≡ true → now ≡ filter p (below c) → now ++ c ∷ [] ≡ filter p (below (c + 1))
filter_more p c now t e = filter_kept p c [] now t e

pub filter_same : (p : ℕ → Bool) (c : ℕ) (now : List ℕ) → p c ≡ false → now ≡ filter p (below c) → now ≡ filter p (below (c + 1))
filter_same p c now t e = filter_left p c [] now t e

pub member_at : (columns : List ℕ) (r c : ℕ) → r < length columns → slice_index columns r ≡ c → is_member columns c ≡ true
member_at columns r c l e = member_true columns c (subst (Contains columns) e (Contains-get_or columns r 0 l))

pub not_member : (columns : List ℕ) (c : ℕ) → ((k : ℕ) → k < length columns → slice_index columns k ≢ c) → is_member columns c ≡ false
not_member columns c h =
    ⊎_elim
    (λ t. let l = true_member columns c t in absurd (h l.0 l.1 (get_or_default columns l.0 0 c l.1 ∙ l.2)))
    (λ t. t)
    (cases_Bool (is_member columns c))

pub turned_none : (pivots : List ℕ) → AreTurned [] pivots []
turned_none pivots = record { count = refl; inside = λ i l. absurd (omega (arith, l)); places = λ i l. absurd (omega (arith, l)) }

pub turned_more : (pivots columns turn : List ℕ) (c r : ℕ) → AreTurned columns pivots turn → r < length pivots → slice_index pivots r ≡ c → AreTurned (columns ++ c ∷ []) pivots (turn ++ r ∷ [])
turned_more pivots columns turn c r h l e =
    let m = length turn in
    let long : length (turn ++ r ∷ []) ≡ m + 1 = length_push turn r in
    let front : (i : ℕ) → i < m → slice_index (turn ++ r ∷ []) i ≡ slice_index turn i = λ i a. get_or-append turn (r ∷ []) 0 i a in
    let last : slice_index (turn ++ r ∷ []) m ≡ r = get_or_push turn r 0 m refl in
    record {
      count = omega (arith, long, length_push columns c, h.count);
      inside = λ i a. ⊎_elim
          (λ b. omega (arith, front i b, h.inside i b))
          (λ b. let q : i ≡ m = omega (arith, a, b, long) in omega (arith, l, ap (slice_index (turn ++ r ∷ [])) q ∙ last))
          (cases_lt i m);
      places = λ i a. ⊎_elim
          (λ b. ap (slice_index pivots) (front i b) ∙ h.places i b ∙ sym (get_or-append columns (c ∷ []) 0 i (omega (arith, b, h.count))))
          (λ b.
          let q : i ≡ m = omega (arith, a, b, long) in
          ap (slice_index pivots) (ap (slice_index (turn ++ r ∷ [])) q ∙ last) ∙ e ∙ sym (get_or_push columns c 0 i (sym (q ∙ h.count))))
          (cases_lt i m);
    }

pub order_inside : (n : ℕ) (used order : List ℕ) → order ≡ columns_in_order n used → All (λ c. c < n) order
order_inside n used order e = subst (All (λ c. c < n)) (sym e) (each_contained (λ c. c < n) (columns_in_order n used) (in_order n used).inside)

pub turn_inside : (basis pivots turn order at : List ℕ) (rows : List (List ℕ)) → AreTurned basis pivots turn → pivots ≡ map (slice_index order) at → IsReducedTo order (length order) at rows → All (λ r. r < length rows) turn
turn_inside basis pivots turn order at rows t e h i d l =
    let inside : slice_index turn i < length pivots = t.inside i l in
    omega (arith, inside, ap length e, length-map at (slice_index order), h.at_most, get_or_default turn i d 0 l)

abbrev matrix_of : FieldName → ℕ → List (List ℕ) → Matrix
matrix_of f n rows = record { field = f; columns = n; rows = rows }

matrix_same : (e : Matrix) (f : FieldName) (n : ℕ) (rows : List (List ℕ)) → e.field ≡ f → e.columns ≡ n → e.rows ≡ rows → e ≡ matrix_of f n rows
matrix_same e f n rows a b c = ap (λ x. matrix_of x e.columns e.rows) a ∙ ap (λ x. matrix_of f x e.rows) b ∙ ap (λ x. matrix_of f n x) c

abbrev state_of : List ℕ → List ℕ → Matrix → SetState
state_of basis fresh generator = record { set = record { basis = basis; fresh = fresh }; generator = generator }

state_same : (basis basis' fresh fresh' : List ℕ) (m m' : Matrix) → basis ≡ basis' → fresh ≡ fresh' → m ≡ m' → state_of basis fresh m ≡ state_of basis' fresh' m'
state_same basis basis' fresh fresh' m m' a b c = ap (λ x. state_of x fresh m) a ∙ ap (λ x. state_of basis' x m) b ∙ ap (λ x. state_of basis' fresh' x) c

pub next_state : (C : Matrix) (used order at pivots basis turn fresh : List ℕ) (e : List (List ℕ)) (generator : Matrix) → IsReducedFrom C.field C.columns order at C.rows e → AreIndependent C.field C.columns C.rows → order ≡ columns_in_order C.columns used → pivots ≡ map (slice_index order) at → basis ≡ filter (is_member pivots) (below C.columns) → AreTurned basis pivots turn → fresh ≡ filter (λ c. not (is_member used c)) basis → generator.field ≡ C.field → generator.columns ≡ C.columns → generator.rows ≡ map (λ r. slice_index_or e r []) turn → record { set = record { basis = basis; fresh = fresh }; generator = generator } ≡ set_state C (next_set C.field C.columns C.rows used)
unfolding next_set with_fresh first_basis
next_state C used order at pivots basis turn fresh e generator h free eo ep eb t ef gf gc gr =
    let f = C.field in
    let n = C.columns in
    let k = length C.rows in
    let chosen = greedy f k (column C.rows) [] (columns_in_order n used) in
    let choice : pivots ≡ chosen = ep ∙ sym (greedy_picked f n order at C.rows e h) ∙ ap (greedy f k (column C.rows) []) eo in
    let p : ℕ → Bool = is_member pivots in
    let first : basis ≡ filter (is_member chosen) (below n) = eb ∙ ap (λ (xs : List ℕ). filter (is_member xs) (below n)) choice in
    let is : IsBasis f n C.rows (filter p (below n)) = subst (IsBasis f n C.rows) (sym first ∙ eb) (first_basis_is f n C.rows (columns_in_order n used) h.original free (in_order n used)) in
    let turned : AreTurned (filter p (below n)) (picked order at) turn = subst (λ xs. AreTurned (filter p (below n)) xs turn) ep (subst (λ xs. AreTurned xs pivots turn) eb t) in
    let rows : generator.rows ≡ systematic f n C.rows (filter (is_member chosen) (below n)) = gr ∙ turned_generator f n p order at turn C.rows e h turned is ∙ ap (systematic f n C.rows) (sym eb ∙ first) in
    state_same basis (filter (is_member chosen) (below n)) fresh (filter (λ c. not (is_member used c)) (filter (is_member chosen) (below n))) generator (matrix_of f n (systematic f n C.rows (filter (is_member chosen) (below n)))) first (ef ∙ ap (filter (λ c. not (is_member used c))) first) (matrix_same generator f n (systematic f n C.rows (filter (is_member chosen) (below n))) gf gc rows)

pub ruleset next_set_laws = (order_inside, turn_inside, next_state)

pub ruleset push_unused_laws = (filter_none, filter_kept, filter_left)

pub ruleset rising_laws = (filter_first, turned_none)

pub ruleset push_pivot_laws = (filter_more, filter_same, turned_more, member_at)
