-- What is kept of the information sets of a code is what the definitions say.
--   dimension_few                    the dimension is at most the length
--   divisor_some, divisor_small      the divisor is 1 to 4
--   sets_few, first_fresh, count_few, count_kept, count_least, count_most, set_inside      there are 1 to n sets, and
--                                    as many are kept
--   state_kept, basis_kept, fresh_kept, rows_kept, field_kept, columns_kept      what is kept of set j is that of set j of the
--                                    definition
--   basis_long, basis_inside         its basis has k columns of the code
--   rows_long                        its generator has k rows
--   fresh_few                        its fresh columns are at most k
use Rattle.std.proofs.Common.{◌≡◌, ℕ, zero, suc, ◌+◌, ◌*◌, ◌<◌, ◌≤◌, Bool, not, cond, nat_le, List, [], ◌∷◌, ◌++◌, length, slice_index, slice_index_or, All, Contains, refl, sym, ap, subst, ◌∙◌, ⊎_elim, arith}
use Rattle.std.proofs.lemmas.Bool.{cases_Bool, leb-true}
use Rattle.std.proofs.lemmas.List.{length-map, get_or-map, length-append}
use Rattle.std.proofs.lemmas.List.Elements.{All-contains, Contains-get_or, Contains-append_cases}
use Rattle.lc_algebra.specs.declared.FieldName.{FieldName}
use Rattle.lc_algebra.specs.Span.{below, AreIndependent}
use Rattle.lc_algebra.specs.Matrix.{Matrix, AreRows, column}
use Rattle.lc_algebra.specs.Divisor.{possible_divisors, weight_divisor}
use Rattle.lc_algebra.proofs.SpanLaws.{contains_cases, length_below}
use Rattle.lc_algebra.proofs.DimensionLaws.{AreDistinct, distinct_append, distinct_from_pairs, distinct_at_most, independent_few}
use Rattle.lc_algebra.proofs.DivisorLaws.{divisor_is as greatest_divisor, divisor_positive, no_member, divisors_small}
use Rattle.lc_enumeration.specs.InformationSet.{is_member, greedy, first_basis, columns_in_order, with_fresh, next_set, sets_after, information_sets}
use Rattle.lc_enumeration.specs.Search.{sets_of, set_count, generator_at}
use Rattle.lc_enumeration.proofs.GreedyLaws.{each_contained}
use Rattle.lc_matrix.proofs.DivisibleLaws.{divisor_of_rows}
use Rattle.lc_infoset.specs.Bound.{set_at}
use Rattle.lc_infoset.specs.Kept.{SetState, set_state, IsKept}
use Rattle.lc_infoset.proofs.BoundLaws.{place_inside}
use Rattle.lc_infoset.proofs.SetLaws.{IsSetAfter, filter_passes, next_is, sets_are, count_is, set_listed}
use Rattle.lc_infoset.proofs.AnswerLaws.{filter_keeps, some_set}
use Rattle.lc_infoset.proofs.GreedyLaws.{first_basis_is, in_order, generators_are, generator_is}

pub dimension_few : (C : Matrix) (d : ℕ) (states : List SetState) → IsKept C d states → length C.rows ≤ C.columns
dimension_few C d states h = independent_few C.field C.columns C.rows h.words h.independent

pub divisor_some : (C : Matrix) (d : ℕ) (states : List SetState) → IsKept C d states → 1 ≤ d
divisor_some C d states h = omega (arith, h.divisor, divisor_of_rows C, divisor_positive C.field C.columns C.rows)

pub divisor_small : (C : Matrix) (d : ℕ) (states : List SetState) → IsKept C d states → d ≤ 4
divisor_small C d states h =
    let w = weight_divisor C.field C.columns C.rows in
    let small : w ≤ 4 = ⊎_elim (λ l. divisors_small C.field w l) (λ l. ⊎_elim (λ e. omega (arith, e)) (λ o. absurd (no_member w o)) (contains_cases 1 w [] l)) (Contains-append_cases (possible_divisors C.field) (1 ∷ []) w (greatest_divisor C.field C.columns C.rows).possible) in
    omega (arith, h.divisor, divisor_of_rows C, small)

next_inside : (f : FieldName) (n : ℕ) (rows : List (List ℕ)) (used : List ℕ) (c : ℕ) → Contains (next_set f n rows used).fresh c → Contains (below n) c
unfolding next_set with_fresh first_basis
next_inside f n rows used c l =
    (filter_passes (is_member (greedy f (length rows) (column rows) [] (columns_in_order n used))) (below n) c
    (filter_passes (λ d. not (is_member used d)) (first_basis f n rows (columns_in_order n used)) c l).member).member

pub sets_few : (f : FieldName) (n : ℕ) (rows : List (List ℕ)) (most : ℕ) (used : List ℕ) → 0 < length rows → AreDistinct used → ((c : ℕ) → Contains used c → Contains (below n) c) → length used + length (sets_after f n rows used most) ≤ n
unfolding sets_after
sets_few f n rows zero used some once inside = omega (arith, distinct_at_most used (below n) once inside, length_below n)
sets_few f n rows (suc most) used some once inside =
    let s = next_set f n rows used in
    let more = used ++ s.fresh in
    let goal = λ (b : Bool). length used + length (cond b (s ∷ sets_after f n rows more most) []) ≤ n in
    let set = next_is f n rows used in
    ⊎_elim
    (λ t. subst goal (sym t) (
    let rest = sets_few f n rows most more some (distinct_append used s.fresh once (distinct_from_pairs s.fresh set.once) (λ c u l. set.unused c l u)) (λ c l. ⊎_elim (inside c) (next_inside f n rows used c) (Contains-append_cases used s.fresh c l)) in
    omega (arith, rest, some, length-append used s.fresh, leb-true (length rows) (2 * length s.fresh) t)))
    (λ t. subst goal (sym t) (omega (arith, distinct_at_most used (below n) once inside, length_below n)))
    (cases_Bool (nat_le (length rows) (2 * length s.fresh)))

first_fresh : (f : FieldName) (n : ℕ) (rows : List (List ℕ)) → 0 < length rows → AreRows f n rows → AreIndependent f n rows → 0 < length (next_set f n rows []).fresh
unfolding next_set with_fresh is_member
first_fresh f n rows some r h =
    let basis = first_basis f n rows (columns_in_order n []) in
    let many : length basis ≡ length rows = (first_basis_is f n rows (columns_in_order n []) r h (in_order n [])).many in
    let c = slice_index basis 0 in
    let there = filter_keeps (λ c. not (is_member [] c)) basis c (Contains-get_or basis 0 0 (omega (arith, some, many))) refl in
    omega (arith, there.1)

pub count_few : (C : Matrix) (d : ℕ) (states : List SetState) → IsKept C d states → set_count C ≤ C.columns
unfolding set_count sets_of information_sets
count_few C d states h =
    let f = C.field in
    let n = C.columns in
    let s = next_set f n C.rows [] in
    let set = next_is f n C.rows [] in
    let rest = sets_few f n C.rows n s.fresh h.some (distinct_from_pairs s.fresh set.once) (next_inside f n C.rows []) in
    let one = first_fresh f n C.rows h.some h.words h.independent in
    omega (arith, rest, one)

pub count_kept : (C : Matrix) (d : ℕ) (states : List SetState) → IsKept C d states → length states ≡ set_count C
count_kept C d states h = ap length h.sets ∙ length-map (sets_of C) (set_state C) ∙ sym (count_is C)

pub count_least : (C : Matrix) (d : ℕ) (states : List SetState) → IsKept C d states → 1 ≤ length states
count_least C d states h = omega (arith, count_kept C d states h, some_set C)

pub count_most : (C : Matrix) (d : ℕ) (states : List SetState) → IsKept C d states → length states ≤ C.columns
count_most C d states h = omega (arith, count_kept C d states h, count_few C d states h)

pub set_inside : (C : Matrix) (d j : ℕ) (states : List SetState) → IsKept C d states → j < set_count C → j < length states
set_inside C d j states h l = omega (arith, l, count_kept C d states h)

pub state_kept : (C : Matrix) (d j : ℕ) (states : List SetState) (x : SetState) → IsKept C d states → j < set_count C → slice_index_or states j x ≡ set_state C (set_at C j)
state_kept C d j states x h l =
    ap (λ xs. slice_index_or xs j x) h.sets ∙ get_or-map (set_state C) (sets_of C) j (record { basis = []; fresh = [] }) x (omega (arith, l, count_is C))

pub basis_kept : (C : Matrix) (d j : ℕ) (states : List SetState) (x : SetState) → IsKept C d states → j < set_count C → (slice_index_or states j x).set.basis ≡ (set_at C j).basis
basis_kept C d j states x h l = ap (λ (s : SetState). s.set.basis) (state_kept C d j states x h l)

pub fresh_kept : (C : Matrix) (d j : ℕ) (states : List SetState) (x : SetState) → IsKept C d states → j < set_count C → (slice_index_or states j x).set.fresh ≡ (set_at C j).fresh
fresh_kept C d j states x h l = ap (λ (s : SetState). s.set.fresh) (state_kept C d j states x h l)

pub rows_kept : (C : Matrix) (d j : ℕ) (states : List SetState) (x : SetState) → IsKept C d states → j < set_count C → (slice_index_or states j x).generator.rows ≡ generator_at C j
rows_kept C d j states x h l = ap (λ (s : SetState). s.generator.rows) (state_kept C d j states x h l) ∙ sym (generator_is C j)

pub field_kept : (C : Matrix) (d j : ℕ) (states : List SetState) (x : SetState) → IsKept C d states → j < set_count C → (slice_index_or states j x).generator.field ≡ C.field
field_kept C d j states x h l = ap (λ (s : SetState). s.generator.field) (state_kept C d j states x h l)

pub columns_kept : (C : Matrix) (d j : ℕ) (states : List SetState) (x : SetState) → IsKept C d states → j < set_count C → (slice_index_or states j x).generator.columns ≡ C.columns
columns_kept C d j states x h l = ap (λ (s : SetState). s.generator.columns) (state_kept C d j states x h l)

pub basis_long : (C : Matrix) (d j : ℕ) (states : List SetState) (x : SetState) → IsKept C d states → j < set_count C → length (slice_index_or states j x).set.basis ≡ length C.rows
basis_long C d j states x h l = ap length (basis_kept C d j states x h l) ∙ (generators_are C h.words h.independent j l).0

pub rows_long : (C : Matrix) (d j : ℕ) (states : List SetState) (x : SetState) → IsKept C d states → j < set_count C → length (slice_index_or states j x).generator.rows ≡ length C.rows
rows_long C d j states x h l =
    let g = generators_are C h.words h.independent j l in
    ap length (rows_kept C d j states x h l) ∙ g.1.count ∙ g.0

pub basis_inside : (C : Matrix) (d j : ℕ) (states : List SetState) (x : SetState) → IsKept C d states → j < set_count C → All (λ c. c < C.columns) (slice_index_or states j x).set.basis
basis_inside C d j states x h l =
    let g = generators_are C h.words h.independent j l in
    subst (All (λ c. c < C.columns)) (sym (basis_kept C d j states x h l)) (each_contained (λ c. c < C.columns) (set_at C j).basis (λ c m. place_inside C.field C.columns (set_at C j).basis (generator_at C j) c g.1.words g.1.count g.1.identity m))

pub fresh_few : (C : Matrix) (d j : ℕ) (states : List SetState) (x : SetState) → IsKept C d states → j < set_count C → length (slice_index_or states j x).set.fresh ≤ length C.rows
fresh_few C d j states x h l =
    let s : IsSetAfter [] (set_at C j) = All-contains (IsSetAfter []) (sets_of C) (set_at C j) (sets_are C).each (set_listed C j l) in
    omega (arith, ap length (fresh_kept C d j states x h l), distinct_at_most (set_at C j).fresh (set_at C j).basis (distinct_from_pairs (set_at C j).fresh s.once) (λ c m. All-contains (Contains (set_at C j).basis) (set_at C j).fresh c s.part m), (generators_are C h.words h.independent j l).0)

pub ruleset count_laws = (count_kept, count_least, count_most)

pub ruleset set_laws = (set_inside, basis_kept, fresh_kept, rows_kept, field_kept, columns_kept, basis_long, basis_inside, fresh_few, rows_long)

pub ruleset divisor_laws = (divisor_some, divisor_small)
