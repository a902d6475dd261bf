-- Over the facts of a code, what is defined of facts is what `lc_enumeration` defines of the code.
--   number_is, first_is, end_is, levels_are, bound_is, may_end_is, finished_is
use Rattle.std.proofs.Common.{◌≡◌, ℕ, ◌*◌, ◌==◌, ◌&&◌, ◌||◌, nat_lt, List, [], ◌∷◌, length, map, find, unwrap_or, refl, ap, ◌∙◌}
use Rattle.std.proofs.lemmas.List.{length-map}
use Rattle.lc_algebra.specs.Field.{size}
use Rattle.lc_algebra.specs.Span.{below}
use Rattle.lc_algebra.specs.Matrix.{Matrix}
use Rattle.lc_algebra.specs.Divisor.{divisor_of}
use Rattle.lc_enumeration.specs.Plan.{cut, blocks_before, total, phase_ends, plan_phases}
use Rattle.lc_enumeration.specs.InformationSet.{InformationSet, is_member}
use Rattle.lc_enumeration.specs.Search.{Found, sets_of, set_count, ranks_of, last_that, is_whole_below, level_below, levels_below, bound_of, bound, ends_of, may_end, found_first, finished}
use Rattle.lc_enumeration.specs.Records.{Progress, found_of, progress_of, first_progress, end_of_phase}
use Rattle.lc_parts.specs.Part.{facts_of}
use Rattle.lc_parts.specs.Along.{set_number, first_by, end_by, level_by, levels_by, bound_by, may_end_by, finished_at, finished_by}

pub number_is : (C : Matrix) → set_number (facts_of C) ≡ set_count C
unfolding facts_of ranks_of set_count
number_is C = length-map (sets_of C) (λ (s : InformationSet). length s.fresh)

pub first_is : (C : Matrix) → first_by (facts_of C) ≡ first_progress C
unfolding first_by facts_of first_progress progress_of found_first
first_is C = refl

pub end_is : (C : Matrix) (l : ℕ) → end_by (facts_of C) l ≡ end_of_phase C l
unfolding end_by end_of_phase facts_of
end_is C l = ap (λ m. unwrap_or (find (nat_lt l) (map (λ p. p.end) (plan_phases (length C.rows) (size C.field) m))) l) (number_is C)

level_is : (C : Matrix) (l j : ℕ) → level_by (facts_of C) l j ≡ level_below C l j
unfolding level_by level_below facts_of
level_is C l j = ap (λ m. last_that (is_whole_below (length C.rows) (size C.field) m l j) (length C.rows)) (number_is C)

levels_over : (C : Matrix) (l : ℕ) (js : List ℕ) → map (level_by (facts_of C) l) js ≡ map (level_below C l) js
levels_over C l [] = refl
levels_over C l (j ∷ js) = rw (level_is C l j, levels_over C l js) refl

pub levels_are : (C : Matrix) (l : ℕ) → levels_by (facts_of C) l ≡ levels_below C l
unfolding levels_by levels_below
levels_are C l = ap (λ m. map (level_by (facts_of C) l) (below m)) (number_is C) ∙ levels_over C l (below (set_count C))

pub bound_is : (C : Matrix) (l weight : ℕ) → bound_by (facts_of C) l weight ≡ bound (divisor_of C) C l weight
unfolding bound_by bound facts_of
bound_is C l weight = ap (λ ls. bound_of (divisor_of C) (length C.rows) (ranks_of C) ls weight) (levels_are C l)

pub may_end_is : (C : Matrix) (l : ℕ) → may_end_by (facts_of C) l ≡ may_end C l
unfolding may_end_by may_end ends_of facts_of
may_end_is C l = ap (λ m. (l == 0) || (is_member (phase_ends (length C.rows) (size C.field) m) l || (nat_lt (blocks_before (length C.rows) (size C.field) m (length C.rows * m)) cut && nat_lt (total (length C.rows) (size C.field) m) l))) (number_is C)

finished_over : (C : Matrix) (budget l : ℕ) (x : Found) → finished_at (facts_of C) budget l x ≡ finished (divisor_of C) C budget l x
unfolding finished_at finished
finished_over C budget l x = rw (may_end_is C l, bound_is C l x.weight) refl

pub finished_is : (C : Matrix) (budget : ℕ) (s : Progress) → finished_by (facts_of C) budget s ≡ finished (divisor_of C) C budget s.blocks (found_of s)
unfolding finished_by
finished_is C budget s = finished_over C budget s.blocks (found_of s)
