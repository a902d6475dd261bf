-- The laws of a search on independent rows, as its contracts say them.
--   set_part, set_once, sets_apart      the fresh columns of its information sets
--   search_generator, search_dimension  their generators
--   heavy_word, no_word_left, seen_weight, least_weight      its bound
--   best_is_word, done_is_distance, true_answer      its answers
--   divisible_by_one, own_answer, answer_by_one      with the code's divisor, and with 1
use Rattle.std.proofs.Common.{◌≡◌, ◌≢◌, ℕ, ◌<◌, ◌≤◌, min, true, List, [], length, All, AllPairs, Contains, arith}
use Rattle.std.proofs.lemmas.List.Elements.{All-contains}
use Rattle.lc_algebra.specs.Word.{weight}
use Rattle.lc_algebra.specs.Span.{AreIndependent, InSpan, IsDistance}
use Rattle.lc_algebra.specs.Matrix.{Matrix, AreRows, IsSystematic}
use Rattle.lc_algebra.specs.Divisor.{IsDivisible, weight_divisor, divisor_of}
use Rattle.lc_algebra.proofs.DivisorLaws.{divisor_is, divisor_positive}
use Rattle.lc_enumeration.specs.Search.{sets_of, set_count, generator_at, best, levels_below, bound, is_done, answer}
use Rattle.lc_enumeration.specs.Truth.{IsSeenBelow, HasWord, AnswerHolds}
use Rattle.lc_infoset.specs.Bound.{set_at}
use Rattle.lc_infoset.proofs.SetLaws.{IsSetAfter, set_listed, sets_are, count_is}
use Rattle.lc_infoset.proofs.SearchBound.{unseen_bound, unseen_none}
use Rattle.lc_infoset.proofs.BestLaws.{seen_at_most, least_bound, best_word}
use Rattle.lc_infoset.proofs.AnswerLaws.{some_set, done_distance, answer_holds}
use Rattle.lc_infoset.proofs.GreedyLaws.{generators_are}

set_is : (C : Matrix) (j : ℕ) → j < set_count C → IsSetAfter [] (set_at C j)
set_is C j l = All-contains (IsSetAfter []) (sets_of C) (set_at C j) (sets_are C).each (set_listed C j l)

pub set_part : (C : Matrix) (j : ℕ) → j < set_count C → All (Contains (set_at C j).basis) (set_at C j).fresh
set_part C j l = (set_is C j l).part

pub set_once : (C : Matrix) (j : ℕ) → j < set_count C → AllPairs (λ a b. a ≢ b) (set_at C j).fresh
set_once C j l = (set_is C j l).once

pub sets_apart : (C : Matrix) (i j column : ℕ) → i < j → j < set_count C → Contains (set_at C i).fresh column → ¬ Contains (set_at C j).fresh column
sets_apart C i j column less l = (sets_are C).apart i j (record { basis = []; fresh = [] }) less (omega (arith, l, count_is C)) column

pub search_generator : (C : Matrix) (j : ℕ) → AreRows C.field C.columns C.rows → AreIndependent C.field C.columns C.rows → j < set_count C → IsSystematic C.field C.columns C.rows (set_at C j).basis (generator_at C j)
search_generator C j r h l = (generators_are C r h j l).1

pub search_dimension : (C : Matrix) (j : ℕ) → AreRows C.field C.columns C.rows → AreIndependent C.field C.columns C.rows → j < set_count C → length (set_at C j).basis ≡ length C.rows
search_dimension C j r h l = (generators_are C r h j l).0

pub heavy_word : (d : ℕ) (C : Matrix) (l x : ℕ) (c : List ℕ) → AreRows C.field C.columns C.rows → AreIndependent C.field C.columns C.rows → 0 < d → IsDivisible C.field C.columns C.rows d → InSpan C.field C.columns C.rows c → 0 < weight c → (IsSeenBelow C l c → ⊥) → bound d C l x ≤ weight c
heavy_word d C l x c r h some divides i p unseen = unseen_bound d C l x c r (generators_are C r h) some divides i p unseen

pub no_word_left : (C : Matrix) (l : ℕ) (c : List ℕ) → AreRows C.field C.columns C.rows → AreIndependent C.field C.columns C.rows → InSpan C.field C.columns C.rows c → 0 < weight c → Contains (levels_below C l) (length C.rows) → (IsSeenBelow C l c → ⊥) → ⊥
no_word_left C l c r h i p whole unseen = unseen_none C l c r (generators_are C r h) i p unseen whole

pub seen_weight : (C : Matrix) (l : ℕ) (c : List ℕ) → AreRows C.field C.columns C.rows → 0 < length C.rows → InSpan C.field C.columns C.rows c → IsSeenBelow C l c → (best C (set_count C) l).weight ≤ weight c
seen_weight C l c r rows i seen = seen_at_most C l c r i rows (some_set C) seen

pub least_weight : (d : ℕ) (C : Matrix) (l : ℕ) (c : List ℕ) → AreRows C.field C.columns C.rows → AreIndependent C.field C.columns C.rows → 0 < d → IsDivisible C.field C.columns C.rows d → 0 < length C.rows → InSpan C.field C.columns C.rows c → 0 < weight c → min (best C (set_count C) l).weight (bound d C l (best C (set_count C) l).weight) ≤ weight c
least_weight d C l c r h some divides rows i p = least_bound d C l c r (generators_are C r h) some divides rows (some_set C) i p

pub best_is_word : (C : Matrix) (l : ℕ) → AreRows C.field C.columns C.rows → AreIndependent C.field C.columns C.rows → 0 < length C.rows → HasWord C (best C (set_count C) l)
best_is_word C l r h rows = best_word C l (generators_are C r h) rows (some_set C)

pub done_is_distance : (d : ℕ) (C : Matrix) (l : ℕ) → AreRows C.field C.columns C.rows → AreIndependent C.field C.columns C.rows → 0 < d → IsDivisible C.field C.columns C.rows d → 0 < length C.rows → is_done d C l ≡ true → IsDistance C.field C.columns C.rows (best C (set_count C) l).weight
done_is_distance d C l r h some divides rows done = done_distance d C l r (generators_are C r h) some divides rows done

pub true_answer : (d : ℕ) (C : Matrix) (budget : ℕ) → AreRows C.field C.columns C.rows → AreIndependent C.field C.columns C.rows → 0 < d → IsDivisible C.field C.columns C.rows d → AnswerHolds C (answer d C budget)
true_answer d C budget r h some divides = answer_holds d C budget r (generators_are C r h) some divides

pub divisible_by_one : (C : Matrix) → IsDivisible C.field C.columns C.rows 1
divisible_by_one C w i = (weight w, omega arith)

pub own_answer : (C : Matrix) (budget : ℕ) → AreRows C.field C.columns C.rows → AreIndependent C.field C.columns C.rows → AnswerHolds C (answer (divisor_of C) C budget)
unfolding divisor_of
own_answer C budget r h = true_answer (weight_divisor C.field C.columns C.rows) C budget r h (divisor_positive C.field C.columns C.rows) (divisor_is C.field C.columns C.rows).divides

pub answer_by_one : (C : Matrix) (budget : ℕ) → AreRows C.field C.columns C.rows → AreIndependent C.field C.columns C.rows → AnswerHolds C (answer 1 C budget)
answer_by_one C budget r h = true_answer 1 C budget r h (omega arith) (divisible_by_one C)
