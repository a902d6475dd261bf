-- The laws of nearest words from independent rows alone: the premises that the contracts state.
--   least_distance, whole_distance, done_distance      the bound law
--   best_is_word               the best word
--   answer_is_true             every answer
use Rattle.std.proofs.Common.{◌≡◌, ℕ, ◌+◌, ◌≤◌, min, true, List, length, Some, Contains}
use Rattle.lc_algebra.specs.Word.{IsWord, distance}
use Rattle.lc_algebra.specs.Span.{AreIndependent, InSpan}
use Rattle.lc_algebra.specs.Matrix.{Matrix, AreRows}
use Rattle.lc_enumeration.specs.NearWord.{coset_word_at, near_best, levels_done, near_bound, is_near_done, near_answer, NearHolds}
use Rattle.lc_infoset.proofs.GreedyLaws.{generators_are}
use Rattle.lc_coset_laws.proofs.NearLaws.{near_least, near_whole}
use Rattle.lc_coset_laws.proofs.NearBest.{near_best_word}
use Rattle.lc_coset_laws.proofs.NearAnswers.{done_near, near_holds}

pub least_distance : (C : Matrix) (x : List ℕ) (l : ℕ) (v : List ℕ) → AreRows C.field C.columns C.rows → AreIndependent C.field C.columns C.rows → IsWord C.field C.columns x → InSpan C.field C.columns C.rows v → min (near_best C x l).weight (near_bound C x l) ≤ distance C.field x v
least_distance C x l v r h is i = near_least C x l v r (generators_are C r h) is i

pub whole_distance : (C : Matrix) (x : List ℕ) (l : ℕ) (v : List ℕ) → AreRows C.field C.columns C.rows → AreIndependent C.field C.columns C.rows → IsWord C.field C.columns x → InSpan C.field C.columns C.rows v → Contains (levels_done C l) (length C.rows + 1) → (near_best C x l).weight ≤ distance C.field x v
whole_distance C x l v r h is i whole = near_whole C x l v r (generators_are C r h) is i whole

pub done_distance : (C : Matrix) (x : List ℕ) (l : ℕ) (v : List ℕ) → AreRows C.field C.columns C.rows → AreIndependent C.field C.columns C.rows → IsWord C.field C.columns x → InSpan C.field C.columns C.rows v → is_near_done C x l ≡ true → (near_best C x l).weight ≤ distance C.field x v
done_distance C x l v r h is i done = done_near C x l v r (generators_are C r h) is i done

pub best_is_word : (C : Matrix) (x : List ℕ) (l : ℕ) → AreRows C.field C.columns C.rows → (w : List ℕ) × (coset_word_at C x (near_best C x l).place ≡ Some w) × InSpan C.field C.columns C.rows w × (distance C.field x w ≡ (near_best C x l).weight)
best_is_word C x l r = near_best_word C x l r

pub answer_is_true : (C : Matrix) (x : List ℕ) (budget : ℕ) → AreRows C.field C.columns C.rows → AreIndependent C.field C.columns C.rows → IsWord C.field C.columns x → NearHolds C x (near_answer C x budget)
answer_is_true C x budget r h is = near_holds C x budget r (generators_are C r h) is
