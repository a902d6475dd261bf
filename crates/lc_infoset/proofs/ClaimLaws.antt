-- Where no seen word is lighter than d, no word of the code is lighter than d and than the bound of the levels.
--   lighter_is_no_multiple      a word that is lighter than d is no multiple of a seen word
--   seen_bound, seen_whole      the lesser of d and the bound is at most every weight; d is if some level is k
--   seen_rounded                and so is the lesser of d and the bound rounded up to a multiple of what divides all weights
use Rattle.std.proofs.Common.{◌≡◌, ℕ, ◌<◌, ◌≤◌, min, max, List, length, All, Contains, ap, ◌∙◌, ⊎_elim, arith}
use Rattle.std.proofs.lemmas.Bool.{cases_lt}
use Rattle.std.proofs.lemmas.List.Elements.{All-contains}
use Rattle.lc_algebra.specs.declared.FieldName.{FieldName}
use Rattle.lc_algebra.specs.Word.{weight}
use Rattle.lc_algebra.specs.Span.{combine, InSpan}
use Rattle.lc_algebra.specs.Matrix.{AreRows}
use Rattle.lc_algebra.specs.Divisor.{IsDivisible, rounded}
use Rattle.lc_algebra.proofs.WordLaws.{weight_scale}
use Rattle.lc_algebra.proofs.SpanLaws.{span_word, word_of_combination}
use Rattle.lc_algebra.proofs.DivisorLaws.{rounded_within}
use Rattle.lc_enumeration.specs.Message.{vector_of}
use Rattle.lc_enumeration.proofs.GreedyLaws.{each_contained}
use Rattle.lc_infoset.specs.Bound.{LevelSet, IsLevelSet, AreLevelSets, IsUnseen, IsNoMultiple, SeenAtLeast, set_bound}
use Rattle.lc_infoset.proofs.BoundLaws.{unseen_weight, unseen_whole}
use Rattle.lc_infoset.proofs.MultipleLaws.{unseen_from_messages}
use Rattle.lc_infoset.proofs.SearchBound.{message_word}

pub lighter_is_no_multiple : (f : FieldName) (n d : ℕ) (c : List ℕ) (s : LevelSet) → AreRows f n s.matrix → SeenAtLeast f n d s → 0 < weight c → weight c < d → IsNoMultiple f n c s
lighter_is_no_multiple f n d c s r h p light w a m some few small nonzero listed same =
    let word = combine f n (vector_of (length s.matrix) m) s.matrix in
    let fits = (span_word f n s.matrix word r (word_of_combination f n s.matrix (vector_of (length s.matrix) m) (message_word f (length s.matrix) w m some listed))).fits in
    let equal : weight c ≡ weight word = ap weight same ∙ weight_scale f a word small nonzero fits in
    omega (arith, light, equal, h w m some few listed (omega (arith, p, equal)))

all_unseen : (f : FieldName) (n k d : ℕ) (rows : List (List ℕ)) (sets : List LevelSet) (c : List ℕ) → AreLevelSets f n k rows sets → All (SeenAtLeast f n d) sets → 0 < weight c → weight c < d → All (IsUnseen f n c) sets
all_unseen f n k d rows sets c h seen p light = each_contained (IsUnseen f n c) sets (λ s l.
    let is = All-contains (IsLevelSet f n k rows) sets s h.each l in
    unseen_from_messages f n c s (lighter_is_no_multiple f n d c s is.systematic.words (All-contains (SeenAtLeast f n d) sets s seen l) p light))

pub seen_bound : (f : FieldName) (n k d : ℕ) (rows : List (List ℕ)) (sets : List LevelSet) (c : List ℕ) → AreRows f n rows → AreLevelSets f n k rows sets → All (SeenAtLeast f n d) sets → InSpan f n rows c → 0 < weight c → min d (set_bound k sets) ≤ weight c
seen_bound f n k d rows sets c r h seen i p =
    ⊎_elim
    (λ light. let heavy = unseen_weight f n k rows sets c r h i p (all_unseen f n k d rows sets c h seen p light) in omega (arith, heavy))
    (λ l. omega (arith, l))
    (cases_lt (weight c) d)

pub seen_rounded : (f : FieldName) (n k d g : ℕ) (rows : List (List ℕ)) (sets : List LevelSet) (c : List ℕ) → AreRows f n rows → AreLevelSets f n k rows sets → All (SeenAtLeast f n d) sets → 0 < g → IsDivisible f n rows g → InSpan f n rows c → 0 < weight c → min d (rounded g (max 1 (set_bound k sets))) ≤ weight c
seen_rounded f n k d g rows sets c r h seen some divides i p =
    ⊎_elim
    (λ light.
    let heavy = unseen_weight f n k rows sets c r h i p (all_unseen f n k d rows sets c h seen p light) in
    let above = rounded_within g (max 1 (set_bound k sets)) (weight c) some (divides c i) (omega (arith, heavy, p)) in
    omega (arith, above))
    (λ l. omega (arith, l))
    (cases_lt (weight c) d)

pub seen_whole : (f : FieldName) (n k d : ℕ) (rows : List (List ℕ)) (sets : List LevelSet) (c : List ℕ) → AreLevelSets f n k rows sets → All (SeenAtLeast f n d) sets → InSpan f n rows c → 0 < weight c → (s : LevelSet) → Contains sets s → k ≤ s.level → d ≤ weight c
seen_whole f n k d rows sets c h seen i p s l whole =
    ⊎_elim
    (λ light. absurd (unseen_whole f n k rows sets c h i p (all_unseen f n k d rows sets c h seen p light) s l whole))
    (λ m. m)
    (cases_lt (weight c) d)
