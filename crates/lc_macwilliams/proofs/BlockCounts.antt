-- Counting block by block of the plan of the first information set.
--   block_count C j b          how many words of weight j block b has
--   in_phase                   the blocks of a level are those of its phase
--   level_sum                  the blocks of a level have as many as the messages of the level give
--   blocks_sum                 so have the blocks of the first levels
--   count_by_blocks            how many words of weight j a code has, by its blocks
--   plan_is_short              the plan of a code of at most 2^24 words isn't cut
use Rattle.std.proofs.Common.{◌≡◌, ℕ, zero, suc, ◌+◌, ◌-◌, ◌*◌, ◌^◌, ◌<◌, ◌≤◌, min, cond, ◌==◌, List, [], length, sum_by, count_by, Contains, refl, sym, ap, ◌∙◌, arith}
use Rattle.std.proofs.Math.Nat.{div-le_self}
use Rattle.std.proofs.lemmas.List.Sums.{sum_by-append, sum_by-cons}
use Rattle.lc_algebra.specs.Field.{size}
use Rattle.lc_algebra.specs.Word.{weight}
use Rattle.lc_algebra.specs.Span.{combine, AreIndependent}
use Rattle.lc_algebra.specs.Matrix.{Matrix, AreRows}
use Rattle.lc_algebra.proofs.FieldLaws.{one_inside}
use Rattle.lc_algebra.proofs.ReducedLaws.{systematic_independent}
use Rattle.lc_enumeration.specs.Message.{Message, numbers_from, messages, vector_of}
use Rattle.lc_enumeration.specs.Plan.{cut, phase_level, phase_set, level_blocks, blocks_before, total, IsInPhase, block_messages}
use Rattle.lc_enumeration.specs.Search.{set_count, generator_at, word_of, block_words}
use Rattle.lc_enumeration.specs.Distribution.{count_of_weight}
use Rattle.lc_enumeration.proofs.PlanLaws.{cut_is, start_is, end_is}
use Rattle.lc_enumeration.proofs.SearchLaws.{numbers_within, words_in_phase}
use Rattle.lc_enumeration.proofs.RecordsLaws.{numbers_append}
use Rattle.lc_place.proofs.Listing.{blocks_list}
use Rattle.lc_infoset.proofs.GreedyLaws.{generators_are}
use Rattle.lc_infoset.proofs.PlanCount.{counts, all_counts, plan_few}
use Rattle.lc_macwilliams.proofs.CountLaws.{sum_same, sum_map, sum_flat_map}
use Rattle.lc_macwilliams.proofs.MessageLaws.{found_at, count_by_messages}

abbrev pub block_count : Matrix → ℕ → ℕ → ℕ
block_count C j b = count_by (λ w. weight w == j) (block_words C 1 b)

blocks_next : (k q p : ℕ) → blocks_before k q 1 (suc p) ≡ blocks_before k q 1 p + level_blocks k q (phase_level 1 p)
unfolding blocks_before
blocks_next k q p = refl

no_blocks : (k q : ℕ) → blocks_before k q 1 0 ≡ 0
unfolding blocks_before
no_blocks k q = refl

level_of : (p : ℕ) → phase_level 1 p ≡ suc p
unfolding phase_level
level_of p = omega arith

first_set : (p : ℕ) → phase_set 1 p ≡ 0
unfolding phase_set
first_set p = omega arith

pub in_phase : (k q p b : ℕ) → p < k → blocks_before k q 1 (suc p) ≤ cut → Contains (numbers_from (blocks_before k q 1 p) (level_blocks k q (phase_level 1 p))) b → IsInPhase k q 1 p b
in_phase k q p b l short c =
    let n = numbers_within (blocks_before k q 1 p) (level_blocks k q (phase_level 1 p)) b c in
    record {
      phase = omega (arith, l);
      after = omega (arith, start_is k q 1 p, n.0);
      before = omega (arith, end_is k q 1 p, n.1, blocks_next k q p, short);
    }

word_is : (C : Matrix) (p : ℕ) (m : Message) → word_of C 1 p m ≡ combine C.field C.columns (vector_of (length C.rows) m) (generator_at C 0)
unfolding word_of
word_is C p m = ap (λ s. combine C.field C.columns (vector_of (length C.rows) m) (generator_at C s)) (first_set p)

pub level_sum : (C : Matrix) (j p : ℕ) → p < length C.rows → blocks_before (length C.rows) (size C.field) 1 (suc p) ≤ cut → length (generator_at C 0) ≡ length C.rows → sum_by (block_count C j) (numbers_from (blocks_before (length C.rows) (size C.field) 1 p) (level_blocks (length C.rows) (size C.field) (phase_level 1 p))) ≡ found_at C.field C.columns (generator_at C 0) j (suc p)
level_sum C j p l short long =
    let k : ℕ = length C.rows in
    let q : ℕ = size C.field in
    let e : List (List ℕ) = generator_at C 0 in
    let blocks : List ℕ = numbers_from (blocks_before k q 1 p) (level_blocks k q (phase_level 1 p)) in
    let has : Message → ℕ = λ m. cond (weight (combine C.field C.columns (vector_of k m) e) == j) 1 0 in
    let whole : sum_by (block_count C j) blocks ≡ sum_by has (messages k q (suc p)) =
    sum_same (block_count C j) (λ b. sum_by has (block_messages k q 1 p b)) blocks (λ b c.
    ap (λ (ws : List (List ℕ)). count_by (λ w. weight w == j) ws) (words_in_phase C 1 p b (in_phase k q p b l short c))
    ∙ sum_map (λ w. cond (weight w == j) 1 0) (word_of C 1 p) (block_messages k q 1 p b)
    ∙ sum_same (λ m. cond (weight (word_of C 1 p m) == j) 1 0) has (block_messages k q 1 p b) (λ m _. ap (λ w. cond (weight w == j) 1 0) (word_is C p m)))
    ∙ sym (sum_flat_map has (block_messages k q 1 p) blocks)
    ∙ ap (sum_by has) (blocks_list k q 1 p)
    ∙ ap (λ w. sum_by has (messages k q w)) (level_of p) in
    whole ∙ ap (λ n. count_by (λ m. weight (combine C.field C.columns (vector_of n m) e) == j) (messages n q (suc p))) (sym long)

pub blocks_sum : (C : Matrix) (j p : ℕ) → p ≤ length C.rows → blocks_before (length C.rows) (size C.field) 1 p ≤ cut → length (generator_at C 0) ≡ length C.rows → sum_by (block_count C j) (numbers_from 0 (blocks_before (length C.rows) (size C.field) 1 p)) ≡ sum_by (found_at C.field C.columns (generator_at C 0) j) (numbers_from 1 p)
unfolding numbers_from
blocks_sum C j zero l short long = ap (λ n. sum_by (block_count C j) (numbers_from 0 n)) (no_blocks (length C.rows) (size C.field))
blocks_sum C j (suc p) l short long =
    let k : ℕ = length C.rows in
    let q : ℕ = size C.field in
    let a : ℕ = blocks_before k q 1 p in
    let c : ℕ = level_blocks k q (phase_level 1 p) in
    let found : ℕ → ℕ = found_at C.field C.columns (generator_at C 0) j in
    let before : a ≤ cut = omega (arith, short, blocks_next k q p) in
    let z : 0 + a ≡ a = omega arith in
    let left : sum_by (block_count C j) (numbers_from 0 (blocks_before k q 1 (suc p))) ≡ sum_by (block_count C j) (numbers_from 0 a) + sum_by (block_count C j) (numbers_from a c) =
    ap (λ n. sum_by (block_count C j) (numbers_from 0 n)) (blocks_next k q p)
    ∙ ap (sum_by (block_count C j)) (numbers_append 0 a c)
    ∙ sum_by-append (block_count C j) (numbers_from 0 a) (numbers_from (0 + a) c)
    ∙ ap (λ i. sum_by (block_count C j) (numbers_from 0 a) + sum_by (block_count C j) (numbers_from i c)) z in
    let up : p + 1 ≡ suc p = omega arith in
    let next : 1 + p ≡ suc p = omega arith in
    let right : sum_by found (numbers_from 1 (suc p)) ≡ sum_by found (numbers_from 1 p) + found (suc p) =
    ap (λ n. sum_by found (numbers_from 1 n)) (sym up)
    ∙ ap (sum_by found) (numbers_append 1 p 1)
    ∙ sum_by-append found (numbers_from 1 p) (numbers_from (1 + p) 1)
    ∙ ap (λ i. sum_by found (numbers_from 1 p) + sum_by found (numbers_from i 1)) next
    ∙ ap (λ x. sum_by found (numbers_from 1 p) + x) (sum_by-cons found (suc p) [] ∙ omega arith) in
    omega (arith, left, right, blocks_sum C j p (omega (arith, l)) before long, level_sum C j p (omega (arith, l)) short long)

pub count_by_blocks : (C : Matrix) (j : ℕ) → AreRows C.field C.columns C.rows → AreIndependent C.field C.columns C.rows → 0 < set_count C → blocks_before (length C.rows) (size C.field) 1 (length C.rows) ≤ cut → count_of_weight C.field C.columns C.rows j ≡ cond (0 == j) 1 0 + (size C.field - 1) * sum_by (block_count C j) (numbers_from 0 (total (length C.rows) (size C.field) 1))
unfolding count_of_weight total
count_by_blocks C j r i some short =
    let k : ℕ = length C.rows in
    let q : ℕ = size C.field in
    let e : List (List ℕ) = generator_at C 0 in
    let g = generators_are C r i 0 some in
    let long : length e ≡ k = g.1.count ∙ g.0 in
    let one : k * 1 ≡ k = omega arith in
    let whole : min (blocks_before k q 1 (k * 1)) cut ≡ blocks_before k q 1 k = rw one (omega (arith, short)) in
    let sums : sum_by (block_count C j) (numbers_from 0 (min (blocks_before k q 1 (k * 1)) cut)) ≡ sum_by (found_at C.field C.columns e j) (numbers_from 1 (length e)) =
    ap (λ n. sum_by (block_count C j) (numbers_from 0 n)) whole ∙ blocks_sum C j k (omega arith) short long ∙ ap (λ n. sum_by (found_at C.field C.columns e j) (numbers_from 1 n)) (sym long) in
    count_by_messages C.field C.columns C.rows e j r i g.1.words (systematic_independent C.field C.columns C.rows _ e g.1) g.1.same
    ∙ ap (λ x. cond (0 == j) 1 0 + (q - 1) * x) (sym sums)

pub plan_is_short : (C : Matrix) → size C.field ^ length C.rows ≤ 2 ^ 24 → blocks_before (length C.rows) (size C.field) 1 (length C.rows) ≤ cut
plan_is_short C l =
    let k : ℕ = length C.rows in
    let q : ℕ = size C.field in
    let one : k * 1 ≡ k = omega arith in
    let few : blocks_before k q 1 (k * 1) ≤ 1 * counts k q k = plan_few k q 1 k in
    let few' : blocks_before k q 1 k ≤ 1 * counts k q k = rw one at few in
    omega (arith, few', all_counts k q (one_inside C.field), div-le_self (q ^ k - 1) (q - 1), l, cut_is)
