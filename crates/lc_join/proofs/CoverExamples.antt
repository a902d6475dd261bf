-- A worked example of lines that are enough, by evaluation of the definitions. The search of the Hamming code of length 7 needs two
-- blocks, each of which is a phase.
--   both_enough              the lines of both blocks are enough
--   one_not                  one line of both isn't, since it ends after the phase of its first block
use Rattle.std.proofs.Common.{◌≡◌, ℕ, zero, suc, ◌+◌, ◌^◌, List, [], ◌∷◌, All, Contains, refl, sym, ap, ◌∙◌, arith}
use Rattle.lc_algebra.specs.Divisor.{divisor_of}
use Rattle.lc_enumeration.specs.Message.{choose, message_count}
use Rattle.lc_enumeration.specs.Plan.{cut, phase_level, phase_set, level_blocks, blocks_before, total, phase_at, plan_phases}
use Rattle.lc_enumeration.specs.Search.{Answer, answer}
use Rattle.lc_enumeration.specs.Truth.{answer_blocks}
use Rattle.lc_algebra.specs.Span.{below}
use Rattle.lc_enumeration.proofs.SearchExamples.{hamming, answer_any}
use Rattle.lc_parts.specs.Part.{Part, Facts, part_end, IsTruePart, facts_of}
use Rattle.lc_parts.specs.Along.{end_by}
use Rattle.lc_parts.proofs.PartExamples.{part, hamming_facts, facts, first_part, second_part}
use Rattle.lc_join.specs.Lines.{Numbered, parts_in}
use Rattle.lc_join.specs.Truth.{IsTrueLine}
use Rattle.lc_join.specs.Cover.{CoverBelow, AreEnough}

abbrev line : List ℕ → ℕ → Part → Numbered
line digest number p = record { number = number; line = record { script = digest; facts = hamming_facts; part = p } }

abbrev both : List ℕ → List Numbered
both digest = line digest 1 (part 1 1 3 0) ∷ line digest 2 (part 0 1 3 0) ∷ []

end_of : (p : Part) → part_end p ≡ p.start + p.count
unfolding part_end
end_of p = refl

first_end : end_by hamming_facts 0 ≡ 1
unfolding below choose message_count cut phase_level phase_set level_blocks blocks_before total phase_at plan_phases end_by
first_end = refl

second_end : end_by hamming_facts 1 ≡ 2
unfolding below choose message_count cut phase_level phase_set level_blocks blocks_before total phase_at plan_phases end_by
second_end = refl

divisor : divisor_of hamming ≡ 1
unfolding facts_of
divisor = ap (λ (f : Facts). f.divisor) facts

two_blocks : answer_blocks (answer (divisor_of hamming) hamming (2 ^ 20)) ≡ 2
unfolding answer_blocks
two_blocks = ap (λ d. answer_blocks (answer d hamming (2 ^ 20))) divisor ∙ ap (λ (a : Answer). answer_blocks a) answer_any

true_line : (digest : List ℕ) (number : ℕ) (p : Part) → IsTruePart hamming p → IsTrueLine digest hamming (line digest number p)
true_line digest number p h = record { script = refl; facts = sym facts; part = h }

both_true : (digest : List ℕ) → All (IsTrueLine digest hamming) (both digest)
both_true digest zero d l = true_line digest 1 (part 1 1 3 0) second_part
both_true digest (suc zero) d l = true_line digest 2 (part 0 1 3 0) first_part
both_true digest (suc (suc k)) d l = absurd (omega (arith, l))

both_cover : (digest : List ℕ) → CoverBelow (facts_of hamming) (2 ^ 20) 2 (parts_in (both digest))
both_cover digest zero less inside =
    let e = end_of (part 0 1 3 0) in
    let f = ap (λ (f : Facts). end_by f 0) facts ∙ first_end in
    (part 0 1 3 0, (1, omega arith, refl), omega arith, omega (arith, e), omega (arith, e, f), omega (arith, e))
both_cover digest (suc zero) less inside =
    let e = end_of (part 1 1 3 0) in
    let f = ap (λ (f : Facts). end_by f 1) facts ∙ second_end in
    (part 1 1 3 0, (0, omega arith, refl), omega arith, omega (arith, e), omega (arith, e, f), omega (arith, e))
both_cover digest (suc (suc b)) less inside = absurd (omega (arith, less))

pub both_enough : (digest : List ℕ) → AreEnough digest hamming (2 ^ 20) (both digest)
both_enough digest = record {
  some = omega arith;
  holds = both_true digest;
  cover = λ b less inside. both_cover digest b (omega (arith, less, two_blocks)) inside;
}

pub one_not : CoverBelow (facts_of hamming) (2 ^ 20) 2 (part 0 2 3 0 ∷ []) → ⊥
one_not cover =
    let f = ap (λ (f : Facts). end_by f 0) facts ∙ first_end in
    let c = cover 0 (omega arith) (omega (arith, f)) in
    let is = only (part 0 2 3 0) c.0 c.1 in
    omega (arith, f, c.4, ap (λ (p : Part). part_end p) is, end_of (part 0 2 3 0))
  where
    only : (p q : Part) → Contains (p ∷ []) q → q ≡ p
    only p q (zero, l, e) = sym e
    only p q (suc k, l, e) = absurd (omega (arith, l))
