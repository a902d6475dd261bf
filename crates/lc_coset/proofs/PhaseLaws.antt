-- The phases of a search, as they are counted.
--   PhaseMade, phase_made      the phase of a number
--   BlockBegins, block_begins  the number of the first pattern of a block
--   led_level                  its level is one of the plan
--   ends_is                    whether its blocks come before one
use Rattle.std.proofs.Common.{◌≡◌, ℕ, suc, ◌+◌, ◌-◌, ◌*◌, ◌/◌, ◌%◌, ◌^◌, ◌<◌, ◌≤◌, min, nat_le, length, refl, sym, ap, ap₂, ◌∙◌, ⊎_elim, arith}
use Rattle.std.proofs.lemmas.Bool.{cases_lt}
use Rattle.std.proofs.lemmas.Bool.Decides.{nat_tests}
use Rattle.lc_algebra.specs.Field.{size}
use Rattle.lc_algebra.specs.Matrix.{Matrix}
use Rattle.lc_enumeration.specs.Message.{choose}
use Rattle.lc_enumeration.specs.Search.{set_count}
use Rattle.lc_enumeration.specs.NearWord.{pattern_count, coset_level, coset_set, coset_level_blocks, coset_phases}
use Rattle.lc_place.specs.Place.{PlanSize}
use Rattle.lc_coset_laws.proofs.PhaseLaws.{blocks_next, level_blocks_are}
use Rattle.lc_infoset.proofs.AnswerLaws.{some_set}
use Rattle.lc_coset_laws.proofs.PlaceLaws.{before_of}
use Rattle.lc_coset_laws.proofs.LoopLaws.{level_inside}
use Rattle.lc_coset.specs.declared.frame.Frame.{Frame}
use Rattle.lc_coset.specs.declared.blocks.CosetPhase.{CosetPhase}
use Rattle.lc_coset.specs.Near.{walk_plan}
use Rattle.lc_coset.specs.Phase.{IsFrame, IsPhaseOf}

count_is : (k q w : ℕ) → pattern_count k q w ≡ choose k w * (q - 1) ^ w
unfolding pattern_count
count_is k q w = refl

level_is : (m p : ℕ) → coset_level m p ≡ p / m
unfolding coset_level
level_is m p = refl

set_is : (m p : ℕ) → coset_set m p ≡ p % m
unfolding coset_set
set_is m p = refl

-- the end of a phase, by the patterns of its level
end_of_phase : (C : Matrix) (p w : ℕ) → w ≡ coset_level (set_count C) p → before_of C (suc p) ≡ before_of C p + (pattern_count (length C.rows) (size C.field) w + 4095) / 4096
end_of_phase C p w e =
    let k = length C.rows in
    let q = size C.field in
    blocks_next k q (set_count C) p ∙ ap (λ v. before_of C p + coset_level_blocks k q v) (sym e) ∙ ap (λ n. before_of C p + n) (level_blocks_are k q w)

counted_is : (C : Matrix) (plan : PlanSize) (w n : ℕ) → plan ≡ walk_plan C → n ≡ min (choose (plan.k - 1) (w + 1 - 1) * (plan.q - 1) ^ (w + 1 - 1)) (2 ^ 53) → n ≡ min (pattern_count (length C.rows) (size C.field) w) (2 ^ 53)
counted_is C plan w n e h =
    let back : w + 1 - 1 ≡ w = omega arith in
    let less : suc (length C.rows) - 1 ≡ length C.rows = omega arith in
    h ∙ ap (λ (p : PlanSize). min (choose (p.k - 1) (w + 1 - 1) * (p.q - 1) ^ (w + 1 - 1)) (2 ^ 53)) e
    ∙ ap₂ (λ a b. min (choose a b * (size C.field - 1) ^ b) (2 ^ 53)) less back
    ∙ ap (λ a. min a (2 ^ 53)) (sym (count_is (length C.rows) (size C.field) w))

pub record PhaseMade (fr : Frame) (ph : CosetPhase) (budget : ℕ) : Type 0 where
  pub phase : IsPhaseOf fr ph
  pub ends : ph.first + ph.blocks ≡ min budget (before_of fr.sets (suc ph.number))

pub phase_made : (fr : Frame) (number first budget m patterns blocks : ℕ) → IsFrame fr → number < coset_phases (length fr.sets.rows) (set_count fr.sets) → first ≡ before_of fr.sets number → first ≤ budget → budget ≤ 2 ^ 40 → m ≡ set_count fr.sets
    → patterns ≡ min (choose (fr.plan.k - 1) (number / m + 1 - 1) * (fr.plan.q - 1) ^ (number / m + 1 - 1)) (2 ^ 53) → blocks ≡ min ((patterns + 4095) / 4096) (budget - first)
    → PhaseMade fr (record { number = number; set = number % m; level = number / m; first = first; patterns = patterns; blocks = blocks }) budget
phase_made fr number first budget m patterns blocks t inside begins few most e counted made =
    let C = fr.sets in
    let w = number / m in
    let level : w ≡ coset_level (set_count C) number = ap (λ n. number / n) e ∙ sym (level_is (set_count C) number) in
    let set : number % m ≡ coset_set (set_count C) number = ap (λ n. number % n) e ∙ sym (set_is (set_count C) number) in
    let count = counted_is C fr.plan w patterns t.steps counted in
    let end = end_of_phase C number w level in
    record {
      phase = record {
        one = inside;
        on_set = set;
        of_level = level;
        begins = begins;
        counted = count;
        inside = omega (arith, begins, end, count, made);
        uncut = omega (arith, made, few, most);
      };
      ends = omega (arith, begins, end, count, made, few, most);
    }

le_both : (a b c d : ℕ) → (a ≤ b → c ≤ d) → (c ≤ d → a ≤ b) → nat_le a b ≡ nat_le c d
le_both a b c d f g =
    ⊎_elim
    (λ l. let m : d < c = ⊎_elim (λ n. n) (λ n. absurd (omega (arith, l, g n))) (cases_lt d c) in grind (arith, nat_tests, l, m))
    (λ l. let m : c ≤ d = f l in grind (arith, nat_tests, l, m))
    (cases_lt b a)

pub ends_is : (fr : Frame) (ph : CosetPhase) (last : ℕ) → IsPhaseOf fr ph → ph.first ≤ last → last < 2 ^ 40 → nat_le ((ph.patterns + 4095) / 4096) (last - ph.first) ≡ nat_le (before_of fr.sets (suc ph.number)) last
ends_is fr ph last h l small =
    let end = end_of_phase fr.sets ph.number ph.level h.of_level in
    le_both ((ph.patterns + 4095) / 4096) (last - ph.first) (before_of fr.sets (suc ph.number)) last (λ a. omega (arith, a, end, h.begins, h.counted, l, small)) (λ a. omega (arith, a, end, h.begins, h.counted, l, small))

pub record BlockBegins (fr : Frame) (ph : CosetPhase) (b : ℕ) : Type 0 where
  pub counted : b * 4096 < pattern_count (length fr.sets.rows) (size fr.sets.field) ph.level
  pub patterns : b * 4096 < ph.patterns
  pub small : b * 4096 + 4096 ≤ 2 ^ 52

pub block_begins : (fr : Frame) (ph : CosetPhase) (b : ℕ) → IsPhaseOf fr ph → b < ph.blocks → BlockBegins fr ph b
block_begins fr ph b h l =
    let end = end_of_phase fr.sets ph.number ph.level h.of_level in
    record { counted = omega (arith, end, h.inside, h.begins, l); patterns = omega (arith, end, h.inside, h.begins, h.counted, h.uncut, l); small = omega (arith, l, h.uncut) }

pub led_level : (fr : Frame) (number m : ℕ) → IsFrame fr → number < coset_phases (length fr.sets.rows) (set_count fr.sets) → m ≡ set_count fr.sets → number / m + 1 ≤ fr.plan.k
led_level fr number m t l e =
    let inside = level_inside (length fr.sets.rows) (set_count fr.sets) number (some_set fr.sets) l in
    omega (arith, inside, level_is (set_count fr.sets) number, ap (λ n. number / n) e, ap (λ (p : PlanSize). p.k) t.steps)
