-- The phases of the larger code's plan.
--   level_up, set_same         the levels and the sets of a phase in both plans
--   total_is                   how many blocks a plan has
--   led_rises                  each phase has a block
--   StartsTo, starts_more      the first blocks of the first phases, and the block after these phases
--   no_starts                  of no phase
--   led_phase                  a whole block of a phase, in that plan
use Rattle.std.proofs.Common.{◌≡◌, ℕ, suc, ◌+◌, ◌*◌, ◌/◌, ◌^◌, ◌<◌, ◌≤◌, min, List, [], ◌∷◌, ◌++◌, length, slice_index, refl, sym, ap, subst, ◌∙◌, ⊎_elim, arith}
use Rattle.std.proofs.lemmas.Bool.{cases_lt}
use Rattle.std.proofs.lemmas.List.{get_or_append_left, get_or_at, length_push}
use Rattle.lc_algebra.specs.Field.{size}
use Rattle.lc_algebra.specs.Matrix.{Matrix}
use Rattle.lc_algebra.proofs.FieldTests.{above_one}
use Rattle.lc_enumeration.specs.Plan.{cut, phase_level, phase_set, blocks_before, level_blocks, total, phase_at, IsInPhase}
use Rattle.lc_enumeration.specs.NearWord.{pattern_count, coset_level, coset_set, coset_phases}
use Rattle.lc_enumeration.specs.Search.{set_count}
use Rattle.lc_enumeration.proofs.PlanLaws.{start_is, end_is, cut_is, blocks_least as plan_least}
use Rattle.lc_infoset.proofs.AnswerLaws.{some_set}
use Rattle.lc_place.specs.Place.{PlanSize}
use Rattle.lc_place.proofs.Phases.{blocks_next as plan_next, blocks_of}
use Rattle.lc_coset_laws.proofs.PhaseLaws.{level_blocks_are}
use Rattle.lc_coset_laws.proofs.LoopLaws.{level_inside, block_some}
use Rattle.lc_coset.specs.declared.frame.Frame.{Frame}
use Rattle.lc_coset.specs.declared.blocks.CosetPhase.{CosetPhase}
use Rattle.lc_coset.specs.declared.led.Led.{Led}
use Rattle.lc_coset.specs.Phase.{IsPhaseOf}
use Rattle.lc_coset.specs.Led.{led_plan, AreStartsOf, HasBlock, IsLed}
use Rattle.lc_coset.proofs.WalkLaws.{message_few}

pub level_up : (m p : ℕ) → phase_level m p ≡ suc (coset_level m p)
unfolding phase_level coset_level
level_up m p = omega arith

pub set_same : (m p : ℕ) → phase_set m p ≡ coset_set m p
unfolding phase_set coset_set
set_same m p = refl

phases_are : (k m : ℕ) → coset_phases k m ≡ suc k * m
unfolding coset_phases
phases_are k m = let e : k + 1 ≡ suc k = omega arith in ap (λ n. n * m) e

pub total_is : (k q m : ℕ) → total k q m ≡ min (blocks_before k q m (k * m)) cut
unfolding total
total_is k q m = refl

-- the blocks of a phase, by the patterns of its level
led_blocks : (k q m p : ℕ) → (pattern_count k q (coset_level m p) + 4095) / 4096 ≤ level_blocks (suc k) q (phase_level m p)
led_blocks k q m p = rw (level_up m p, blocks_of (suc k) q (suc (coset_level m p))) (omega (arith, message_few k q (coset_level m p)))

pub led_rises : (C : Matrix) (p : ℕ) → p < suc (length C.rows) * set_count C → blocks_before (suc (length C.rows)) (size C.field) (set_count C) p < blocks_before (suc (length C.rows)) (size C.field) (set_count C) (suc p)
led_rises C p l =
    let k = length C.rows in
    let q = size C.field in
    let m = set_count C in
    let level = level_inside k m p (some_set C) (omega (arith, l, phases_are k m)) in
    omega (arith, plan_next (suc k) q m p, led_blocks k q m p, block_some k q (coset_level m p) (above_one C.field) level, level_blocks_are k q (coset_level m p))

pub record StartsTo (plan : PlanSize) (block : ℕ) (starts : List ℕ) : Type 0 where
  pub firsts : AreStartsOf plan starts
  pub next : block ≡ min (blocks_before plan.k plan.q plan.m (length starts)) (2 ^ 40)

none_before : (k q m : ℕ) → blocks_before k q m 0 ≡ 0
unfolding blocks_before
none_before k q m = refl

pub no_starts : (plan : PlanSize) → StartsTo plan 0 []
no_starts plan = record { firsts = λ i l. absurd (omega (arith, l)); next = omega (arith, none_before plan.k plan.q plan.m) }

starts_add : (C : Matrix) (block e : ℕ) (starts : List ℕ) → StartsTo (led_plan C) block starts → block < total (suc (length C.rows)) (size C.field) (set_count C)
    → ((p : ℕ) → IsInPhase (suc (length C.rows)) (size C.field) (set_count C) p block → e ≡ (phase_at (suc (length C.rows)) (size C.field) (set_count C) p).end) → StartsTo (led_plan C) e (starts ++ block ∷ [])
starts_add C block e starts h l end =
    let k = suc (length C.rows) in
    let q = size C.field in
    let m = set_count C in
    let p = length starts in
    let few = total_is k q m in
    let c : cut ≡ 2 ^ 40 = cut_is in
    let start : block ≡ blocks_before k q m p = omega (arith, h.next, l, few, c) in
    let one : p < k * m = ⊎_elim (λ a. a) (λ a. absurd (omega (arith, plan_least k q m (k * m) p a, start, l, few))) (cases_lt p (k * m)) in
    let here : IsInPhase k q m p block = record {
      phase = one;
      after = omega (arith, start, start_is k q m p);
      before = omega (arith, start, end_is k q m p, led_rises C p one, l, few);
    } in
    record {
      firsts = λ i a. ⊎_elim
          (λ b. get_or_append_left starts (block ∷ []) 0 i b ∙ h.firsts i b)
          (λ b. let at : i ≡ p = omega (arith, a, b, length_push starts block) in rw at (get_or_at starts block [] 0 p refl ∙ start))
          (cases_lt i p);
      next = let many : length (starts ++ block ∷ []) ≡ suc p = length_push starts block ∙ omega arith in rw many (end p here ∙ end_is k q m p ∙ ap (min (blocks_before k q m (suc p))) c);
    }

pub starts_more : (C : Matrix) (plan : PlanSize) (block e : ℕ) (starts more : List ℕ) → plan ≡ led_plan C → StartsTo plan block starts → block < total plan.k plan.q plan.m → ((p : ℕ) → IsInPhase plan.k plan.q plan.m p block → e ≡ (phase_at plan.k plan.q plan.m p).end) → more ≡ starts ++ block ∷ [] → StartsTo plan e more
starts_more C plan block e starts more is h l end add =
    rw add (subst
    (λ (s : PlanSize). StartsTo s block starts → block < total s.k s.q s.m → ((p : ℕ) → IsInPhase s.k s.q s.m p block → e ≡ (phase_at s.k s.q s.m p).end) → StartsTo s e (starts ++ block ∷ []))
    (sym is) (starts_add C block e starts) h l end)

pub led_phase : (fr : Frame) (ph : CosetPhase) (b : ℕ) (l : Led) → IsPhaseOf fr ph → IsLed fr.sets fr.word l → HasBlock l ph b → IsInPhase (suc (length fr.sets.rows)) (size fr.sets.field) (set_count fr.sets) ph.number (blocks_before (suc (length fr.sets.rows)) (size fr.sets.field) (set_count fr.sets) ph.number + b)
led_phase fr ph b l h g t =
    let C = fr.sets in
    let k = length C.rows in
    let q = size C.field in
    let m = set_count C in
    let p = ph.number in
    let start : slice_index l.starts.items p ≡ blocks_before (suc k) q m p = g.firsts p t.started ∙ ap (λ (s : PlanSize). blocks_before s.k s.q s.m p) g.steps in
    let inside : slice_index l.starts.items p + b < total (suc k) q m = subst (λ (s : PlanSize). slice_index l.starts.items p + b < total s.k s.q s.m) g.steps t.inside in
    let whole = t.whole in
    let level = h.of_level in
    let counted : ph.patterns ≤ pattern_count k q (coset_level m p) = omega (arith, h.counted, ap (λ w. pattern_count k q w) level) in
    record {
      phase = omega (arith, h.one, phases_are k m);
      after = omega (arith, start_is (suc k) q m p);
      before = omega (arith, end_is (suc k) q m p, plan_next (suc k) q m p, led_blocks k q m p, counted, whole, inside, start, total_is (suc k) q m);
    }
