use Rattle.std.proofs.Common.{◌≡◌, ◌+◌, ◌*◌, ◌<◌, ◌≤◌, ◌^◌, suc, true, false, nat_le, length, refl, sym, ap, ap₂, subst, ◌∙◌, arith}
use Rattle.lc_algebra.specs.Field.{size}
use Rattle.lc_enumeration.specs.Search.{set_count}
use Rattle.lc_infoset.proofs.AnswerLaws.{some_set}
use Rattle.lc_coset_laws.proofs.PhaseLaws.{no_blocks}
use Rattle.lc_coset_laws.proofs.PlaceLaws.{before_of}
use Rattle.lc_coset_laws.proofs.SeenLaws.{phases_are}
use Rattle.lc_coset.specs.declared.answer.Ending.{Ending}
use Rattle.lc_coset.specs.Answer.{ending_near}
use Rattle.lc_coset.specs.Phase.{IsStateAt}
use Rattle.lc_coset.proofs.AnswerLaws.{phase_answer, bracket_at, whole_answer, unmet_next, begins_next}
use Rattle.lc_coset.proofs.answer.search.Goals as goal

pub loop-number-init : goal.loop-number-init
loop-number-init g c =
    let C = c.args.frame.now.sets in
    record { begins = sym (no_blocks (length C.rows) (size C.field) (set_count C)); within = omega arith; state = c.requires.state; unmet = λ r l. absurd (omega (arith, l)) }

pub bound_at-low-requires-clause-inside : goal.bound_at-low-requires-clause-inside
bound_at-low-requires-clause-inside g c =
    let C = c.args.frame.now.sets in
    let x = c.args.frame.now.word in
    let product : c.dimension.result * c.count.result ≡ length C.rows * set_count C = ap₂ (λ a b. a * b) c.dimension.ensures.is c.count.ensures.is in
    let within : c.loop-number.number ≤ length C.rows * set_count C = omega (arith, c.loop-number-test.true, product) in
    omega (arith, within, phases_are (length C.rows) (set_count C))

pub phase_of-phase-requires-clause-one : goal.phase_of-phase-requires-clause-one
phase_of-phase-requires-clause-one g c =
    let C = c.args.frame.now.sets in
    let x = c.args.frame.now.word in
    let product : c.dimension.result * c.count.result ≡ length C.rows * set_count C = ap₂ (λ a b. a * b) c.dimension.ensures.is c.count.ensures.is in
    let within : c.loop-number.number ≤ length C.rows * set_count C = omega (arith, c.loop-number-test.true, product) in
    omega (arith, within, phases_are (length C.rows) (set_count C), some_set C)

pub returns-then-state-low : goal.returns-then-state-low
returns-then-state-low g c =
    let C = c.args.frame.now.sets in
    let x = c.args.frame.now.word in
    let product : c.dimension.result * c.count.result ≡ length C.rows * set_count C = ap₂ (λ a b. a * b) c.dimension.ensures.is c.count.ensures.is in
    let within : c.loop-number.number ≤ length C.rows * set_count C = omega (arith, c.loop-number-test.true, product) in
    let uncut : c.loop-number.blocks < 2 ^ 40 = omega (arith, c.loop-number.invariant.within, c.min-last.ensures) in
    record {
      is = phase_answer C x c.args.budget c.loop-number.number c.loop-number.blocks c.bound_at-low.result c.loop-number.state.best _ (omega (arith, c.dimension-many.ensures.is, c.dimension-many.ensures.least)) within c.loop-number.invariant.begins uncut (omega (arith, c.loop-number.invariant.within, c.min-last.ensures)) c.loop-number.invariant.unmet
          c.bound_at-low.ensures.is (omega (arith, c.if-state-low.true)) c.loop-number.invariant.state.found (ap (λ (e : Ending). ending_near e.exact e.low e.blocks c.loop-number.state.best) c.exact.ensures.is);
    }

pub returns-then-not-ends_by : goal.returns-then-not-ends_by
returns-then-not-ends_by g c =
    let C = c.args.frame.now.sets in
    let x = c.args.frame.now.word in
    let product : c.dimension.result * c.count.result ≡ length C.rows * set_count C = ap₂ (λ a b. a * b) c.dimension.ensures.is c.count.ensures.is in
    let within : c.loop-number.number ≤ length C.rows * set_count C = omega (arith, c.loop-number-test.true, product) in
    let s = c.in_ok-search_phase.ensures.state in
    let past : nat_le (before_of C (suc c.loop-number.number)) c.min-last.result ≡ false = ap (λ n. nat_le (before_of C (suc n)) c.min-last.result) (sym c.phase_of-phase.ensures.number.0) ∙ sym c.ends_by.ensures.is ∙ c.if-not-ends_by.true in
    record {
      is = bracket_at C x c.args.budget c.loop-number.number c.loop-number.blocks c.bound_at-low.result c.min-last.result (c.phase_of-phase.result.first + c.phase_of-phase.result.blocks) c.search_phase.new.state.best _ (omega (arith, c.dimension-many.ensures.is, c.dimension-many.ensures.least)) within c.loop-number.invariant.begins c.loop-number.invariant.within (omega (arith, c.min-last.ensures)) c.requires.budget
          c.loop-number.invariant.unmet c.bound_at-low.ensures.is (omega (arith, c.if-state-low.false, c.loop-number.invariant.state.found.distance)) past (ap (λ n. n + c.phase_of-phase.result.blocks) c.phase_of-phase.ensures.number.1 ∙ c.phase_of-phase.ensures.blocks) s.found refl;
    }

pub loop-number-preserved : goal.loop-number-preserved
loop-number-preserved g c =
    let C = c.args.frame.now.sets in
    let x = c.args.frame.now.word in
    let product : c.dimension.result * c.count.result ≡ length C.rows * set_count C = ap₂ (λ a b. a * b) c.dimension.ensures.is c.count.ensures.is in
    let within : c.loop-number.number ≤ length C.rows * set_count C = omega (arith, c.loop-number-test.true, product) in
    let s = c.in_ok-search_phase.ensures.state in
    let uncut : c.loop-number.blocks < 2 ^ 40 = omega (arith, c.loop-number.invariant.within, c.min-last.ensures) in
    let before : nat_le (before_of C (suc c.loop-number.number)) c.min-last.result ≡ true = ap (λ n. nat_le (before_of C (suc n)) c.min-last.result) (sym c.phase_of-phase.ensures.number.0) ∙ sym c.ends_by.ensures.is ∙ c.if-not-ends_by.false in
    let next = begins_next C c.loop-number.number c.loop-number.blocks c.phase_of-phase.result.blocks c.min-last.result c.args.budget (omega (arith, c.min-last.ensures)) c.phase_of-phase.ensures.blocks before in
    record {
      begins = next.0;
      within = next.1;
      state = subst (λ l. IsStateAt c.args.frame.now (l + c.phase_of-phase.result.blocks) c.search_phase.new.state) c.phase_of-phase.ensures.number.1 s;
      unmet = unmet_next C x c.loop-number.number c.loop-number.blocks c.bound_at-low.result c.loop-number.state.best within c.loop-number.invariant.begins uncut c.bound_at-low.ensures.is c.loop-number.invariant.state.found (omega (arith, c.if-state-low.false)) c.loop-number.invariant.unmet;
    }

pub returns : goal.returns
returns g c =
    let C = c.args.frame.now.sets in
    let x = c.args.frame.now.word in
    let product : c.dimension.result * c.count.result ≡ length C.rows * set_count C = ap₂ (λ a b. a * b) c.dimension.ensures.is c.count.ensures.is in
    let all : c.loop-number.number ≡ length C.rows * set_count C + 1 = omega (arith, c.loop-number-test.false, c.loop-number.auto.number-end, product) in
    record {
      is = whole_answer C x c.args.budget c.loop-number.number c.loop-number.blocks c.loop-number.state.best _ (omega (arith, c.dimension-many.ensures.is, c.dimension-many.ensures.least)) all c.loop-number.invariant.begins (omega (arith, c.loop-number.invariant.within, c.min-last.ensures)) (omega (arith, c.loop-number.invariant.within, c.min-last.ensures)) c.loop-number.invariant.unmet
          c.loop-number.invariant.state.found (ap (λ (e : Ending). ending_near e.exact e.low e.blocks c.loop-number.state.best) c.exact-2.ensures.is);
    }
