use Rattle.std.proofs.Common.{◌∙◌, is_some, sym, ap, refl}
use Rattle.lc_text.proofs.TextLaws.{need_rows, count_allowed, near_allowed}
use Rattle.lc_text.proofs.ComeLaws.{at_first, added, after_line, after_silent, after_need, after_count, after_near, few_met, starved_here, starved_next, halts_here, whole_result, faulty_result, no_line, not_silent, no_need, no_count, no_near, no_fault, is_ended}
use Rattle.lc_text.proofs.statements.text_of.Goals as goal

pub statements-init : goal.statements-init
statements-init g c = (at_first _ c.args.course.now _ c.args.machine.now c.new-bytes.result.items c.requires.unbound c.requires.unmet c.requires.ranged c.new-bytes.ensures.items, λ none. (none, refl))

pub returns-in_default-clause-ends : goal.returns-in_default-clause-ends
returns-in_default-clause-ends g c w h = starved_here _ _ _ _ _ c.statements.machine _ _ _ c.statements.invariant.0 w h

pub returns-then-is_err-clause-ends : goal.returns-then-is_err-clause-ends
returns-then-is_err-clause-ends g c w h = starved_here _ _ _ _ _ c.statements.machine _ _ _ c.statements.invariant.0 w h

pub statements-preserved-in-Line : goal.statements-preserved-in-Line
statements-preserved-in-Line g c = (
  after_line _ _ _ _ _ c.step.new.self _ _ _ c.statements.invariant.0 c.in-Line.line c.extend_from_slice.new.self.items (rw c.in-Line.is at c.in-Ok.ensures.does)
      (added c.extend_from_slice.result c.statements.bytes.items c.extend_from_slice.new.self.items c.in-Line.line.items c.deref.result.now _ (sym c.is_err.ensures.value ∙ c.if-is_err.false) c.extend_from_slice.ensures.items c.deref.ensures.value),
  λ none. absurd (no_line c.args.machine.now c.args.course.now c.statements.machine c.step.new.self c.statements.course c.statements.invariant.1 c.in-Line.line (rw c.in-Line.is at c.in-Ok.ensures.does) none),
)

pub statements-preserved-in-Silent : goal.statements-preserved-in-Silent
statements-preserved-in-Silent g c = (
  after_silent _ _ _ _ _ c.step.new.self _ _ _ c.statements.invariant.0 (rw c.in-Silent.is at c.in-Ok.ensures.does),
  λ none. absurd (not_silent c.args.machine.now c.args.course.now c.statements.machine c.step.new.self c.statements.course c.statements.invariant.1 (rw c.in-Silent.is at c.in-Ok.ensures.does) none),
)

pub need_line-requires-clause-rows : goal.need_line-requires-clause-rows
need_line-requires-clause-rows g c _ _ = need_rows c.statements.machine c.step.new.self c.in-Need.query (rw c.in-Need.is at c.in-Ok.ensures.does)

pub need_line-requires-clause-few : goal.need_line-requires-clause-few
need_line-requires-clause-few g c _ _ = few_met _ _ _ _ _ c.step.new.self _ _ _ c.statements.invariant.0 c.requires.few

pub returns-in-Err-clause-ends : goal.returns-in-Err-clause-ends
returns-in-Err-clause-ends g c w h =
    halts_here _ _ _ _ _ c.step.new.self _ _ _ c.statements.invariant.0 c.in-Need.query c.need_line.new.course _ c.in-Err.halt (rw c.in-Need.is at c.in-Ok.ensures.does) c.in-Err.ensures.goes w h

pub returns-then-is_err-2-clause-ends : goal.returns-then-is_err-2-clause-ends
returns-then-is_err-2-clause-ends g c w h =
    starved_next _ _ _ _ _ c.step.new.self _ _ _ c.statements.invariant.0 c.in-Need.query c.need_line.new.course _ c.in-Ok-need_line.line.items (rw c.in-Need.is at c.in-Ok.ensures.does) c.in-Ok-need_line.ensures.goes w h

pub statements-preserved-in-Need : goal.statements-preserved-in-Need
statements-preserved-in-Need g c = (
  after_need _ _ _ _ _ c.step.new.self _ _ _ c.statements.invariant.0 c.in-Need.query c.need_line.new.course _ c.in-Ok-need_line.line.items c.extend_from_slice-in-Need.new.self.items (rw c.in-Need.is at c.in-Ok.ensures.does) c.in-Ok-need_line.ensures.goes
      (added c.extend_from_slice-in-Need.result c.statements.bytes.items c.extend_from_slice-in-Need.new.self.items c.in-Ok-need_line.line.items c.deref-in-Need.result.now _ (sym c.is_err-in-Need.ensures.value ∙ c.if-is_err-2.false) c.extend_from_slice-in-Need.ensures.items c.deref-in-Need.ensures.value)
      c.in-Ok-need_line.ensures.ranged c.in-Ok-need_line.ensures.same,
  λ none. absurd (no_need c.args.machine.now c.args.course.now c.statements.machine c.step.new.self c.statements.course c.statements.invariant.1 c.in-Need.query (rw c.in-Need.is at c.in-Ok.ensures.does) none),
)

pub distribution_line-requires-clause-allowed : goal.distribution_line-requires-clause-allowed
distribution_line-requires-clause-allowed g c _ _ = count_allowed c.statements.machine c.step.new.self c.in-Weights.code (rw c.in-Weights.is at c.in-Ok.ensures.does)

pub returns-in_default-distribution_line-clause-ends : goal.returns-in_default-distribution_line-clause-ends
returns-in_default-distribution_line-clause-ends g c w h = starved_here _ _ _ _ _ c.statements.machine _ _ _ c.statements.invariant.0 w h

pub returns-then-is_err-3-clause-ends : goal.returns-then-is_err-3-clause-ends
returns-then-is_err-3-clause-ends g c w h = starved_here _ _ _ _ _ c.statements.machine _ _ _ c.statements.invariant.0 w h

pub statements-preserved-in-Weights : goal.statements-preserved-in-Weights
statements-preserved-in-Weights g c = (
  after_count _ _ _ _ _ c.step.new.self _ _ _ c.statements.invariant.0 c.in-Weights.code c.in-Ok-distribution_line.line.items c.extend_from_slice-in-Weights.new.self.items (rw c.in-Weights.is at c.in-Ok.ensures.does) c.in-Ok-distribution_line.ensures
      (added c.extend_from_slice-in-Weights.result c.statements.bytes.items c.extend_from_slice-in-Weights.new.self.items c.in-Ok-distribution_line.line.items c.deref-in-Weights.result.now _ (sym c.is_err-in-Weights.ensures.value ∙ c.if-is_err-3.false) c.extend_from_slice-in-Weights.ensures.items c.deref-in-Weights.ensures.value),
  λ none. absurd (no_count c.args.machine.now c.args.course.now c.statements.machine c.step.new.self c.statements.course c.statements.invariant.1 c.in-Weights.code (rw c.in-Weights.is at c.in-Ok.ensures.does) none),
)

pub near_line-requires-clause-budget : goal.near_line-requires-clause-budget
near_line-requires-clause-budget g c _ _ = c.requires.ranged.small

pub near_line-requires-clause-dimension : goal.near_line-requires-clause-dimension
near_line-requires-clause-dimension g c _ _ = (near_allowed c.statements.machine c.step.new.self c.in-Near.code c.in-Near.word (rw c.in-Near.is at c.in-Ok.ensures.does)).0

pub near_line-requires-clause-word : goal.near_line-requires-clause-word
near_line-requires-clause-word g c _ _ = (near_allowed c.statements.machine c.step.new.self c.in-Near.code c.in-Near.word (rw c.in-Near.is at c.in-Ok.ensures.does)).1

pub returns-in_default-near_line-clause-ends : goal.returns-in_default-near_line-clause-ends
returns-in_default-near_line-clause-ends g c w h = starved_here _ _ _ _ _ c.statements.machine _ _ _ c.statements.invariant.0 w h

pub returns-then-is_err-4-clause-ends : goal.returns-then-is_err-4-clause-ends
returns-then-is_err-4-clause-ends g c w h = starved_here _ _ _ _ _ c.statements.machine _ _ _ c.statements.invariant.0 w h

pub statements-preserved : goal.statements-preserved
statements-preserved g c = (
  after_near _ _ _ _ _ c.step.new.self _ _ _ c.statements.invariant.0 c.in-Near.code c.in-Near.word c.in-Ok-near_line.line.items c.extend_from_slice-in-Near.new.self.items (rw c.in-Near.is at c.in-Ok.ensures.does) c.in-Ok-near_line.ensures
      (added c.extend_from_slice-in-Near.result c.statements.bytes.items c.extend_from_slice-in-Near.new.self.items c.in-Ok-near_line.line.items c.deref-in-Near.result.now _ (sym c.is_err-in-Near.ensures.value ∙ c.if-is_err-4.false) c.extend_from_slice-in-Near.ensures.items c.deref-in-Near.ensures.value),
  λ none. absurd (no_near c.args.machine.now c.args.course.now c.statements.machine c.step.new.self c.statements.course c.statements.invariant.1 c.in-Near.code c.in-Near.word (rw c.in-Near.is at c.in-Ok.ensures.does) none),
)

pub returns-then-is_err-5-clause-ends : goal.returns-then-is_err-5-clause-ends
returns-then-is_err-5-clause-ends g c w h = starved_here _ _ _ _ _ c.statements.machine _ _ _ c.statements.invariant.0 w h

pub returns-in-Fault-clause-ends : goal.returns-in-Fault-clause-ends
returns-in-Fault-clause-ends g c w h =
    faulty_result _ _ _ _ _ c.step.new.self _ _ _ c.statements.invariant.0 c.in-Fault.line c.extend_from_slice-in-Fault.new.self.items (rw c.in-Fault.is at c.in-Ok.ensures.does)
    (added c.extend_from_slice-in-Fault.result c.statements.bytes.items c.extend_from_slice-in-Fault.new.self.items c.in-Fault.line.items c.deref-in-Fault.result.now _ (sym c.is_err-in-Fault.ensures.value ∙ c.if-is_err-5.false) c.extend_from_slice-in-Fault.ensures.items c.deref-in-Fault.ensures.value)
    w (sym h.of.budget) h c.ended.result c.ended.ensures

pub returns-in-End-clause-ends : goal.returns-in-End-clause-ends
returns-in-End-clause-ends g c w h = whole_result _ _ _ _ _ c.step.new.self _ _ _ c.statements.invariant.0 (rw c.in-End.is at c.in-Ok.ensures.does) w (sym h.of.budget) h c.ended-in-End.result c.ended-in-End.ensures

pub returns-then-is_err-clause-nothing : goal.returns-then-is_err-clause-nothing
returns-then-is_err-clause-nothing g c none _ = absurd (no_line c.args.machine.now c.args.course.now c.statements.machine c.step.new.self c.statements.course c.statements.invariant.1 c.in-Line.line (rw c.in-Line.is at c.in-Ok.ensures.does) none)

pub returns-in-Err-clause-nothing : goal.returns-in-Err-clause-nothing
returns-in-Err-clause-nothing g c none _ = absurd (no_need c.args.machine.now c.args.course.now c.statements.machine c.step.new.self c.statements.course c.statements.invariant.1 c.in-Need.query (rw c.in-Need.is at c.in-Ok.ensures.does) none)

pub returns-then-is_err-2-clause-nothing : goal.returns-then-is_err-2-clause-nothing
returns-then-is_err-2-clause-nothing g c none _ = absurd (no_need c.args.machine.now c.args.course.now c.statements.machine c.step.new.self c.statements.course c.statements.invariant.1 c.in-Need.query (rw c.in-Need.is at c.in-Ok.ensures.does) none)

pub returns-in_default-distribution_line-clause-nothing : goal.returns-in_default-distribution_line-clause-nothing
returns-in_default-distribution_line-clause-nothing g c none _ = absurd (no_count c.args.machine.now c.args.course.now c.statements.machine c.step.new.self c.statements.course c.statements.invariant.1 c.in-Weights.code (rw c.in-Weights.is at c.in-Ok.ensures.does) none)

pub returns-then-is_err-3-clause-nothing : goal.returns-then-is_err-3-clause-nothing
returns-then-is_err-3-clause-nothing g c none _ = absurd (no_count c.args.machine.now c.args.course.now c.statements.machine c.step.new.self c.statements.course c.statements.invariant.1 c.in-Weights.code (rw c.in-Weights.is at c.in-Ok.ensures.does) none)

pub returns-in_default-near_line-clause-nothing : goal.returns-in_default-near_line-clause-nothing
returns-in_default-near_line-clause-nothing g c none _ = absurd (no_near c.args.machine.now c.args.course.now c.statements.machine c.step.new.self c.statements.course c.statements.invariant.1 c.in-Near.code c.in-Near.word (rw c.in-Near.is at c.in-Ok.ensures.does) none)

pub returns-then-is_err-4-clause-nothing : goal.returns-then-is_err-4-clause-nothing
returns-then-is_err-4-clause-nothing g c none _ = absurd (no_near c.args.machine.now c.args.course.now c.statements.machine c.step.new.self c.statements.course c.statements.invariant.1 c.in-Near.code c.in-Near.word (rw c.in-Near.is at c.in-Ok.ensures.does) none)

pub returns-then-is_err-5-clause-nothing : goal.returns-then-is_err-5-clause-nothing
returns-then-is_err-5-clause-nothing g c none _ = absurd (no_fault c.args.machine.now c.args.course.now c.statements.machine c.step.new.self c.statements.course c.statements.invariant.1 c.in-Fault.line (rw c.in-Fault.is at c.in-Ok.ensures.does) none)

pub returns-in-Fault-clause-nothing : goal.returns-in-Fault-clause-nothing
returns-in-Fault-clause-nothing g c none _ = absurd (no_fault c.args.machine.now c.args.course.now c.statements.machine c.step.new.self c.statements.course c.statements.invariant.1 c.in-Fault.line (rw c.in-Fault.is at c.in-Ok.ensures.does) none)

pub returns-in-End-clause-nothing : goal.returns-in-End-clause-nothing
returns-in-End-clause-nothing g c none free = is_ended c.statements.course c.statements.bytes.items _ c.ended-in-End.result c.ended-in-End.ensures (ap (λ b. is_some b.current) (c.statements.invariant.1 none).1 ∙ free)
