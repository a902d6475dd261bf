use Rattle.std.proofs.Common.{◌≤◌, ◌/◌, ◌%◌, sym, ap, ◌∙◌, Some, arith}
use Rattle.lc_enumeration.specs.Plan.{total, block_length}
use Rattle.lc_kernel.proofs.ScanLaws.{past_plan, past_block, at_word, word_there}
use Rattle.lc_kernel.proofs.place.word_at.Goals as goal

pub returns-then-block-total-clause-at : goal.returns-then-block-total-clause-at
returns-then-block-total-clause-at c =
    let plan = c.args.plan.now in
    let past : total plan.k plan.q plan.m ≤ c.args.place / 4096 = omega (arith, c.total.ensures.exact, c.if-block-total.true) in
    sym (past_plan c.args.sets.now plan c.args.place c.requires.plan past)

pub returns-then-offset-block_len-clause-at : goal.returns-then-offset-block_len-clause-at
returns-then-offset-block_len-clause-at c =
    let plan = c.args.plan.now in
    let found = c.phase_of-phase.ensures.found in
    let past : block_length plan.k plan.q plan.m found.0 (c.args.place / 4096) ≤ c.args.place % 4096 = omega (arith, c.block_len.ensures.exact found.0 found.1, c.if-offset-block_len.true) in
    sym (past_block c.args.sets.now plan c.args.place found.0 c.requires.plan found.1 past)

pub returns-in_err-stack-clause-none : goal.returns-in_err-stack-clause-none
returns-in_err-stack-clause-none c = λ none.
    let found = c.phase_of-phase.ensures.found in
    absurd (word_there c.args.sets.now c.args.plan.now c.args.place found.0 c.requires.plan found.1 (omega (arith, c.block_len.ensures.exact found.0 found.1, c.if-offset-block_len.false)) none)

pub returns-in_err-word_of-clause-none : goal.returns-in_err-word_of-clause-none
returns-in_err-word_of-clause-none c = λ none.
    let found = c.phase_of-phase.ensures.found in
    absurd (word_there c.args.sets.now c.args.plan.now c.args.place found.0 c.requires.plan found.1 (omega (arith, c.block_len.ensures.exact found.0 found.1, c.if-offset-block_len.false)) none)

pub returns-clause-at : goal.returns-clause-at
returns-clause-at c =
    let plan = c.args.plan.now in
    let found = c.phase_of-phase.ensures.found in
    ap Some c.in_ok-word_of.ensures.is ∙ sym (at_word c.args.sets.now plan c.args.place found.0 c.go_to.new.self c.requires.plan found.1 c.go_to.ensures.at)
