use Rattle.std.proofs.Common.{◌<◌, length, [], refl, sym, ap, subst, ◌∙◌}
use Rattle.lc_algebra.specs.Matrix.{Matrix}
use Rattle.lc_session_rules.specs.Options.{settings}
use Rattle.lc_rounds.specs.Way.{Around}
use Rattle.lc_rounds.specs.Surroundings.{seen_of, seen}
use Rattle.lc_session.proofs.AskedLaws.{summary_asked}
use Rattle.lc_session.proofs.SummarySessions.{code_rows, summary_unstarted, written_so, unwritten_so, starved_so, halted_so}
use Rattle.lc_session.proofs.summary.summary.Goals as goal

pub returns-in_default : goal.returns-in_default
returns-in_default g c args source source_faults accepted =
    let a = c.args.asked in
    summary_unstarted args a.workers a.round a.budget a.number _ (accepted ∙ ap settings (summary_asked a c.requires.within c.requires.sums))

pub need_line-requires-clause-rows : goal.need_line-requires-clause-rows
need_line-requires-clause-rows g c _ _ = subst (λ (C : Matrix). 0 < length C.rows) (sym c.in-Ok.ensures.code) (code_rows c.args.asked.number)

pub returns-in-Err : goal.returns-in-Err
returns-in-Err g c args source source_faults accepted =
    let a = c.args.asked in
    let first : Around = seen g.V.Vault g.W.Watcher c.args.surroundings in
    let last : Around = seen_of g.V.Vault g.W.Watcher c.need_line.new.surroundings.0 c.need_line.new.surroundings.1.0.items in
    halted_so a.number a.budget a.round c.requires.within.limits.few_blocks c.requires.within.limits.some_blocks.0 _ first args a.workers source source_faults _ _ (accepted ∙ ap settings (summary_asked a c.requires.within c.requires.sums)) c.need_line.new.course last _ _
    c.in-Ok.code c.in-Err.field-0 c.in-Ok.ensures.code (c.in-Err.ensures.goes _ [] [] (c.afresh-course.ensures.starts first)) refl refl

pub returns-in_default-summary_line : goal.returns-in_default-summary_line
returns-in_default-summary_line g c args source source_faults accepted =
    let a = c.args.asked in
    let first : Around = seen g.V.Vault g.W.Watcher c.args.surroundings in
    let last : Around = seen_of g.V.Vault g.W.Watcher c.need_line.new.surroundings.0 c.need_line.new.surroundings.1.0.items in
    let went = c.in-Ok-need_line.ensures.goes in
    starved_so a.number a.budget a.round c.requires.within.limits.few_blocks c.requires.within.limits.some_blocks.0 _ first args a.workers source source_faults _ _ (accepted ∙ ap settings (summary_asked a c.requires.within c.requires.sums)) c.need_line.new.course last _ _
    c.in-Ok.code went.0 c.in-Ok.ensures.code (went.2 _ [] [] (c.afresh-course.ensures.starts first)) refl refl

pub returns-in-Ok-write_whole : goal.returns-in-Ok-write_whole
returns-in-Ok-write_whole g c args source source_faults accepted =
    let a = c.args.asked in
    let first : Around = seen g.V.Vault g.W.Watcher c.args.surroundings in
    let last : Around = seen_of g.V.Vault g.W.Watcher c.need_line.new.surroundings.0 c.need_line.new.surroundings.1.0.items in
    let went = c.in-Ok-need_line.ensures.goes in
    written_so a.number a.budget a.round c.requires.within.limits.few_blocks c.requires.within.limits.some_blocks.0 _ first args a.workers source source_faults _ _ (accepted ∙ ap settings (summary_asked a c.requires.within c.requires.sums)) c.need_line.new.course last _ _
    c.in-Ok.code went.0 c.deref.result.now c.in-Ok-summary_line.text.items c.in-Ok.ensures.code (went.2 _ [] [] (c.afresh-course.ensures.starts first)) (c.deref.ensures.value ∙ went.1) c.in-Ok-summary_line.ensures.summary
    (rw c.deref-2.ensures.value at c.in-Ok-write_whole.ensures.whole) c.in-Ok-write_whole.ensures.count

pub returns : goal.returns
returns g c args source source_faults accepted =
    let a = c.args.asked in
    let first : Around = seen g.V.Vault g.W.Watcher c.args.surroundings in
    let last : Around = seen_of g.V.Vault g.W.Watcher c.need_line.new.surroundings.0 c.need_line.new.surroundings.1.0.items in
    let went = c.in-Ok-need_line.ensures.goes in
    unwritten_so a.number a.budget a.round c.requires.within.limits.few_blocks c.requires.within.limits.some_blocks.0 _ first args a.workers source source_faults _ _ (accepted ∙ ap settings (summary_asked a c.requires.within c.requires.sums)) c.need_line.new.course last _ _
    c.in-Ok.code went.0 c.deref.result.now c.in-Ok-summary_line.text.items c.in-Ok.ensures.code (went.2 _ [] [] (c.afresh-course.ensures.starts first)) (c.deref.ensures.value ∙ went.1) c.in-Ok-summary_line.ensures.summary
    (rw c.deref-2.ensures.value at c.in-Err-write_whole.ensures.front) c.in-Err-write_whole.ensures.count
