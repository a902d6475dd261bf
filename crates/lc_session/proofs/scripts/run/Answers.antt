use Rattle.std.proofs.Common.{Err, refl, ap, ◌∙◌}
use Rattle.sha2.specs.Sha256.{sha256}
use Rattle.lc_calls.specs.Built.{built_calls}
use Rattle.lc_session_rules.specs.Session.{reads}
use Rattle.lc_arguments.specs.Asked.{command_for, settings_for}
use Rattle.lc_rounds.specs.Way.{around}
use Rattle.lc_session.proofs.EarlyEnds.{source_failed, too_much, unread, not_emptied}
use Rattle.lc_session.proofs.ScriptSessions.{few_needs, run_session_of}
use Rattle.lc_session.proofs.NoBytes.{none_given, none_read, is_written}
use Rattle.lc_session.proofs.scripts.run.Goals as goal

pub returns-in-Err-Failed-clause-session : goal.returns-in-Err-Failed-clause-session
returns-in-Err-Failed-clause-session g c args accepted =
    let a = c.in-Err-Failed in
    source_failed args (settings_for c.args.asked) _ _ _ (around _ _ _) accepted (ap reads (ap command_for c.requires.runs)) refl refl refl (a.ensures.before (ap Err a.field-0-is)) (a.ensures.failed (ap Err a.field-0-is))

pub returns-in-Err-TooLong-clause-session : goal.returns-in-Err-TooLong-clause-session
returns-in-Err-TooLong-clause-session g c args accepted =
    let a = c.in-Err-TooLong in
    too_much args (settings_for c.args.asked) _ _ _ (around _ _ _) accepted (ap reads (ap command_for c.requires.runs)) refl refl refl (a.ensures.too_long (ap Err a.field-0-is)) (a.ensures.count (λ e. (let f = a.field-0-is in cc)))

pub returns-in-Err-NoMemory-clause-session : goal.returns-in-Err-NoMemory-clause-session
returns-in-Err-NoMemory-clause-session g c args accepted =
    let a = c.in-Err-NoMemory in
    unread args (settings_for c.args.asked) _ _ _ (around _ _ _) accepted (ap reads (ap command_for c.requires.runs)) refl refl refl (a.ensures.front (ap Err a.field-0-is)) (a.ensures.count (λ e. (let f = a.field-0-is in cc)))

pub returns-in-Err-clause-session : goal.returns-in-Err-clause-session
returns-in-Err-clause-session g c args accepted =
    let a = c.in-Ok in
    not_emptied args (settings_for c.args.asked) _ _ _ a.bytes.items (around _ _ _) accepted (record { gave = a.ensures.given; ended = a.ensures.ended; within = a.ensures.within }) (a.ensures.count (λ e. cc)) refl (ap command_for c.requires.runs) c.in-Err.ensures.half.0 c.in-Err.ensures.half.1 c.in-Err.ensures.count

pub script_text-found-requires-clause-few : goal.script_text-found-requires-clause-few
script_text-found-requires-clause-few g c _ _ = few_needs c.deref-2.result.now c.in-Ok.bytes.items c.deref-2.ensures.value c.in-Ok.ensures.within (c.needs_take_bytes.ensures.front built_calls c.deref-2.result.now)

pub returns-clause-session : goal.returns-clause-session
returns-clause-session g c args accepted =
    let a = c.in-Ok in
    let b = c.in-Ok-cleared in
    run_session_of args (settings_for c.args.asked) _ _ _ a.bytes.items c.deref-2.result.now _ _ c.afresh-course.result c.script_text-found.new.course c.digest.result c.script_text-found.result (around _ _ _) _ _ c.closed.result accepted (ap command_for c.requires.runs) c.requires.within.limits.few_blocks c.requires.within.limits.some_blocks.0
    (record { gave = a.ensures.given; ended = a.ensures.ended; within = a.ensures.within }) (a.ensures.count (λ e. cc)) b.ensures.emptied b.ensures.kept b.ensures.count (c.digest.ensures ∙ ap sha256 c.deref.ensures.value)
    (c.afresh-course.ensures.starts (around _ _ _)) c.script_text-found.ensures.ends c.deref-2.ensures.value c.closed.ensures

pub returns-in-Err-NoMemory-clause-nothing : goal.returns-in-Err-NoMemory-clause-nothing
returns-in-Err-NoMemory-clause-nothing g c none told =
    let a = c.in-Err-NoMemory in
    absurd (none_given _ _ _ none (a.ensures.kept (ap Err a.field-0-is)))

pub returns-clause-nothing : goal.returns-clause-nothing
returns-clause-nothing g c none told =
    let a = c.in-Ok in
    is_written c.script_text-found.result _ _ _ _ _ c.closed.result (c.script_text-found.ensures.nothing (c.deref-2.ensures.value ∙ none_read _ _ a.bytes.items none a.ensures.given) c.afresh-course.ensures.fresh) c.closed.ensures told
