use Rattle.std.proofs.Common.{Err, refl, ap}
use Rattle.lc_calls.specs.Built.{built_calls}
use Rattle.lc_checkpoint.specs.Seen.{point_of}
use Rattle.lc_session_rules.specs.Session.{reads}
use Rattle.lc_arguments.specs.Asked.{command_for, settings_for}
use Rattle.lc_rounds.specs.Way.{around}
use Rattle.lc_session.proofs.EarlyEnds.{source_failed, too_much, unread, not_loaded, no_room, nothing_found, damage_found, other_found}
use Rattle.lc_session.proofs.ScriptSessions.{few_needs, is_for_so, resume_session_of}
use Rattle.lc_session.proofs.scripts.resume.Goals as goal

pub returns-in-Err-Failed : goal.returns-in-Err-Failed
returns-in-Err-Failed g c args accepted =
    let a = c.in-Err-Failed in
    source_failed args (settings_for c.args.asked) _ _ _ (around _ _ _) accepted (ap reads (ap command_for c.requires.resumes)) refl refl refl (a.ensures.before (ap Err a.field-0-is)) (a.ensures.failed (ap Err a.field-0-is))

pub returns-in-Err-TooLong : goal.returns-in-Err-TooLong
returns-in-Err-TooLong g c args accepted =
    let a = c.in-Err-TooLong in
    too_much args (settings_for c.args.asked) _ _ _ (around _ _ _) accepted (ap reads (ap command_for c.requires.resumes)) refl refl refl (a.ensures.too_long (ap Err a.field-0-is)) (a.ensures.count (λ e. (let f = a.field-0-is in cc)))

pub returns-in-Err-NoMemory : goal.returns-in-Err-NoMemory
returns-in-Err-NoMemory g c args accepted =
    let a = c.in-Err-NoMemory in
    unread args (settings_for c.args.asked) _ _ _ (around _ _ _) accepted (ap reads (ap command_for c.requires.resumes)) refl refl refl (a.ensures.front (ap Err a.field-0-is)) (a.ensures.count (λ e. (let f = a.field-0-is in cc)))

pub returns-in-Ok-Nothing : goal.returns-in-Ok-Nothing
returns-in-Ok-Nothing g c args accepted =
    let a = c.in-Ok in
    let b = c.in-Ok-Nothing in
    nothing_found args (settings_for c.args.asked) _ _ _ a.bytes.items (around _ _ _) accepted (record { gave = a.ensures.given; ended = a.ensures.ended; within = a.ensures.within }) (a.ensures.count (λ e. cc)) refl (ap command_for c.requires.resumes) b.ensures.same b.ensures.count (rw b.field-0-is at b.ensures.is)

pub returns-in-Ok-Damaged : goal.returns-in-Ok-Damaged
returns-in-Ok-Damaged g c args accepted =
    let a = c.in-Ok in
    let b = c.in-Ok-Damaged in
    damage_found args (settings_for c.args.asked) _ _ _ a.bytes.items (around _ _ _) accepted (record { gave = a.ensures.given; ended = a.ensures.ended; within = a.ensures.within }) (a.ensures.count (λ e. cc)) refl (ap command_for c.requires.resumes) b.ensures.same b.ensures.count (rw b.field-0-is at b.ensures.is)

pub returns-in-Err-VaultFault : goal.returns-in-Err-VaultFault
returns-in-Err-VaultFault g c args accepted =
    let a = c.in-Ok in
    let b = c.in-Err-VaultFault in
    not_loaded args (settings_for c.args.asked) _ _ _ a.bytes.items (around _ _ _) accepted (record { gave = a.ensures.given; ended = a.ensures.ended; within = a.ensures.within }) (a.ensures.count (λ e. cc)) refl (ap command_for c.requires.resumes) b.ensures.same (rw b.field-0-is at b.ensures.count)

pub returns-in-Err-NoMemory-chosen : goal.returns-in-Err-NoMemory-chosen
returns-in-Err-NoMemory-chosen g c args accepted =
    let a = c.in-Ok in
    let b = c.in-Err-NoMemory-chosen in
    no_room args (settings_for c.args.asked) _ _ _ a.bytes.items (around _ _ _) accepted (record { gave = a.ensures.given; ended = a.ensures.ended; within = a.ensures.within }) (a.ensures.count (λ e. cc)) refl (ap command_for c.requires.resumes) b.ensures.same (rw b.field-0-is at b.ensures.count)

pub returns-then-not-is_for : goal.returns-then-not-is_for
unfolding point_of
returns-then-not-is_for g c args accepted =
    let a = c.in-Ok in
    let b = c.in-Ok-Taken in
    other_found args (settings_for c.args.asked) _ _ _ a.bytes.items (around _ _ _) accepted (record { gave = a.ensures.given; ended = a.ensures.ended; within = a.ensures.within }) (a.ensures.count (λ e. cc)) refl (point_of b.point) (ap command_for c.requires.resumes) b.ensures.same b.ensures.count (rw b.field-0-is at b.ensures.is)
    (is_for_so c.digest.result c.deref.result.now a.bytes.items c.args.asked.budget (point_of b.point) c.is_for.result _ c.digest.ensures c.deref.ensures.value c.is_for.ensures c.if-not-is_for.true)

pub script_text-found-requires-clause-few : goal.script_text-found-requires-clause-few
script_text-found-requires-clause-few g c _ _ = few_needs c.deref-2.result.now c.in-Ok.bytes.items c.deref-2.ensures.value c.in-Ok.ensures.within (c.needs_take_bytes.ensures.front built_calls c.deref-2.result.now)

pub returns : goal.returns
unfolding point_of
returns g c args accepted =
    let a = c.in-Ok in
    let b = c.in-Ok-Taken in
    resume_session_of args (settings_for c.args.asked) _ _ _ a.bytes.items c.deref-2.result.now _ _ (point_of b.point) c.resumed-course.result c.script_text-found.new.course c.script_text-found.result (around _ _ _) _ _ c.closed.result accepted (ap command_for c.requires.resumes) c.requires.within.limits.few_blocks c.requires.within.limits.some_blocks.0
    (record { gave = a.ensures.given; ended = a.ensures.ended; within = a.ensures.within }) (a.ensures.count (λ e. cc)) b.ensures.same b.ensures.count (rw b.field-0-is at b.ensures.is)
    (is_for_so c.digest.result c.deref.result.now a.bytes.items c.args.asked.budget (point_of b.point) c.is_for.result _ c.digest.ensures c.deref.ensures.value c.is_for.ensures c.if-not-is_for.false)
    (c.resumed-course.ensures.starts (around _ _ _)) c.script_text-found.ensures.ends c.deref-2.ensures.value c.closed.ensures
