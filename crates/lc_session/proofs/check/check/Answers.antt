use Rattle.std.proofs.Common.{Err, refl, ap, ◌∙◌}
use Rattle.lc_session_rules.specs.Options.{settings}
use Rattle.lc_arguments.specs.Asked.{settings_for}
use Rattle.lc_session.proofs.AskedLaws.{check_reads, check_asked}
use Rattle.lc_session.proofs.EarlyEnds.{source_failed, too_much, unread}
use Rattle.lc_session.proofs.CheckSessions.{done_session, refused_session, unwritten_session, starved_session}
use Rattle.lc_session.proofs.check.check.Goals as goal

pub returns-in-Err-Failed : goal.returns-in-Err-Failed
returns-in-Err-Failed g c args now accepted =
    let e = c.in-Err-Failed.field-0-is in
    source_failed args (settings_for c.args._asked) _ _ _ now accepted (check_reads c.args._asked c.requires.checks) refl refl refl (c.in-Err-Failed.ensures.before (ap Err e)) (c.in-Err-Failed.ensures.failed (ap Err e))

pub returns-in-Err-TooLong : goal.returns-in-Err-TooLong
returns-in-Err-TooLong g c args now accepted =
    let e = c.in-Err-TooLong.field-0-is in
    too_much args (settings_for c.args._asked) _ _ _ now accepted (check_reads c.args._asked c.requires.checks) refl refl refl (c.in-Err-TooLong.ensures.too_long (ap Err e)) (c.in-Err-TooLong.ensures.count (λ f. cc))

pub returns-in-Err-NoMemory : goal.returns-in-Err-NoMemory
returns-in-Err-NoMemory g c args now accepted =
    let e = c.in-Err-NoMemory.field-0-is in
    unread args (settings_for c.args._asked) _ _ _ now accepted (check_reads c.args._asked c.requires.checks) refl refl refl (c.in-Err-NoMemory.ensures.front (ap Err e)) (c.in-Err-NoMemory.ensures.count (λ f. cc))

pub returns-in_default : goal.returns-in_default
returns-in_default g c args now accepted =
    let a = c.args._asked in
    starved_session args a.workers a.round a.budget a.number (accepted ∙ ap settings (check_asked a c.requires.within c.requires.checks)) now _ _ _ _ _ _ _ _ c.in-Ok.bytes.items (record { gave = c.in-Ok.ensures.given; ended = c.in-Ok.ensures.ended; within = c.in-Ok.ensures.within }) (c.in-Ok.ensures.count (λ f. cc)) refl refl

pub returns-in-None : goal.returns-in-None
returns-in-None g c args now accepted =
    let a = c.args._asked in
    let j = c.in-Ok-judge.judged in
    done_session args a.workers a.round a.budget a.number (accepted ∙ ap settings (check_asked a c.requires.within c.requires.checks)) now _ _ _ _ _ _ _ _ c.in-Ok.bytes.items (record { gave = c.in-Ok.ensures.given; ended = c.in-Ok.ensures.ended; within = c.in-Ok.ensures.within }) (c.in-Ok.ensures.count (λ f. cc))
    j.text.items j.reason (rw c.deref.ensures.value at c.in-Ok-judge.ensures.text) (rw c.deref.ensures.value at c.in-Ok-judge.ensures.verdict) (rw c.deref.ensures.value at c.in-Ok-judge.ensures.proves) c.in-None.is (rw c.deref-2.ensures.value at c.in-Ok-write_whole.ensures.whole) c.in-Ok-write_whole.ensures.count

pub returns-in-Ok-write_whole : goal.returns-in-Ok-write_whole
returns-in-Ok-write_whole g c args now accepted =
    let a = c.args._asked in
    let j = c.in-Ok-judge.judged in
    refused_session args a.workers a.round a.budget a.number (accepted ∙ ap settings (check_asked a c.requires.within c.requires.checks)) now _ _ _ _ _ _ _ _ c.in-Ok.bytes.items (record { gave = c.in-Ok.ensures.given; ended = c.in-Ok.ensures.ended; within = c.in-Ok.ensures.within }) (c.in-Ok.ensures.count (λ f. cc))
    j.text.items j.reason c.in-Some.reason (rw c.deref.ensures.value at c.in-Ok-judge.ensures.text) (rw c.deref.ensures.value at c.in-Ok-judge.ensures.verdict) c.in-Some.is (rw c.deref-2.ensures.value at c.in-Ok-write_whole.ensures.whole) c.in-Ok-write_whole.ensures.count

pub returns : goal.returns
returns g c args now accepted =
    let a = c.args._asked in
    unwritten_session args a.workers a.round a.budget a.number (accepted ∙ ap settings (check_asked a c.requires.within c.requires.checks)) now _ _ _ _ _ _ _ _ c.in-Ok.bytes.items (record { gave = c.in-Ok.ensures.given; ended = c.in-Ok.ensures.ended; within = c.in-Ok.ensures.within }) (c.in-Ok.ensures.count (λ f. cc))
    c.in-Ok-judge.judged.text.items (rw c.deref.ensures.value at c.in-Ok-judge.ensures.text) (rw c.deref-2.ensures.value at c.in-Err.ensures.front) c.in-Err.ensures.count
