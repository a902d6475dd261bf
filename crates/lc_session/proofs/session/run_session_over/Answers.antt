use Rattle.std.proofs.Common.{sym, ap, ◌∙◌}
use Rattle.lc_arguments.specs.Asked.{words_of, command_for}
use Rattle.lc_rounds.specs.Way.{Around}
use Rattle.lc_rounds.specs.Surroundings.{seen}
use Rattle.lc_session.proofs.EarlyEnds.{refused_words}
use Rattle.lc_session.proofs.NoBytes.{runs}
use Rattle.lc_session.proofs.session.run_session_over.Goals as goal

pub returns-in-Err-Usage-clause-session : goal.returns-in-Err-Usage-clause-session
returns-in-Err-Usage-clause-session g c =
    let a = c.in-Err-Usage in
    rw a.index-is (refused_words (words_of c.args.arguments.now) _ a.index (rw a.field-0-is at a.ensures))

pub returns-in-Err-NoMemory-clause-session : goal.returns-in-Err-NoMemory-clause-session
returns-in-Err-NoMemory-clause-session g c = absurd (rw c.in-Err-NoMemory.field-0-is at c.in-Err-NoMemory.ensures)

pub returns-in-Err-NoMemory-clause-nothing : goal.returns-in-Err-NoMemory-clause-nothing
returns-in-Err-NoMemory-clause-nothing g c asked given is none told = absurd (rw c.in-Err-NoMemory.field-0-is at c.in-Err-NoMemory.ensures)

pub returns-in-Check-clause-session : goal.returns-in-Check-clause-session
returns-in-Check-clause-session g c =
    let now : Around = seen g.V.Vault g.W.Watcher c.args.surroundings in
    c.check.ensures (words_of c.args.arguments.now) now c.in-Ok.ensures.0

pub returns-in-Resume-clause-nothing : goal.returns-in-Resume-clause-nothing
returns-in-Resume-clause-nothing g c asked given is none told = absurd (let e = sym (ap command_for c.in-Resume.is) ∙ runs c.in-Ok.asked asked _ c.in-Ok.ensures.0 given is in cc)

pub returns-in-Check-clause-nothing : goal.returns-in-Check-clause-nothing
returns-in-Check-clause-nothing g c asked given is none told = absurd (let e = sym (ap command_for c.in-Check.is) ∙ runs c.in-Ok.asked asked _ c.in-Ok.ensures.0 given is in cc)

pub returns-in-Summary-clause-nothing : goal.returns-in-Summary-clause-nothing
returns-in-Summary-clause-nothing g c asked given is none told = absurd (let e = sym (ap command_for c.in-Summary.is) ∙ runs c.in-Ok.asked asked _ c.in-Ok.ensures.0 given is in cc)
