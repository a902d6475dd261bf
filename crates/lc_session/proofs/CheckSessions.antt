-- The session of `check`.
--   accepted_session, rejected_session, unwritten_session      the line is written, or the sink fails
--   done_session, refused_session      the same, from what is said of the bytes
--   starved_session      memory is refused
use Rattle.std.proofs.Common.{◌≡◌, inl, ℕ, false, List, [], Option, Some, None, refl, sym, subst}
use Rattle.std.specs.Io.KnownBytes.{Appends}
use Rattle.lc_enumeration.specs.Records.{fresh_start, session_from, session_rounds, no_steps}
use Rattle.lc_formats.specs.Certificate.{Reason, accepted as accepts, rejected as rejects}
use Rattle.lc_formats.specs.Document.{document_in, IsCheckText}
use Rattle.lc_formats.specs.Proven.{IsVerdict}
use Rattle.lc_io.specs.Outside.{HasRisen, AppendsPart}
use Rattle.lc_io.proofs.SeveralRecords.{Kept-none}
use Rattle.lc_calls.specs.Built.{built_calls}
use Rattle.lc_session_rules.specs.Options.{check, Settings, Options, settings, options, all_options}
use Rattle.lc_session_rules.specs.Endings.{Ending, usage, done, sink_fault, no_memory, rejected}
use Rattle.lc_session_rules.specs.Session as session
use Rattle.lc_session_rules.specs.Session.{Outside, rounds_of, Accepts, WasRead, IsAccepted, IsSession}
use Rattle.lc_rounds.specs.Way.{Around}
use Rattle.lc_text.specs.Worlds.{outside_of}
use Rattle.lc_checker.specs.Verdict.{reason_of}
use Rattle.lc_checker.specs.declared.verdict.Reason as why
use Rattle.lc_judge.specs.Judged.{judgment, IsAcceptedRead}

module _ (args : List (List ℕ)) (workers round budget number : ℕ) (accepted : options all_options args ≡ settings (record { command = check; workers = workers; round = round; budget = budget; slice = None; keep = false; number = number })) (now : Around) (old_source source : Option (List ℕ)) (old_source_faults source_faults : ℕ) (old_sink sink : Option (List ℕ)) (old_sink_faults sink_faults : ℕ) (bytes : List ℕ) (read : WasRead old_source source bytes) (quiet : source_faults ≡ old_source_faults) where
  abbrev pub asked : Settings
  asked = record { command = check; workers = workers; round = round; budget = budget; slice = None; keep = false; number = number }

  abbrev pub old : Outside
  old = outside_of old_source old_source_faults old_sink old_sink_faults now

  abbrev pub new : Outside
  new = outside_of source source_faults sink sink_faults now

  accepts_so : (ending : Ending) → ((i : ℕ) → ¬ (ending ≡ usage i)) → Accepts (options all_options args) asked old new ending
  accepts_so ending other = subst (λ (o : Options). Accepts o asked old new ending) (sym accepted) (refl, other)

  abbrev pub course : List ℕ → session.Course
  course text = record { bytes = bytes; needs = []; start = fresh_start; turn = 0; told = []; left = []; is_paused = false; text = text; is_faulty = false }

  no_rounds : (text : List ℕ) → (rounds_of asked (course text)).steps ≡ []
  unfolding session_rounds session_from no_steps fresh_start
  no_rounds text = refl

  unstopped : (text : List ℕ) → (rounds_of asked (course text)).is_stopped ≡ false
  unfolding session_rounds session_from no_steps fresh_start
  unstopped text = refl

  pub accepted_session : (text : List ℕ) → IsCheckText bytes text → IsAccepted bytes → Appends old_sink sink text → sink_faults ≡ old_sink_faults → IsSession built_calls args old new (done 0)
  accepted_session text is holds written calm = record {
    asked = asked;
    course = course text;
    accepted = accepts_so (done 0) (λ i f. cc);
    possible = refl;
    read = read;
    started = record { start = refl; turn = refl };
    met = refl;
    rounds = no_rounds text;
    ended = record { all = refl; unstopped = unstopped text; unpaused = λ e. refl };
    heard = Kept-none false now.watchers;
    stored = refl;
    replied = ((is, refl), refl, holds);
    written = written;
    counted = record { source = quiet; sink = calm; vault = refl };
  }

  pub rejected_session : (text : List ℕ) (r : Reason) → IsCheckText bytes text → IsVerdict (document_in bytes) (rejects r) → Appends old_sink sink text → sink_faults ≡ old_sink_faults → IsSession built_calls args old new (rejected r)
  rejected_session text r is verdict written calm = record {
    asked = asked;
    course = course text;
    accepted = accepts_so (rejected r) (λ i f. cc);
    possible = refl;
    read = read;
    started = record { start = refl; turn = refl };
    met = refl;
    rounds = no_rounds text;
    ended = record { all = refl; unstopped = unstopped text; unpaused = λ e. refl };
    heard = Kept-none false now.watchers;
    stored = refl;
    replied = ((is, refl), verdict);
    written = written;
    counted = record { source = quiet; sink = calm; vault = refl };
  }

  pub unwritten_session : (text : List ℕ) → IsCheckText bytes text → AppendsPart old_sink sink text → HasRisen old_sink_faults sink_faults → IsSession built_calls args old new sink_fault
  unwritten_session text is written risen = record {
    asked = asked;
    course = course text;
    accepted = accepts_so sink_fault (λ i f. cc);
    possible = refl;
    read = read;
    started = record { start = refl; turn = refl };
    met = refl;
    rounds = no_rounds text;
    ended = record { all = refl; unstopped = unstopped text; unpaused = λ e. refl };
    heard = Kept-none false now.watchers;
    stored = refl;
    replied = (is, refl);
    written = written;
    counted = (quiet, risen, refl);
  }

  pub starved_session : sink ≡ old_sink → sink_faults ≡ old_sink_faults → IsSession built_calls args old new (no_memory 0)
  starved_session same calm = record {
    asked = asked;
    course = course [];
    accepted = accepts_so (no_memory 0) (λ i f. cc);
    possible = refl;
    read = inl read;
    started = record { start = refl; turn = refl };
    met = refl;
    rounds = no_rounds [];
    ended = (refl, λ e. refl);
    heard = Kept-none false now.watchers;
    stored = refl;
    replied = tt;
    written = same;
    counted = record { source = quiet; sink = calm; vault = refl };
  }

  -- what is said of the bytes tells how the session ends
  pub done_session : (text : List ℕ) (o : Option why.Reason) → IsCheckText bytes text → IsVerdict (document_in bytes) (judgment o) → (o ≡ None → IsAcceptedRead (document_in bytes)) → o ≡ None → Appends old_sink sink text → sink_faults ≡ old_sink_faults → IsSession built_calls args old new (done 0)
  done_session text o said judged proof is written calm =
      let a = proof is in
      let verdict : IsVerdict (document_in bytes) accepts = subst (λ p. IsVerdict (document_in bytes) (judgment p)) is judged in
      accepted_session text said (record { certificate = a.read_as; reads = a.reads; verdict = verdict; proves = a.proves }) written calm

  pub refused_session : (text : List ℕ) (o : Option why.Reason) (r : why.Reason) → IsCheckText bytes text → IsVerdict (document_in bytes) (judgment o) → o ≡ Some r → Appends old_sink sink text → sink_faults ≡ old_sink_faults → IsSession built_calls args old new (rejected (reason_of r))
  refused_session text o r said judged is written calm =
      rejected_session text (reason_of r) said (subst (λ p. IsVerdict (document_in bytes) (judgment p)) is judged) written calm
