-- What a session of `run` or `resume` prints, and where `resume` starts.
--   whole_met            the needs of a script are met by its session
--   script_text_of       a text by the answers of the search is that of the script
--   run_replies          what `run` prints
--   resumed              the checkpoint that `resume` takes
--   resume_replies       what `resume` prints
--   not_true             every record of a true checkpoint fits
--   resume_unfit         a record that doesn't fit
use Rattle.std.proofs.Common.{◌≡◌, ◌≤◌, ◌^◌, ◌⊎◌, inl, inr, ⊎_elim, ℕ, Bool, false, IsTrue, List, [], ◌∷◌, ◌++◌, length, Option, Some, refl, sym, ap, subst, ◌∙◌, arith}
use Rattle.std.proofs.lemmas.Bool.{false≢true}
use Rattle.std.proofs.lemmas.List.{length-append}
use Rattle.sha2.specs.Sha256.{sha256}
use Rattle.lc_algebra.specs.Matrix.{Matrix}
use Rattle.lc_algebra.specs.Divisor.{divisor_of}
use Rattle.lc_enumeration.specs.Records.{SessionStep, SessionRounds, Start, Progress, session_rounds}
use Rattle.lc_enumeration.specs.Fitting.{Misfit, misfit}
use Rattle.lc_infoset.proofs.FittingLaws.{true_start_fits}
use Rattle.lc_formats.specs.Checkpoint.{Checkpoint, current_of}
use Rattle.lc_formats.specs.Truth.{start_of}
use Rattle.lc_grammar.specs.Tree.{Statement}
use Rattle.lc_grammar.specs.Grammar.{Reads, Fault, IsFault}
use Rattle.lc_io.specs.Vaults.{Slots}
use Rattle.lc_calls.specs.Built.{built_calls}
use Rattle.lc_session_rules.specs.Options.{run, resume, Settings}
use Rattle.lc_session_rules.specs.Needs.{Needs, IsNeeds, MeetsFirst, OneScript, OneStep, NoFault}
use Rattle.lc_session_rules.specs.Nears.{NearsHold}
use Rattle.lc_session_rules.specs.Answers.{Settle, answers_of}
use Rattle.lc_session_rules.specs.Slots.{next_turn, takes, is_for, IsTrueCheckpoint}
use Rattle.lc_session_rules.specs.Session.{Outside, Finds, GoesOnFrom, IsResumed, IsScriptText, Replies, Resumes}
use Rattle.lc_session_rules.specs.Endings.{unfit}
use Rattle.lc_session_rules.proofs.HonestLaws.{text_by_search}
use Rattle.lc_session_rules.proofs.AnswerLaws.{met_whole}
use Rattle.lc_rounds.specs.Way.{Around}
use Rattle.lc_session_rules.specs.Course.{Beginning, afresh, after, begins}
use Rattle.lc_session_rules.proofs.TruthLaws.{record_fits, current_fits, needs_reach}
use Rattle.lc_session_rules.proofs.ScriptTruth.{fresh_answers, true_answers, start_true, rows_all}
use Rattle.lc_rounds.specs.declared.course.Course.{Course}
use Rattle.lc_text.specs.declared.statements.Text.{Text}
use Rattle.lc_rounds.specs.Going.{rounds_from, IsMisfit, Misfits}
use Rattle.lc_text.specs.Text.{Prints}
use Rattle.lc_text.specs.Worlds.{world}
use Rattle.lc_text.proofs.SessionLaws.{course_of}

-- the needs of a script are met by its session
pub whole_met : (bytes : List ℕ) (needs : List Matrix) → IsNeeds built_calls bytes needs → MeetsFirst built_calls bytes needs
whole_met bytes needs all =
    ⊎_elim (λ (a : (ss : List Statement) × Reads bytes ss × Needs built_calls [] ss needs). met_whole built_calls bytes a.0 needs a.1 a.2) (λ (a : (fault : Fault) × IsFault bytes fault × (needs ≡ [])). inl a.2) all

module _ (bytes : List ℕ) (script : OneScript bytes) (one : OneStep built_calls) (sound : NoFault bytes) (asked : Settings) (small : asked.budget ≤ 2 ^ 40) (long : 1 ≤ asked.round) (near : NearsHold built_calls bytes asked.budget) (old : Outside) (held : Option Slots) (turn : ℕ) where
  settled_so : (t : Text) (c : Course) (now : Around) (b : Beginning) (h : Prints (world asked bytes b turn held old) bytes t c now) → Settle asked.budget h.needs (session_rounds divisor_of h.needs asked.budget asked.round asked.slice (begins b h.needs)).settled h.answers
  settled_so t c now b h = subst (λ (l : List Progress). Settle asked.budget h.needs l h.answers) (sym (ap (λ (r : SessionRounds). r.settled) h.rounds_are)) h.answered.settle

  script_text_of : (t : Text) (c : Course) (now : Around) (b : Beginning) (h : Prints (world asked bytes b turn held old) bytes t c now) (left : List SessionStep) → h.answers ≡ answers_of h.needs asked.budget → IsScriptText built_calls asked (course_of bytes b turn h.needs h.told left h.way.is_paused t.bytes.items t.ends)
  script_text_of t c now b h left same = record {
    printed = text_by_search built_calls asked.budget bytes h.needs h.answers t.bytes.items t.ends script one sound h.asks_all same h.prints_all;
    truth = h.answered.truth;
    near = near;
  }

  pub run_replies : (t : Text) (c : Course) (now : Around) (h : Prints (world asked bytes afresh turn held old) bytes t c now) → asked.command ≡ run → Replies built_calls asked.command asked old.vault (course_of bytes afresh turn h.needs h.told [] h.way.is_paused t.bytes.items t.ends)
  run_replies t c now h runs =
      let same : h.answers ≡ answers_of h.needs asked.budget = fresh_answers built_calls bytes asked.budget asked.round h.needs asked.slice h.answers small long (whole_met bytes h.needs h.asks_all) (ap (λ (r : SessionRounds). r.is_stopped) h.rounds_are) (settled_so t c now afresh h) in
      subst (λ x. Replies built_calls x asked old.vault (course_of bytes afresh turn h.needs h.told [] h.way.is_paused t.bytes.items t.ends)) (sym runs) (h.asks_all, script_text_of t c now afresh h [] same)

  module _ (p : Checkpoint) (found : Finds old.vault (takes p)) (same_script : IsTrue (is_for (sha256 bytes) asked.budget p)) (turns : turn ≡ next_turn p.turn) where
    abbrev pub from : Beginning
    from = after p.version p.settled (current_of p)

    goes_from : (needs : List Matrix) (told left : List SessionStep) (is_paused : Bool) (text : List ℕ) (faulty : Bool) → GoesOnFrom asked old.vault (course_of bytes from turn needs told left is_paused text faulty) p
    unfolding start_of
    goes_from needs told left is_paused text faulty = record { found = found; same = same_script; start = refl; turn = turns }

    pub resumed : (needs : List Matrix) (told left : List SessionStep) (is_paused : Bool) (text : List ℕ) (faulty : Bool) → IsResumed asked old.vault (course_of bytes from turn needs told left is_paused text faulty)
    resumed needs told left is_paused text faulty = (p, goes_from needs told left is_paused text faulty)

    pub resume_replies : (t : Text) (c : Course) (now : Around) (h : Prints (world asked bytes from turn held old) bytes t c now) → asked.command ≡ resume → Replies built_calls asked.command asked old.vault (course_of bytes from turn h.needs h.told [] h.way.is_paused t.bytes.items t.ends)
    unfolding start_of
    resume_replies t c now h resumes =
        subst (λ x. Replies built_calls x asked old.vault (course_of bytes from turn h.needs h.told [] h.way.is_paused t.bytes.items t.ends)) (sym resumes) (
          h.asks_all,
          record {
            answers = h.answers;
            settled = settled_so t c now from h;
            printed = h.prints_all;
            words = h.answered.words;
            near = near;
            honest = λ q goes holds.
                let over = λ (s : Start). session_rounds divisor_of h.needs asked.budget asked.round asked.slice s in
                let unstopped : (over (start_of h.needs q)).is_stopped ≡ false = subst (λ (s : Start). (over s).is_stopped ≡ false) goes.start (ap (λ (r : SessionRounds). r.is_stopped) h.rounds_are) in
                let settled : Settle asked.budget h.needs (over (start_of h.needs q)).settled h.answers = subst (λ (s : Start). Settle asked.budget h.needs (over s).settled h.answers) goes.start (settled_so t c now from h) in
                script_text_of t c now from h []
                (true_answers built_calls bytes asked.budget asked.round h.needs asked.slice h.answers q script one small long (whole_met bytes h.needs h.asks_all) (needs_reach built_calls bytes asked.budget script one q holds h.needs sound h.asks_all) holds unstopped settled);
          },
        )

    -- every record of a true checkpoint fits
    not_true : (needs : List Matrix) (m : Misfit) → MeetsFirst built_calls bytes needs → misfit divisor_of needs asked.budget (begins from needs) ≡ Some m
        → ((before : List Matrix) × (C : Matrix) × (needs ≡ before ++ C ∷ []) × Misfits from asked.budget before C) ⊎ IsNeeds built_calls bytes needs
        → ¬ IsTrueCheckpoint built_calls bytes asked.budget p
    unfolding start_of current_of
    not_true needs m met first (inr all) holds =
        let fits = true_start_fits divisor_of needs asked.budget (start_of needs p) (rows_all built_calls bytes needs met) (start_true built_calls bytes asked.budget needs p script one met (needs_reach built_calls bytes asked.budget script one p holds needs sound all) holds) in
        let e = sym first ∙ fits in
        cc
    not_true needs m met first (inl (before, C, split, (uncut, which))) holds =
        let there : MeetsFirst built_calls bytes (before ++ C ∷ []) = subst (MeetsFirst built_calls bytes) split met in
        ⊎_elim (λ a. false≢true (sym a.2 ∙ record_fits built_calls bytes asked.budget script one p holds before C there a.0 a.1 uncut))
        (λ a. false≢true (sym a.1 ∙ current_fits built_calls bytes asked.budget script one p holds before C there a.0)) which

    pub resume_unfit : (c : Course) (now : Around) (needs : List Matrix) (told found_there : ℕ) (is_paused : Bool) → MeetsFirst built_calls bytes needs → IsMisfit (world asked bytes from turn held old) needs c now c.met told found_there
        → (((before : List Matrix) × (C : Matrix) × (needs ≡ before ++ C ∷ []) × (c.met ≡ length before) × Misfits from asked.budget before C) ⊎ ((c.met ≡ length needs) × IsNeeds built_calls bytes needs))
        → Resumes built_calls (unfit c.met told found_there) asked old.vault (course_of bytes from turn needs [] (rounds_from (world asked bytes from turn held old) needs).steps is_paused [] false)
    resume_unfit c now needs told found_there is_paused met h (inl (before, C, split, e, misfits)) = (
      p,
      goes_from needs [] (rounds_from (world asked bytes from turn held old) needs).steps is_paused [] false,
      not_true needs (record { need = c.met; told = told; found = found_there }) met h.first (inl (before, C, split, misfits)),
      (h.first, inl ((let l = ap (λ (ns : List Matrix). length ns) split ∙ length-append before (C ∷ []) in omega (arith, l, e)), met)),
    )
    resume_unfit c now needs told found_there is_paused met h (inr (e, all)) = (
      p,
      goes_from needs [] (rounds_from (world asked bytes from turn held old) needs).steps is_paused [] false,
      not_true needs (record { need = c.met; told = told; found = found_there }) met h.first (inr all),
      (h.first, inr all),
    )
