-- The session of `summary`.
--   code_rows            the code of a seed has rows
--   line_is, rounds_told      the line of its search, and how many rounds that took
--   text_is              the text
--   summary_done, summary_unwritten      the session has its text
--   written_so, unwritten_so, starved_so, halted_so      the same, from what the calls did
--   summary_unstarted, summary_halted, summary_starved      memory is refused before its search, in it, or after it
use Rattle.std.proofs.Common.{◌≡◌, ◌≤◌, ◌<◌, ◌^◌, ◌⊎◌, inl, inr, ⊎_elim, ℕ, zero, suc, Bool, true, false, is_some, List, [], ◌∷◌, length, Option, Some, None, option_map, refl, sym, ap, subst, ◌∙◌, arith}
use Rattle.std.specs.Io.KnownBytes.{Appends}
use Rattle.std.proofs.lemmas.List.{append-nil, length-map}
use Rattle.std.proofs.lemmas.List.Elements.{All-nil, All-cons, All-head}
use Rattle.lc_algebra.specs.Matrix.{Matrix}
use Rattle.lc_algebra.specs.Divisor.{divisor_of}
use Rattle.lc_enumeration.specs.Search.{Answer, answer}
use Rattle.lc_enumeration.specs.Records.{Progress, SessionStep, SessionRounds, fresh_start, records, session_rounds}
use Rattle.lc_enumeration.specs.Truth.{AnswerHolds, AreSettled}
use Rattle.lc_infoset.proofs.SessionLaws.{HaveRows, fresh_is_true, session_settles}
use Rattle.lc_io.specs.Outside.{HasRisen, AppendsPart}
use Rattle.lc_io.specs.Told.{Kept}
use Rattle.lc_language.specs.Query.{distance, query_line}
use Rattle.lc_checkpoint.specs.Seen.{settled_of}
use Rattle.lc_calls.specs.Built.{built_calls}
use Rattle.lc_session_rules.specs.Options.{summary, Settings, Options, settings, options, all_options}
use Rattle.lc_session_rules.specs.Answers.{answer_line, answers_of}
use Rattle.lc_session_rules.specs.Summary.{generator_words, seeded, summary_code, round_count, summary_text}
use Rattle.lc_session_rules.specs.Endings.{Ending, usage, done, sink_fault, no_memory}
use Rattle.lc_session_rules.specs.Session as session
use Rattle.lc_session_rules.specs.Session.{Outside, records_of, can_end, Accepts, Reads, Starts, Meets, Stores, Replied, Replies, Judges, Writes, Counts, NoneFailed, IsSession}
use Rattle.lc_rounds.specs.Way.{Around, Stored}
use Rattle.lc_rounds.specs.declared.rounds.Stop.{Stop}
use Rattle.lc_rounds.specs.declared.rounds.Stop.TheVariants.{Paused, VaultFault, NoMemory}
use Rattle.lc_session_rules.specs.Course.{afresh, Stands}
use Rattle.lc_session_rules.proofs.FitLaws.{fits_anew}
use Rattle.lc_session_rules.proofs.ScriptTruth.{answers_are}
use Rattle.lc_summary.proofs.CodeLaws.{count_rows}
use Rattle.lc_rounds.specs.declared.course.Course.{Course}
use Rattle.lc_rounds.specs.declared.need.Halt.{Halt}
use Rattle.lc_rounds.specs.declared.need.Halt.TheVariants as halt
use Rattle.lc_rounds.specs.Going.{World, started, settled_in, Goes, Stops, Halts}
use Rattle.lc_text.proofs.TextLaws.{IsEven, even}
use Rattle.lc_rounds.proofs.NeedLaws.{starving}
use Rattle.lc_text.specs.Worlds.{outside_of}
use Rattle.lc_session.proofs.EarlyEnds.{early}

many_words : (n : ℕ) (g : _) → length (generator_words n g) ≡ n
unfolding generator_words
many_words zero g = refl
many_words (suc n) g = ap suc (many_words n _)

pub code_rows : (number : ℕ) → 0 < length (summary_code number).rows
unfolding summary_code
code_rows number = (let e = count_rows 0 (generator_words 24 (seeded number)) ∙ many_words 24 (seeded number) in omega (arith, e))

none_current : (version budget longest : ℕ) (slice : Option ℕ) (needs : List Matrix) (told : List SessionStep) (settled : List Progress) (left : Option ℕ) (past : List Progress) (o : Option Progress) → Stands afresh version budget longest slice needs told settled left past o → is_some o ≡ false
none_current version budget longest slice needs told settled left past (Some s) h = absurd (let e = h.begun in cc)
none_current version budget longest slice needs told settled left past None h = refl

unmapped : {A B : Type 0} (f : A → B) (o : Option A) → is_some (option_map f o) ≡ false → is_some o ≡ false
unmapped f None e = refl
unmapped f (Some s) e = absurd (let g = e in cc)

module _ (number budget longest : ℕ) (small : budget ≤ 2 ^ 40) (long : 1 ≤ longest) (digest : List ℕ) (first : Around) where
  abbrev pub code : Matrix
  code = summary_code number

  abbrev pub the_world : World
  the_world = started afresh budget longest None false digest 0 first

  evened : (a : Answer) (c : Course) (now : Around) → Goes the_world (code ∷ []) (a ∷ []) c now → IsEven the_world (code ∷ []) (a ∷ []) c now
  evened a c now h = even the_world (code ∷ []) (a ∷ []) c now (unmapped settled_of c.current (none_current c.version budget longest None (code ∷ []) h.told (settled_in c) c.pace.slice h.done (option_map settled_of c.current) h.stands)) h

  some_rows : HaveRows (code ∷ [])
  some_rows = All-cons (λ (C : Matrix). 0 < length C.rows) code [] (code_rows number) (All-nil (λ (C : Matrix). 0 < length C.rows))

  answer_is : (a : Answer) (c : Course) (now : Around) (e : IsEven the_world (code ∷ []) (a ∷ []) c now) → a ≡ answer (divisor_of code) code budget
  answer_is a c now e =
      let r = session_rounds divisor_of (code ∷ []) budget longest None fresh_start in
      let unstopped : r.is_stopped ≡ false = ap (λ (x : SessionRounds). x.is_stopped) e.rounds_are in
      let settles = session_settles divisor_of (code ∷ []) budget longest None fresh_start some_rows small long (fresh_is_true divisor_of (code ∷ []) budget) unstopped in
      let states : r.settled ≡ settled_in c = ap (λ (x : SessionRounds). x.settled) e.rounds_are in
      let all : a ∷ [] ≡ answers_of (code ∷ []) budget = answers_are budget (code ∷ []) (settled_in c) (a ∷ []) (subst (λ (l : List Progress). AreSettled divisor_of budget (code ∷ []) l) states settles) e.answered.settle in
      (let f = all in cc)

  line_is : (a : Answer) → a ≡ answer (divisor_of code) code budget → answer_line distance code a ≡ query_line distance code budget
  unfolding query_line
  line_is a e = ap (answer_line distance code) e

  pub rounds_told : (a : Answer) (c : Course) (now : Around) (e : IsEven the_world (code ∷ []) (a ∷ []) c now) → c.pace.told ≡ round_count code budget longest
  unfolding round_count records
  rounds_told a c now e =
      let steps : (session_rounds divisor_of (code ∷ []) budget longest None fresh_start).steps ≡ e.told = ap (λ (x : SessionRounds). x.steps) e.rounds_are in
      e.way.count ∙ ap (λ (l : List SessionStep). length l) (sym steps) ∙ sym (length-map (session_rounds divisor_of (code ∷ []) budget longest None fresh_start).steps (λ (s : SessionStep). s.note))

  -- the text of the summary
  pub text_is : (a : Answer) (c : Course) (now : Around) (line text : List ℕ) → Goes the_world (code ∷ []) (a ∷ []) c now → line ≡ answer_line distance code a → ((b l : ℕ) → line ≡ query_line distance code b → c.pace.told ≡ round_count code b l → text ≡ summary_text number b l) → text ≡ summary_text number budget longest
  text_is a c now line text h l f =
      let e = evened a c now h in
      f budget longest (l ∙ line_is a (answer_is a c now e)) (rounds_told a c now e)

  -- ---- the session

  module _ (args : List (List ℕ)) (workers : ℕ) (source : Option (List ℕ)) (source_faults : ℕ) (sink : Option (List ℕ)) (sink_faults : ℕ) where
    abbrev pub asked : Settings
    asked = record { command = summary; workers = workers; round = longest; budget = budget; slice = None; keep = false; number = number }

    abbrev pub old : Outside
    old = outside_of source source_faults sink sink_faults first

    module _ (accepted : options all_options args ≡ settings asked) (c : Course) (now : Around) (taken : Option (List ℕ)) (taken_faults : ℕ) where
      abbrev pub new : Outside
      new = outside_of source source_faults taken taken_faults now

      accepts_so : (ending : Ending) → ((i : ℕ) → ¬ (ending ≡ usage i)) → Accepts (options all_options args) asked old new ending
      accepts_so ending other = subst (λ (o : Options). Accepts o asked old new ending) (sym accepted) (refl, other)

      unkept : (keep : Bool) (told : List SessionStep) (p : _) (b : ℕ) → keep ≡ false → Stored keep p b 0 told first.vault now.vault → now.vault ≡ first.vault
      unkept true told p b e h = absurd (let f = e in cc)
      unkept false told p b e h = h

      heard_so : (keep is_paused : Bool) (told : List SessionStep) → keep ≡ false → Kept keep (records_of told) is_paused first.watchers now.watchers → Kept false (records_of told) is_paused first.watchers now.watchers
      heard_so keep is_paused told e h = subst (λ (k : Bool). Kept k (records_of told) is_paused first.watchers now.watchers) e h

      abbrev pub went : List SessionStep → Bool → List ℕ → session.Course
      went told is_paused text = record { bytes = []; needs = code ∷ []; start = fresh_start; turn = 0; told = told; left = []; is_paused = is_paused; text = text; is_faulty = false }

      replies : (a : Answer) (text : List ℕ) (h : Goes the_world (code ∷ []) (a ∷ []) c now) → text ≡ summary_text number budget longest → Replies built_calls summary asked first.vault (went (evened a c now h).told (evened a c now h).way.is_paused text)
      replies a text h is = (is, refl, refl, All-head (λ (C : Matrix). AnswerHolds C (answer (divisor_of C) C budget)) code [] h.answered.truth)

      pub summary_done : (a : Answer) (text : List ℕ) (h : Goes the_world (code ∷ []) (a ∷ []) c now) → text ≡ summary_text number budget longest → Appends sink taken text → taken_faults ≡ sink_faults → IsSession built_calls args old new (done 0)
      summary_done a text h is written calm =
          let e = evened a c now h in
          record {
            asked = asked;
            course = went e.told e.way.is_paused text;
            accepted = accepts_so (done 0) (λ i f. cc);
            possible = refl;
            read = refl;
            started = record { start = refl; turn = refl };
            met = inr refl;
            rounds = ap (λ (x : SessionRounds). x.steps) e.rounds_are ∙ sym (append-nil e.told);
            ended = record { all = refl; unstopped = ap (λ (x : SessionRounds). x.is_stopped) e.rounds_are; unpaused = λ f. absurd (let g = f in cc) };
            heard = heard_so c.pace.keep e.way.is_paused e.told e.of.keep e.way.heard;
            stored = unkept c.pace.keep e.told _ _ e.of.keep e.way.stored;
            replied = (replies a text h is, refl, tt);
            written = written;
            counted = record { source = refl; sink = calm; vault = e.way.quiet };
          }

      pub summary_unwritten : (a : Answer) (text : List ℕ) (h : Goes the_world (code ∷ []) (a ∷ []) c now) → text ≡ summary_text number budget longest → AppendsPart sink taken text → HasRisen sink_faults taken_faults → IsSession built_calls args old new sink_fault
      summary_unwritten a text h is written risen =
          let e = evened a c now h in
          record {
            asked = asked;
            course = went e.told e.way.is_paused text;
            accepted = accepts_so sink_fault (λ i f. cc);
            possible = refl;
            read = refl;
            started = record { start = refl; turn = refl };
            met = inr refl;
            rounds = ap (λ (x : SessionRounds). x.steps) e.rounds_are ∙ sym (append-nil e.told);
            ended = record { all = refl; unstopped = ap (λ (x : SessionRounds). x.is_stopped) e.rounds_are; unpaused = λ f. absurd (let g = f in cc) };
            heard = heard_so c.pace.keep e.way.is_paused e.told e.of.keep e.way.heard;
            stored = unkept c.pace.keep e.told _ _ e.of.keep e.way.stored;
            replied = replies a text h is;
            written = written;
            counted = (refl, risen, e.way.quiet);
          }

      starved_by : (needs : List Matrix) → (needs ≡ []) ⊎ (needs ≡ code ∷ []) → Stops the_world needs c now NoMemory → taken ≡ sink → taken_faults ≡ sink_faults → IsSession built_calls args old new (no_memory c.pace.told)
      starved_by needs met h same calm =
          let s = h.stopped in
          record {
            asked = asked;
            course = record { bytes = []; needs = needs; start = fresh_start; turn = 0; told = h.told; left = h.left; is_paused = s.is_paused; text = []; is_faulty = false };
            accepted = accepts_so (no_memory c.pace.told) (λ i f. cc);
            possible = refl;
            read = refl;
            started = record { start = refl; turn = refl };
            met = met;
            rounds = h.front;
            ended = (s.count, λ f. absurd (let g = f in cc));
            heard = heard_so c.pace.keep s.is_paused h.told h.of.keep s.heard;
            stored = unkept c.pace.keep h.told _ _ h.of.keep s.stops.1;
            replied = tt;
            written = same;
            counted = record { source = refl; sink = calm; vault = s.stops.2 };
          }

      never : (needs : List Matrix) (stop : Stop) → Stops the_world needs c now stop → (stop ≡ NoMemory → ⊥) → ⊥
      never needs Paused h n = (let e = sym h.stopped.stops.0 ∙ h.of.keep in cc)
      never needs VaultFault h n = (let e = sym h.stopped.stops.0 ∙ h.of.keep in cc)
      never needs NoMemory h n = n refl

      stopped_by : (needs : List Matrix) (stop : Stop) → (needs ≡ []) ⊎ (needs ≡ code ∷ []) → Stops the_world needs c now stop → taken ≡ sink → taken_faults ≡ sink_faults → IsSession built_calls args old new (no_memory c.pace.told)
      stopped_by needs Paused met h same calm = absurd (never needs Paused h (λ e. cc))
      stopped_by needs VaultFault met h same calm = absurd (never needs VaultFault h (λ e. cc))
      stopped_by needs NoMemory met h same calm = starved_by needs met h same calm

      -- the search ended early: memory was refused
      pub summary_halted : (x : Halt) → Halts the_world [] code c now x → taken ≡ sink → taken_faults ≡ sink_faults → IsSession built_calls args old new (no_memory c.pace.told)
      unfolding fresh_start
      summary_halted (halt.Stop stop) h same calm = ⊎_elim (λ (s : Stops the_world [] c now stop). stopped_by [] stop (inl refl) s same calm) (λ (s : Stops the_world (code ∷ []) c now stop). stopped_by (code ∷ []) stop (inr refl) s same calm) h
      summary_halted (halt.Unfit told found) h same calm = absurd (let e = sym h.0.first ∙ fits_anew divisor_of budget [] (code ∷ []) [] tt in cc)

      -- the line was refused memory
      pub summary_starved : (a : Answer) → Goes the_world (code ∷ []) (a ∷ []) c now → taken ≡ sink → taken_faults ≡ sink_faults → IsSession built_calls args old new (no_memory c.pace.told)
      summary_starved a h same calm = starved_by (code ∷ []) (inr refl) (starving the_world (code ∷ []) (a ∷ []) c now h) same calm

      -- ---- from what the calls did with the code

      with_code : (C : Matrix) (a : Answer) → C ≡ code → Goes the_world (C ∷ []) (a ∷ []) c now → Goes the_world (code ∷ []) (a ∷ []) c now
      with_code C a is h = subst (λ (x : Matrix). Goes the_world (x ∷ []) (a ∷ []) c now) is h

      text_so : (C : Matrix) (a : Answer) (line text : List ℕ) → C ≡ code → Goes the_world (C ∷ []) (a ∷ []) c now → line ≡ answer_line distance C a → ((b l : ℕ) → line ≡ query_line distance code b → c.pace.told ≡ round_count code b l → text ≡ summary_text number b l) → text ≡ summary_text number budget longest
      text_so C a line text is h l f = text_is a c now line text (with_code C a is h) (l ∙ ap (λ (x : Matrix). answer_line distance x a) is) f

      pub written_so : (C : Matrix) (a : Answer) (line text : List ℕ) → C ≡ code → Goes the_world (C ∷ []) (a ∷ []) c now → line ≡ answer_line distance C a → ((b l : ℕ) → line ≡ query_line distance code b → c.pace.told ≡ round_count code b l → text ≡ summary_text number b l)
          → Appends sink taken text → taken_faults ≡ sink_faults → IsSession built_calls args old new (done 0)
      written_so C a line text is h l f written calm = summary_done a text (with_code C a is h) (text_so C a line text is h l f) written calm

      pub unwritten_so : (C : Matrix) (a : Answer) (line text : List ℕ) → C ≡ code → Goes the_world (C ∷ []) (a ∷ []) c now → line ≡ answer_line distance C a → ((b l : ℕ) → line ≡ query_line distance code b → c.pace.told ≡ round_count code b l → text ≡ summary_text number b l)
          → AppendsPart sink taken text → HasRisen sink_faults taken_faults → IsSession built_calls args old new sink_fault
      unwritten_so C a line text is h l f written risen = summary_unwritten a text (with_code C a is h) (text_so C a line text is h l f) written risen

      pub starved_so : (C : Matrix) (a : Answer) → C ≡ code → Goes the_world (C ∷ []) (a ∷ []) c now → taken ≡ sink → taken_faults ≡ sink_faults → IsSession built_calls args old new (no_memory c.pace.told)
      starved_so C a is h same calm = summary_starved a (with_code C a is h) same calm

      pub halted_so : (C : Matrix) (x : Halt) → C ≡ code → Halts the_world [] C c now x → taken ≡ sink → taken_faults ≡ sink_faults → IsSession built_calls args old new (no_memory c.pace.told)
      halted_so C x is h same calm = summary_halted x (subst (λ (y : Matrix). Halts the_world [] y c now x) is h) same calm

-- memory was refused before its search
pub summary_unstarted : (args : List (List ℕ)) (workers longest budget number : ℕ) (old : Outside) → options all_options args ≡ settings (record { command = summary; workers = workers; round = longest; budget = budget; slice = None; keep = false; number = number }) → IsSession built_calls args old old (no_memory 0)
summary_unstarted args workers longest budget number old accepted =
    let asked : Settings = record { command = summary; workers = workers; round = longest; budget = budget; slice = None; keep = false; number = number } in
    early args asked old old [] (no_memory 0) accepted (λ i e. cc) refl refl (record { start = refl; turn = refl }) (refl, λ e. refl) refl refl tt refl (record { source = refl; sink = refl; vault = refl })
