-- The sessions of `run` and `resume`, from what their calls did.
--   few_needs            a script asks for fewer than 70,000 needs
--   is_for_so            whether a checkpoint is for bytes that were read
--   named_so             the digest and the budget that a checkpoint names
--   run_session_of       `run`, from its first statement on
--   resume_session_of    `resume`, from its first statement on
use Rattle.std.proofs.Common.{◌≡◌, ◌≤◌, ◌<◌, ◌*◌, ◌^◌, ◌==◌, inl, inr, ℕ, Bool, true, false, IsTrue, Result, List, [], length, Option, refl, sym, ap, subst, ◌∙◌, arith}
use Rattle.std.specs.Prelude.{MatchResult}
use Rattle.std.proofs.lemmas.Bool.{and_parts, eqb-true}
use Rattle.sha2.specs.Sha256.{sha256}
use Rattle.lc_algebra.specs.Matrix.{Matrix}
use Rattle.lc_formats.specs.Text.{same_bytes}
use Rattle.lc_formats.specs.Checkpoint.{Checkpoint, current_of}
use Rattle.lc_formats.proofs.ByteLaws.{same_from_bytes}
use Rattle.lc_io.specs.Vaults.{Slots, WhereTold, empty_slots}
use Rattle.lc_io.proofs.SlotLaws.{WhereTold-refl}
use Rattle.lc_parse.proofs.Outcomes.{one_script, no_both}
use Rattle.lc_calls.specs.Built.{built_calls}
use Rattle.lc_session_rules.specs.Options.{Command, run, resume, Settings, settings, options, all_options}
use Rattle.lc_session_rules.specs.Needs.{MeetsFirst}
use Rattle.lc_session_rules.specs.Slots.{next_turn, takes, is_for}
use Rattle.lc_session_rules.specs.Session.{Outside, most_bytes, WasRead, begin_with, Finds, IsSession}
use Rattle.lc_rounds.specs.Way.{Around, around}
use Rattle.lc_session_rules.specs.Course.{Beginning, afresh, after}
use Rattle.lc_rounds.specs.declared.course.Course.{Course}
use Rattle.lc_rounds.specs.declared.need.Halt.{Halt}
use Rattle.lc_text.specs.declared.statements.Text.{Text}
use Rattle.lc_rounds.specs.Going.{World, started, Goes}
use Rattle.lc_text.specs.Text.{Prints, EndsBefore}
use Rattle.lc_text.specs.Worlds.{outside_of, world}
use Rattle.lc_text.proofs.SessionLaws.{IsReady}
use Rattle.lc_session.specs.declared.status.Status.{Status}
use Rattle.lc_session.specs.Ending.{ending_of}
use Rattle.lc_session.specs.Closing.{Closes}
use Rattle.lc_script_laws.proofs.GroundLaws.{one_step_built}
use Rattle.lc_script_laws.proofs.NearestLaws.{nears_true}
use Rattle.lc_session.proofs.ScriptEnds.{run_ends, resume_ends}

pub few_needs : (given bytes : List ℕ) → given ≡ bytes → length bytes ≤ most_bytes → ((needs : List Matrix) → MeetsFirst built_calls given needs → 15 * length needs ≤ length given) → (needs : List Matrix) → MeetsFirst built_calls given needs → length needs < 70000
few_needs given bytes same l long needs met = (let n = long needs met in let e = ap (λ (b : List ℕ). length b) same in omega (arith, l, n, e))

pub is_for_so : (digest hashed bytes : List ℕ) (budget : ℕ) (p : Checkpoint) (found answer : Bool) → digest ≡ sha256 hashed → hashed ≡ bytes → found ≡ is_for digest budget p → found ≡ answer → is_for (sha256 bytes) budget p ≡ answer
is_for_so digest hashed bytes budget p found answer d same f a = ap (λ (x : List ℕ). is_for x budget p) (ap sha256 (sym same) ∙ sym d) ∙ sym f ∙ a

named_so : (digest : List ℕ) (budget : ℕ) (p : Checkpoint) → is_for digest budget p ≡ true → (p.script ≡ digest) × (p.budget ≡ budget)
unfolding is_for
named_so digest budget p e = let a = and_parts (same_bytes p.script digest) (p.budget == budget) e in (same_from_bytes p.script digest a.0, eqb-true p.budget budget a.1)

-- what a call says of the text and of how it ended
abbrev Found : World → List ℕ → Result Text Halt → Course → Around → Type 0
Found w bytes r c now = MatchResult r (λ t. Prints w bytes t c now) (λ x. EndsBefore w bytes c now x)

same_world : (asked : Settings) (bytes digest : List ℕ) (b : Beginning) (turn : ℕ) (held : Option Slots) (faults : ℕ) (old : Outside) → digest ≡ sha256 bytes → faults ≡ old.vault_faults → started b asked.budget asked.round asked.slice asked.keep digest turn (around held faults old.watchers) ≡ world asked bytes b turn held old
same_world asked bytes digest b turn held faults old d f =
    ap (λ (x : List ℕ). started b asked.budget asked.round asked.slice asked.keep x turn (around held faults old.watchers)) d ∙ ap (λ (n : ℕ). started b asked.budget asked.round asked.slice asked.keep (sha256 bytes) turn (around held n old.watchers)) f

begun_run : (asked : Settings) (old held : Option Slots) → asked.command ≡ run → WhereTold old held (λ before after. after ≡ empty_slots) → WhereTold old held (λ before now. now ≡ begin_with asked.command before)
begun_run asked old held runs h = subst (λ (x : Command). WhereTold old held (λ before now. now ≡ begin_with x before)) (sym runs) h

begun_resume : (asked : Settings) (old : Option Slots) → asked.command ≡ resume → WhereTold old old (λ before now. now ≡ begin_with asked.command before)
begun_resume asked old resumes = subst (λ (x : Command). WhereTold old old (λ before now. now ≡ begin_with x before)) (sym resumes) (WhereTold-refl old (λ before now. now ≡ before) (λ a. refl))

pub run_session_of : (args : List (List ℕ)) (asked : Settings) (old : Outside) (source : Option (List ℕ)) (source_faults : ℕ) (bytes given : List ℕ) (held : Option Slots) (faults : ℕ) (first last : Course) (digest : List ℕ) (r : Result Text Halt) (now : Around) (sink : Option (List ℕ)) (sink_faults : ℕ) (s : Status)
    → options all_options args ≡ settings asked → asked.command ≡ run → asked.budget ≤ 2 ^ 40 → 1 ≤ asked.round → WasRead old.source source bytes → source_faults ≡ old.source_faults
    → (asked.keep ≡ true → WhereTold old.vault held (λ before after. after ≡ empty_slots)) → (asked.keep ≡ false → held ≡ old.vault) → faults ≡ old.vault_faults → digest ≡ sha256 bytes
    → Goes (started afresh asked.budget asked.round asked.slice asked.keep digest 0 (around held faults old.watchers)) [] [] first (around held faults old.watchers)
    → ((w : World) → Goes w [] [] first (around held faults old.watchers) → MatchResult r (λ t. Prints w given t last now) (λ x. EndsBefore w given last now x)) → given ≡ bytes
    → Closes r last old.sink sink old.sink_faults sink_faults s → IsSession built_calls args old (outside_of source source_faults sink sink_faults now) (ending_of s)
run_session_of args asked old source source_faults bytes given held faults first last digest r now sink sink_faults s accepted runs small long read quiet begun unkept calm hashed goes found same_given closed =
    let w = started afresh asked.budget asked.round asked.slice asked.keep digest 0 (around held faults old.watchers) in
    let same : w ≡ world asked bytes afresh 0 held old = same_world asked bytes digest afresh 0 held faults old hashed calm in
    let ready : IsReady args asked old source source_faults bytes held = record { accepted = accepted; searches = inl runs; read = read; quiet = quiet; begun = λ k. begun_run asked old.vault held runs (begun k); unkept = unkept } in
    run_ends args asked old source source_faults bytes held ready (one_script bytes) one_step_built (no_both bytes) small long (nears_true built_calls bytes asked.budget) last now sink sink_faults r s runs (subst (λ (b : List ℕ). Found (world asked bytes afresh 0 held old) b r last now) same_given (subst (λ (x : World). Found x given r last now) same (found w goes))) closed

pub resume_session_of : (args : List (List ℕ)) (asked : Settings) (old : Outside) (source : Option (List ℕ)) (source_faults : ℕ) (bytes given : List ℕ) (held : Option Slots) (faults : ℕ) (p : Checkpoint) (first last : Course) (r : Result Text Halt) (now : Around) (sink : Option (List ℕ)) (sink_faults : ℕ) (s : Status)
    → options all_options args ≡ settings asked → asked.command ≡ resume → asked.budget ≤ 2 ^ 40 → 1 ≤ asked.round → WasRead old.source source bytes → source_faults ≡ old.source_faults
    → held ≡ old.vault → faults ≡ old.vault_faults → Finds old.vault (takes p) → IsTrue (is_for (sha256 bytes) asked.budget p)
    → Goes (started (after p.version p.settled (current_of p)) p.budget asked.round asked.slice asked.keep p.script (next_turn p.turn) (around held faults old.watchers)) [] [] first (around held faults old.watchers)
    → ((w : World) → Goes w [] [] first (around held faults old.watchers) → MatchResult r (λ t. Prints w given t last now) (λ x. EndsBefore w given last now x)) → given ≡ bytes
    → Closes r last old.sink sink old.sink_faults sink_faults s → IsSession built_calls args old (outside_of source source_faults sink sink_faults now) (ending_of s)
resume_session_of args asked old source source_faults bytes given held faults p first last r now sink sink_faults s accepted resumes small long read quiet same_slots calm taken named goes found same_given closed =
    let names = named_so (sha256 bytes) asked.budget p named in
    let b = after p.version p.settled (current_of p) in
    let w = started b p.budget asked.round asked.slice asked.keep p.script (next_turn p.turn) (around held faults old.watchers) in
    let same : w ≡ world asked bytes b (next_turn p.turn) old.vault old =
    ap (λ (n : ℕ). started b n asked.round asked.slice asked.keep p.script (next_turn p.turn) (around held faults old.watchers)) names.1 ∙ same_world asked bytes p.script b (next_turn p.turn) held faults old names.0 calm
    ∙ ap (λ (o : Option Slots). world asked bytes b (next_turn p.turn) o old) same_slots in
    let ready : IsReady args asked old source source_faults bytes old.vault = record { accepted = accepted; searches = inr resumes; read = read; quiet = quiet; begun = λ k. begun_resume asked old.vault resumes; unkept = λ k. refl } in
    resume_ends args asked old source source_faults bytes old.vault ready (one_script bytes) one_step_built (no_both bytes) small long (nears_true built_calls bytes asked.budget) last now sink sink_faults p taken named (next_turn p.turn) refl resumes r s (subst (λ (d : List ℕ). Found (world asked bytes b (next_turn p.turn) old.vault old) d r last now) same_given (subst (λ (x : World). Found x given r last now) same (found w goes))) closed
