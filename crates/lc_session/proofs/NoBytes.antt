-- A session of a script without bytes.
--   none_read            what is read of a source without bytes
--   none_given           no byte is taken from it
--   is_written           a session that has its text isn't out of memory
--   runs                 the command that is asked for is `run`, if that is what the arguments say
use Rattle.std.proofs.Common.{◌≡◌, ◌≢◌, ⊎_elim, ℕ, List, [], ◌∷◌, ◌++◌, length, Option, Some, None, Result, Ok, Err, IsOk, refl, sym, ap, subst, ◌∙◌, arith}
use Rattle.std.specs.Io.KnownBytes.{Consumes, Appends}
use Rattle.lc_io.specs.Outside.{GaveSome, HasRisen, AppendsPart}
use Rattle.lc_session_rules.specs.Options.{Settings, Options, settings, run}
use Rattle.lc_session_rules.specs.Session.{end_number}
use Rattle.lc_rounds.specs.declared.course.Course.{Course}
use Rattle.lc_rounds.specs.declared.need.Halt.{Halt}
use Rattle.lc_arguments.specs.declared.request.Settings.{Settings as Asked}
use Rattle.lc_arguments.specs.Asked.{command_for, settings_for}
use Rattle.lc_text.specs.declared.statements.Text.{Text}
use Rattle.lc_session.specs.declared.status.Status.{Status}
use Rattle.lc_session.specs.declared.status.Status.TheVariants as status
use Rattle.lc_session.specs.Closing.{Closes}

no_front : (bytes rest : List ℕ) → [] ≡ bytes ++ rest → bytes ≡ []
no_front [] rest e = refl
no_front (b ∷ bytes) rest e = (let n = ap length e in absurd (omega (arith, n)))

of_nothing : (new : Option (List ℕ)) (bytes : List ℕ) → Consumes (Some []) new bytes → bytes ≡ []
of_nothing None bytes h = absurd h
of_nothing (Some rest) bytes h = no_front bytes rest h

pub none_read : (old new : Option (List ℕ)) (bytes : List ℕ) → old ≡ Some [] → Consumes old new bytes → bytes ≡ []
none_read old new bytes none h = of_nothing new bytes (subst (λ o. Consumes o new bytes) none h)

pub none_given : (old new : Option (List ℕ)) (limit : ℕ) → old ≡ Some [] → GaveSome old new limit → ⊥
none_given old new limit none h =
    let e = ap length (none_read old new h.0 none h.3) in
    let some = h.1 in
    omega (arith, e, some)

pub is_written : (r : Result Text Halt) (c : Course) (old new : Option (List ℕ)) (before now : ℕ) (s : Status) → IsOk r → Closes r c old new before now s → (told : ℕ) → s ≢ status.NoMemory told
is_written (Ok t) c old new before now s ok h told e =
    ⊎_elim (λ (a : (s ≡ status.Done (end_number t.ends)) × Appends old new t.bytes.items × (now ≡ before)). (let f = sym a.0 ∙ e in cc))
    (λ (a : (s ≡ status.SinkFault) × AppendsPart old new t.bytes.items × HasRisen before now). (let f = sym a.0 ∙ e in cc)) h
is_written (Err x) c old new before now s ok h told e = absurd (let f = ok in cc)

pub runs : (a : Asked) (asked : Settings) (o : Options) → o ≡ settings (settings_for a) → o ≡ settings asked → asked.command ≡ run → command_for a.command ≡ run
runs a asked o given same is =
    let e : settings (settings_for a) ≡ settings asked = sym given ∙ same in
    let f : settings_for a ≡ asked = cc in
    ap (λ (s : Settings). s.command) f ∙ is
