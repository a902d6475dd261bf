-- What the arguments ask of a session that keeps no checkpoints.
--   check_reads          to check a certificate is to read it
--   check_asked, summary_asked      a certificate is checked, or a summary is asked for: without checkpoints, and so without a slice
use Rattle.std.proofs.Common.{◌≡◌, Bool, true, false, ℕ, Option, Some, None, IfSome, refl, ap, subst}
use Rattle.std.proofs.lemmas.Bool.{false_from_ne_true}
use Rattle.lc_session_rules.specs.Options.{check, summary}
use Rattle.lc_session_rules.specs.Session.{reads}
use Rattle.lc_arguments.specs.Asked.{command_for, settings_for, CanKeep, IsWithin}
use Rattle.lc_arguments.specs.declared.request.Settings.{Settings as Asked}
use Rattle.lc_arguments.specs.declared.request.Command.{Command}
use Rattle.lc_arguments.specs.declared.request.Command.TheVariants as command

is_none : (keep : Bool) (slice : Option ℕ) → IfSome slice (λ n. keep ≡ true) → (keep ≡ true → ⊥) → slice ≡ None
is_none keep None h f = refl
is_none keep (Some n) h f = absurd (f h)

cannot_keep : (a : Asked) (c : Command) → IsWithin a → a.command ≡ c → (CanKeep (command_for c) → ⊥) → a.keep ≡ true → ⊥
cannot_keep a c h e f k = f (subst (λ (x : Command). CanKeep (command_for x)) e (h.limits.kept k))

pub check_reads : (a : Asked) → a.command ≡ command.Check → reads (command_for a.command) ≡ true
check_reads a e = ap (λ (x : Command). reads (command_for x)) e

pub check_asked : (a : Asked) → IsWithin a → a.command ≡ command.Check → settings_for a ≡ record { command = check; workers = a.workers; round = a.round; budget = a.budget; slice = None; keep = false; number = a.number }
check_asked a h e =
    let f = cannot_keep a command.Check h e (λ x. x) in
    let k = false_from_ne_true a.keep f in
    let s = is_none a.keep a.slice h.slice_kept f in
    let c = ap command_for e in
    cc

pub summary_asked : (a : Asked) → IsWithin a → a.command ≡ command.Summary → settings_for a ≡ record { command = summary; workers = a.workers; round = a.round; budget = a.budget; slice = None; keep = false; number = a.number }
summary_asked a h e =
    let f = cannot_keep a command.Summary h e (λ x. x) in
    let k = false_from_ne_true a.keep f in
    let s = is_none a.keep a.slice h.slice_kept f in
    let c = ap command_for e in
    cc
