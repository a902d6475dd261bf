-- A finished session prints the text of the script, for every list of sessions before it.
--   truly_prints         read off the contract: that of `run`, and that of `resume` from a true checkpoint
--   run_prints           that of `run`
--   true_prints          that of `resume` over true slots
--   resume_prints        that of `resume` over the slots of a chain
use Rattle.std.proofs.Common.{◌≡◌, ℕ, List, sym, subst}
use Rattle.std.specs.Prelude.{Option, Some}
use Rattle.lc_io.specs.Vaults.{Slots}
use Rattle.lc_language.specs.declared.Call.{Call}
use Rattle.lc_language.specs.Evaluation.{IsText}
use Rattle.lc_session_rules.specs.Options.{Command, run, resume, check, summary, Settings}
use Rattle.lc_session_rules.specs.Endings.{done}
use Rattle.lc_session_rules.specs.Slots.{AreTrueSlots}
use Rattle.lc_session_rules.specs.Session.{Outside, Course, Starts, Replies, IsSession}
use Rattle.lc_session_rules.specs.Promises.{PrintsText, StartsTruly}
use Rattle.lc_session_rules.specs.Chain.{Chain, IsGround}
use Rattle.lc_session_rules.proofs.ChainLaws.{chains_are_true}
use Rattle.lc_session_rules.proofs.StoredTruly.{taken_truly}

truly_by : (table : List Call) (c : Command) (asked : Settings) (held : Option Slots) (course : Course) (n : ℕ) → Starts table c (done n) asked held course → Replies table c asked held course → StartsTruly table c asked held course → IsText table asked.budget course.bytes course.text course.is_faulty
truly_by table run asked held course n started reply truly = reply.1.printed
truly_by table resume asked held course n started reply truly = (reply.1.honest started.0.0 started.0.1 (truly started.0.0 started.0.1)).printed
truly_by table check asked held course n started reply truly = absurd truly
truly_by table summary asked held course n started reply truly = absurd truly

pub truly_prints : (table : List Call) (args : List (List ℕ)) (old new : Outside) (n : ℕ) (s : IsSession table args old new (done n)) → StartsTruly table s.asked.command s.asked old.vault s.course → PrintsText table s.asked.budget s.course.bytes old.sink new.sink n
truly_prints table args old new n s truly = record {
  text = s.course.text;
  is_faulty = s.course.is_faulty;
  is_text = truly_by table s.asked.command s.asked old.vault s.course n s.started s.replied.0 truly;
  written = s.written;
  number = s.replied.1;
}

pub run_prints : (table : List Call) (args : List (List ℕ)) (old new : Outside) (n : ℕ) (s : IsSession table args old new (done n)) → s.asked.command ≡ run → PrintsText table s.asked.budget s.course.bytes old.sink new.sink n
run_prints table args old new n s runs = truly_prints table args old new n s (subst (λ (c : Command). StartsTruly table c s.asked old.vault s.course) (sym runs) tt)

pub true_prints : (table : List Call) (args : List (List ℕ)) (old new : Outside) (n : ℕ) (s : IsSession table args old new (done n)) (slots : Slots) → s.asked.command ≡ resume → old.vault ≡ Some slots → AreTrueSlots table s.course.bytes s.asked.budget slots → PrintsText table s.asked.budget s.course.bytes old.sink new.sink n
true_prints table args old new n s slots resumes told both =
    truly_prints table args old new n s (subst (λ (c : Command). StartsTruly table c s.asked old.vault s.course) (sym resumes) (taken_truly table s.asked old.vault s.course slots told both))

pub resume_prints : (table : List Call) (args : List (List ℕ)) (old new : Outside) (n : ℕ) (s : IsSession table args old new (done n)) (version : ℕ) (slots : Slots) → s.asked.command ≡ resume → IsGround table s.course.bytes s.asked.budget → old.vault ≡ Some slots → Chain table s.course.bytes s.asked.budget version slots
    → PrintsText table s.asked.budget s.course.bytes old.sink new.sink n
resume_prints table args old new n s version slots resumes ground told chain = true_prints table args old new n s slots resumes told (chains_are_true table s.course.bytes s.asked.budget ground version slots chain)
