-- What chains of sessions rest on holds of every script.
--   one_step_built       a statement does one thing
--   script_is_ground     the ground of a script
--   chains_are_true      chains leave true slots
--   resumed_prints       a session over the slots of a chain prints the text of the script
use Rattle.std.proofs.Common.{◌≡◌, ◌≤◌, ◌<◌, ◌^◌, ℕ, List, length, Some, refl, sym, subst, arith}
use Rattle.lc_algebra.specs.Matrix.{Matrix}
use Rattle.lc_parse.proofs.Outcomes.{one_script}
use Rattle.lc_io.specs.Vaults.{Slots}
use Rattle.lc_calls.specs.Built.{built_calls}
use Rattle.lc_session_rules.specs.Options.{Command, resume, Settings, Options, settings, usage as refuses, options, all_options}
use Rattle.lc_session_rules.specs.Needs.{MeetsFirst, OneStep}
use Rattle.lc_session_rules.specs.Slots.{AreTrueSlots}
use Rattle.lc_session_rules.specs.Endings.{usage, done}
use Rattle.lc_session_rules.specs.Session.{Outside, most_bytes, Accepts, Reads, IsSession}
use Rattle.lc_session_rules.specs.Promises.{PrintsText}
use Rattle.lc_session_rules.specs.Chain.{Chain, IsGround}
use Rattle.lc_session_rules.proofs.ChainLaws as chains
use Rattle.lc_session_rules.proofs.Headline.{resume_prints}
use Rattle.lc_session_rules.proofs.AskLaws.{met_rows}
use Rattle.lc_session_rules.proofs.NeedLaws.{met_long}
use Rattle.lc_script_laws.proofs.CallLaws.{built_one}
use Rattle.lc_script_laws.proofs.OneText.{steps_one}
use Rattle.lc_script_laws.proofs.AskShapes.{met_shaped}
use Rattle.lc_script_laws.proofs.RangeLaws.{true_read_back}
use Rattle.lc_session_rules.proofs.OptionLaws.{options_usual}

pub one_step_built : OneStep built_calls
one_step_built env s = steps_one built_calls env built_one s

few_needs : (bytes : List ℕ) (needs : List Matrix) → length bytes ≤ most_bytes → MeetsFirst built_calls bytes needs → length needs < 70000
few_needs bytes needs short met = let long = met_long built_calls bytes needs met in omega (arith, long, short)

pub script_is_ground : (bytes : List ℕ) (budget : ℕ) → length bytes ≤ most_bytes → budget ≤ 2 ^ 40 → IsGround built_calls bytes budget
script_is_ground bytes budget short small = record {
  script = one_script bytes;
  step = one_step_built;
  small = small;
  rows = λ needs met. met_rows built_calls bytes needs met;
  few = λ needs met. (let few = few_needs bytes needs short met in omega (arith, few));
  reads_back = λ p version holds.
      let (needs, met, is) = holds in
      true_read_back needs bytes budget p small (met_shaped built_calls bytes needs met) (met_rows built_calls bytes needs met) (few_needs bytes needs short met) is;
}

pub chains_are_true : (bytes : List ℕ) (budget : ℕ) → length bytes ≤ most_bytes → budget ≤ 2 ^ 40 → (version : ℕ) (slots : Slots) → Chain built_calls bytes budget version slots → AreTrueSlots built_calls bytes budget slots
chains_are_true bytes budget short small version slots chain = chains.chains_are_true built_calls bytes budget (script_is_ground bytes budget short small) version slots chain

-- ---- what a session read, and the budget that it was asked for

small_budget : (args : List (List ℕ)) (o : Options) (asked : Settings) (old new : Outside) (n : ℕ) → options all_options args ≡ o → Accepts o asked old new (done n) → asked.budget ≤ 2 ^ 40
small_budget args (refuses i) asked old new n e h = absurd (let ended : done n ≡ usage i = h.1 in cc)
small_budget args (settings s) asked old new n e h = subst (λ (t : Settings). t.budget ≤ 2 ^ 40) (sym h.0) (options_usual all_options args s e).budget_is

short_script : (args : List (List ℕ)) (old new : Outside) (n : ℕ) (s : IsSession built_calls args old new (done n)) → s.asked.command ≡ resume → length s.course.bytes ≤ most_bytes
short_script args old new n s resumes =
    let read : Reads resume (done n) old.source new.source s.course = subst (λ (c : Command). Reads c (done n) old.source new.source s.course) resumes s.read in
    read.within

pub resumed_prints : (args : List (List ℕ)) (old new : Outside) (n : ℕ) (s : IsSession built_calls args old new (done n)) (version : ℕ) (slots : Slots) → s.asked.command ≡ resume → old.vault ≡ Some slots → Chain built_calls s.course.bytes s.asked.budget version slots
    → PrintsText built_calls s.asked.budget s.course.bytes old.sink new.sink n
resumed_prints args old new n s version slots resumes told chain =
    resume_prints built_calls args old new n s version slots resumes
    (script_is_ground s.course.bytes s.asked.budget (short_script args old new n s resumes) (small_budget args (options all_options args) s.asked old new n refl s.accepted))
    told chain
