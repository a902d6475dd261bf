use Rattle.lc_calls.specs.Built.{built_calls}
use Rattle.lc_session_rules.proofs.Headline.{run_prints, true_prints}
use Rattle.lc_script_laws.proofs.GroundLaws.{chains_are_true, resumed_prints}
use Rattle.lc_script_laws.proofs.StoredLaws.{slots_stay}
use Rattle.lc_script_laws.proofs.laws.chains_print_the_text.Goals as goal

pub returns : goal.returns
returns _ = record {
  slots = chains_are_true;
  run = λ args old new n s runs. run_prints built_calls args old new n s runs;
  slots_true = λ args old new n s slots resumes told both. true_prints built_calls args old new n s slots resumes told both;
  stay = slots_stay;
  resume = resumed_prints;
}
