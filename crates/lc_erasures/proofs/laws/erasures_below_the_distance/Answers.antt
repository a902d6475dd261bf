use Rattle.lc_erasures.proofs.ErasureLaws.{several_differ, several_from, several_far, corrected}
use Rattle.lc_erasures.proofs.laws.erasures_below_the_distance.Goals as goal

pub returns : goal.returns
returns c = record {
  several = λ C x erased r w. (several_differ C x erased r w, several_from C x erased r w);
  one = several_far;
  corrected = corrected;
}
