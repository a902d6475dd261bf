use Rattle.lc_algebra.specs.Word.{IsWord}
use Rattle.codes_bench.proofs.linear.add_often.Given as goal

abbrev pub invariant-loop : goal.invariant-loop
invariant-loop l = IsWord l.field 255 l.to
