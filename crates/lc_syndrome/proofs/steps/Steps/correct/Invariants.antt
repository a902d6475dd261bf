use Rattle.lc_syndrome.proofs.DecodingLaws.{IsRest}
use Rattle.lc_syndrome.proofs.steps.Steps.correct.Given as goal

abbrev pub invariant-loop-taken : goal.invariant-loop-taken
invariant-loop-taken l = IsRest l.syndromes l.number l._taken l.rest l.fn.word l.word
