use Rattle.lc_arguments.proofs.KeyLaws.{IsNamedFrom}
use Rattle.lc_arguments.proofs.keys.named.Given as goal

abbrev pub invariant-loop-key : goal.invariant-loop-key
invariant-loop-key l = IsNamedFrom l.keys l.name l.key-index
