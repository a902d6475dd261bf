use Rattle.std.proofs.Common.{◌≡◌, length}
use Rattle.codes_bench.proofs.decoders.decode_often.Given as goal

abbrev pub invariant-loop : goal.invariant-loop
invariant-loop l = length l.out ≡ l.leaders.columns

abbrev pub invariant-loop-word : goal.invariant-loop-word
invariant-loop-word l = length l.out ≡ l.leaders.columns
