use Rattle.std.proofs.Common.{◌≡◌, ◌^◌}
use Rattle.lc_basic.proofs.hamming_codes.power.Given as goal

abbrev pub invariant-loop-i : goal.invariant-loop-i
invariant-loop-i l = l.power ≡ l.q ^ l._i
