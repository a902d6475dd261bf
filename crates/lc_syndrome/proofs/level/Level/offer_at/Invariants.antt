use Rattle.std.proofs.Common.{◌≡◌}
use Rattle.lc_syndrome.specs.Growth.{Grows}
use Rattle.lc_syndrome.proofs.level.Level.offer_at.Given as goal

abbrev pub invariant-loop-symbol : goal.invariant-loop-symbol
invariant-loop-symbol l = record {
  weight : l.next.weight ≡ l.fn.next.weight;
  state : Grows l.syndromes l.coordinate l.symbol 0 l.self l.steps l.next;
}
