use Rattle.std.proofs.Common.{◌≡◌}
use Rattle.lc_syndrome.specs.Growth.{Grows}
use Rattle.lc_syndrome.proofs.level.Level.offer_all.Given as goal

abbrev pub invariant-loop-place : goal.invariant-loop-place
invariant-loop-place l = record {
  weight : l.next.weight ≡ l.fn.next.weight;
  state : Grows l.syndromes l.mark.coordinate l.mark.symbol l.place l.self l.steps l.next;
}
