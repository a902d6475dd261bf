use Rattle.std.proofs.Common.{◌≡◌, ◌+◌, ◌-◌}
use Rattle.lc_algebra.specs.Field.{size}
use Rattle.lc_syndrome.specs.Growth.{Grows}
use Rattle.lc_syndrome.proofs.level.Level.next.Given as goal

abbrev pub invariant-loop-t : goal.invariant-loop-t
invariant-loop-t l = record {
  weight : l.next.weight ≡ l.self.weight + 1;
  state : Grows l.syndromes (l.n - l.t) (size l.syndromes.field) 0 l.self l.steps l.next;
}
