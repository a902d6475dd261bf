use Rattle.std.proofs.Common.{◌≡◌, ◌+◌, []}
use Rattle.lc_syndrome.specs.Growth.{IsLevel, IsTable}
use Rattle.lc_syndrome.proofs.steps.Steps.build.Given as goal

abbrev pub invariant-loop-weight : goal.invariant-loop-weight
invariant-loop-weight l = record {
  weight : l.level.weight ≡ l._weight;
  level : IsLevel l.syndromes l.level.weight l.level.syndromes.items l.level.firsts.items;
  table : IsTable l.syndromes (l.level.weight + 1) l.steps.coordinates.items l.steps.symbols.items [];
}
