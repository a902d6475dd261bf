use Rattle.std.proofs.Common.{◌+◌, refl, arith}
use Rattle.lc_syndrome.proofs.LevelLaws.{table_whole, table_found}
use Rattle.lc_syndrome.proofs.steps.Steps.build.Goals as goal

pub returns : goal.returns
returns c = record { steps = table_whole c.args.syndromes.now (c.loop-weight.level.weight + 1) _ _ (omega (arith, c.loop-weight.invariant.weight, c.loop-weight-test.false)) c.loop-weight.invariant.table }

pub returns-then-is_whole : goal.returns-then-is_whole
returns-then-is_whole c = record { steps = table_found c.args.syndromes.now (c.loop-weight.level.weight + 1) _ _ (c.if-is_whole.ensures.whole refl) c.loop-weight.invariant.table }
