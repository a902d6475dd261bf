use Rattle.std.proofs.Common.{◌+◌, refl, arith}
use Rattle.lc_algebra.specs.Field.{size}
use Rattle.lc_syndrome.proofs.LevelLaws.{level_started, level_ended, table_ended}
use Rattle.lc_syndrome.proofs.level.Level.next.Goals as goal

pub loop-t-init : goal.loop-t-init
loop-t-init c = record {
  weight = refl;
  state = level_started c.args.syndromes.now (c.args.self.now.weight + 1) _ (size c.args.syndromes.now.field) _ _ _ _ _ (omega arith) (omega (arith, c.length-n.ensures.is)) c.new.ensures.items c.new-2.ensures.items c.requires.table;
}

pub returns-clause-level : goal.returns-clause-level
returns-clause-level c =
    level_ended c.args.syndromes.now (c.args.self.now.weight + 1) c.loop-t.next.weight _ (size c.args.syndromes.now.field) _ _ _ _ _ (omega arith) c.loop-t.invariant.weight (omega (arith, c.loop-t-test.false)) c.loop-t.invariant.state

pub returns-clause-table : goal.returns-clause-table
returns-clause-table c =
    table_ended c.args.syndromes.now (c.args.self.now.weight + 1) c.loop-t.next.weight _ (size c.args.syndromes.now.field) _ _ _ _ _ (omega arith) c.loop-t.invariant.weight (omega (arith, c.loop-t-test.false)) c.loop-t.invariant.state
