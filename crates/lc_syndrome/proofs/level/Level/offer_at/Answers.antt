use Rattle.std.proofs.Common.{◌+◌, refl, arith}
use Rattle.lc_algebra.specs.Field.{size}
use Rattle.lc_syndrome.proofs.LevelLaws.{symbols_tried, level_whole}
use Rattle.lc_syndrome.proofs.level.Level.offer_at.Goals as goal

pub loop-symbol-init : goal.loop-symbol-init
loop-symbol-init c = record {
  weight = refl;
  state = symbols_tried c.args.syndromes.now (c.args.self.now.weight + 1) c.args.coordinate (c.args.coordinate + 1) (size c.args.syndromes.now.field) _ _ _ _ _ (omega arith) (omega arith) c.requires.state;
}

pub returns-then-is_whole-clause-state : goal.returns-then-is_whole-clause-state
returns-then-is_whole-clause-state c =
    level_whole c.args.syndromes.now (c.args.self.now.weight + 1) c.args.coordinate (c.args.coordinate + 1) (size c.args.syndromes.now.field) _ _ _ _ _ (c.if-is_whole.ensures.whole refl) c.requires.state
