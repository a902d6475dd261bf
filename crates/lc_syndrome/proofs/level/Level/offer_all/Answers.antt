use Rattle.std.proofs.Common.{◌+◌, arith}
use Rattle.lc_syndrome.proofs.LevelLaws.{all_tried}
use Rattle.lc_syndrome.proofs.level.Level.offer_all.Goals as goal

pub returns-clause-state : goal.returns-clause-state
returns-clause-state c =
    all_tried c.args.syndromes.now c.args.self.now.weight (c.args.self.now.weight + 1) c.args.mark.coordinate c.args.mark.symbol c.loop-place.place _ _ _ _ _ _ c.requires.level (omega arith) c.requires.nonzero (omega (arith, c.loop-place-test.false, c.len-place-end.ensures)) c.loop-place.invariant.state
