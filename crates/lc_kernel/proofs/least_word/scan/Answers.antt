use Rattle.std.proofs.Common.{◌≡◌, ◌+◌, ◌-◌, ◌*◌, ◌<◌, ◌^◌, sym, ◌∙◌, arith}
use Rattle.lc_enumeration.specs.Plan.{place_of, block_length}
use Rattle.lc_enumeration.specs.Search.{block_words}
use Rattle.lc_kernel.proofs.BlockLaws.{phase_in_plan}
use Rattle.lc_kernel.proofs.ScanLaws.{one_value, more_values, value_here, phase_same, block_value, length_of_code}
use Rattle.lc_kernel.proofs.least_word.scan.Goals as goal

pub loop-offset-init : goal.loop-offset-init
loop-offset-init c =
    let C = c.args.block.now.sets.now in
    let plan = c.args.block.now.plan.now in
    let b = c.args.block.now.number in
    let found = phase_in_plan c.args.block.now in
    let phase = phase_same C plan found.0 b c.args.block.now.planned found.1 in
    record {
      at = c.start_block.ensures.at;
      least = one_value (place_of b 0) (block_words C plan.m b) c.value_of-best.result (value_here C plan.m found.0 b 0 c.start_block.new.self c.value_of-best.result (b * 4096) phase (omega arith) c.start_block.ensures.at c.value_of-best.ensures.is (omega arith));
    }

pub loop-offset-preserved : goal.loop-offset-preserved
loop-offset-preserved c =
    let C = c.args.block.now.sets.now in
    let plan = c.args.block.now.plan.now in
    let b = c.args.block.now.number in
    let n = c.loop-offset.offset in
    let found = phase_in_plan c.args.block.now in
    let phase = phase_same C plan found.0 b c.args.block.now.planned found.1 in
    let few : n < 4096 = omega (arith, c.loop-offset-test.true, c.block_len-offset-end.ensures.few) in
    let e : n + 1 - 1 ≡ n = omega arith in
    let value = value_here C plan.m found.0 b n c.step_in_block.new.self c.value_of.result (b * 4096 + n) phase few c.step_in_block.ensures.at c.value_of.ensures.is (omega arith) in
    record {
      at = rw e c.step_in_block.ensures.at;
      least = rw c.min-best.ensures (more_values (place_of b 0) (block_words C plan.m b) n c.loop-offset.best c.value_of.result c.loop-offset.invariant.least value);
    }

pub returns-clause-is : goal.returns-clause-is
returns-clause-is c =
    let C = c.args.block.now.sets.now in
    let plan = c.args.block.now.plan.now in
    let b = c.args.block.now.number in
    let found = phase_in_plan c.args.block.now in
    let phase = phase_same C plan found.0 b c.args.block.now.planned found.1 in
    let all : c.loop-offset.offset ≡ block_length plan.k plan.q plan.m found.0 b = omega (arith, c.loop-offset-test.false, c.loop-offset.auto.offset-end, c.block_len-offset-end.ensures.some, c.block_len-offset-end.ensures.exact found.0 found.1) in
    let small : b < 2 ^ 40 = c.args.block.now.small in
    block_value C plan.m found.0 b c.loop-offset.best phase small (rw (sym (all ∙ length_of_code C plan found.0 b c.args.block.now.planned)) c.loop-offset.invariant.least)
