use Rattle.std.proofs.Common.{◌≡◌, ◌+◌, ◌-◌, ◌≤◌, length, arith}
use Rattle.lc_alternant.proofs.StepLaws.{key_rows_more, key_row_taken}
use Rattle.lc_alternant.proofs.key.key_rows.Goals as goal

pub loop-j-preserved : goal.loop-j-preserved
loop-j-preserved c =
    let t = c.args.t in
    let j = c.loop-j.j in
    let s = c.args.syndromes.now in
    let row = c.in_ok-from_slice.field-0 in
    let n : j + t + 1 - j ≡ t + 1 = omega arith in
    let l : j + t + 1 ≤ length s = omega (arith, c.loop-j-test.true, c.requires.count) in
    key_rows_more t j s row c.loop-j.rows.items c.push.new.self.items c.loop-j.invariant (key_row_taken t j s row (j + t + 1 - j) n l c.in_ok-from_slice.ensures.is) c.in_ok-push.ensures.items
