use Rattle.std.proofs.Common.{◌≡◌, ◌∷◌, [], ◌+◌, ◌-◌, ◌*◌, length, ap, arith, length-append}
use Rattle.lc_kernel.proofs.GridLaws.{grid_parts_pushed}
use Rattle.lc_kernel.proofs.TableLaws.{cut_inside}
use Rattle.lc_kernel.proofs.grid.push_parts.Goals as goal

pub grid_part-requires-clause-inside : goal.grid_part-requires-clause-inside
grid_part-requires-clause-inside c = cut_inside c.args.rows.now.sets.now c.args.rows.now.set c.loop-start.start (c.min-end.result - c.loop-start.start) c.args.columns.now c.requires.columns

pub loop-start-preserved : goal.loop-start-preserved
loop-start-preserved c =
    let i = c.loop-start.invariant in
    let p = c.in_ok-grid_part.field-0 in
    let ps = c.loop-start.parts.items in
    let more : length c.push.new.self.items ≡ length ps + 1 = omega (arith, ap length c.in_ok-push.ensures.items, length-append ps (p ∷ [])) in
    let start : c.loop-start.start ≡ 64 * length ps = i.even c.loop-start-test.true in
    record {
      inside = omega (arith, c.min-end.ensures);
      start = omega (arith, more, start, c.min-end.ensures);
      even = λ l. omega (arith, more, start, c.min-end.ensures, l);
      are = grid_parts_pushed c.args.rows.now.sets.now c.args.rows.now.set c.args.planes c.loop-start.start c.min-end.result c.args.columns.now ps c.push.new.self.items p c.requires.columns start i.inside c.min-end.ensures i.are c.in_ok-grid_part.ensures.is c.in_ok-push.ensures.items;
    }
