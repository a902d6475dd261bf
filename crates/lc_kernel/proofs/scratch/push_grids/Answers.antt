use Rattle.std.proofs.Common.{◌∷◌, [], length, ap, arith, length-append}
use Rattle.lc_kernel.specs.declared.grid.Grid.{Grid}
use Rattle.lc_kernel.specs.Grids.{IsGrid}
use Rattle.lc_kernel.proofs.TableLaws.{all_pushed}
use Rattle.lc_kernel.proofs.scratch.push_grids.Goals as goal

pub loop-j-preserved : goal.loop-j-preserved
loop-j-preserved c =
    let gs = c.loop-j.grids.items in
    let g = c.in-Some.grid in
    let C = c.args.sets.now in
    record {
      many = omega (arith, ap length c.in_ok-push.ensures.items, length-append gs (g ∷ []), c.loop-j.invariant.many);
      are = record {
        each = all_pushed (λ j (x : Grid). IsGrid C j x) gs c.push.new.self.items g c.loop-j.invariant.are.each (rw c.loop-j.invariant.many (c.in_ok-grid.ensures.is g c.in-Some.is)) c.in_ok-push.ensures.items;
      };
      room = λ _. c.in_ok-grid.ensures.some g c.in-Some.is;
    }
