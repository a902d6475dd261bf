use Rattle.std.proofs.Common.{◌∷◌, [], length, ap, arith, length-append}
use Rattle.lc_kernel.specs.declared.table.Table.{Table}
use Rattle.lc_kernel.specs.Tables.{IsTable}
use Rattle.lc_kernel.proofs.TableLaws.{all_pushed}
use Rattle.lc_kernel.proofs.scratch.push_tables.Goals as goal

pub loop-j-preserved : goal.loop-j-preserved
loop-j-preserved c =
    let ts = c.loop-j.tables.items in
    let t = c.in_ok-table_of.field-0 in
    let C = c.args.sets.now in
    record {
      many = omega (arith, ap length c.in_ok-push.ensures.items, length-append ts (t ∷ []), c.loop-j.invariant.many);
      are = record { each = all_pushed (λ j (x : Table). IsTable C j x) ts c.push.new.self.items t c.loop-j.invariant.are.each (rw c.loop-j.invariant.many c.in_ok-table_of.ensures.is) c.in_ok-push.ensures.items };
    }
