use Rattle.lc_code.specs.Coordinates.{coordinate_row}
use Rattle.lc_code.proofs.CoordinateSteps.{rows_more}
use Rattle.lc_code.proofs.expansion.add_coordinates.Goals as goal

pub loop-i-preserved : goal.loop-i-preserved
loop-i-preserved c =
    rows_more (λ i. coordinate_row c.args.field.now c.args.degree c.args.numbers.now i c.args.entries.now) c.args.rows.now.items c.loop-i.rows.items c.push.new.self.items c.in_ok-row.row c.loop-i.i c.loop-i.invariant c.in_ok-row.ensures.is c.in_ok-push.ensures.items
