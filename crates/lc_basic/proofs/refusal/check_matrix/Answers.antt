use Rattle.std.proofs.Common.{arith}
use Rattle.lc_basic.proofs.RefusalLaws.{matrix_rows}
use Rattle.lc_basic.proofs.refusal.check_matrix.Goals as goal

pub returns-clause-rows : goal.returns-clause-rows
returns-clause-rows c =
    matrix_rows c.args.field.now c.args.rows.now c.have_elements.result
    (grind (arith, c.if-not-are_equally_long.false, c.are_equally_long.ensures.is))
    c.have_elements.ensures.is
    (grind (arith, c.if-not-have_elements.false))
