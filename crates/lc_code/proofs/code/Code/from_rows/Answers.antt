use Rattle.lc_code.proofs.CodeLaws.{generated_code}
use Rattle.lc_code.proofs.code.Code.from_rows.Goals as goal

pub returns : goal.returns
returns c = record {
  code = generated_code c.args.field.now c.args.n c.args.rows.now c.in_ok-matrix.matrix c.in_ok-echelon.field-0 c.in_ok-matrix.ensures.field c.in_ok-matrix.ensures.columns c.in_ok-matrix.ensures.rows c.in_ok-echelon.ensures.field c.in_ok-echelon.ensures.columns (assumption c.in_ok-echelon.ensures);
}
