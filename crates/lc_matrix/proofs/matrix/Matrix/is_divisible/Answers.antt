use Rattle.lc_matrix.proofs.DivisorLaws.{possible_positive, told_two, told_orthogonal, told_not}
use Rattle.lc_matrix.proofs.matrix.Matrix.is_divisible.Goals as goal

pub rows_are_divisible-requires : goal.rows_are_divisible-requires
rows_are_divisible-requires c =
    record { positive = possible_positive c.args.self.now.field c.args.d c.requires.possible }

pub returns-then-not-rows_are_divisible : goal.returns-then-not-rows_are_divisible
returns-then-not-rows_are_divisible c =
    let s = c.args.self.now in
    record { is = told_not s.field s.columns c.args.d s.rows c.rows-height.ensures.words c.requires.possible c.if-not-rows_are_divisible.ensures.no }

pub returns-then-d-eq2 : goal.returns-then-d-eq2
returns-then-d-eq2 c =
    let s = c.args.self.now in
    record { is = told_two s.field s.columns c.args.d s.rows c.rows-height.ensures.words c.requires.possible c.if-not-rows_are_divisible.ensures.yes c.if-d-eq2.true }

pub returns-else-d-eq2 : goal.returns-else-d-eq2
returns-else-d-eq2 c =
    let s = c.args.self.now in
    record { is = told_orthogonal s.field s.columns c.args.d s.rows c.rows_are_orthogonal.result c.rows-height.ensures.words c.requires.possible c.if-not-rows_are_divisible.ensures.yes c.if-d-eq2.false c.rows_are_orthogonal.ensures.yes c.rows_are_orthogonal.ensures.no }
