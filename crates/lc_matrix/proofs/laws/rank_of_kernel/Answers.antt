use Rattle.lc_matrix.proofs.RankLaws.{rank_of_kernel}
use Rattle.lc_matrix.proofs.laws.rank_of_kernel.Goals as goal

pub returns : goal.returns
returns c =
    let m = c.args.matrix.now in
    record { is = λ e k p q. rank_of_kernel m.field m.columns m.rows e k c.rows-height.ensures.words p q }
