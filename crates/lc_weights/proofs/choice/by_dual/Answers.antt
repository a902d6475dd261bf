use Rattle.lc_weights.proofs.ChoiceLaws.{dual_is_small}
use Rattle.lc_weights.proofs.choice.by_dual.Goals as goal

pub count_words-requires-clause-small : goal.count_words-requires-clause-small
count_words-requires-clause-small g c _ _ = (dual_is_small c.args.code.now c.in_ok-dual.dual c.matrix-matrix.ensures.rows c.matrix-matrix.ensures.reduced c.in_ok-dual.ensures.code c.requires.built c.requires.many).0

pub from_dual-requires-clause-small : goal.from_dual-requires-clause-small
from_dual-requires-clause-small g c = (dual_is_small c.args.code.now c.in_ok-dual.dual c.matrix-matrix.ensures.rows c.matrix-matrix.ensures.reduced c.in_ok-dual.ensures.code c.requires.built c.requires.many).1
