use Rattle.lc_board.proofs.Moves.{opened}
use Rattle.lc_board.proofs.board.Board.open.Goals as goal

pub of_words-requires : goal.of_words-requires
of_words-requires c = opened _ c.requires
