use Rattle.std.proofs.Common.{sym, arith}
use Rattle.lc_documents.proofs.ListLaws.{words_done}
use Rattle.lc_documents.proofs.lists.words_of.Goals as goal

pub returns : goal.returns
returns c = record { is = sym (words_done c.args.field c.args.items.now c.loop-item.item-index c.loop-item.words.items (omega (arith, c.loop-item-test.false)) c.loop-item.invariant) }
