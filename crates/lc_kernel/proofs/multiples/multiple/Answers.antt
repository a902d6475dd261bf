use Rattle.std.proofs.Common.{◌+◌, ◌%◌, ◌∙◌, ap, refl}
use Rattle.lc_algebra.specs.Word.{zero_word, word_sum, scale}
use Rattle.lc_kernel.proofs.MultipleLaws.{multiple_is}
use Rattle.lc_kernel.proofs.multiples.multiple.Goals as goal

pub returns-clause-is : goal.returns-clause-is
returns-clause-is c = (multiple_is c.args.sets.now c.args.index (c.args.index % c.nonzero-elements.result + 1) c.dimension-k.result c.nonzero-elements.result c.symbols.result.now c.row.result.now c.put_sum.new.self (c.put_sum.ensures.is ∙ ap (λ f. word_sum f c.symbols.result.now (scale f (c.args.index % c.nonzero-elements.result + 1) c.row.result.now)) c.field.ensures.is) (c.symbols.ensures.are ∙ c.in_ok-zero.ensures.is ∙ ap zero_word c.length-n.ensures.is) refl c.nonzero-elements.ensures.is c.dimension-k.ensures.is c.row.ensures.is c.row.ensures.word).0

pub returns-clause-word : goal.returns-clause-word
returns-clause-word c = (multiple_is c.args.sets.now c.args.index (c.args.index % c.nonzero-elements.result + 1) c.dimension-k.result c.nonzero-elements.result c.symbols.result.now c.row.result.now c.put_sum.new.self (c.put_sum.ensures.is ∙ ap (λ f. word_sum f c.symbols.result.now (scale f (c.args.index % c.nonzero-elements.result + 1) c.row.result.now)) c.field.ensures.is) (c.symbols.ensures.are ∙ c.in_ok-zero.ensures.is ∙ ap zero_word c.length-n.ensures.is) refl c.nonzero-elements.ensures.is c.dimension-k.ensures.is c.row.ensures.is c.row.ensures.word).1
