use Rattle.lc_algebra.specs.Field.{size}
use Rattle.std.proofs.Common.{arith}
use Rattle.lc_eval.proofs.QueryLaws.{words_many}
use Rattle.lc_eval.proofs.queries.has_too_many_words.Goals as goal

pub returns-then-words-gt-MOST_WORDS : goal.returns-then-words-gt-MOST_WORDS
returns-then-words-gt-MOST_WORDS c = words_many (size c.args.field.now) c.from-q.result c.loop-i._i c.args.k c.loop-i.words (cc) (omega arith) c.loop-i-test.true c.loop-i.invariant.power c.if-words-gt-MOST_WORDS.true
