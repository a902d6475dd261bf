use Rattle.std.proofs.Common.{arith}
use Rattle.lc_enumeration.specs.Search.{set_count}
use Rattle.lc_coset.proofs.LedWords.{led_independent}
use Rattle.lc_coset.proofs.led.sets_of.Goals as goal

pub build-requires-clause-independent : goal.build-requires-clause-independent
build-requires-clause-independent c = rw c.in_ok-matrix.ensures.is (led_independent c.args.sets.now.field (set_count c.args.sets.now) c.args.sets.now.columns c.args.word.now c.args.sets.now.rows (omega (arith, c.count-some.ensures.is, c.count-some.ensures.least)) c.requires.word c.dimension-rows.ensures.rows c.dimension-rows.ensures.independent)
