use Rattle.lc_enumeration.specs.Search.{set_count}
use Rattle.lc_coset.proofs.LedWords.{led_words}
use Rattle.lc_coset.proofs.led.matrix_of.Goals as goal

pub from_rows-requires : goal.from_rows-requires
from_rows-requires c = record { words = rw (c.deref.ensures.value, c.in_ok-rows.ensures.are, c.field.ensures.is, c.count.ensures.is, c.length.ensures.is) (led_words c.args.sets.now.field (set_count c.args.sets.now) c.args.sets.now.columns c.args.word.now c.args.sets.now.rows c.requires.word c.dimension-k.ensures.rows) }
