use Rattle.std.proofs.Common.{◌≡◌, take}
use Rattle.lc_enumeration.specs.Search.{set_count}
use Rattle.lc_coset.specs.Led.{led_rows}
use Rattle.lc_coset.proofs.led.rows_of.Given as goal

abbrev pub invariant-loop-i : goal.invariant-loop-i
invariant-loop-i l = l.rows.items ≡ led_rows (set_count l.sets) l.word (take l.i l.sets.rows)
