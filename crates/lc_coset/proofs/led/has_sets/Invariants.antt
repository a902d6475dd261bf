use Rattle.std.proofs.Common.{◌≡◌, ℕ, ◌<◌}
use Rattle.lc_enumeration.specs.Search.{set_count, generator_at}
use Rattle.lc_coset.specs.Near.{near_left}
use Rattle.lc_coset.specs.Led.{led_rows}
use Rattle.lc_coset.proofs.led.has_sets.Given as goal

abbrev pub invariant-loop-j : goal.invariant-loop-j
invariant-loop-j l = (i : ℕ) → i < l.j → generator_at l.led i ≡ led_rows (set_count l.sets) (near_left l.sets l.word i) (generator_at l.sets i)
