use Rattle.std.proofs.Common.{◌≡◌, ◌∷◌, ◌++◌, take, flat_map}
use Rattle.lc_formats.specs.Text.{numbers_text}
use Rattle.lc_certificate.proofs.writing.push_led_rows.Given as goal

abbrev pub invariant-loop-row : goal.invariant-loop-row
invariant-loop-row l = l.text.items ≡ l.initial.text.items ++ flat_map (λ row. 44 ∷ numbers_text row) (take l.row-index l.rows)
