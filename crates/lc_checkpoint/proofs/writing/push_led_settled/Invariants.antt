use Rattle.std.proofs.Common.{◌≡◌, ◌∷◌, ◌++◌, take, flat_map}
use Rattle.lc_checkpoint.specs.Seen.{settled_of}
use Rattle.lc_checkpoint.specs.Pieces.{settled_text}
use Rattle.lc_checkpoint.proofs.writing.push_led_settled.Given as goal

abbrev pub invariant-loop-one : goal.invariant-loop-one
invariant-loop-one l = l.text.items ≡ l.initial.text.items ++ flat_map (λ s. 44 ∷ settled_text (settled_of s)) (take l.one-index l.settled)
