use Rattle.std.proofs.Common.{◌≡◌, ◌∷◌, ◌++◌, length, take, flat_map}
use Rattle.lc_json.proofs.writing.push_led.Given as goal

abbrev pub invariant-loop-n : goal.invariant-loop-n
invariant-loop-n g l =
    (l.text.items ≡ l.initial.text.items ++ flat_map (λ n. 44 ∷ g.I.Integer.text n) (take l.n-index l.numbers))
    × (take (length l.initial.text.items) l.text.items ≡ l.initial.text.items)
