-- Words over 2 elements as numbers of bits.
--   packed w      the number whose bits are the symbols of w, the first one the lowest
use Rattle.std.specs.Prelude.{ℕ, ◌+◌, ◌*◌, List, [], ◌∷◌}

unfoldable pub packed : List ℕ → ℕ
packed [] = 0
packed (a ∷ w) = packed w * 2 + a
