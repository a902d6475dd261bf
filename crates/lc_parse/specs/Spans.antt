-- The spans of tokens.
--   AreApart offset ts     the tokens stand one behind another from this offset on, none of them empty
use Rattle.std.specs.Prelude.{ℕ, ◌<◌, ◌≤◌, List, [], ◌∷◌}
use Rattle.lc_grammar.specs.declared.Token.{Token}

abbrev pub AreApart : ℕ → List Token → Type 0
AreApart offset [] = Unit {0}
AreApart offset (t ∷ ts) = (offset ≤ t.start) × (t.start < t.end) × AreApart t.end ts
