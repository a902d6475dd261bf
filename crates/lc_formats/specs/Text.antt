-- Texts as lists of bytes: the pieces that every printed line is made of.
--   same_bytes u v              whether two texts are equal
--   line text                   the text and a newline
--   numbers_text u, lists_text rows      [1,0,3] and [[1,0],[0,1]]; [] for an empty list
--   spaced values               each number after a space
--   with_values values          " with" and then each number after a space; nothing if there are none
use Rattle.std.specs.Prelude.{ℕ, Bool, true, false, ◌==◌, ◌&&◌, List, [], ◌∷◌, ◌++◌, map, codes, decimal}
use Rattle.std.specs.List.{join_with_byte}

unfoldable pub same_bytes : List ℕ → List ℕ → Bool
same_bytes [] [] = true
same_bytes (a ∷ u) (b ∷ v) = (a == b) && same_bytes u v
same_bytes _ _ = false

unfoldable pub bracketed : List (List ℕ) → List ℕ
bracketed texts = codes "[" ++ join_with_byte 44 texts ++ codes "]"

unfoldable pub numbers_text : List ℕ → List ℕ
numbers_text u = bracketed (map decimal u)

unfoldable pub lists_text : List (List ℕ) → List ℕ
lists_text rows = bracketed (map numbers_text rows)

unfoldable pub line : List ℕ → List ℕ
line text = text ++ 10 ∷ []

-- each number with a space before it
unfoldable pub spaced : List ℕ → List ℕ
spaced [] = []
spaced (n ∷ values) = codes " " ++ decimal n ++ spaced values

unfoldable pub with_values : List ℕ → List ℕ
with_values [] = []
with_values (n ∷ values) = codes " with" ++ spaced (n ∷ values)
