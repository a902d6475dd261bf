-- The command line of some words.
--   IsLineOf words line      the line has these words, or there was no memory for them
use Rattle.std.specs.Prelude.{◌≡◌, ℕ, List, ⊤}
use Rattle.lc_arguments.specs.Asked.{words_of}
use Rattle.codes.specs.declared.arguments.CommandLine.{CommandLine}
use Rattle.codes.specs.declared.arguments.CommandLine.TheVariants.{Words, NotUtf8, NoMemory}

abbrev pub IsLineOf : List (List ℕ) → CommandLine → Type 0
IsLineOf words (Words v) = words_of v.items ≡ words
IsLineOf words NotUtf8 = ⊥
IsLineOf words NoMemory = ⊤
