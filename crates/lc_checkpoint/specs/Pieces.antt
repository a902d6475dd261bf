-- Pieces of the text of a checkpoint, for private clauses.
--   settled_text s           a settled need as a JSON array
--   settled_list_text ss     the settled needs as an array of these
--   front_text p, back_text p      the body to the value at `place`, and from the key `script` on
use Rattle.std.specs.Prelude.{ℕ, List, [], ◌∷◌, ◌++◌, map, codes, decimal}
use Rattle.hex.specs.Hex.{encode_lower}
use Rattle.lc_enumeration.specs.Records.{Progress}
use Rattle.lc_formats.specs.Text.{bracketed, numbers_text}
use Rattle.lc_formats.specs.Checkpoint.{Checkpoint}

unfoldable pub settled_text : Progress → List ℕ
settled_text s = numbers_text (s.blocks ∷ s.weight ∷ s.place ∷ [])

unfoldable pub settled_list_text : List Progress → List ℕ
settled_list_text ss = bracketed (map settled_text ss)

unfoldable pub front_text : Checkpoint → List ℕ
front_text p =
    (codes "{\"blocks\":" ++ decimal p.blocks) ++ ((codes ",\"budget\":" ++ decimal p.budget) ++ (codes ",\"done\":" ++ (settled_list_text p.settled ++ (codes ",\"place\":" ++ decimal p.place))))

unfoldable pub back_text : Checkpoint → List ℕ
back_text p =
    codes ",\"script\":\"" ++ (encode_lower p.script ++ ((codes "\",\"turn\":" ++ decimal p.turn) ++ ((codes ",\"version\":" ++ decimal p.version) ++ ((codes ",\"weight\":" ++ decimal p.weight) ++ codes "}"))))
