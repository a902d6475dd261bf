-- The texts that arguments ask for in place of a session.
--   named_text help version argument   the text of `--help` or of `--version`, if the argument is one of them
--   text_asked help version arguments  the same, if it is the only argument
--   IsTold text old new before now r      the text was written, or the sink failed; without a text nothing was done
use Rattle.std.specs.Prelude.{◌≡◌, ℕ, if◌then◌else◌, List, [], ◌∷◌, codes, Option, Some, None}
use Rattle.lc_formats.specs.Text.{same_bytes}
use Rattle.lc_session.specs.Closing.{IsClosed}
use Rattle.lc_session.specs.declared.status.Status.{Status}

unfoldable pub named_text : List ℕ → List ℕ → List ℕ → Option (List ℕ)
named_text help version argument = (if same_bytes (codes "--help") argument then Some help else if same_bytes (codes "--version") argument then Some version else None)

unfoldable pub text_asked : List ℕ → List ℕ → List (List ℕ) → Option (List ℕ)
text_asked help version (argument ∷ []) = named_text help version argument
text_asked help version _ = None

abbrev pub IsTold : Option (List ℕ) → Option (List ℕ) → Option (List ℕ) → ℕ → ℕ → Option Status → Type 0
IsTold (Some text) old new before now (Some s) = IsClosed text 0 old new before now s
IsTold None old new before now None = (new ≡ old) × (now ≡ before)
IsTold _ _ _ _ _ _ = ⊥
