-- What `part` prints of a script, and the line that is meant by it.
--   IsPrinted table bytes text       some arguments ask for a part of the search of the script, and this is its text
--   IsMeant bytes C l text           the text is this line with its newline: one in range, with the digest of the script and the facts of
--                                    the code, of a true part of the search of the code
use Rattle.std.specs.Prelude.{◌≡◌, ℕ, List}
use Rattle.sha2.specs.Sha256.{sha256}
use Rattle.lc_algebra.specs.Matrix.{Matrix}
use Rattle.lc_formats.specs.Text.{line}
use Rattle.lc_language.specs.declared.Call.{Call}
use Rattle.lc_parts.specs.Part.{IsTruePart, facts_of}
use Rattle.lc_part_lines.specs.Line.{PartLine, IsInRange, part_line}
use Rattle.lc_share.specs.Asked.{PartAsked, asked, part_options}
use Rattle.lc_share.specs.PartSession.{IsPartText}

abbrev pub IsPrinted : List Call → List ℕ → List ℕ → Type 0
IsPrinted table bytes text = (arguments : List (List ℕ)) × (a : PartAsked) × (part_options arguments ≡ asked a) × IsPartText table bytes a text

pub record IsMeant (bytes : List ℕ) (C : Matrix) (l : PartLine) (text : List ℕ) : Type 0 where
  pub text_is : text ≡ line (part_line l)
  pub script : l.script ≡ sha256 bytes
  pub facts : l.facts ≡ facts_of C
  pub part : IsTruePart C l.part
  pub range : IsInRange l
