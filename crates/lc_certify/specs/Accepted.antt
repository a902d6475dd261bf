-- When the certificate of a search is accepted.
--   IsSearchable C           a code over a symbol field, of length 1 to 255, with independent rows, at least one
--   IsExactAt C w d l        after l blocks the search is done, and w is a word of the code that has the weight of its best word, d
--   SaysNone text            the text is one line, which says that there is no certificate, and why
--   IsAcceptedFor C text     `check` says of the text that it is accepted, with the minimum distance of the code
use Rattle.std.specs.Prelude.{◌≡◌, ℕ, ◌≤◌, true, List, ◌++◌, length, codes, decimal}
use Rattle.lc_algebra.specs.Field.{is_symbol}
use Rattle.lc_algebra.specs.Word.{weight}
use Rattle.lc_algebra.specs.Span.{InSpan, AreIndependent, IsDistance}
use Rattle.lc_algebra.specs.Matrix.{Matrix, AreRows}
use Rattle.lc_algebra.specs.Divisor.{divisor_of}
use Rattle.lc_constructions.specs.Code.{longest}
use Rattle.lc_enumeration.specs.Search.{set_count, best, is_done}
use Rattle.lc_formats.specs.Text.{line}
use Rattle.lc_formats.specs.Document.{IsCheckText}

pub record IsSearchable (C : Matrix) : Type 0 where
  pub symbol : is_symbol C.field ≡ true
  pub some_columns : 1 ≤ C.columns
  pub few_columns : C.columns ≤ longest
  pub some_rows : 1 ≤ length C.rows
  pub words : AreRows C.field C.columns C.rows
  pub independent : AreIndependent C.field C.columns C.rows

pub record IsExactAt (C : Matrix) (w : List ℕ) (d l : ℕ) : Type 0 where
  pub done : is_done (divisor_of C) C l ≡ true
  pub best : d ≡ (best C (set_count C) l).weight
  pub inside : InSpan C.field C.columns C.rows w
  pub weighs : weight w ≡ d

pub record SaysNone (text : List ℕ) : Type 0 where
  pub why : List ℕ
  pub line_is : text ≡ line (codes "certificate none" ++ why)

pub record IsAcceptedFor (C : Matrix) (text : List ℕ) : Type 0 where
  pub distance : ℕ
  pub least : IsDistance C.field C.columns C.rows distance
  pub accepted : IsCheckText text (line (codes "accepted distance " ++ decimal distance))
