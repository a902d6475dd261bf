-- What the query for a least word prints.
--   IsLeastLine f n rows text       the line of the first nonzero word of the rows, or of rows that have none
use Rattle.std.specs.Prelude.{◌≡◌, ℕ, ◌⊎◌, List}
use Rattle.lc_algebra.specs.declared.FieldName.{FieldName}
use Rattle.lc_algebra.specs.Word.{weight}
use Rattle.lc_algebra.specs.Span.{InSpan, IsLeast}
use Rattle.lc_language.specs.Print.{least_line, least_none_line}

abbrev pub IsLeastLine : FieldName → ℕ → List (List ℕ) → List ℕ → Type 0
IsLeastLine f n rows text =
    ((w : List ℕ) × IsLeast f n rows w × (text ≡ least_line (weight w) w))
    ⊎ (((w : List ℕ) → InSpan f n rows w → weight w ≡ 0) × (text ≡ least_none_line))
