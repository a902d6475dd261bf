-- Matrices over a field, and the reduced generator matrix of a code (MacWilliams and Sloane, chapter 1; any textbook's
-- reduced row echelon form).
--   Matrix                          a field, a number of columns and a list of rows: how contracts see a matrix and a code
--   entry rows i c                  the symbol of row i at column c, both from 0
--   column rows c                   the word of the symbols at column c, row by row
--   AreRows f n rows                each row is a word of n symbols of the field
--   HasPivots n ps rows             row i begins with a 1 at place p_i, the places rise, and each is 0 in the other rows
--   IsReduced n rows                the rows have such places: no zero row, each pivot a 1 and alone in its column
--   IsEchelon f n rows e            e is the reduced matrix with the same words as the rows
--   IsReducedGenerator f n P e      e is the reduced matrix whose words are those of length n that meet P
--   IsOrthogonal f rows w           w has dot 0 with each row
--   IsIdentityOn set rows           row i is 1 at place i of the set and 0 at its other places
--   IsSystematic f n rows set e     e has the same words as the rows and is the identity on the set
--   AreIndependentColumns f rows set      no column of the set is a sum of multiples of the others
use Rattle.std.specs.Prelude.{◌≡◌, ◌≢◌, ℕ, ◌<◌, ◌↔◌, if◌then◌else◌, ◌==◌, List, [], length, map, slice_index, slice_index_or, EachIndex, All}
use Rattle.lc_algebra.specs.declared.FieldName.{FieldName}
use Rattle.lc_algebra.specs.Word.{IsWord, word_dot}
use Rattle.lc_algebra.specs.Span.{InSpan, SameSpan, AreIndependent}

pub record Matrix : Type 0 where
  pub field : FieldName
  pub columns : ℕ
  pub rows : List (List ℕ)

abbrev pub entry : List (List ℕ) → ℕ → ℕ → ℕ
entry rows i c = slice_index (slice_index_or rows i []) c

abbrev pub column : List (List ℕ) → ℕ → List ℕ
column rows c = map (λ row. slice_index row c) rows

abbrev pub AreRows : FieldName → ℕ → List (List ℕ) → Type 0
AreRows f n rows = All (IsWord f n) rows

pub record HasPivots (n : ℕ) (ps : List ℕ) (rows : List (List ℕ)) : Type 0 where
  pub count : length ps ≡ length rows
  pub inside : EachIndex ps (λ i. slice_index ps i < n)
  pub rises : (i j : ℕ) → i < j → j < length ps → slice_index ps i < slice_index ps j
  pub before : (i c : ℕ) → i < length rows → c < slice_index ps i → entry rows i c ≡ 0
  pub leads : (i : ℕ) → i < length rows → entry rows i (slice_index ps i) ≡ 1
  pub clears : (i j : ℕ) → i < length rows → j < length rows → i ≢ j → entry rows j (slice_index ps i) ≡ 0

pub record IsReduced (n : ℕ) (rows : List (List ℕ)) : Type 0 where
  pub pivots : (ps : List ℕ) × HasPivots n ps rows

pub record IsEchelon (f : FieldName) (n : ℕ) (rows e : List (List ℕ)) : Type 0 where
  pub same : SameSpan f n rows e
  pub reduced : IsReduced n e
  pub words : AreRows f n e

pub record IsReducedGenerator (f : FieldName) (n : ℕ) (P : List ℕ → Type 0) (e : List (List ℕ)) : Type 0 where
  pub members : (w : List ℕ) → InSpan f n e w ↔ (IsWord f n w × P w)
  pub reduced : IsReduced n e
  pub words : AreRows f n e

abbrev pub IsOrthogonal : FieldName → List (List ℕ) → List ℕ → Type 0
IsOrthogonal f rows w = All (λ row. word_dot f row w ≡ 0) rows

abbrev pub IsIdentityOn : List ℕ → List (List ℕ) → Type 0
IsIdentityOn set rows = (i j : ℕ) → i < length rows → j < length set → entry rows i (slice_index set j) ≡ (if i == j then 1 else 0)

pub record IsSystematic (f : FieldName) (n : ℕ) (rows : List (List ℕ)) (set : List ℕ) (e : List (List ℕ)) : Type 0 where
  pub same : SameSpan f n rows e
  pub words : AreRows f n e
  pub count : length e ≡ length set
  pub identity : IsIdentityOn set e

abbrev pub AreIndependentColumns : FieldName → List (List ℕ) → List ℕ → Type 0
AreIndependentColumns f rows set = AreIndependent f (length rows) (map (column rows) set)
