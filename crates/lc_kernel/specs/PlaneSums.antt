-- The sums of a stack as planes of bits or as symbols.
--   symbols_in ps               the symbols of some words as planes
--   AreOver C ps                they are over the field of the code
--   ArePlaneMultiples C ps      they are the multiples of the rows of all sets
--   AreEven C ps ms             the field has characteristic 2, the words are over it, and the second ones are the multiples
--   words_of s                  the words of a stack's sums, the zero word first
--   AreKept C s                 where they are planes, so it is of them
--   AreZeros C ws               k + 1 zero words of the code's length
use Rattle.std.specs.Prelude.{◌≡◌, ℕ, ◌+◌, ◌<◌, IsTrue, List, [], length, map, slice_index_or, ⊤}
use Rattle.std.specs.List.{All}
use Rattle.std.specs.Arc.{arc_value}
use Rattle.lc_algebra.specs.Field.{shape_of, is_symbol}
use Rattle.lc_algebra.specs.Word.{zero_word}
use Rattle.lc_algebra.specs.Matrix.{Matrix}
use Rattle.lc_planes.specs.Planes.{PlanesState}
use Rattle.lc_kernel.specs.Sums.{AreMultiples}
use Rattle.lc_kernel.specs.declared.sums.Sums.{Sums}
use Rattle.lc_kernel.specs.declared.sums.Sums.TheVariants.{Symbols, Planes}

abbrev pub symbols_in : List PlanesState → List (List ℕ)
symbols_in ps = map (λ (p : PlanesState). p.symbols) ps

abbrev pub AreOver : Matrix → List PlanesState → Type 0
AreOver C ps = All (λ (p : PlanesState). p.field ≡ C.field) ps

pub record ArePlaneMultiples (C : Matrix) (ps : List PlanesState) : Type 0 where
  pub over : AreOver C ps
  pub are : AreMultiples C (symbols_in ps)

pub record AreEven (C : Matrix) (ps ms : List PlanesState) : Type 0 where
  pub symbol : IsTrue (is_symbol C.field)
  pub even : (shape_of C.field).characteristic ≡ 2
  pub over : AreOver C ps
  pub multiples : ArePlaneMultiples C ms

abbrev pub words_of : Sums → List (List ℕ)
words_of (Symbols ws) = ws.items
words_of (Planes p) = symbols_in p.words.items

abbrev pub AreKept : Matrix → Sums → Type 0
AreKept C (Symbols ws) = ⊤
AreKept C (Planes p) = AreEven C p.words.items (arc_value p.multiples).items

pub record AreZeros (C : Matrix) (ws : List (List ℕ)) : Type 0 where
  pub many : length ws ≡ length C.rows + 1
  pub zero : (i : ℕ) → i < length C.rows + 1 → slice_index_or ws i [] ≡ zero_word C.columns
