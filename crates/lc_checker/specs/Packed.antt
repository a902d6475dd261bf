-- The rows of a matrix over 2 elements as numbers of bits, and their sums.
--   sum_over f rows a s   the sum of a and the rows at the places of s
--   front_bits C front    the packed sum of the rows at the places of front
--   ArePacked C bits      a matrix over 2 elements with at most 64 columns, and its packed rows
use Rattle.std.specs.Prelude.{◌≡◌, ℕ, ◌<◌, List, [], ◌∷◌, length, slice_index}
use Rattle.lc_algebra.specs.declared.FieldName.{FieldName}
use Rattle.lc_algebra.specs.declared.FieldName.TheVariants.{Gf2}
use Rattle.lc_algebra.specs.Word.{zero_word, word_sum, scale}
use Rattle.lc_algebra.specs.Matrix.{Matrix, AreRows}
use Rattle.lc_vec.specs.Packed.{packed}
use Rattle.lc_checker.specs.Walk.{row_of}

unfoldable pub sum_over : FieldName → List (List ℕ) → List ℕ → List ℕ → List ℕ
sum_over f rows a [] = a
sum_over f rows a (p ∷ s) = sum_over f rows (word_sum f a (scale f 1 (row_of rows p))) s

abbrev pub front_bits : Matrix → List ℕ → ℕ
front_bits C front = packed (sum_over C.field C.rows (zero_word C.columns) front)

pub record ArePacked (C : Matrix) (bits : List ℕ) : Type 0 where
  pub binary : C.field ≡ Gf2
  pub words : AreRows C.field C.columns C.rows
  pub many : length bits ≡ length C.rows
  pub entry : (i : ℕ) → i < length C.rows → slice_index bits i ≡ packed (row_of C.rows i)
