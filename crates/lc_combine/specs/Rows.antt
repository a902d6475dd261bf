-- Rows that generate the combined codes, from the rows of the parts (MacWilliams and Sloane, chapters 1, 2 and 18). n and m are
-- the lengths of the parts.
--   right_rows m vs        each word, after m zeros
--   twice_rows us          each word, followed by itself
--   direct_sum_rows C D    rows of the direct sum
--   uuv_rows C D           rows of the words u followed by u + v
--   extended_rows f us     each word, with minus the sum of its symbols after it
--   punctured_rows coordinates us      each word, without these coordinates
--   product_rows C D       the products of each row of C with each row of D
use Rattle.std.specs.Prelude.{ℕ, List, [], ◌∷◌, ◌++◌, map, flat_map}
use Rattle.lc_algebra.specs.declared.FieldName.{FieldName}
use Rattle.lc_algebra.specs.Field.{neg}
use Rattle.lc_algebra.specs.Word.{zero_word}
use Rattle.lc_algebra.specs.Matrix.{Matrix}
use Rattle.lc_constructions.specs.Combined.{symbol_sum, without, tensor}
use Rattle.lc_code.specs.Rows.{left_rows}

abbrev pub right_rows : ℕ → List (List ℕ) → List (List ℕ)
right_rows m vs = map (λ v. zero_word m ++ v) vs

abbrev pub twice_rows : List (List ℕ) → List (List ℕ)
twice_rows us = map (λ u. u ++ u) us

abbrev pub direct_sum_rows : Matrix → Matrix → List (List ℕ)
direct_sum_rows C D = left_rows D.columns C.rows ++ right_rows C.columns D.rows

abbrev pub uuv_rows : Matrix → Matrix → List (List ℕ)
uuv_rows C D = twice_rows C.rows ++ right_rows C.columns D.rows

abbrev pub extended_rows : FieldName → List (List ℕ) → List (List ℕ)
extended_rows f us = map (λ u. u ++ neg f (symbol_sum f u) ∷ []) us

abbrev pub punctured_rows : List ℕ → List (List ℕ) → List (List ℕ)
punctured_rows coordinates us = map (without coordinates) us

abbrev pub product_rows : Matrix → Matrix → List (List ℕ)
product_rows C D = flat_map (λ u. map (tensor C.field u) D.rows) C.rows
