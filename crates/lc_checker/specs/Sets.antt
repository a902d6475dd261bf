-- A certificate's rows and code as the checker holds them.
--   IsMatrixOf c M           M is the matrix of the rows of the certificate c
--   IsCodeOf c C             C is their reduced matrix
--   word_reasons c later     the first reason that has to do with the cost and the word, or else what comes later
--   IsSetOf C claim          the basis of the claim is an information set of the code
use Rattle.std.specs.Prelude.{◌≡◌, not, ◌==◌, length}
use Rattle.lc_algebra.specs.Word.{weight}
use Rattle.lc_algebra.specs.Matrix.{Matrix, AreRows, IsEchelon, AreIndependentColumns}
use Rattle.lc_enumeration.specs.InformationSet.{in_span}
use Rattle.lc_formats.specs.Certificate.{Certificate, SetClaim, Verdict, word_not_in_code, word_weight, code_length, cost, or_else, when, cost_reason}

pub record IsMatrixOf (c : Certificate) (M : Matrix) : Type 0 where
  pub field : M.field ≡ c.field
  pub columns : M.columns ≡ code_length c
  pub rows : M.rows ≡ c.rows

pub record IsCodeOf (c : Certificate) (C : Matrix) : Type 0 where
  pub field : C.field ≡ c.field
  pub columns : C.columns ≡ code_length c
  pub rows : AreRows c.field (code_length c) c.rows
  pub echelon : IsEchelon c.field (code_length c) c.rows C.rows

unfoldable pub word_reasons : Certificate → Verdict → Verdict
word_reasons c later =
    or_else (cost_reason (cost c))
    (or_else (when (not (in_span c.field (code_length c) c.rows c.word)) word_not_in_code)
    (or_else (when (not (weight c.word == c.distance)) (word_weight (weight c.word))) later))

pub record IsSetOf (C : Matrix) (claim : SetClaim) : Type 0 where
  pub many : length claim.basis ≡ length C.rows
  pub free : AreIndependentColumns C.field C.rows claim.basis
