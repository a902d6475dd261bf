-- Words over 2 elements as numbers of 64 bits.
--   block w i             the packed symbols 64 i to 64 i + 63 of w
--   AreBlocks m bits w    the first m blocks of w
--   AreInBlocks C m bits  a matrix over 2 elements with at most 64 m columns, and the m blocks of each row
use Rattle.std.specs.Prelude.{◌≡◌, ℕ, ◌*◌, ◌<◌, ◌≤◌, List, [], length, take, drop, slice_index, slice_index_or}
use Rattle.lc_algebra.specs.declared.FieldName.TheVariants.{Gf2}
use Rattle.lc_algebra.specs.Matrix.{Matrix, AreRows}
use Rattle.lc_checker.specs.Walk.{row_of}
use Rattle.lc_vec.specs.Packed.{packed}

abbrev pub block : List ℕ → ℕ → ℕ
block w i = packed (take 64 (drop (64 * i) w))

pub record AreBlocks (m : ℕ) (bits w : List ℕ) : Type 0 where
  pub many : length bits ≡ m
  pub each : (i : ℕ) → i < m → slice_index bits i ≡ block w i

pub record AreInBlocks (C : Matrix) (m : ℕ) (bits : List (List ℕ)) : Type 0 where
  pub binary : C.field ≡ Gf2
  pub narrow : C.columns ≤ 64 * m
  pub words : AreRows C.field C.columns C.rows
  pub many : length bits ≡ length C.rows
  pub entry : (i : ℕ) → i < length C.rows → AreBlocks m (slice_index_or bits i []) (row_of C.rows i)
