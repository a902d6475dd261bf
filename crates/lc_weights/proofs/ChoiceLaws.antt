-- The choice between counting the words of a code and those of its dual.
--   dual_is_small              the dual of a code of many words whose distribution isn't refused has few words
use Rattle.std.proofs.Common.{◌≡◌, ◌^◌, ◌<◌, ◌≤◌, length, None, ⊎_elim, arith}
use Rattle.lc_algebra.specs.Field.{size}
use Rattle.lc_algebra.specs.Matrix.{Matrix, AreRows, IsReduced}
use Rattle.lc_constructions.specs.Code.{IsCode}
use Rattle.lc_constructions.specs.Combined.{InDual}
use Rattle.lc_enumeration.specs.Distribution.{distribution_refusal}
use Rattle.lc_macwilliams.proofs.DualCounts.{one_is_small}

pub dual_is_small : (C D : Matrix) → AreRows C.field C.columns C.rows → IsReduced C.columns C.rows → IsCode C.field C.columns (InDual C) D → distribution_refusal (size C.field) C.columns (length C.rows) ≡ None → 2 ^ 24 < size C.field ^ length C.rows
    → (size D.field ^ length D.rows ≤ 2 ^ 24) × (size C.field ^ C.columns ≤ 2 ^ 63)
dual_is_small C D r h d e many = ⊎_elim (λ a. absurd (omega (arith, a, many))) (λ b. b) (one_is_small C D r h d e)
