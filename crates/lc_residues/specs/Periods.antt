-- The two Gaussian periods of a length (MacWilliams and Sloane, chapter 16).
--   other_period f t       the other one of the two: -1 - t, since their sum is -1
use Rattle.std.specs.Prelude.{ℕ}
use Rattle.lc_algebra.specs.declared.FieldName.{FieldName}
use Rattle.lc_algebra.specs.Field.{add, neg}

unfoldable pub other_period : FieldName → ℕ → ℕ
other_period f t = neg f (add f t 1)
