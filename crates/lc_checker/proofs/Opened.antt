-- Definitions that a proof opens together, under one name.
--   number_of_reason, values_of_reason      the number of a reason and the values that it carries, case by case
use Rattle.std.specs.Prelude.{⊤}
use Rattle.lc_checker.specs.Verdict.{reason_of}
use Rattle.lc_formats.specs.Certificate.{reason_number, reason_values}

unfoldable pub number_of_reason : ⊤
unfolding reason_of reason_number
number_of_reason = tt

unfoldable pub values_of_reason : ⊤
unfolding reason_of reason_values
values_of_reason = tt
