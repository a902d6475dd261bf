-- The zeros by which a small field is embedded in a larger one, as the code tells them.
--   root_by_size small large size p     by the degrees of both fields, the size of the small one, and the characteristic
use Rattle.std.specs.Prelude.{ℕ, if◌then◌else◌, ◌==◌}

abbrev pub root_by_size : ℕ → ℕ → ℕ → ℕ → ℕ
root_by_size small large size p =
    if small == 1 then 0 else (if small == large then p else (if size == 4 then (if large == 4 then 6 else (if large == 6 then 58 else 214)) else (if size == 8 then 14 else (if size == 16 then 78 else 44))))
