-- The exponents of the zeros of a BCH code (MacWilliams and Sloane, chapter 7).
--   IsZeroExponent q n exponents k      k stands in the cyclotomic set modulo n of one of the exponents: it is i q^j modulo n
use Rattle.std.specs.Prelude.{◌≡◌, ℕ, ◌*◌, ◌%◌, ◌^◌, List, Contains}

abbrev pub IsZeroExponent : ℕ → ℕ → List ℕ → ℕ → Type 0
IsZeroExponent q n exponents k = (i : ℕ) × Contains exponents i × ((j : ℕ) × (k ≡ (i * q ^ j) % n))
