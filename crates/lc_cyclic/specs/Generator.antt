-- The generator polynomial of the words with some zeros (MacWilliams and Sloane, chapter 7).
--   HasPowers small large x b m u       the polynomial u is 0 at the powers b to b + m - 1 of x
--   IsGenerator small large x b m g     g has these zeros, and divides each polynomial that has them
use Rattle.std.specs.Prelude.{◌≡◌, ℕ, ◌+◌, ◌<◌, List}
use Rattle.lc_algebra.specs.declared.FieldName.{FieldName}
use Rattle.lc_algebra.specs.Field.{pow}
use Rattle.lc_algebra.specs.Polynomial.{IsPolynomial, Divides}
use Rattle.lc_constructions.specs.Cyclic.{value_in}

abbrev pub HasPowers : FieldName → FieldName → ℕ → ℕ → ℕ → List ℕ → Type 0
HasPowers small large x b m u = (j : ℕ) → j < m → value_in small large u (pow large x (b + j)) ≡ 0

pub record IsGenerator (small large : FieldName) (x b m : ℕ) (g : List ℕ) : Type 0 where
  pub polynomial : IsPolynomial small g
  pub zeros : HasPowers small large x b m g
  pub divides : (v : List ℕ) → IsPolynomial small v → HasPowers small large x b m v → Divides small g v
