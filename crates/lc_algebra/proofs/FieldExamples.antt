-- Worked examples of field arithmetic and of polynomials, by evaluation of the definitions.
--   products               a product of each field that is no prime field
--   embedded, roots        the field of 4 elements in that of 16; by which element a small field is embedded
--   sizes, symbol_fields   the sizes of the eighteen fields; the ten over which words are written
--   sums_of_elements       sums, negatives and differences
--   powers                 powers, the zeroth one of 0 among them
--   plain                  plain products, before any reduction
--   polynomials            a sum, a multiple, a product, and x^n - 1
--   quotient_and_remainder a division, told by its product and sum
--   minimal_values         a minimal polynomial: its zero, and no zero of lower degree
use Rattle.std.proofs.Common.{◌≡◌, refl, true, false}
use Rattle.std.specs.Prelude.{[], ◌∷◌, map}
use Rattle.lc_algebra.specs.declared.FieldName.TheVariants.{Gf2, Gf3, Gf4, Gf5, Gf7, Gf8, Gf9, Gf11, Gf13, Gf16, Gf25, Gf27, Gf32, Gf64, Gf81, Gf128, Gf243, Gf256}
use Rattle.lc_algebra.specs.Residue.{digits, number, plus, minus, times, long_plus, long_times, top, up, times_x, product}
use Rattle.lc_algebra.specs.Field.{shape, shape_of, size, is_symbol, coefficients, add, neg, mul, subtract, pow}
use Rattle.lc_algebra.specs.FieldLaws.{plain_product}
use Rattle.lc_algebra.specs.Polynomial.{value_at, poly_sum, poly_scale, poly_product, x_power_minus_one}
use Rattle.lc_algebra.specs.Embedding.{first_from, first_that, root, embed}

pub products : mul Gf4 2 2 ∷ mul Gf8 4 2 ∷ mul Gf8 2 5 ∷ mul Gf9 3 3 ∷ mul Gf16 8 2 ∷ mul Gf25 5 5 ∷ mul Gf27 9 3 ∷ mul Gf32 16 2 ∷ mul Gf64 32 2 ∷ mul Gf81 27 3 ∷ mul Gf128 64 2 ∷ mul Gf243 81 3 ∷ mul Gf256 128 2 ∷ [] ≡ 3 ∷ 3 ∷ 1 ∷ 4 ∷ 3 ∷ 8 ∷ 5 ∷ 5 ∷ 3 ∷ 7 ∷ 3 ∷ 5 ∷ 29 ∷ []
unfolding digits number plus minus times top up times_x product shape shape_of size coefficients mul
products = refl

pub embedded : map (embed Gf4 Gf16) (0 ∷ 1 ∷ 2 ∷ 3 ∷ []) ≡ 0 ∷ 1 ∷ 6 ∷ 7 ∷ []
unfolding digits number plus minus times top up times_x product shape shape_of size coefficients add mul value_at first_from first_that root embed
embedded = refl

pub sizes : map size (Gf2 ∷ Gf3 ∷ Gf4 ∷ Gf5 ∷ Gf7 ∷ Gf8 ∷ Gf9 ∷ Gf11 ∷ Gf13 ∷ Gf16 ∷ Gf25 ∷ Gf27 ∷ Gf32 ∷ Gf64 ∷ Gf81 ∷ Gf128 ∷ Gf243 ∷ Gf256 ∷ []) ≡ 2 ∷ 3 ∷ 4 ∷ 5 ∷ 7 ∷ 8 ∷ 9 ∷ 11 ∷ 13 ∷ 16 ∷ 25 ∷ 27 ∷ 32 ∷ 64 ∷ 81 ∷ 128 ∷ 243 ∷ 256 ∷ []
unfolding shape shape_of size
sizes = refl

pub symbol_fields : map is_symbol (Gf2 ∷ Gf3 ∷ Gf4 ∷ Gf5 ∷ Gf7 ∷ Gf8 ∷ Gf9 ∷ Gf11 ∷ Gf13 ∷ Gf16 ∷ Gf25 ∷ Gf256 ∷ []) ≡ true ∷ true ∷ true ∷ true ∷ true ∷ true ∷ true ∷ true ∷ true ∷ true ∷ false ∷ false ∷ []
unfolding shape shape_of size is_symbol
symbol_fields = refl

pub sums_of_elements : add Gf9 4 8 ∷ neg Gf9 5 ∷ neg Gf25 7 ∷ subtract Gf9 1 5 ∷ subtract Gf16 3 9 ∷ [] ≡ 0 ∷ 7 ∷ 23 ∷ 8 ∷ 10 ∷ []
unfolding digits number plus minus shape shape_of coefficients add neg subtract
sums_of_elements = refl

pub powers : pow Gf5 0 0 ∷ pow Gf16 2 4 ∷ pow Gf9 3 4 ∷ pow Gf2 1 7 ∷ pow Gf25 5 12 ∷ [] ≡ 1 ∷ 3 ∷ 2 ∷ 1 ∷ 4 ∷ []
unfolding digits number plus minus times top up times_x product shape shape_of coefficients mul pow
powers = refl

pub plain : plain_product Gf9 5 7 ∷ plain_product Gf5 3 4 ∷ [] ≡ (2 ∷ 2 ∷ 2 ∷ []) ∷ (2 ∷ []) ∷ []
unfolding digits times long_plus long_times shape shape_of coefficients plain_product
plain = refl

pub roots : root Gf2 Gf8 ∷ root Gf4 Gf4 ∷ root Gf4 Gf64 ∷ root Gf8 Gf64 ∷ root Gf9 Gf81 ∷ root Gf25 Gf25 ∷ [] ≡ 0 ∷ 2 ∷ 58 ∷ 14 ∷ 44 ∷ 5 ∷ []
unfolding digits number plus minus times top up times_x product shape shape_of size coefficients add mul value_at first_from first_that root
roots = refl

pub polynomials : poly_sum Gf4 (1 ∷ 2 ∷ []) (3 ∷ 2 ∷ 1 ∷ []) ∷ poly_scale Gf4 3 (1 ∷ 2 ∷ 3 ∷ []) ∷ poly_product Gf4 (2 ∷ 1 ∷ []) (3 ∷ 1 ∷ 1 ∷ []) ∷ x_power_minus_one Gf3 1 ∷ x_power_minus_one Gf3 4 ∷ [] ≡ (2 ∷ 0 ∷ 1 ∷ []) ∷ (3 ∷ 1 ∷ 2 ∷ []) ∷ (1 ∷ 1 ∷ 3 ∷ 1 ∷ []) ∷ (2 ∷ 1 ∷ []) ∷ (2 ∷ 0 ∷ 0 ∷ 0 ∷ 1 ∷ []) ∷ []
unfolding digits number plus minus times top up times_x product shape shape_of coefficients add neg mul poly_sum poly_scale poly_product x_power_minus_one
polynomials = refl

-- 1 + 4 x + 2 x^3 + 3 x^4 is (2 + 2 x + x^2) (2 + x + 3 x^2), and 2 + 3 x
pub quotient_and_remainder : poly_sum Gf5 (poly_product Gf5 (2 ∷ 2 ∷ 1 ∷ []) (2 ∷ 1 ∷ 3 ∷ [])) (2 ∷ 3 ∷ []) ≡ 1 ∷ 4 ∷ 0 ∷ 2 ∷ 3 ∷ []
unfolding digits number plus minus times top up times_x product shape shape_of coefficients add mul poly_sum poly_scale poly_product
quotient_and_remainder = refl

-- the minimal polynomial over 4 elements of 2 in the field of 16 elements is 2 + x + x^2: 0 there, and no x + c is
pub minimal_values : map (λ u. value_at Gf16 (map (embed Gf4 Gf16) u) 2) ((2 ∷ 1 ∷ 1 ∷ []) ∷ (0 ∷ 1 ∷ []) ∷ (1 ∷ 1 ∷ []) ∷ (2 ∷ 1 ∷ []) ∷ (3 ∷ 1 ∷ []) ∷ []) ≡ 0 ∷ 2 ∷ 3 ∷ 4 ∷ 5 ∷ []
unfolding digits number plus minus times top up times_x product shape shape_of size coefficients add mul value_at first_from first_that root embed
minimal_values = refl
