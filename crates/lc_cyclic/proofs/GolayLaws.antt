-- The two Golay codes.
--   binary_size, ternary_size, ternary_symbol      their fields have 2 and 3 elements, and are symbol fields
--   binary_polynomial, ternary_polynomial, binary_divisor, ternary_divisor      the generator polynomials divide x^n - 1
--   binary_dimension, ternary_dimension
use Rattle.std.proofs.Common.{◌≡◌, [], ◌∷◌, length, slice_index, refl, sym, ap, subst, ◌∙◌, arith}
use Rattle.std.specs.Prelude.{IsTrue}
use Rattle.lc_algebra.specs.declared.FieldName.{FieldName}
use Rattle.lc_algebra.specs.declared.FieldName.TheVariants.{Gf2, Gf3}
use Rattle.lc_algebra.specs.Field.{shape, shape_of, size, is_symbol}
use Rattle.lc_algebra.specs.Polynomial.{x_power_minus_one, IsPolynomial, Divides}
use Rattle.lc_algebra.specs.Matrix.{Matrix}
use Rattle.lc_algebra.proofs.EmbeddingTests.{two_elements, binary_symbols}
use Rattle.lc_constructions.specs.Code.{IsCode}
use Rattle.lc_constructions.specs.Cyclic.{all_fields, IsMultipleOf, binary_golay_generator, ternary_golay_generator}
use Rattle.lc_constructions.specs.Refusals.{are_elements, is_size_of_symbol_field}
use Rattle.lc_constructions.proofs.RefusalLaws.{elements_fit}
use Rattle.lc_constructions.proofs.MembershipExamples.{binary_golay_divides, ternary_golay_divides}
use Rattle.lc_matrix.proofs.DivisibleLaws.{ternary_name}
use Rattle.lc_cyclic.proofs.CyclicLaws.{generator_dimension}

pub binary_size : IsTrue (is_size_of_symbol_field 2)
unfolding shape shape_of size is_symbol all_fields is_size_of_symbol_field
binary_size = refl

pub ternary_size : IsTrue (is_size_of_symbol_field 3)
unfolding shape shape_of size is_symbol all_fields is_size_of_symbol_field
ternary_size = refl

three_symbols : IsTrue (is_symbol Gf3)
unfolding shape shape_of size is_symbol
three_symbols = refl

pub ternary_symbol : (f : FieldName) → f ≡ Gf3 → IsTrue (is_symbol f)
ternary_symbol f e = subst (λ g. IsTrue (is_symbol g)) (sym e) three_symbols

binary_generator : IsPolynomial Gf2 binary_golay_generator
unfolding shape shape_of size are_elements
binary_generator = record { fits = elements_fit Gf2 binary_golay_generator refl; leads = λ l. omega arith }

ternary_generator : IsPolynomial Gf3 ternary_golay_generator
unfolding shape shape_of size are_elements
ternary_generator = record { fits = elements_fit Gf3 ternary_golay_generator refl; leads = λ l. omega arith }

binary_cofactor : IsPolynomial Gf2 (1 ∷ 0 ∷ 1 ∷ 0 ∷ 0 ∷ 1 ∷ 0 ∷ 0 ∷ 1 ∷ 1 ∷ 1 ∷ 1 ∷ 1 ∷ [])
unfolding shape shape_of size are_elements
binary_cofactor = record { fits = elements_fit Gf2 (1 ∷ 0 ∷ 1 ∷ 0 ∷ 0 ∷ 1 ∷ 0 ∷ 0 ∷ 1 ∷ 1 ∷ 1 ∷ 1 ∷ 1 ∷ []) refl; leads = λ l. omega arith }

ternary_cofactor : IsPolynomial Gf3 (1 ∷ 0 ∷ 1 ∷ 2 ∷ 2 ∷ 2 ∷ 1 ∷ [])
unfolding shape shape_of size are_elements
ternary_cofactor = record { fits = elements_fit Gf3 (1 ∷ 0 ∷ 1 ∷ 2 ∷ 2 ∷ 2 ∷ 1 ∷ []) refl; leads = λ l. omega arith }

binary_divides : Divides Gf2 binary_golay_generator (x_power_minus_one Gf2 23)
binary_divides = (1 ∷ 0 ∷ 1 ∷ 0 ∷ 0 ∷ 1 ∷ 0 ∷ 0 ∷ 1 ∷ 1 ∷ 1 ∷ 1 ∷ 1 ∷ [], binary_cofactor, λ i. ap (λ u. slice_index u i) (sym binary_golay_divides))

ternary_divides : Divides Gf3 ternary_golay_generator (x_power_minus_one Gf3 11)
ternary_divides = (1 ∷ 0 ∷ 1 ∷ 2 ∷ 2 ∷ 2 ∷ 1 ∷ [], ternary_cofactor, λ i. ap (λ u. slice_index u i) (sym ternary_golay_divides))

pub binary_polynomial : (f : FieldName) → f ≡ Gf2 → IsPolynomial f binary_golay_generator
binary_polynomial f e = subst (λ g. IsPolynomial g binary_golay_generator) (sym e) binary_generator

pub ternary_polynomial : (f : FieldName) → f ≡ Gf3 → IsPolynomial f ternary_golay_generator
ternary_polynomial f e = subst (λ g. IsPolynomial g ternary_golay_generator) (sym e) ternary_generator

pub binary_divisor : (f : FieldName) → f ≡ Gf2 → Divides f binary_golay_generator (x_power_minus_one f 23)
binary_divisor f e = subst (λ g. Divides g binary_golay_generator (x_power_minus_one g 23)) (sym e) binary_divides

pub ternary_divisor : (f : FieldName) → f ≡ Gf3 → Divides f ternary_golay_generator (x_power_minus_one f 11)
ternary_divisor f e = subst (λ g. Divides g ternary_golay_generator (x_power_minus_one g 11)) (sym e) ternary_divides

pub binary_dimension : (C : Matrix) → IsCode Gf2 23 (IsMultipleOf Gf2 23 binary_golay_generator) C → length C.rows ≡ 12
binary_dimension C c = generator_dimension Gf2 23 binary_golay_generator C (omega arith) binary_generator binary_divides c

pub ternary_dimension : (C : Matrix) → IsCode Gf3 11 (IsMultipleOf Gf3 11 ternary_golay_generator) C → length C.rows ≡ 6
ternary_dimension C c = generator_dimension Gf3 11 ternary_golay_generator C (omega arith) ternary_generator ternary_divides c

pub ruleset binary_golay_laws = (binary_symbols, binary_polynomial, binary_divisor)

pub ruleset ternary_golay_laws = (ternary_symbol, ternary_polynomial, ternary_divisor)

pub ruleset binary_field_laws = (binary_size, two_elements)

pub ruleset ternary_field_laws = (ternary_size, ternary_name)

pub ruleset dimensions_of_golay_codes_laws = (binary_dimension, ternary_dimension)
