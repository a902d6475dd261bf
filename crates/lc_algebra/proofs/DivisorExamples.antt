-- Worked divisors, by evaluation of the definition.
--   extended_hamming       the extended Hamming code of length 8, whose weights are 0, 4 and 8
--   doubly_even            its divisor is 4
--   singly_even            the even weight code of length 4 has 2
--   odd                    the Hamming code of length 7 has 1
--   ternary                over 3 elements: the tetracode of length 4 has 3, a single row of weight 2 has 1
--   quaternary             over 4 elements it is 1, also of the hexacode's first two rows, whose weights are even
--   zero_codes             the code of the zero word alone has the greatest number that is asked for
--   rounding               0 to 5 rounded up to multiples of 4, 3, 2 and 1
use Rattle.std.proofs.Common.{◌≡◌, ℕ, List, [], ◌∷◌, map, refl}
use Rattle.lc_algebra.specs.declared.FieldName.TheVariants.{Gf2, Gf3, Gf4, Gf5}
use Rattle.lc_algebra.specs.Residue.{digits, number, plus, minus, times, top, up, times_x, product}
use Rattle.lc_algebra.specs.Field.{shape, shape_of, size, coefficients, add, mul}
use Rattle.lc_algebra.specs.Word.{word_sum, scale}
use Rattle.lc_algebra.specs.Span.{below, words}
use Rattle.lc_algebra.specs.Divisor.{possible_divisors, divides_weights, weight_divisor, rounded}
use Rattle.lc_algebra.proofs.SpanExamples.{hamming}

abbrev pub extended_hamming : List (List ℕ)
extended_hamming = (1 ∷ 0 ∷ 0 ∷ 0 ∷ 0 ∷ 1 ∷ 1 ∷ 1 ∷ []) ∷ (0 ∷ 1 ∷ 0 ∷ 0 ∷ 1 ∷ 0 ∷ 1 ∷ 1 ∷ []) ∷ (0 ∷ 0 ∷ 1 ∷ 0 ∷ 1 ∷ 1 ∷ 0 ∷ 1 ∷ []) ∷ (0 ∷ 0 ∷ 0 ∷ 1 ∷ 1 ∷ 1 ∷ 1 ∷ 0 ∷ []) ∷ []

pub doubly_even : weight_divisor Gf2 8 extended_hamming ≡ 4
unfolding digits number plus minus times top up times_x product shape shape_of size coefficients add mul word_sum scale below words possible_divisors divides_weights weight_divisor
doubly_even = refl

pub singly_even : weight_divisor Gf2 4 ((1 ∷ 0 ∷ 0 ∷ 1 ∷ []) ∷ (0 ∷ 1 ∷ 0 ∷ 1 ∷ []) ∷ (0 ∷ 0 ∷ 1 ∷ 1 ∷ []) ∷ []) ≡ 2
unfolding digits number plus minus times top up times_x product shape shape_of size coefficients add mul word_sum scale below words possible_divisors divides_weights weight_divisor
singly_even = refl

pub odd : weight_divisor Gf2 7 hamming ≡ 1
unfolding digits number plus minus times top up times_x product shape shape_of size coefficients add mul word_sum scale below words possible_divisors divides_weights weight_divisor
odd = refl

pub ternary : map (weight_divisor Gf3 4) (((1 ∷ 0 ∷ 1 ∷ 1 ∷ []) ∷ (0 ∷ 1 ∷ 1 ∷ 2 ∷ []) ∷ []) ∷ ((1 ∷ 2 ∷ 0 ∷ 0 ∷ []) ∷ []) ∷ []) ≡ 3 ∷ 1 ∷ []
unfolding digits number plus minus times top up times_x product shape shape_of size coefficients add mul word_sum scale below words possible_divisors divides_weights weight_divisor
ternary = refl

pub quaternary : weight_divisor Gf4 6 ((1 ∷ 0 ∷ 0 ∷ 1 ∷ 2 ∷ 2 ∷ []) ∷ (0 ∷ 1 ∷ 0 ∷ 2 ∷ 1 ∷ 2 ∷ []) ∷ []) ≡ 1
unfolding digits number plus minus times top up times_x product shape shape_of size coefficients add mul word_sum scale below words possible_divisors divides_weights weight_divisor
quaternary = refl

pub zero_codes : weight_divisor Gf2 3 [] ∷ weight_divisor Gf3 3 [] ∷ weight_divisor Gf5 3 [] ∷ [] ≡ 4 ∷ 3 ∷ 1 ∷ []
unfolding digits number plus minus times top up times_x product shape shape_of size coefficients add mul word_sum scale below words possible_divisors divides_weights weight_divisor
zero_codes = refl

pub rounding : map (rounded 4) (0 ∷ 1 ∷ 4 ∷ 5 ∷ []) ∷ map (rounded 3) (0 ∷ 1 ∷ 3 ∷ 4 ∷ []) ∷ map (rounded 2) (1 ∷ 2 ∷ 5 ∷ []) ∷ map (rounded 1) (0 ∷ 1 ∷ 5 ∷ []) ∷ [] ≡ (0 ∷ 4 ∷ 4 ∷ 8 ∷ []) ∷ (0 ∷ 3 ∷ 3 ∷ 6 ∷ []) ∷ (2 ∷ 2 ∷ 6 ∷ []) ∷ (0 ∷ 1 ∷ 5 ∷ []) ∷ []
unfolding rounded
rounding = refl
