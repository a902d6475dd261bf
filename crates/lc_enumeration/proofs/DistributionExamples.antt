-- Worked weight distributions and words that are 0 on a set of coordinates, by evaluation of the definitions.
--   hamming_distribution     the Hamming code of length 7 has 7 words of weight 3, 7 of weight 4 and 1 of weight 7
--   dual_distribution        its dual, the simplex code, has 7 words of weight 4
--   null_distribution        the zero code of length 2 over 3 elements has one word
--   ternary_distribution     the tetracode over 3 elements has 8 words of weight 3
--   refusals                 the whole space of length 64 is refused; the Hamming codes of lengths 7 and 31, the binary Golay code and
--                            the whole space of length 24 are not; a code of length 64 and dimension 32 over 2 elements is
--   zeros                    how many words of the Hamming code are 0 on the coordinates 0 and 1, and of its dual outside them
--   zero_words               the words of the Hamming code that are 0 on the coordinates 0, 1 and 2
use Rattle.std.proofs.Common.{◌≡◌, refl}
use Rattle.std.specs.Prelude.{ℕ, List, [], ◌∷◌, length, Option, Some, None}
use Rattle.lc_algebra.specs.declared.FieldName.TheVariants.{Gf2, Gf3}
use Rattle.lc_algebra.specs.Residue.{digits, number, plus, minus, times, top, up, times_x, product}
use Rattle.lc_algebra.specs.Field.{shape, shape_of, size, coefficients, add, neg, mul}
use Rattle.lc_algebra.specs.Word.{word_sum, scale, difference}
use Rattle.lc_algebra.specs.Span.{below, combine, words}
use Rattle.lc_enumeration.specs.InformationSet.{is_member}
use Rattle.lc_enumeration.specs.Distribution.{NoDistribution, count_of_weight, weight_distribution, distribution_of, distribution_refusal, is_zero_on, is_zero_outside, zero_on, zero_outside}
use Rattle.lc_enumeration.proofs.SearchExamples.{hamming}

abbrev pub simplex : List (List ℕ)
simplex = (0 ∷ 1 ∷ 1 ∷ 1 ∷ 1 ∷ 0 ∷ 0 ∷ []) ∷ (1 ∷ 0 ∷ 1 ∷ 1 ∷ 0 ∷ 1 ∷ 0 ∷ []) ∷ (1 ∷ 1 ∷ 0 ∷ 1 ∷ 0 ∷ 0 ∷ 1 ∷ []) ∷ []

pub hamming_distribution : distribution_of hamming ≡ 1 ∷ 0 ∷ 0 ∷ 7 ∷ 7 ∷ 0 ∷ 0 ∷ 1 ∷ []
unfolding digits number plus minus times top up times_x product shape shape_of size coefficients add neg mul word_sum scale difference below combine words is_member count_of_weight weight_distribution distribution_of distribution_refusal is_zero_on is_zero_outside zero_on zero_outside
hamming_distribution = refl

pub dual_distribution : weight_distribution Gf2 7 simplex ≡ 1 ∷ 0 ∷ 0 ∷ 0 ∷ 7 ∷ 0 ∷ 0 ∷ 0 ∷ []
unfolding digits number plus minus times top up times_x product shape shape_of size coefficients add neg mul word_sum scale difference below combine words is_member count_of_weight weight_distribution distribution_of distribution_refusal is_zero_on is_zero_outside zero_on zero_outside
dual_distribution = refl

pub null_distribution : weight_distribution Gf3 2 [] ≡ 1 ∷ 0 ∷ 0 ∷ []
unfolding digits number plus minus times top up times_x product shape shape_of size coefficients add neg mul word_sum scale difference below combine words is_member count_of_weight weight_distribution distribution_of distribution_refusal is_zero_on is_zero_outside zero_on zero_outside
null_distribution = refl

pub ternary_distribution : weight_distribution Gf3 4 ((1 ∷ 0 ∷ 1 ∷ 1 ∷ []) ∷ (0 ∷ 1 ∷ 1 ∷ 2 ∷ []) ∷ []) ≡ 1 ∷ 0 ∷ 0 ∷ 8 ∷ 0 ∷ []
unfolding digits number plus minus times top up times_x product shape shape_of size coefficients add neg mul word_sum scale difference below combine words is_member count_of_weight weight_distribution distribution_of distribution_refusal is_zero_on is_zero_outside zero_on zero_outside
ternary_distribution = refl

abbrev pub refused : ℕ → ℕ → Option NoDistribution
refused k c = Some (record { dimension = k; codimension = c })

pub refusals : distribution_refusal 2 64 64 ∷ distribution_refusal 2 64 32 ∷ distribution_refusal 2 7 4 ∷ distribution_refusal 2 31 26 ∷ distribution_refusal 2 23 12 ∷ distribution_refusal 2 24 24 ∷ [] ≡ refused 64 0 ∷ refused 32 32 ∷ None ∷ None ∷ None ∷ None ∷ []
unfolding distribution_refusal
refusals = refl

pub zeros : length (zero_on Gf2 7 hamming.rows (0 ∷ 1 ∷ [])) ∷ length (zero_outside Gf2 7 simplex (0 ∷ 1 ∷ [])) ∷ length (zero_outside Gf2 7 simplex (0 ∷ 1 ∷ 2 ∷ 3 ∷ 4 ∷ [])) ∷ [] ≡ 4 ∷ 1 ∷ 2 ∷ []
unfolding digits number plus minus times top up times_x product shape shape_of size coefficients add neg mul word_sum scale difference below combine words is_member count_of_weight weight_distribution distribution_of distribution_refusal is_zero_on is_zero_outside zero_on zero_outside
zeros = refl

pub zero_words : zero_on Gf2 7 hamming.rows (0 ∷ 1 ∷ 2 ∷ []) ≡ (0 ∷ 0 ∷ 0 ∷ 0 ∷ 0 ∷ 0 ∷ 0 ∷ []) ∷ (0 ∷ 0 ∷ 0 ∷ 1 ∷ 1 ∷ 1 ∷ 1 ∷ []) ∷ []
unfolding digits number plus minus times top up times_x product shape shape_of size coefficients add neg mul word_sum scale difference below combine words is_member count_of_weight weight_distribution distribution_of distribution_refusal is_zero_on is_zero_outside zero_on zero_outside
zero_words = refl
