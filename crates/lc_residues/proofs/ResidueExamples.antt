-- The definitions of quadratic residue codes on examples (MacWilliams and Sloane, chapter 16).
--   residues_7, residues_11        the squares modulo 7 are 1, 2 and 4; modulo 11 they are 1, 3, 4, 5 and 9
--   binary_lengths         2 is a square modulo the primes that are 1 or 7 modulo 8
--   ternary_lengths        3 is a square modulo the primes that are 1 or 11 modulo 12
--   periods                the least periods at some lengths
--   word_7, word_11        residue words
--   moved_word             a word moved on by two coordinates
--   turned_word            a word with its coordinates multiplied by 3, which is no square modulo 7
use Rattle.std.proofs.Common.{◌≡◌, [], ◌∷◌, filter, refl}
use Rattle.lc_algebra.specs.declared.FieldName.TheVariants.{Gf2, Gf3, Gf4, Gf5, Gf7}
use Rattle.lc_algebra.specs.Residue.{digits, number, plus, minus, times, top, up, times_x, product}
use Rattle.lc_algebra.specs.Field.{shape, shape_of, size, coefficients, add, neg, mul}
use Rattle.lc_algebra.specs.Embedding.{first_from, first_that}
use Rattle.lc_algebra.specs.Span.{below}
use Rattle.lc_language.specs.QuadraticResidues.{is_odd_prime, is_residue, is_residue_length, period_norm, is_period, period, residue_symbol, residue_word, cyclic_shift, multiplied}

pub residues_7 : filter (is_residue 7) (below 14) ≡ 1 ∷ 2 ∷ 4 ∷ 8 ∷ 9 ∷ 11 ∷ []
unfolding is_residue below
residues_7 = refl

pub residues_11 : filter (is_residue 11) (below 11) ≡ 1 ∷ 3 ∷ 4 ∷ 5 ∷ 9 ∷ []
unfolding is_residue below
residues_11 = refl

pub binary_lengths : filter (is_residue_length 2) (below 80) ≡ 7 ∷ 17 ∷ 23 ∷ 31 ∷ 41 ∷ 47 ∷ 71 ∷ 73 ∷ 79 ∷ []
unfolding is_odd_prime is_residue is_residue_length below
binary_lengths = refl

pub ternary_lengths : filter (is_residue_length 3) (below 50) ≡ 11 ∷ 13 ∷ 23 ∷ 37 ∷ 47 ∷ []
unfolding is_odd_prime is_residue is_residue_length below
ternary_lengths = refl

pub periods : period Gf2 7 ∷ period Gf2 17 ∷ period Gf3 11 ∷ period Gf4 5 ∷ period Gf5 11 ∷ period Gf7 3 ∷ [] ≡ 0 ∷ 0 ∷ 0 ∷ 2 ∷ 1 ∷ 2 ∷ []
unfolding digits number plus minus times top up times_x product shape shape_of size coefficients add neg mul first_from first_that period_norm is_period period
periods = refl

pub word_7 : residue_word Gf2 7 0 ≡ 0 ∷ 1 ∷ 1 ∷ 0 ∷ 1 ∷ 0 ∷ 0 ∷ []
unfolding digits number plus minus times top up times_x product shape shape_of size coefficients add neg mul is_residue residue_symbol residue_word below
word_7 = refl

pub word_11 : residue_word Gf5 11 1 ≡ 4 ∷ 1 ∷ 0 ∷ 1 ∷ 1 ∷ 1 ∷ 0 ∷ 0 ∷ 0 ∷ 1 ∷ 0 ∷ []
unfolding digits number plus minus times top up times_x product shape shape_of size coefficients add neg mul is_residue residue_symbol residue_word below
word_11 = refl

pub moved_word : cyclic_shift 7 2 (0 ∷ 1 ∷ 1 ∷ 0 ∷ 1 ∷ 0 ∷ 0 ∷ []) ≡ 0 ∷ 0 ∷ 0 ∷ 1 ∷ 1 ∷ 0 ∷ 1 ∷ []
unfolding cyclic_shift below
moved_word = refl

pub turned_word : multiplied 7 3 (0 ∷ 1 ∷ 1 ∷ 0 ∷ 1 ∷ 0 ∷ 0 ∷ []) ≡ 0 ∷ 0 ∷ 0 ∷ 1 ∷ 0 ∷ 1 ∷ 1 ∷ []
unfolding multiplied below
turned_word = refl
