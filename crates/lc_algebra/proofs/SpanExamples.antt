-- Worked examples of words, spans and reduced matrices, by evaluation of the definitions.
--   hamming                the reduced generator matrix of the Hamming code of length 7
--   hamming_count, hamming_weights      its 16 words, and how many have each weight
--   hamming_distance       its minimum distance is 3
--   hamming_least          its first nonzero word is row 2
--   hamming_reduced        its places are 0 to 3
--   reed_solomon           the reduced generator matrix of a Reed-Solomon code of length 4 over the field of 5 elements
--   reed_solomon_count, reed_solomon_weights, reed_solomon_distance, reed_solomon_reduced      the same of it
--   sums                   a sum, a multiple, a difference, a dot and a distance
--   first_symbols          the places of first nonzero symbols
--   combination            a sum of multiples of rows
--   words_in_order         the list of words, in its order
use Rattle.std.proofs.Common.{◌≡◌, ℕ, ◌==◌, List, [], ◌∷◌, length, count_by, map, Some, None, refl, arith}
use Rattle.lc_algebra.specs.declared.FieldName.TheVariants.{Gf2, Gf3, Gf4, Gf5}
use Rattle.lc_algebra.specs.Residue.{digits, number, plus, minus, times, top, up, times_x, product}
use Rattle.lc_algebra.specs.Field.{shape, shape_of, size, coefficients, add, neg, mul}
use Rattle.lc_algebra.specs.Word.{word_sum, scale, difference, weight, word_dot, distance, first_nonzero}
use Rattle.lc_algebra.specs.Span.{below, combine, words, IsDistance, IsLeast}
use Rattle.lc_algebra.specs.Matrix.{HasPivots}
use Rattle.lc_algebra.proofs.SpanSearch.{distance_from_words, at_most_test, least_from_words, pivots_from_test}

abbrev pub hamming : List (List ℕ)
hamming = (1 ∷ 0 ∷ 0 ∷ 0 ∷ 0 ∷ 1 ∷ 1 ∷ []) ∷ (0 ∷ 1 ∷ 0 ∷ 0 ∷ 1 ∷ 0 ∷ 1 ∷ []) ∷ (0 ∷ 0 ∷ 1 ∷ 0 ∷ 1 ∷ 1 ∷ 0 ∷ []) ∷ (0 ∷ 0 ∷ 0 ∷ 1 ∷ 1 ∷ 1 ∷ 1 ∷ []) ∷ []

abbrev pub reed_solomon : List (List ℕ)
reed_solomon = (1 ∷ 0 ∷ 3 ∷ 4 ∷ []) ∷ (0 ∷ 1 ∷ 3 ∷ 2 ∷ []) ∷ []

abbrev pub weights : List (List ℕ) → List ℕ → List ℕ
weights ws ds = map (λ d. count_by (λ w. weight w == d) ws) ds

pub sums : word_sum Gf4 (1 ∷ 2 ∷ 3 ∷ []) (1 ∷ 3 ∷ 0 ∷ []) ∷ scale Gf4 2 (1 ∷ 2 ∷ 3 ∷ []) ∷ difference Gf5 (1 ∷ 2 ∷ 3 ∷ []) (2 ∷ 2 ∷ 1 ∷ []) ∷ (word_dot Gf4 (1 ∷ 2 ∷ 3 ∷ []) (3 ∷ 3 ∷ 2 ∷ []) ∷ word_dot Gf5 (1 ∷ 2 ∷ 3 ∷ []) (3 ∷ 3 ∷ 2 ∷ []) ∷ distance Gf5 (1 ∷ 2 ∷ 3 ∷ []) (2 ∷ 2 ∷ 1 ∷ []) ∷ []) ∷ [] ≡ (0 ∷ 1 ∷ 3 ∷ []) ∷ (2 ∷ 3 ∷ 1 ∷ []) ∷ (4 ∷ 0 ∷ 2 ∷ []) ∷ (3 ∷ 0 ∷ 2 ∷ []) ∷ []
unfolding digits number plus minus times top up times_x product shape shape_of size coefficients add neg mul word_sum scale difference word_dot
sums = refl

pub hamming_count : length (words Gf2 7 hamming) ≡ 16
unfolding digits number plus minus times top up times_x product shape shape_of size coefficients add mul word_sum scale below words
hamming_count = refl

pub hamming_weights : weights (words Gf2 7 hamming) (0 ∷ 1 ∷ 2 ∷ 3 ∷ 4 ∷ 5 ∷ 6 ∷ 7 ∷ []) ≡ 1 ∷ 0 ∷ 0 ∷ 7 ∷ 7 ∷ 0 ∷ 0 ∷ 1 ∷ []
unfolding digits number plus minus times top up times_x product shape shape_of size coefficients add mul word_sum scale below words
hamming_weights = refl

pub hamming_distance : IsDistance Gf2 7 hamming 3
unfolding digits number plus minus times top up times_x product shape shape_of size coefficients add mul word_sum scale below words
hamming_distance = distance_from_words Gf2 7 hamming 3 (omega arith) refl refl

pub hamming_least : IsLeast Gf2 7 hamming (0 ∷ 0 ∷ 1 ∷ 0 ∷ 1 ∷ 1 ∷ 0 ∷ [])
unfolding digits number plus minus times top up times_x product shape shape_of size coefficients add mul word_sum scale below words at_most_test
hamming_least = least_from_words Gf2 7 hamming (0 ∷ 0 ∷ 1 ∷ 0 ∷ 1 ∷ 1 ∷ 0 ∷ []) (2, omega arith, refl) (omega arith) refl

pub hamming_reduced : HasPivots 7 (0 ∷ 1 ∷ 2 ∷ 3 ∷ []) hamming
hamming_reduced = pivots_from_test 7 (0 ∷ 1 ∷ 2 ∷ 3 ∷ []) hamming refl

pub reed_solomon_count : length (words Gf5 4 reed_solomon) ≡ 25
unfolding digits number plus minus times top up times_x product shape shape_of size coefficients add mul word_sum scale below words
reed_solomon_count = refl

pub reed_solomon_weights : weights (words Gf5 4 reed_solomon) (0 ∷ 1 ∷ 2 ∷ 3 ∷ 4 ∷ []) ≡ 1 ∷ 0 ∷ 0 ∷ 16 ∷ 8 ∷ []
unfolding digits number plus minus times top up times_x product shape shape_of size coefficients add mul word_sum scale below words
reed_solomon_weights = refl

pub reed_solomon_distance : IsDistance Gf5 4 reed_solomon 3
unfolding digits number plus minus times top up times_x product shape shape_of size coefficients add mul word_sum scale below words
reed_solomon_distance = distance_from_words Gf5 4 reed_solomon 3 (omega arith) refl refl

pub reed_solomon_reduced : HasPivots 4 (0 ∷ 1 ∷ []) reed_solomon
reed_solomon_reduced = pivots_from_test 4 (0 ∷ 1 ∷ []) reed_solomon refl

pub first_symbols : map first_nonzero ((0 ∷ 0 ∷ 3 ∷ 1 ∷ []) ∷ (0 ∷ 0 ∷ []) ∷ [] ∷ []) ≡ Some 2 ∷ None ∷ None ∷ []
first_symbols = refl

pub combination : combine Gf3 3 (2 ∷ 1 ∷ []) ((1 ∷ 0 ∷ 1 ∷ []) ∷ (0 ∷ 1 ∷ 2 ∷ []) ∷ []) ≡ 2 ∷ 1 ∷ 1 ∷ []
unfolding digits number plus minus times top up times_x product shape shape_of coefficients add mul word_sum scale combine
combination = refl

-- the words in their order: the multiple of the first row counts first
pub words_in_order : words Gf3 2 ((1 ∷ 2 ∷ []) ∷ (0 ∷ 1 ∷ []) ∷ []) ≡ (0 ∷ 0 ∷ []) ∷ (0 ∷ 1 ∷ []) ∷ (0 ∷ 2 ∷ []) ∷ (1 ∷ 2 ∷ []) ∷ (1 ∷ 0 ∷ []) ∷ (1 ∷ 1 ∷ []) ∷ (2 ∷ 1 ∷ []) ∷ (2 ∷ 2 ∷ []) ∷ (2 ∷ 0 ∷ []) ∷ []
unfolding digits number plus minus times top up times_x product shape shape_of size coefficients add mul word_sum scale below words
words_in_order = refl
