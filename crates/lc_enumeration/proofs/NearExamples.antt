-- Worked searches for a nearest word, by evaluation of the definitions, on the Hamming code of length 7.
--   ternary_patterns       the error patterns of weights 0, 1 and 2 of length 2 over 3 elements
--   pattern_counts         how many patterns of length 4 over 2 elements each weight has
--   ends, phases           where the phases of dimension 4 over 2 elements with two sets end, and the phases of blocks
--   first_words            the words of the first two blocks of a word with one error
--   near_one               the word nearest to it is at distance 1, found after 2 blocks; with a budget of 1 the answer is a bracket
--   near_zero              a word of the code is its own nearest word
--   near_null              the nearest word of the zero code over 3 elements
--   bounds                 the lower bound after 0 to 3 blocks, and after all
use Rattle.std.proofs.Common.{◌≡◌, refl}
use Rattle.std.specs.Prelude.{ℕ, List, [], ◌∷◌, map, ◌^◌, Some, None, true, false}
use Rattle.lc_algebra.specs.declared.FieldName.TheVariants.{Gf3}
use Rattle.lc_algebra.specs.Residue.{digits, number, plus, minus, times, top, up, times_x, product}
use Rattle.lc_algebra.specs.Field.{shape, shape_of, size, coefficients, add, neg, mul}
use Rattle.lc_algebra.specs.Word.{word_sum, scale, difference}
use Rattle.lc_algebra.specs.Span.{below, combine, words}
use Rattle.lc_enumeration.specs.Message.{supports, supports_from, numbers_from, nonzero_lists, vector_from, vector_of, choose}
use Rattle.lc_enumeration.specs.Plan.{cut, place_of}
use Rattle.lc_enumeration.specs.InformationSet.{same_word, in_span, greedy, is_member, first_basis, columns_in_order, with_fresh, next_set, sets_after, information_sets}
use Rattle.lc_enumeration.specs.Search.{beats, sets_of, set_count, ranks_of, found_along, least_of, last_that}
use Rattle.lc_enumeration.specs.NearWord.{patterns, pattern_count, coset_level, coset_set, coset_level_blocks, coset_blocks_before, coset_phases, coset_total, coset_phase, coset_ends, basis_of, coset_word, coset_patterns, coset_words, coset_word_at, near_in_block, near_from, near_first, near_best, is_coset_level_done, levels_done, near_sum, near_bound, is_near_done, near_at, near_answer}
use Rattle.lc_enumeration.proofs.SearchExamples.{hamming}

abbrev pub one_error : List ℕ
one_error = 1 ∷ 1 ∷ 0 ∷ 0 ∷ 0 ∷ 1 ∷ 1 ∷ []

abbrev pub row : List ℕ
row = 1 ∷ 0 ∷ 0 ∷ 0 ∷ 0 ∷ 1 ∷ 1 ∷ []

abbrev pub other : List ℕ
other = 1 ∷ 1 ∷ 0 ∷ 0 ∷ 1 ∷ 1 ∷ 0 ∷ []

pub ternary_patterns : map (λ w. map (vector_of 2) (patterns 2 3 w)) (0 ∷ 1 ∷ 2 ∷ []) ≡ ((0 ∷ 0 ∷ []) ∷ []) ∷ ((1 ∷ 0 ∷ []) ∷ (2 ∷ 0 ∷ []) ∷ (0 ∷ 1 ∷ []) ∷ (0 ∷ 2 ∷ []) ∷ []) ∷ ((1 ∷ 1 ∷ []) ∷ (1 ∷ 2 ∷ []) ∷ (2 ∷ 1 ∷ []) ∷ (2 ∷ 2 ∷ []) ∷ []) ∷ []
unfolding digits number plus minus times top up times_x product shape shape_of size coefficients add neg mul word_sum scale difference below combine words supports supports_from numbers_from nonzero_lists vector_from vector_of choose cut place_of same_word in_span greedy is_member first_basis columns_in_order with_fresh next_set sets_after information_sets beats sets_of set_count ranks_of found_along least_of last_that patterns pattern_count coset_level coset_set coset_level_blocks coset_blocks_before coset_phases coset_total coset_phase coset_ends basis_of coset_word coset_patterns coset_words coset_word_at near_in_block near_from near_first near_best is_coset_level_done levels_done near_sum near_bound is_near_done near_at near_answer
ternary_patterns = refl

pub pattern_counts : map (pattern_count 4 2) (0 ∷ 1 ∷ 2 ∷ 3 ∷ 4 ∷ []) ≡ 1 ∷ 4 ∷ 6 ∷ 4 ∷ 1 ∷ []
unfolding digits number plus minus times top up times_x product shape shape_of size coefficients add neg mul word_sum scale difference below combine words supports supports_from numbers_from nonzero_lists vector_from vector_of choose cut place_of same_word in_span greedy is_member first_basis columns_in_order with_fresh next_set sets_after information_sets beats sets_of set_count ranks_of found_along least_of last_that patterns pattern_count coset_level coset_set coset_level_blocks coset_blocks_before coset_phases coset_total coset_phase coset_ends basis_of coset_word coset_patterns coset_words coset_word_at near_in_block near_from near_first near_best is_coset_level_done levels_done near_sum near_bound is_near_done near_at near_answer
pattern_counts = refl

pub ends : coset_ends 4 2 2 ≡ 1 ∷ 2 ∷ 3 ∷ 4 ∷ 5 ∷ 6 ∷ 7 ∷ 8 ∷ 9 ∷ 10 ∷ []
unfolding digits number plus minus times top up times_x product shape shape_of size coefficients add neg mul word_sum scale difference below combine words supports supports_from numbers_from nonzero_lists vector_from vector_of choose cut place_of same_word in_span greedy is_member first_basis columns_in_order with_fresh next_set sets_after information_sets beats sets_of set_count ranks_of found_along least_of last_that patterns pattern_count coset_level coset_set coset_level_blocks coset_blocks_before coset_phases coset_total coset_phase coset_ends basis_of coset_word coset_patterns coset_words coset_word_at near_in_block near_from near_first near_best is_coset_level_done levels_done near_sum near_bound is_near_done near_at near_answer
ends = refl

pub phases : map (coset_phase 4 2 2) (0 ∷ 1 ∷ 9 ∷ 10 ∷ []) ≡ Some 0 ∷ Some 1 ∷ Some 9 ∷ None ∷ []
unfolding digits number plus minus times top up times_x product shape shape_of size coefficients add neg mul word_sum scale difference below combine words supports supports_from numbers_from nonzero_lists vector_from vector_of choose cut place_of same_word in_span greedy is_member first_basis columns_in_order with_fresh next_set sets_after information_sets beats sets_of set_count ranks_of found_along least_of last_that patterns pattern_count coset_level coset_set coset_level_blocks coset_blocks_before coset_phases coset_total coset_phase coset_ends basis_of coset_word coset_patterns coset_words coset_word_at near_in_block near_from near_first near_best is_coset_level_done levels_done near_sum near_bound is_near_done near_at near_answer
phases = refl

pub first_words : map (coset_words hamming one_error) (0 ∷ 1 ∷ []) ≡ (other ∷ []) ∷ (row ∷ []) ∷ []
unfolding digits number plus minus times top up times_x product shape shape_of size coefficients add neg mul word_sum scale difference below combine words supports supports_from numbers_from nonzero_lists vector_from vector_of choose cut place_of same_word in_span greedy is_member first_basis columns_in_order with_fresh next_set sets_after information_sets beats sets_of set_count ranks_of found_along least_of last_that patterns pattern_count coset_level coset_set coset_level_blocks coset_blocks_before coset_phases coset_total coset_phase coset_ends basis_of coset_word coset_patterns coset_words coset_word_at near_in_block near_from near_first near_best is_coset_level_done levels_done near_sum near_bound is_near_done near_at near_answer
first_words = refl

pub near_one : map (near_answer hamming one_error) (2 ^ 20 ∷ 1 ∷ []) ≡ record { exact = true; low = 1; weight = 1; word = row; blocks = 2 } ∷ record { exact = false; low = 1; weight = 2; word = other; blocks = 1 } ∷ []
unfolding digits number plus minus times top up times_x product shape shape_of size coefficients add neg mul word_sum scale difference below combine words supports supports_from numbers_from nonzero_lists vector_from vector_of choose cut place_of same_word in_span greedy is_member first_basis columns_in_order with_fresh next_set sets_after information_sets beats sets_of set_count ranks_of found_along least_of last_that patterns pattern_count coset_level coset_set coset_level_blocks coset_blocks_before coset_phases coset_total coset_phase coset_ends basis_of coset_word coset_patterns coset_words coset_word_at near_in_block near_from near_first near_best is_coset_level_done levels_done near_sum near_bound is_near_done near_at near_answer
near_one = refl

pub near_zero : near_answer hamming row (2 ^ 20) ≡ record { exact = true; low = 0; weight = 0; word = row; blocks = 0 }
unfolding digits number plus minus times top up times_x product shape shape_of size coefficients add neg mul word_sum scale difference below combine words supports supports_from numbers_from nonzero_lists vector_from vector_of choose cut place_of same_word in_span greedy is_member first_basis columns_in_order with_fresh next_set sets_after information_sets beats sets_of set_count ranks_of found_along least_of last_that patterns pattern_count coset_level coset_set coset_level_blocks coset_blocks_before coset_phases coset_total coset_phase coset_ends basis_of coset_word coset_patterns coset_words coset_word_at near_in_block near_from near_first near_best is_coset_level_done levels_done near_sum near_bound is_near_done near_at near_answer
near_zero = refl

pub near_null : near_answer (record { field = Gf3; columns = 2; rows = [] }) (2 ∷ 1 ∷ []) (2 ^ 20) ≡ record { exact = true; low = 2; weight = 2; word = 0 ∷ 0 ∷ []; blocks = 0 }
unfolding digits number plus minus times top up times_x product shape shape_of size coefficients add neg mul word_sum scale difference below combine words supports supports_from numbers_from nonzero_lists vector_from vector_of choose cut place_of same_word in_span greedy is_member first_basis columns_in_order with_fresh next_set sets_after information_sets beats sets_of set_count ranks_of found_along least_of last_that patterns pattern_count coset_level coset_set coset_level_blocks coset_blocks_before coset_phases coset_total coset_phase coset_ends basis_of coset_word coset_patterns coset_words coset_word_at near_in_block near_from near_first near_best is_coset_level_done levels_done near_sum near_bound is_near_done near_at near_answer
near_null = refl

pub bounds : map (near_bound hamming one_error) (0 ∷ 1 ∷ 2 ∷ 3 ∷ 4 ∷ 9 ∷ []) ≡ 0 ∷ 1 ∷ 1 ∷ 2 ∷ 3 ∷ 1 ∷ []
unfolding digits number plus minus times top up times_x product shape shape_of size coefficients add neg mul word_sum scale difference below combine words supports supports_from numbers_from nonzero_lists vector_from vector_of choose cut place_of same_word in_span greedy is_member first_basis columns_in_order with_fresh next_set sets_after information_sets beats sets_of set_count ranks_of found_along least_of last_that patterns pattern_count coset_level coset_set coset_level_blocks coset_blocks_before coset_phases coset_total coset_phase coset_ends basis_of coset_word coset_patterns coset_words coset_word_at near_in_block near_from near_first near_best is_coset_level_done levels_done near_sum near_bound is_near_done near_at near_answer
bounds = refl
