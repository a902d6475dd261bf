-- Worked queries, by evaluation of the definitions.
--   hamming_distance, hamming_bracket      what MinimumDistance prints of the Hamming code of length 7, and for a budget of one block
--   extended_hamming_distance              that of the extended Hamming code of length 8: all its weights are divisible by 4
--   hamming_certificate                    its certificate by levels
--   repetition_scan                        the certificate by a scan of the repetition code of length 2
--   hamming_weights                        the number of its words of each weight
--   nearest, nearest_bracket, in_the_code, nearest_of_null      the nearest word, a bracket, a word of the code, a code of dimension 0
--   reed_solomon_form                      the certificate by its form of a word of the Reed-Solomon code of length 4
use Rattle.std.proofs.Common.{◌≡◌, refl}
use Rattle.std.specs.Prelude.{ℕ, List, [], ◌∷◌, ◌++◌, codes, ◌^◌}
use Rattle.lc_algebra.specs.declared.FieldName.TheVariants.{Gf2, Gf3, Gf5}
use Rattle.lc_algebra.specs.Field.{neg}
use Rattle.lc_algebra.specs.Matrix.{Matrix}
use Rattle.lc_algebra.specs.Word.{difference}
use Rattle.lc_constructions.specs.Alternant.{AlternantForm}
use Rattle.lc_enumeration.specs.Distribution.{count_of_weight, weight_distribution, distribution_of}
use Rattle.lc_enumeration.specs.NearWord.{patterns, pattern_count, coset_level, coset_set, coset_level_blocks, coset_blocks_before, coset_phases, coset_total, coset_phase, coset_ends, basis_of, coset_word, coset_patterns, coset_words, coset_word_at, near_in_block, near_from, near_first, near_best, is_coset_level_done, levels_done, near_sum, near_bound, is_near_done, near_at, near_answer}
use Rattle.lc_formats.specs.Claim.{claim_members_of, built_members, built_text, form_certificate}
use Rattle.lc_formats.proofs.Evaluated.{certificate_computes, reading_computes}
use Rattle.lc_language.specs.Print.{distance_line, bracket_line, distance_none_line}
use Rattle.lc_language.specs.Query.{distance, by_levels, by_scan, claims_at, proof_of, certificate_of, longest, no_certificate_line, certificate_line, word_at_place, distance_answer_line, certificate_answer_line, query_line, form_line, distribution_line, near_text, near_line}

abbrev pub hamming : Matrix
hamming = record { field = Gf2; columns = 7; rows = (1 ∷ 0 ∷ 0 ∷ 0 ∷ 0 ∷ 1 ∷ 1 ∷ []) ∷ (0 ∷ 1 ∷ 0 ∷ 0 ∷ 1 ∷ 0 ∷ 1 ∷ []) ∷ (0 ∷ 0 ∷ 1 ∷ 0 ∷ 1 ∷ 1 ∷ 0 ∷ []) ∷ (0 ∷ 0 ∷ 0 ∷ 1 ∷ 1 ∷ 1 ∷ 1 ∷ []) ∷ [] }

pub hamming_distance : query_line distance hamming (2 ^ 20) ≡ codes "distance 3 word [1,0,0,0,0,1,1] blocks 2" ++ 10 ∷ []
unfolding certificate_computes reading_computes neg distance_line bracket_line distance_none_line claims_at proof_of certificate_of longest no_certificate_line certificate_line word_at_place distance_answer_line certificate_answer_line query_line
hamming_distance = refl

abbrev pub extended_hamming : Matrix
extended_hamming = record { field = Gf2; columns = 8; rows = (1 ∷ 0 ∷ 0 ∷ 0 ∷ 0 ∷ 1 ∷ 1 ∷ 1 ∷ []) ∷ (0 ∷ 1 ∷ 0 ∷ 0 ∷ 1 ∷ 0 ∷ 1 ∷ 1 ∷ []) ∷ (0 ∷ 0 ∷ 1 ∷ 0 ∷ 1 ∷ 1 ∷ 0 ∷ 1 ∷ []) ∷ (0 ∷ 0 ∷ 0 ∷ 1 ∷ 1 ∷ 1 ∷ 1 ∷ 0 ∷ []) ∷ [] }

pub extended_hamming_distance : query_line distance extended_hamming (2 ^ 20) ≡ codes "distance 4 word [1,0,0,0,0,1,1,1] blocks 0" ++ 10 ∷ []
unfolding certificate_computes reading_computes neg distance_line bracket_line distance_none_line claims_at proof_of certificate_of longest no_certificate_line certificate_line word_at_place distance_answer_line certificate_answer_line query_line
extended_hamming_distance = refl

pub hamming_bracket : query_line distance hamming 1 ≡ codes "distance between 2 and 3 word [1,0,0,0,0,1,1] blocks 1" ++ 10 ∷ []
unfolding certificate_computes reading_computes neg distance_line bracket_line distance_none_line claims_at proof_of certificate_of longest no_certificate_line certificate_line word_at_place distance_answer_line certificate_answer_line query_line
hamming_bracket = refl

pub hamming_certificate : query_line by_levels hamming (2 ^ 20) ≡ codes "{\"by\":\"levels\",\"distance\":3,\"field\":2,\"rows\":[[1,0,0,0,0,1,1],[0,1,0,0,1,0,1],[0,0,1,0,1,1,0],[0,0,0,1,1,1,1]],\"sets\":[{\"basis\":[0,1,2,3],\"fresh\":[0,1,2,3],\"level\":1},{\"basis\":[0,4,5,6],\"fresh\":[4,5,6],\"level\":1}],\"version\":1,\"word\":[1,0,0,0,0,1,1]}" ++ 10 ∷ []
unfolding certificate_computes reading_computes neg distance_line bracket_line distance_none_line claims_at proof_of certificate_of longest no_certificate_line certificate_line word_at_place distance_answer_line certificate_answer_line query_line
hamming_certificate = refl

pub repetition_scan : query_line by_scan (record { field = Gf2; columns = 2; rows = (1 ∷ 1 ∷ []) ∷ [] }) (2 ^ 20) ≡ codes "{\"by\":\"scan\",\"distance\":2,\"field\":2,\"rows\":[[1,1]],\"version\":1,\"word\":[1,1]}" ++ 10 ∷ []
unfolding certificate_computes reading_computes neg distance_line bracket_line distance_none_line claims_at proof_of certificate_of longest no_certificate_line certificate_line word_at_place distance_answer_line certificate_answer_line query_line
repetition_scan = refl

pub hamming_weights : distribution_line hamming ≡ codes "[1,0,0,7,7,0,0,1]" ++ 10 ∷ []
unfolding certificate_computes reading_computes count_of_weight weight_distribution distribution_of distribution_line
hamming_weights = refl

abbrev pub one_error : List ℕ
one_error = 1 ∷ 1 ∷ 0 ∷ 0 ∷ 0 ∷ 1 ∷ 1 ∷ []

pub nearest : near_line hamming one_error (2 ^ 20) ≡ codes "nearest [1,0,0,0,0,1,1] at 1 blocks 2" ++ 10 ∷ []
unfolding certificate_computes reading_computes neg difference patterns pattern_count coset_level coset_set coset_level_blocks coset_blocks_before coset_phases coset_total coset_phase coset_ends basis_of coset_word coset_patterns coset_words coset_word_at near_in_block near_from near_first near_best is_coset_level_done levels_done near_sum near_bound is_near_done near_at near_answer near_text near_line
nearest = refl

pub nearest_bracket : near_line hamming one_error 1 ≡ codes "nearest between 1 and 2 word [1,1,0,0,1,1,0] blocks 1" ++ 10 ∷ []
unfolding certificate_computes reading_computes neg difference patterns pattern_count coset_level coset_set coset_level_blocks coset_blocks_before coset_phases coset_total coset_phase coset_ends basis_of coset_word coset_patterns coset_words coset_word_at near_in_block near_from near_first near_best is_coset_level_done levels_done near_sum near_bound is_near_done near_at near_answer near_text near_line
nearest_bracket = refl

pub in_the_code : near_line hamming (1 ∷ 0 ∷ 0 ∷ 0 ∷ 0 ∷ 1 ∷ 1 ∷ []) (2 ^ 20) ≡ codes "nearest [1,0,0,0,0,1,1] at 0 blocks 0" ++ 10 ∷ []
unfolding certificate_computes reading_computes neg difference patterns pattern_count coset_level coset_set coset_level_blocks coset_blocks_before coset_phases coset_total coset_phase coset_ends basis_of coset_word coset_patterns coset_words coset_word_at near_in_block near_from near_first near_best is_coset_level_done levels_done near_sum near_bound is_near_done near_at near_answer near_text near_line
in_the_code = refl

pub nearest_of_null : near_line (record { field = Gf3; columns = 2; rows = [] }) (2 ∷ 1 ∷ []) (2 ^ 20) ≡ codes "nearest [0,0] at 2 blocks 0" ++ 10 ∷ []
unfolding certificate_computes reading_computes neg difference patterns pattern_count coset_level coset_set coset_level_blocks coset_blocks_before coset_phases coset_total coset_phase coset_ends basis_of coset_word coset_patterns coset_words coset_word_at near_in_block near_from near_first near_best is_coset_level_done levels_done near_sum near_bound is_near_done near_at near_answer near_text near_line
nearest_of_null = refl

abbrev pub reed_solomon : Matrix
reed_solomon = record { field = Gf5; columns = 4; rows = (1 ∷ 0 ∷ 3 ∷ 4 ∷ []) ∷ (0 ∷ 1 ∷ 3 ∷ 2 ∷ []) ∷ [] }

abbrev pub its_form : AlternantForm
its_form = record { locator = Gf5; points = 1 ∷ 2 ∷ 4 ∷ 3 ∷ []; multipliers = 1 ∷ 2 ∷ 4 ∷ 3 ∷ []; r = 2 }

pub reed_solomon_form : form_line reed_solomon its_form (1 ∷ 0 ∷ 3 ∷ 4 ∷ []) ≡ codes "{\"claim\":{\"kind\":\"alternant\",\"locator\":5,\"multipliers\":[1,2,4,3],\"points\":[1,2,4,3],\"r\":2},\"distance\":3,\"field\":5,\"version\":2,\"word\":[1,0,3,4]}" ++ 10 ∷ []
unfolding certificate_computes reading_computes claim_members_of built_members built_text form_certificate form_line
reed_solomon_form = refl
