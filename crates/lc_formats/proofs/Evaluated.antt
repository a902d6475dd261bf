-- What the worked examples unfold: each name stands for the definitions that compute on its subject.
--   algebra_computes         fields, words, spans, the divisor of the weights
--   search_computes          messages, the plan, information sets, and the search
--   certificate_computes     certificates and what a checker says of one
--   json_computes            JSON values, written and read, and the texts of lines
--   reading_computes         how a certificate is read
--   claim_computes           claims: the codes and bounds that they define, how they are written and read
--   seal_computes            SHA-256 and hexadecimal digits
--   checkpoint_computes      how a checkpoint is written and read
--   truth_computes           which records of a checkpoint are used, and whether they fit
use Rattle.std.specs.Prelude.{⊤}
use Rattle.std.specs.Fmt.{digits as decimal_digits}
use Rattle.json.specs.Print.{escape_byte}
use Rattle.serde_json.proofs.OnLiterals.{serde_json_on_literals}
use Rattle.sha2.specs.Sha256.{sha256, first_words, schedule, rounds, compress, hash_after, digest_bytes}
use Rattle.hex.specs.Hex.{encode_with, decode_pairs}
use Rattle.lc_algebra.specs.Residue.{digits, number, plus, minus, times, top, up, times_x, product}
use Rattle.lc_algebra.specs.Field.{shape, shape_of, size, coefficients, add, mul, is_symbol}
use Rattle.lc_algebra.specs.Word.{word_sum, scale}
use Rattle.lc_algebra.specs.Span.{below, combine, words}
use Rattle.lc_algebra.specs.Divisor.{possible_divisors, divides_weights, weight_divisor, divisor_of, rounded}
use Rattle.lc_constructions.specs.Cyclic.{all_fields}
use Rattle.lc_constructions.specs.Refusals.{is_rising, columns_of, are_elements}
use Rattle.lc_enumeration.specs.Message.{supports, supports_from, numbers_from, nonzero_lists, leading_lists, messages, vector_from, vector_of, choose, message_count}
use Rattle.lc_enumeration.specs.Plan.{cut, phase_level, phase_set, level_blocks, blocks_before, total, phase_at, phase_ends, block_messages, place_of, plan_phases, phase_of}
use Rattle.lc_enumeration.specs.InformationSet.{same_word, in_span, greedy, dimension, is_member, first_basis, columns_in_order, with_fresh, next_set, sets_after, information_sets, unit_word, systematic, echelon_rows}
use Rattle.lc_enumeration.specs.Search.{sets_of, set_count, ranks_of, generator_at, word_of, block_words, word_at, beats, found_along, found_in_block, found_from, least_of, found_first, found_below, best, last_that, is_whole_below, level_below, levels_below, bound_sum, bound_of, bound, is_done, ends_of, answer_at, answer, may_end, finished, weight_at, fits, fits_settled}
use Rattle.lc_formats.specs.Certificate.{code_length, code_dimension, level_in, messages_through, cost_of, cost, words_through, seen_by, seen_words, is_lighter, first_lighter, span_divisor, claimed_sum, is_information_set, first_dependent, least_overlap, reaches, or_else, when, carrying, set_reasons, cost_reason, verdict, reason_number, reason_values}
use Rattle.lc_formats.specs.Json.{number_json, items, numbers_json, listed, each, plain_number, number_at, member_count, numbers_of, list_at, provided}
use Rattle.lc_formats.specs.Text.{same_bytes, bracketed, numbers_text, lists_text, line, spaced, with_values}
use Rattle.lc_formats.specs.CertificateText.{claim_members, claim_json, way_text, with_sets, certificate_members, certificate_json, certificate_text}
use Rattle.lc_formats.specs.Check.{reason_line, line_of_verdict, verdict_line, rows_at, field_at, fit, are_rows, is_scan, are_places, claim_in, sets_at, fresh_in_basis, above, certificate_over, levels_in, sets_in, way_in, distance_in, word_in, rows_in, parts_in, key_count, are_set_keys, set_total, is_beyond_limit, closed, field_in, is_version, object_in, data_in, verdict_of, distance_of}
use Rattle.lc_formats.specs.Checkpoint.{current_of, settled_json, body_members, body_of, sealed, checkpoint_text, checkpoint_refusal_number, is_whole, number_up_to, triple_of, is_in_range, settled_in, digest_in, script_in, done_in, state_in, point_or_shape, versioned, body_in}
use Rattle.lc_formats.specs.Truth.{divisor_in, whole_start, turn_allowance, start_of, misfit_of}
use Rattle.lc_enumeration.specs.Records.{found_of}
use Rattle.lc_enumeration.specs.Truth.{answer_blocks}
use Rattle.lc_enumeration.specs.Fitting.{first_divisible, start_before, used_start, misfit_at, count_current, too_many, misfit_from, misfit}
use Rattle.lc_formats.specs.Document.{kind_text, all_kinds, kind_at, object_at, with_keys, bytes_at, symbol_field, search_of, claim_of_kind, claim_from, part_keys, all_of, are_closed, is_long, is_tree_beyond_limit, plain_read, tree_closed, tree_distance_in, built_over, tree_word_in, is_tree_word, tree_claim_in, tree_field_in, either_version, document_of}
use Rattle.lc_formats.specs.Claim.{claim_total, claim_depth, pair_text, place_text, rows_json, claim_members_of, built_members, built_text, form_certificate}
use Rattle.lc_formats.specs.ClaimMeaning.{capped, refusal_of_verdict, search_refusal, first_number, field_of_size, form_refusal_in, form_refusal, form_of, in_code, subcode_refusal, pair_refusals, pair_length, pair_bound, place_bound, extended_bound, tree_reasons, verdict_after, not_attained}
use Rattle.lc_constructions.specs.Refusals.{too_large, bad_length, bad_argument, not_subfield, first_index, repeated_point, fields_differ, lengths_differ, form_refusals, extended_refusals, deleted_refusals, direct_sum_refusals, uuv_refusals, direct_product_refusals, degree_over, nested_refusals, concatenated_refusals, have_elements}
use Rattle.lc_constructions.specs.Refusal.{refusal_number, refuse_if, first_refusal}
use Rattle.lc_constructions.specs.Code.{is_length}
use Rattle.lc_constructions.specs.Alternant.{check_row, syndrome_at}
use Rattle.lc_constructions.specs.Basic.{all_lists}
use Rattle.lc_algebra.specs.Embedding.{is_subfield, first_from, first_that, root, embed}
use Rattle.lc_algebra.specs.Polynomial.{value_at}
use Rattle.lc_algebra.specs.Word.{word_dot}
use Rattle.lc_algebra.specs.Field.{pow, neg}

unfoldable pub algebra_computes : ⊤
unfolding digits number plus minus times top up times_x product shape shape_of size coefficients add mul is_symbol word_sum scale below combine words possible_divisors divides_weights weight_divisor divisor_of rounded
algebra_computes = tt

unfoldable pub search_computes : ⊤
unfolding algebra_computes supports supports_from numbers_from nonzero_lists leading_lists messages vector_from vector_of choose message_count cut phase_level phase_set level_blocks blocks_before total phase_at phase_ends block_messages place_of plan_phases phase_of same_word in_span greedy dimension is_member first_basis columns_in_order with_fresh next_set sets_after information_sets unit_word systematic echelon_rows sets_of set_count ranks_of generator_at word_of block_words word_at beats found_along found_in_block found_from least_of found_first found_below best last_that is_whole_below level_below levels_below bound_sum bound_of bound is_done ends_of answer_at answer may_end finished weight_at fits fits_settled
search_computes = tt

unfoldable pub certificate_computes : ⊤
unfolding search_computes code_length code_dimension level_in messages_through cost_of cost words_through seen_by seen_words is_lighter first_lighter span_divisor claimed_sum is_information_set first_dependent least_overlap reaches or_else when carrying set_reasons cost_reason verdict reason_number reason_values
certificate_computes = tt

unfoldable pub json_computes : ⊤
unfolding serde_json_on_literals decimal_digits escape_byte number_json items numbers_json listed each plain_number number_at member_count numbers_of list_at provided same_bytes bracketed numbers_text lists_text line spaced with_values
json_computes = tt

unfoldable pub reading_computes : ⊤
unfolding json_computes all_fields is_rising columns_of are_elements claim_members claim_json way_text with_sets certificate_members certificate_json certificate_text reason_line line_of_verdict verdict_line rows_at field_at fit are_rows is_scan are_places claim_in sets_at fresh_in_basis above certificate_over levels_in sets_in way_in distance_in word_in rows_in parts_in key_count are_set_keys set_total is_beyond_limit closed field_in is_version object_in data_in verdict_of distance_of
reading_computes = tt

unfoldable pub seal_computes : ⊤
unfolding encode_with decode_pairs first_words schedule rounds compress hash_after digest_bytes sha256
seal_computes = tt

unfoldable pub checkpoint_computes : ⊤
unfolding json_computes seal_computes current_of settled_json body_members body_of sealed checkpoint_text checkpoint_refusal_number is_whole number_up_to triple_of is_in_range settled_in digest_in script_in done_in state_in point_or_shape versioned body_in
checkpoint_computes = tt

unfoldable pub truth_computes : ⊤
unfolding search_computes found_of first_divisible start_before used_start misfit_at count_current too_many misfit_from misfit current_of divisor_in whole_start turn_allowance answer_blocks start_of misfit_of
truth_computes = tt

unfoldable pub claim_computes : ⊤
unfolding certificate_computes reading_computes word_dot pow neg is_subfield first_from first_that root embed value_at all_lists check_row syndrome_at is_length refusal_number refuse_if first_refusal too_large bad_length bad_argument not_subfield first_index repeated_point fields_differ lengths_differ form_refusals extended_refusals deleted_refusals direct_sum_refusals uuv_refusals direct_product_refusals degree_over nested_refusals concatenated_refusals have_elements claim_total claim_depth pair_text place_text rows_json claim_members_of built_members built_text form_certificate capped refusal_of_verdict search_refusal first_number field_of_size form_refusal_in form_refusal form_of in_code subcode_refusal pair_refusals pair_length pair_bound place_bound extended_bound tree_reasons verdict_after not_attained kind_text all_kinds kind_at object_at with_keys bytes_at symbol_field search_of claim_of_kind claim_from part_keys all_of are_closed is_long is_tree_beyond_limit plain_read tree_closed tree_distance_in built_over tree_word_in is_tree_word tree_claim_in tree_field_in either_version document_of
claim_computes = tt
