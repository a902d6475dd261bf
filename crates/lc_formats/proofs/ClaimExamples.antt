-- Worked certificates by construction: those of the Reed-Solomon code of length 4 by its alternant form, and what the claims define.
--   written                    the text of its certificate
--   reads_back                 its text, read
--   accepted_form, accepted_short      it is accepted; so is a form without checks, of length 2
--   other_multipliers, beyond_bound, equal_points, no_field      another code; a distance above the bound; refusals of the form
--   attained                   a word of weight r + 1, and words that have another weight or aren't of the code
--   accepted_pair              (u|u+v) of the whole plane and a repetition code: 2, the lesser of twice 1 and 2
--   subcodes                   rows of the code, a row outside it, a row of another length
--   pair_bounds, place_bounds, extended_bounds, caps      the bounds of combined codes
--   numbering                  a refused part has its number in the tree
use Rattle.std.proofs.Common.{◌≡◌, ℕ, refl, ◌∙◌}
use Rattle.std.specs.Prelude.{List, [], ◌∷◌, map, codes, Some, None}
use Rattle.lc_algebra.specs.declared.FieldName.TheVariants.{Gf2, Gf3, Gf5}
use Rattle.lc_algebra.specs.Matrix.{Matrix}
use Rattle.lc_constructions.specs.Code.{IsCode}
use Rattle.lc_constructions.specs.Alternant.{AlternantForm, IsAlternantWord}
use Rattle.lc_algebra.specs.Span.{InSpan}
use Rattle.lc_constructions.specs.Combined.{InUuv}
use Rattle.lc_enumeration.specs.InformationSet.{in_span}
use Rattle.lc_enumeration.proofs.MemberLaws.{in_span_true, true_in_span}
use Rattle.lc_formats.specs.Certificate.{Certificate, scan, accepted, rejected, word_not_in_code, claim_short, part_refused}
use Rattle.lc_formats.specs.Claim.{Claim, search, alternant, pair, uuv, direct_sum, product, puncture, shorten, Built, tree, built_text, form_certificate}
use Rattle.lc_formats.specs.ClaimMeaning.{code_with, refused_at, capped, form_of, subcode_refusal, pair_bound, place_bound, extended_bound, HasOutcome, IsTreeVerdict, not_attained}
use Rattle.lc_formats.specs.Document.{document_in, document}
use Rattle.lc_formats.proofs.Plainly.{document_plainly}
use Rattle.lc_formats.proofs.CodeTests.{is_uuv, uuv_holds, uuv_passes, is_alternant, alternant_holds, alternant_passes, code_from_test}
use Rattle.lc_formats.proofs.Evaluated.{claim_computes}

abbrev pub points : List ℕ
points = 1 ∷ 2 ∷ 4 ∷ 3 ∷ []

abbrev pub code : List (List ℕ) → Matrix
code rows = record { field = Gf5; columns = 4; rows = rows }

abbrev pub reed_solomon : List (List ℕ)
reed_solomon = (1 ∷ 0 ∷ 3 ∷ 4 ∷ []) ∷ (0 ∷ 1 ∷ 3 ∷ 2 ∷ []) ∷ []

abbrev pub form : AlternantForm
form = record { locator = Gf5; points = points; multipliers = points; r = 2 }

abbrev pub by_form : List ℕ → List ℕ → ℕ → List ℕ → ℕ → Built
by_form places multipliers r word distance = record { field = Gf5; claim = alternant 5 places multipliers r; word = word; distance = distance }

abbrev pub line_of_form : List ℕ
line_of_form = codes "{\"claim\":{\"kind\":\"alternant\",\"locator\":5,\"multipliers\":[1,2,4,3],\"points\":[1,2,4,3],\"r\":2},\"distance\":3,\"field\":5,\"version\":2,\"word\":[1,0,3,4]}"

pub written : built_text (form_certificate Gf5 form (1 ∷ 0 ∷ 3 ∷ 4 ∷ [])) ≡ line_of_form
unfolding claim_computes
written = refl

pub reads_back : document_in line_of_form ≡ document (tree (form_certificate Gf5 form (1 ∷ 0 ∷ 3 ∷ 4 ∷ [])))
unfolding claim_computes
reads_back = document_plainly line_of_form refl ∙ refl

words_of_form : IsCode Gf5 4 (IsAlternantWord Gf5 (form_of Gf5 5 points points 2)) (code reed_solomon)
unfolding claim_computes is_alternant
words_of_form = code_from_test Gf5 4 (0 ∷ 1 ∷ []) reed_solomon (is_alternant Gf5 (form_of Gf5 5 points points 2)) (IsAlternantWord Gf5 (form_of Gf5 5 points points 2)) (alternant_holds Gf5 (form_of Gf5 5 points points 2)) (alternant_passes Gf5 (form_of Gf5 5 points points 2)) refl

pub accepted_form : IsTreeVerdict (by_form points points 2 (1 ∷ 0 ∷ 3 ∷ 4 ∷ []) 3) accepted
unfolding claim_computes
accepted_form = (code_with (code reed_solomon) 3, (code reed_solomon, words_of_form, refl), refl)

pub beyond_bound : IsTreeVerdict (by_form points points 2 (1 ∷ 1 ∷ 1 ∷ 1 ∷ []) 4) (rejected (claim_short 3))
unfolding claim_computes
beyond_bound = (code_with (code reed_solomon) 3, (code reed_solomon, words_of_form, refl), refl)

abbrev ones : List ℕ
ones = 1 ∷ 1 ∷ 1 ∷ 1 ∷ []

abbrev of_ones : List (List ℕ)
of_ones = (1 ∷ 0 ∷ 2 ∷ 2 ∷ []) ∷ (0 ∷ 1 ∷ 1 ∷ 3 ∷ []) ∷ []

words_of_ones : IsCode Gf5 4 (IsAlternantWord Gf5 (form_of Gf5 5 points ones 2)) (code of_ones)
unfolding claim_computes is_alternant
words_of_ones = code_from_test Gf5 4 (0 ∷ 1 ∷ []) of_ones (is_alternant Gf5 (form_of Gf5 5 points ones 2)) (IsAlternantWord Gf5 (form_of Gf5 5 points ones 2)) (alternant_holds Gf5 (form_of Gf5 5 points ones 2)) (alternant_passes Gf5 (form_of Gf5 5 points ones 2)) refl

pub other_multipliers : IsTreeVerdict (by_form points ones 2 (1 ∷ 0 ∷ 3 ∷ 4 ∷ []) 3) (rejected word_not_in_code)
unfolding claim_computes
other_multipliers = (code_with (code of_ones) 3, (code of_ones, words_of_ones, refl), refl)

pub equal_points : IsTreeVerdict (by_form (1 ∷ 2 ∷ 4 ∷ 4 ∷ []) points 2 (1 ∷ 0 ∷ 3 ∷ 4 ∷ []) 3) (rejected (part_refused 0 8))
unfolding claim_computes
equal_points = (refused_at 0 8, refl, refl)

pub no_field : IsTreeVerdict (record { field = Gf5; claim = alternant 6 points points 2; word = 1 ∷ 0 ∷ 3 ∷ 4 ∷ []; distance = 3 }) (rejected (part_refused 0 1))
unfolding claim_computes
no_field = (refused_at 0 1, refl, refl)

-- the whole space of length 2 over 3 elements, as a form without checks
abbrev no_checks : Built
no_checks = record { field = Gf3; claim = alternant 3 (1 ∷ 2 ∷ []) (1 ∷ 2 ∷ []) 0; word = 1 ∷ 0 ∷ []; distance = 1 }

abbrev plane : Matrix
plane = record { field = Gf3; columns = 2; rows = (1 ∷ 0 ∷ []) ∷ (0 ∷ 1 ∷ []) ∷ [] }

words_of_plane : IsCode Gf3 2 (IsAlternantWord Gf3 (form_of Gf3 3 (1 ∷ 2 ∷ []) (1 ∷ 2 ∷ []) 0)) plane
unfolding claim_computes is_alternant
words_of_plane =
    let short = form_of Gf3 3 (1 ∷ 2 ∷ []) (1 ∷ 2 ∷ []) 0 in
    code_from_test Gf3 2 (0 ∷ 1 ∷ []) ((1 ∷ 0 ∷ []) ∷ (0 ∷ 1 ∷ []) ∷ []) (is_alternant Gf3 short) (IsAlternantWord Gf3 short) (alternant_holds Gf3 short) (alternant_passes Gf3 short) refl

pub accepted_short : IsTreeVerdict no_checks accepted
unfolding claim_computes
accepted_short = (code_with plane 1, (plane, words_of_plane, refl), refl)

pub attained : map (not_attained (code reed_solomon) form) ((1 ∷ 0 ∷ 3 ∷ 4 ∷ []) ∷ (1 ∷ 1 ∷ 1 ∷ 1 ∷ []) ∷ (1 ∷ 0 ∷ 3 ∷ 0 ∷ []) ∷ (1 ∷ 2 ∷ 3 ∷ 0 ∷ []) ∷ []) ≡ None ∷ Some (4, 3) ∷ Some (2, 3) ∷ Some (3, 3) ∷ []
unfolding claim_computes
attained = refl

pub pair_bounds : pair_bound uuv 3 4 ∷ pair_bound uuv 2 5 ∷ pair_bound direct_sum 3 4 ∷ pair_bound product 3 4 ∷ [] ≡ 4 ∷ 4 ∷ 3 ∷ 12 ∷ []
unfolding claim_computes
pair_bounds = refl

pub subcodes : map (subcode_refusal (code reed_solomon)) (reed_solomon ∷ ((1 ∷ 0 ∷ 0 ∷ 0 ∷ []) ∷ []) ∷ ((1 ∷ 0 ∷ 3 ∷ []) ∷ []) ∷ []) ≡ None ∷ Some 33 ∷ Some 12 ∷ []
unfolding claim_computes
subcodes = refl

pub place_bounds : place_bound puncture 5 2 ∷ place_bound puncture 3 5 ∷ place_bound shorten 3 5 ∷ [] ≡ 3 ∷ 1 ∷ 3 ∷ []
unfolding claim_computes
place_bounds = refl

pub extended_bounds : map (extended_bound Gf2) (1 ∷ 3 ∷ 4 ∷ []) ≡ 2 ∷ 4 ∷ 4 ∷ []
unfolding claim_computes
extended_bounds = refl

pub others_extended : map (extended_bound Gf3) (1 ∷ 3 ∷ 4 ∷ []) ≡ 1 ∷ 3 ∷ 4 ∷ []
unfolding claim_computes
others_extended = refl

pub caps : map capped (255 ∷ 256 ∷ 257 ∷ 65536 ∷ []) ≡ 255 ∷ 256 ∷ 256 ∷ 256 ∷ []
unfolding claim_computes
caps = refl

-- the fourth claim of the tree: the second part of the second part
abbrev bad : Claim
bad = alternant 6 points points 2

abbrev good : Claim
good = alternant 5 points points 2

pub numbering : HasOutcome Gf5 0 (pair direct_sum good (pair uuv good bad)) (refused_at 4 1)
unfolding claim_computes
numbering = (code_with (code reed_solomon) 3, (code reed_solomon, words_of_form, refl), (refused_at 4 1, (code_with (code reed_solomon) 3, (code reed_solomon, words_of_form, refl), (refused_at 4 1, refl, refl)), refl))

abbrev of_plane : Certificate
of_plane = record { field = Gf2; rows = (1 ∷ 0 ∷ []) ∷ (0 ∷ 1 ∷ []) ∷ []; word = 1 ∷ 0 ∷ []; distance = 1; proof = scan }

abbrev of_repetition : Certificate
of_repetition = record { field = Gf2; rows = (1 ∷ 1 ∷ []) ∷ []; word = 1 ∷ 1 ∷ []; distance = 2; proof = scan }

abbrev span_of : Certificate → Matrix
span_of c = record { field = Gf2; columns = 2; rows = c.rows }

plane_words : IsCode Gf2 2 (InSpan Gf2 2 of_plane.rows) (span_of of_plane)
unfolding claim_computes
plane_words = code_from_test Gf2 2 (0 ∷ 1 ∷ []) of_plane.rows (in_span Gf2 2 of_plane.rows) (InSpan Gf2 2 of_plane.rows) (in_span_true Gf2 2 of_plane.rows) (true_in_span Gf2 2 of_plane.rows) refl

repetition_words : IsCode Gf2 2 (InSpan Gf2 2 of_repetition.rows) (span_of of_repetition)
unfolding claim_computes
repetition_words = code_from_test Gf2 2 (0 ∷ []) of_repetition.rows (in_span Gf2 2 of_repetition.rows) (InSpan Gf2 2 of_repetition.rows) (in_span_true Gf2 2 of_repetition.rows) (true_in_span Gf2 2 of_repetition.rows) refl

abbrev paired : Matrix
paired = record { field = Gf2; columns = 4; rows = (1 ∷ 0 ∷ 0 ∷ 1 ∷ []) ∷ (0 ∷ 1 ∷ 0 ∷ 1 ∷ []) ∷ (0 ∷ 0 ∷ 1 ∷ 1 ∷ []) ∷ [] }

paired_words : IsCode Gf2 4 (InUuv (span_of of_plane) (span_of of_repetition)) paired
unfolding claim_computes is_uuv
paired_words = code_from_test Gf2 4 (0 ∷ 1 ∷ 2 ∷ []) paired.rows (is_uuv (span_of of_plane) (span_of of_repetition)) (InUuv (span_of of_plane) (span_of of_repetition)) (uuv_holds (span_of of_plane) (span_of of_repetition)) (uuv_passes (span_of of_plane) (span_of of_repetition)) refl

pub accepted_pair : IsTreeVerdict (record { field = Gf2; claim = pair uuv (search of_plane) (search of_repetition); word = 1 ∷ 0 ∷ 1 ∷ 0 ∷ []; distance = 2 }) accepted
unfolding claim_computes
accepted_pair = (code_with paired 2, (code_with (span_of of_plane) 1, (span_of of_plane, plane_words, refl), (code_with (span_of of_repetition) 2, (span_of of_repetition, repetition_words, refl), (paired, paired_words, refl))), refl)
