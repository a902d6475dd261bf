-- Worked certificates of the Hamming code of length 7, by evaluation of the definitions. The sets are its two information sets.
--   valid              accepted
--   wrong_distance     with distance 4: the word's weight is 3
--   short_level        with level 0 for the second set: the levels give only 2
--   outside            a word of weight 1 that isn't in the code
--   dependent          a second basis whose columns are dependent
--   overlap            a place that is fresh in both sets
--   short_for_seven    the word of seven ones at distance 7, with levels that give 3
--   lighter            the word of seven ones: a seen word is lighter, where all levels are stated
--   scanned, scanned_seven     certificates by a scan: accepted, and a lighter word
--   costs, cost_reasons        what certificates cost, and when a cost is refused, with what is told of it
use Rattle.std.proofs.Common.{◌≡◌, refl}
use Rattle.std.specs.Prelude.{ℕ, List, [], ◌∷◌, map, Some, None}
use Rattle.lc_algebra.specs.declared.FieldName.TheVariants.{Gf2}
use Rattle.lc_formats.specs.Certificate.{Certificate, SetClaim, levels, scan, accepted, rejected, word_weight, word_not_in_code, set_not_information, fresh_overlap, bound_short, seen_lighter, too_costly, cost, cost_reason, verdict}
use Rattle.lc_formats.proofs.Evaluated.{certificate_computes}

abbrev pub claim : List ℕ → List ℕ → ℕ → SetClaim
claim basis fresh level = record { basis = basis; fresh = fresh; level = level }

abbrev pub first_claim : ℕ → SetClaim
first_claim level = claim (0 ∷ 1 ∷ 2 ∷ 3 ∷ []) (0 ∷ 1 ∷ 2 ∷ 3 ∷ []) level

abbrev pub hamming_with : List ℕ → ℕ → List SetClaim → Certificate
hamming_with word distance claims = record {
  field = Gf2;
  rows = (1 ∷ 0 ∷ 0 ∷ 0 ∷ 0 ∷ 1 ∷ 1 ∷ []) ∷ (0 ∷ 1 ∷ 0 ∷ 0 ∷ 1 ∷ 0 ∷ 1 ∷ []) ∷ (0 ∷ 0 ∷ 1 ∷ 0 ∷ 1 ∷ 1 ∷ 0 ∷ []) ∷ (0 ∷ 0 ∷ 0 ∷ 1 ∷ 1 ∷ 1 ∷ 1 ∷ []) ∷ [];
  word = word;
  distance = distance;
  proof = levels claims;
}

abbrev pub row : List ℕ
row = 1 ∷ 0 ∷ 0 ∷ 0 ∷ 0 ∷ 1 ∷ 1 ∷ []

abbrev pub ones : List ℕ
ones = 1 ∷ 1 ∷ 1 ∷ 1 ∷ 1 ∷ 1 ∷ 1 ∷ []

abbrev pub two : ℕ → ℕ → List SetClaim
two first second = first_claim first ∷ claim (0 ∷ 4 ∷ 5 ∷ 6 ∷ []) (4 ∷ 5 ∷ 6 ∷ []) second ∷ []

pub valid : verdict (hamming_with row 3 (two 1 1)) ≡ accepted
unfolding certificate_computes
valid = refl

pub wrong_distance : verdict (hamming_with row 4 (two 1 1)) ≡ rejected (word_weight 3)
unfolding certificate_computes
wrong_distance = refl

pub short_level : verdict (hamming_with row 3 (two 1 0)) ≡ rejected (bound_short 2)
unfolding certificate_computes
short_level = refl

pub outside : verdict (hamming_with (1 ∷ 0 ∷ 0 ∷ 0 ∷ 0 ∷ 0 ∷ 0 ∷ []) 1 (two 1 1)) ≡ rejected word_not_in_code
unfolding certificate_computes
outside = refl

pub dependent : verdict (hamming_with row 3 (first_claim 1 ∷ claim (0 ∷ 1 ∷ 4 ∷ 5 ∷ []) (4 ∷ 5 ∷ []) 1 ∷ [])) ≡ rejected (set_not_information 2)
unfolding certificate_computes
dependent = refl

pub overlap : verdict (hamming_with row 3 (first_claim 1 ∷ claim (0 ∷ 4 ∷ 5 ∷ 6 ∷ []) (0 ∷ 4 ∷ []) 1 ∷ [])) ≡ rejected (fresh_overlap 0)
unfolding certificate_computes
overlap = refl

pub short_for_seven : verdict (hamming_with ones 7 (two 1 1)) ≡ rejected (bound_short 3)
unfolding certificate_computes
short_for_seven = refl

pub lighter : verdict (hamming_with ones 7 (two 4 1)) ≡ rejected (seen_lighter row)
unfolding certificate_computes
lighter = refl

abbrev pub by_scan : List ℕ → ℕ → Certificate
by_scan word distance = record (hamming_with word distance []) { proof = scan }

pub scanned : verdict (by_scan row 3) ≡ accepted
unfolding certificate_computes
scanned = refl

pub scanned_seven : verdict (by_scan ones 7) ≡ rejected (seen_lighter row)
unfolding certificate_computes
scanned_seven = refl

pub costs : map cost (by_scan row 3 ∷ hamming_with row 3 (two 1 1) ∷ hamming_with row 3 (two 2 9) ∷ hamming_with row 3 (two 0 0) ∷ []) ≡ 16 ∷ 8 ∷ 25 ∷ 0 ∷ []
unfolding certificate_computes
costs = refl

pub cost_reasons : map cost_reason (4294967296 ∷ 4294967297 ∷ 8589934592 ∷ 18446744073709551616 ∷ []) ≡ None ∷ Some (too_costly 4294967297) ∷ Some (too_costly 8589934592) ∷ Some (too_costly 18446744073709551615) ∷ []
unfolding certificate_computes
cost_reasons = refl
