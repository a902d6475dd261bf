-- A search for a word of a code that is nearest to a given word, by error patterns on the information sets. C is a code with k
-- independent rows of length n, and x a word of length n.
--   patterns k q w                     the error patterns of length k with w nonzero entries: supports in lexicographic order,
--                                      then coefficients in lexicographic order; for w = 0 the zero pattern alone
--   pattern_count k q w                how many there are
--   coset_level m p, coset_set m p     the level and the set of phase p: level 0 for each set, then level 1, and so on
--   coset_level_blocks k q w           how many blocks of 4,096 the patterns of level w make
--   coset_blocks_before k q m p        how many blocks the first p phases have
--   coset_total k q m                  how many blocks there are, at most 2^40
--   coset_phase k q m b                the phase of block b; None past the last one
--   coset_ends k q m                   the ends of the phases that lie below 2^40
--   coset_word C x j pattern           the word of the code that equals x less the pattern on the basis of set j
--   coset_words C x b                  the words of the patterns of block b, in order
--   coset_word_at C x place            the word at a place; None if there is none
--   near_in_block C x b                the distances from x and the places of the words of block b
--   near_from C x first count          those of the words of the blocks from the first on, so many blocks
--   near_first C x                     that of the word at place 0: the one that equals x on the first basis
--   near_best C x l                    the least pair of distance and place among place 0 and the places of the blocks below l
--   levels_done C l                    set by set, how many levels have phases that lie wholly below l: 0 to k + 1
--   near_sum k ranks done              the sum over the sets of levels done - (k - rank), taken as 0 where it is negative
--   near_bound C x l                   no word of the code is nearer than the lesser of this and the best distance
--   NearAnswer                         whether it is exact, the lower end, the distance from x, the word, and the blocks
--   near_answer C x budget             exact at the least of 0 and the phase ends up to the budget at which the bound has reached
--                                      the best distance, and else the bracket at the budget; for k = 0 the zero word
--   NearHolds C x a                    the word is in the code and has the distance; no word is nearer than the lower end, and if
--                                      the answer is exact none is nearer than the word
use Rattle.std.specs.Prelude.{◌≡◌, ℕ, zero, suc, ◌+◌, ◌-◌, ◌*◌, ◌/◌, ◌%◌, ◌^◌, ◌≤◌, min, Bool, true, false, nat_le, nat_lt, ◌==◌, ◌&&◌, if◌then◌else◌, List, [], ◌∷◌, length, map, slice_index, slice_index_or, filter, find, flat_map, take, drop, slice_get, unwrap_or, Option, Some, None, option_map}
use Rattle.lc_algebra.specs.Field.{size}
use Rattle.lc_algebra.specs.Word.{zero_word, difference, weight, distance}
use Rattle.lc_algebra.specs.Span.{InSpan, below, words}
use Rattle.lc_algebra.specs.Matrix.{Matrix}
use Rattle.lc_enumeration.specs.Message.{Message, supports, nonzero_lists, numbers_from, vector_of, choose}
use Rattle.lc_enumeration.specs.Plan.{cut, place_of}
use Rattle.lc_enumeration.specs.InformationSet.{is_member, same_word}
use Rattle.lc_enumeration.specs.Search.{Found, sets_of, set_count, ranks_of, found_along, least_of, last_that}

unfoldable pub patterns : ℕ → ℕ → ℕ → List Message
patterns k q w = flat_map (λ s. map (λ u. record { support = s; coefficients = u }) (nonzero_lists q w)) (supports k w)

unfoldable pub pattern_count : ℕ → ℕ → ℕ → ℕ
pattern_count k q w = choose k w * (q - 1) ^ w

unfoldable pub coset_level : ℕ → ℕ → ℕ
coset_level m p = p / m

unfoldable pub coset_set : ℕ → ℕ → ℕ
coset_set m p = p % m

unfoldable pub coset_level_blocks : ℕ → ℕ → ℕ → ℕ
coset_level_blocks k q w = (pattern_count k q w + 4095) / 4096

unfoldable pub coset_blocks_before : ℕ → ℕ → ℕ → ℕ → ℕ
coset_blocks_before k q m zero = 0
coset_blocks_before k q m (suc p) = coset_blocks_before k q m p + coset_level_blocks k q (coset_level m p)

-- the phases of the levels 0 to k
unfoldable pub coset_phases : ℕ → ℕ → ℕ
coset_phases k m = (k + 1) * m

unfoldable pub coset_total : ℕ → ℕ → ℕ → ℕ
coset_total k q m = min (coset_blocks_before k q m (coset_phases k m)) cut

unfoldable pub coset_phase : ℕ → ℕ → ℕ → ℕ → Option ℕ
coset_phase k q m b = find (λ p. nat_le (coset_blocks_before k q m p) b && nat_lt b (min (coset_blocks_before k q m (suc p)) cut)) (below (coset_phases k m))

unfoldable pub coset_ends : ℕ → ℕ → ℕ → List ℕ
coset_ends k q m = filter (λ end. nat_lt end cut) (map (λ p. coset_blocks_before k q m (suc p)) (below (coset_phases k m)))

unfoldable pub basis_of : Matrix → ℕ → List ℕ
basis_of C j = (slice_index_or (sets_of C) j (record { basis = []; fresh = [] })).basis

unfoldable pub coset_word : Matrix → List ℕ → ℕ → Message → List ℕ
coset_word C x j pattern = unwrap_or (find (λ c. same_word (map (slice_index c) (basis_of C j)) (difference C.field (map (slice_index x) (basis_of C j)) (vector_of (length C.rows) pattern))) (words C.field C.columns C.rows)) (zero_word C.columns)

unfoldable pub coset_patterns : ℕ → ℕ → ℕ → ℕ → ℕ → List Message
coset_patterns k q m p b = take 4096 (drop (4096 * (b - coset_blocks_before k q m p)) (patterns k q (coset_level m p)))

unfoldable pub coset_words : Matrix → List ℕ → ℕ → List (List ℕ)
coset_words C x b = unwrap_or (option_map (λ p. map (coset_word C x (coset_set (set_count C) p)) (coset_patterns (length C.rows) (size C.field) (set_count C) p b)) (coset_phase (length C.rows) (size C.field) (set_count C) b)) []

unfoldable pub coset_word_at : Matrix → List ℕ → ℕ → Option (List ℕ)
coset_word_at C x place = slice_get (coset_words C x (place / 4096)) (place % 4096)

unfoldable pub near_in_block : Matrix → List ℕ → ℕ → List Found
near_in_block C x b = found_along (place_of b 0) (map (difference C.field x) (coset_words C x b))

unfoldable pub near_from : Matrix → List ℕ → ℕ → ℕ → List Found
near_from C x first count = flat_map (near_in_block C x) (numbers_from first count)

unfoldable pub near_first : Matrix → List ℕ → Found
near_first C x = record { weight = distance C.field x (coset_word C x 0 (record { support = []; coefficients = [] })); place = 0 }

unfoldable pub near_best : Matrix → List ℕ → ℕ → Found
near_best C x l = least_of (near_first C x) (near_first C x ∷ near_from C x 0 l)

-- whether level n - 1 of set j, which is phase (n - 1) m + j, ends at or before l, and before the cut
unfoldable pub is_coset_level_done : ℕ → ℕ → ℕ → ℕ → ℕ → ℕ → Bool
is_coset_level_done k q m l j n = nat_le (coset_blocks_before k q m ((n - 1) * m + suc j)) l && nat_lt (coset_blocks_before k q m ((n - 1) * m + suc j)) cut

unfoldable pub levels_done : Matrix → ℕ → List ℕ
levels_done C l = map (λ j. last_that (is_coset_level_done (length C.rows) (size C.field) (set_count C) l j) (length C.rows + 1)) (below (set_count C))

unfoldable pub near_sum : ℕ → List ℕ → List ℕ → ℕ
near_sum k (r ∷ ranks) (n ∷ done) = (n - (k - r)) + near_sum k ranks done
near_sum k _ _ = 0

unfoldable pub near_bound : Matrix → List ℕ → ℕ → ℕ
near_bound C x l = (if is_member (levels_done C l) (length C.rows + 1) then (near_best C x l).weight else near_sum (length C.rows) (ranks_of C) (levels_done C l))

unfoldable pub is_near_done : Matrix → List ℕ → ℕ → Bool
is_near_done C x l = nat_le (near_best C x l).weight (near_bound C x l)

pub record NearAnswer : Type 0 where
  pub exact : Bool
  pub low : ℕ
  pub weight : ℕ
  pub word : List ℕ
  pub blocks : ℕ

unfoldable pub near_at : Matrix → List ℕ → ℕ → Option ℕ → NearAnswer
near_at C x budget (Some l) = record { exact = true; low = (near_best C x l).weight; weight = (near_best C x l).weight; word = unwrap_or (coset_word_at C x (near_best C x l).place) []; blocks = l }
near_at C x budget None = record { exact = false; low = near_bound C x budget; weight = (near_best C x budget).weight; word = unwrap_or (coset_word_at C x (near_best C x budget).place) []; blocks = budget }

unfoldable pub near_answer : Matrix → List ℕ → ℕ → NearAnswer
near_answer C x budget = (if length C.rows == 0 then record { exact = true; low = weight x; weight = weight x; word = zero_word C.columns; blocks = 0 } else near_at C x budget (find (is_near_done C x) (0 ∷ filter (λ end. nat_le end budget) (coset_ends (length C.rows) (size C.field) (set_count C)))))

pub record NearHolds (C : Matrix) (x : List ℕ) (a : NearAnswer) : Type 0 where
  pub inside : InSpan C.field C.columns C.rows a.word
  pub distance_is : distance C.field x a.word ≡ a.weight
  pub at_least : (v : List ℕ) → InSpan C.field C.columns C.rows v → a.low ≤ distance C.field x v
  pub nearest : a.exact ≡ true → a.low ≡ a.weight
