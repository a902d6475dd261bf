-- What a search for the minimum distance knows after some blocks, and what it answers (Grassl's description of the method of
-- Brouwer and Zimmermann). C is a code: a field, its length n, and k independent rows, k at least 1. m is how many of its
-- information sets the plan goes through: the search takes all of them. d is a number that divides all weights of the code.
--   sets_of C, set_count C           the information sets of the code, and how many there are
--   ranks_of C                       the number of fresh columns of each set
--   generator_at C j                 the generator matrix that is the identity on the basis of set j
--   word_of C m p message            the word of a message in phase p: the sum of its multiples of the rows of the phase's set
--   partial_words C m p message      the words of the fronts of a message: of its first entry, of its first two, and so on
--   Found                            the weight of a word, and its place
--   block_words C m b                the words of block b, in order; none past the plan's end
--   word_at C m place                the word at a place; None if there is none
--   beats a b                        whether a is lighter than b, or as light and at a lesser place
--   found_in_block C m b             the weights and places of the words of block b, in order
--   found_from C m first count       those of the words of the blocks from the first on, so many blocks
--   found_first C m                  that of the word at place 0
--   found_below C m l                that of the word at place 0, and those of the words of the blocks below l
--   least_of a others                the one that none of them beats
--   least_in founds                  the one that none of some beats; None if there is none
--   block_least C m b                the least pair of weight and place of block b; None past the plan's end
--   best C m l                       the least pair of weight and place among those
--   level_below C l j                the last level of set j whose phase lies wholly below l; 0 if there is none
--   levels_below C l                 these levels, set by set
--   bound_sum k ranks levels         the sum over the sets of level + 1 - (k - rank), taken as 0 where it is negative
--   bound_of d k ranks levels weight the lower bound that whole levels give: the weight itself if some level is k, else the
--                                    least multiple of d that is at least 1 and at least the sum
--   bound d C l weight               the bound after l blocks
--   is_done d C l                    whether the bound after l blocks has reached the weight of the best word
--   Answer                           no word; an exact distance with its word and the blocks; or a lower end, a word and the blocks
--   answer d C budget                exact at the least of 0 and the phase ends up to the budget at which the search is done, and
--                                    else the bracket at the budget
--   may_end C l                      whether a state at l may be exact: 0, a phase end, or past the end of a plan that isn't cut
--   finished d C budget l state      what is answered in the state that a session is in; None if it goes on
--   board_value found                what a worker reports: the weight times 2^52 plus the place
--   weight_at C place                the weight of the word at the place; 0 if there is none
--   fits C l found                   a record of l blocks fits its need: the place is 0 or below the blocks' places, there is a
--                                    word, and it has the weight
--   fits_settled d C budget l found  besides, the search is answered in that state
use Rattle.std.specs.Prelude.{ℕ, zero, suc, ◌+◌, ◌-◌, ◌*◌, ◌/◌, ◌%◌, ◌^◌, max, Bool, nat_le, nat_lt, ◌==◌, ◌&&◌, ◌||◌, cond, if◌then◌else◌, List, [], ◌∷◌, length, map, slice_index_or, filter, find, flat_map, take, slice_get, unwrap_or, is_some, Option, Some, None, option_map}
use Rattle.lc_algebra.specs.Field.{size}
use Rattle.lc_algebra.specs.Word.{weight}
use Rattle.lc_algebra.specs.Span.{combine, below}
use Rattle.lc_algebra.specs.Matrix.{Matrix}
use Rattle.lc_algebra.specs.Divisor.{rounded}
use Rattle.lc_enumeration.specs.Message.{Message, vector_of, numbers_from}
use Rattle.lc_enumeration.specs.Plan.{cut, phase_set, blocks_before, block_messages, place_of, total, phase_ends, phase_of}
use Rattle.lc_enumeration.specs.InformationSet.{InformationSet, information_sets, is_member, systematic}

unfoldable pub sets_of : Matrix → List InformationSet
sets_of C = information_sets C.field C.columns C.rows

unfoldable pub set_count : Matrix → ℕ
set_count C = length (sets_of C)

unfoldable pub ranks_of : Matrix → List ℕ
ranks_of C = map (λ s. length s.fresh) (sets_of C)

unfoldable pub generator_at : Matrix → ℕ → List (List ℕ)
generator_at C j = systematic C.field C.columns C.rows (slice_index_or (sets_of C) j (record { basis = []; fresh = [] })).basis

unfoldable pub word_of : Matrix → ℕ → ℕ → Message → List ℕ
word_of C m p message = combine C.field C.columns (vector_of (length C.rows) message) (generator_at C (phase_set m p))

unfoldable pub front_of : Message → ℕ → Message
front_of message n = record { support = take n message.support; coefficients = take n message.coefficients }

unfoldable pub partial_words : Matrix → ℕ → ℕ → Message → List (List ℕ)
partial_words C m p message = map (λ i. word_of C m p (front_of message (suc i))) (below (length message.support))

pub record Found : Type 0 where
  pub weight : ℕ
  pub place : ℕ

unfoldable pub block_words : Matrix → ℕ → ℕ → List (List ℕ)
block_words C m b = unwrap_or (option_map (λ p. map (word_of C m p) (block_messages (length C.rows) (size C.field) m p b)) (phase_of (length C.rows) (size C.field) m b)) []

unfoldable pub word_at : Matrix → ℕ → ℕ → Option (List ℕ)
word_at C m place = slice_get (block_words C m (place / 4096)) (place % 4096)

unfoldable pub beats : Found → Found → Bool
beats a b = nat_lt a.weight b.weight || ((a.weight == b.weight) && nat_lt a.place b.place)

unfoldable pub found_along : ℕ → List (List ℕ) → List Found
found_along place [] = []
found_along place (w ∷ words) = record { weight = weight w; place = place } ∷ found_along (suc place) words

unfoldable pub found_in_block : Matrix → ℕ → ℕ → List Found
found_in_block C m b = found_along (place_of b 0) (block_words C m b)

unfoldable pub found_from : Matrix → ℕ → ℕ → ℕ → List Found
found_from C m first count = flat_map (found_in_block C m) (numbers_from first count)

unfoldable pub least_of : Found → List Found → Found
least_of a [] = a
least_of a (b ∷ others) = least_of (if beats b a then b else a) others

unfoldable pub least_in : List Found → Option Found
least_in [] = None
least_in (a ∷ others) = Some (least_of a others)

unfoldable pub block_least : Matrix → ℕ → ℕ → Option Found
block_least C m b = least_in (found_in_block C m b)

-- place 0 has the first word of all: message 1, 0, .., 0 over the first set
unfoldable pub found_first : Matrix → ℕ → Found
found_first C m = record { weight = weight (word_of C m 0 (record { support = 0 ∷ []; coefficients = 1 ∷ [] })); place = 0 }

unfoldable pub found_below : Matrix → ℕ → ℕ → List Found
found_below C m l = found_first C m ∷ found_from C m 0 l

unfoldable pub best : Matrix → ℕ → ℕ → Found
best C m l = least_of (found_first C m) (found_below C m l)

unfoldable pub last_that : (ℕ → Bool) → ℕ → ℕ
last_that test zero = 0
last_that test (suc n) = cond (test (suc n)) (suc n) (last_that test n)

-- whether the phase of level w and set j, which is phase (w - 1) m + j, ends at or before l, and before the cut
unfoldable pub is_whole_below : ℕ → ℕ → ℕ → ℕ → ℕ → ℕ → Bool
is_whole_below k q m l j w = nat_le (blocks_before k q m ((w - 1) * m + suc j)) l && nat_lt (blocks_before k q m ((w - 1) * m + suc j)) cut

unfoldable pub level_below : Matrix → ℕ → ℕ → ℕ
level_below C l j = last_that (is_whole_below (length C.rows) (size C.field) (set_count C) l j) (length C.rows)

unfoldable pub levels_below : Matrix → ℕ → List ℕ
levels_below C l = map (level_below C l) (below (set_count C))

unfoldable pub bound_sum : ℕ → List ℕ → List ℕ → ℕ
bound_sum k (r ∷ ranks) (w ∷ levels) = ((w + 1) - (k - r)) + bound_sum k ranks levels
bound_sum k _ _ = 0

unfoldable pub bound_of : ℕ → ℕ → List ℕ → List ℕ → ℕ → ℕ
bound_of d k ranks levels weight = (if is_member levels k then weight else rounded d (max 1 (bound_sum k ranks levels)))

unfoldable pub bound : ℕ → Matrix → ℕ → ℕ → ℕ
bound d C l weight = bound_of d (length C.rows) (ranks_of C) (levels_below C l) weight

unfoldable pub is_done : ℕ → Matrix → ℕ → Bool
is_done d C l = nat_le (best C (set_count C) l).weight (bound d C l (best C (set_count C) l).weight)

unfoldable pub ends_of : Matrix → List ℕ
ends_of C = phase_ends (length C.rows) (size C.field) (set_count C)

pub data Answer : Type 0 where
  no_word : Answer
  exact : Found → ℕ → Answer
  bracket : ℕ → Found → ℕ → Answer

unfoldable pub answer_at : ℕ → Matrix → ℕ → Option ℕ → Answer
answer_at d C budget (Some l) = exact (best C (set_count C) l) l
answer_at d C budget None = bracket (bound d C budget (best C (set_count C) budget).weight) (best C (set_count C) budget) budget

unfoldable pub answer : ℕ → Matrix → ℕ → Answer
answer d C budget = (if length C.rows == 0 then no_word else answer_at d C budget (find (is_done d C) (0 ∷ filter (λ end. nat_le end budget) (ends_of C))))

unfoldable pub may_end : Matrix → ℕ → Bool
may_end C l = (l == 0) || (is_member (ends_of C) l || (nat_lt (blocks_before (length C.rows) (size C.field) (set_count C) (length C.rows * set_count C)) cut && nat_lt (total (length C.rows) (size C.field) (set_count C)) l))

unfoldable pub finished : ℕ → Matrix → ℕ → ℕ → Found → Option Answer
finished d C budget l state = (if may_end C l && nat_le state.weight (bound d C l state.weight) then Some (exact state l) else (if l == budget then Some (bracket (bound d C l state.weight) state l) else None))

unfoldable pub board_value : Found → ℕ
board_value found = found.weight * 2 ^ 52 + found.place

unfoldable pub weight_at : Matrix → ℕ → ℕ
weight_at C place = weight (unwrap_or (word_at C (set_count C) place) [])

unfoldable pub fits : Matrix → ℕ → Found → Bool
fits C l found = ((found.place == 0) || nat_lt found.place (l * 4096)) && (is_some (word_at C (set_count C) found.place) && (weight_at C found.place == found.weight))

unfoldable pub fits_settled : ℕ → Matrix → ℕ → ℕ → Found → Bool
fits_settled d C budget l found = fits C l found && is_some (finished d C budget l found)
