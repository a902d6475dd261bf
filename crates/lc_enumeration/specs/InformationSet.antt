-- Information sets of a code and the columns that each brings first (Grassl's description of the method of Brouwer and
-- Zimmermann). The code is the span of k independent rows of length n.
--   in_span f n rows w             whether w is a word of the rows, by going through all of them
--   greedy f n vector taken order  the indices of the order, one after another, whose vector is no sum of multiples of the
--                                  vectors taken before
--   dimension f n rows             how many rows are no sum of multiples of the rows before them
--   first_basis f n rows order     the greedy first basis of the columns in that order, rising
--   InformationSet                 a basis of columns, and those of it that no earlier set brought first: the fresh ones
--   next_set f n rows used         the set after those whose fresh columns are used: unused columns first, then used ones
--   information_sets f n rows      the first set, and each next one as long as its fresh columns are at least half of k
--   unit_word k i                  the word of length k that is 1 at place i and else 0
--   systematic f n rows set        the rows of the code that are the identity on the set
--   echelon_rows f n rows          the rows that are the identity on the greedy first basis of all columns in their order:
--                                  the reduced generator matrix
use Rattle.std.specs.Prelude.{ℕ, zero, suc, ◌*◌, Bool, true, false, not, cond, nat_le, ◌&&◌, ◌==◌, if◌then◌else◌, List, [], ◌∷◌, ◌++◌, length, map, slice_index, slice_index_or, filter, find, unwrap_or}
use Rattle.std.specs.List.{list_any}
use Rattle.lc_algebra.specs.declared.FieldName.{FieldName}
use Rattle.lc_algebra.specs.Word.{zero_word}
use Rattle.lc_algebra.specs.Span.{below, words}
use Rattle.lc_algebra.specs.Matrix.{column}

unfoldable pub same_word : List ℕ → List ℕ → Bool
same_word [] [] = true
same_word (a ∷ u) (b ∷ v) = (a == b) && same_word u v
same_word _ _ = false

unfoldable pub in_span : FieldName → ℕ → List (List ℕ) → List ℕ → Bool
in_span f n rows w = list_any (same_word w) (words f n rows)

unfoldable pub greedy : FieldName → ℕ → (ℕ → List ℕ) → List ℕ → List ℕ → List ℕ
greedy f n vector taken [] = taken
greedy f n vector taken (i ∷ order) = cond (in_span f n (map vector taken) (vector i)) (greedy f n vector taken order) (greedy f n vector (taken ++ i ∷ []) order)

unfoldable pub dimension : FieldName → ℕ → List (List ℕ) → ℕ
dimension f n rows = length (greedy f n (λ i. slice_index_or rows i []) [] (below (length rows)))

unfoldable pub is_member : List ℕ → ℕ → Bool
is_member set c = list_any (λ d. c == d) set

unfoldable pub first_basis : FieldName → ℕ → List (List ℕ) → List ℕ → List ℕ
first_basis f n rows order = filter (is_member (greedy f (length rows) (column rows) [] order)) (below n)

pub record InformationSet : Type 0 where
  pub basis : List ℕ
  pub fresh : List ℕ

unfoldable pub columns_in_order : ℕ → List ℕ → List ℕ
columns_in_order n used = filter (λ c. not (is_member used c)) (below n) ++ filter (is_member used) (below n)

unfoldable pub with_fresh : List ℕ → List ℕ → InformationSet
with_fresh used basis = record { basis = basis; fresh = filter (λ c. not (is_member used c)) basis }

unfoldable pub next_set : FieldName → ℕ → List (List ℕ) → List ℕ → InformationSet
next_set f n rows used = with_fresh used (first_basis f n rows (columns_in_order n used))

-- the sets after those whose fresh columns are used, at most so many
unfoldable pub sets_after : FieldName → ℕ → List (List ℕ) → List ℕ → ℕ → List InformationSet
sets_after f n rows used zero = []
sets_after f n rows used (suc most) = cond (nat_le (length rows) (2 * length (next_set f n rows used).fresh)) (next_set f n rows used ∷ sets_after f n rows (used ++ (next_set f n rows used).fresh) most) []

-- each set after the first brings a fresh column, so that there are no more than n
unfoldable pub information_sets : FieldName → ℕ → List (List ℕ) → List InformationSet
information_sets f n rows = next_set f n rows [] ∷ sets_after f n rows (next_set f n rows []).fresh n

unfoldable pub unit_word : ℕ → ℕ → List ℕ
unit_word k i = map (λ j. if i == j then 1 else 0) (below k)

unfoldable pub systematic : FieldName → ℕ → List (List ℕ) → List ℕ → List (List ℕ)
systematic f n rows set = map (λ i. unwrap_or (find (λ w. same_word (map (slice_index w) set) (unit_word (length set) i)) (words f n rows)) (zero_word n)) (below (length set))

unfoldable pub echelon_rows : FieldName → ℕ → List (List ℕ) → List (List ℕ)
echelon_rows f n rows = systematic f n rows (first_basis f n rows (below n))
