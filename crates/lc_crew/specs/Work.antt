-- What a worker of a round does.
--   after_reports value v xs           the view v after its seat drew these numbers and reported the value of each
--   HasCounted share xs before after   each count grew by what these numbers add, at most 4,096 each
--   HasReported value share count v before w after      w is v after such reports, of numbers below the count, and the counts grew so
--   HasWorked value share count v before w after        besides, the seat drew one number more, which isn't below the count: it was
--                                      answered None
use Rattle.std.specs.Prelude.{◌≡◌, ℕ, ◌+◌, ◌*◌, ◌<◌, ◌≤◌, List, ◌++◌, map, length, All, sum_by}
use Rattle.lc_board.specs.Board.{drew}
use Rattle.lc_board.specs.declared.views.View.{View}

abbrev pub after_reports : (ℕ → ℕ) → View → List ℕ → View
after_reports value v xs = record v { book = record v.book { drawn = v.book.drawn ++ xs; reported = v.book.reported ++ map (λ x. (x, value x)) xs } }

pub record HasCounted (share : ℕ → ℕ → ℕ) (xs : List ℕ) (before after : ℕ → ℕ) : Type 0 where
  pub sum : (j : ℕ) → after j ≡ before j + sum_by (λ x. share x j) xs
  pub few : (j : ℕ) → after j ≤ before j + 4096 * length xs

abbrev pub HasReported : (ℕ → ℕ) → (ℕ → ℕ → ℕ) → ℕ → View → (ℕ → ℕ) → View → (ℕ → ℕ) → Type 0
HasReported value share count v before w after = (xs : List ℕ) × All (λ x. x < count) xs × (w ≡ after_reports value v xs) × HasCounted share xs before after

abbrev pub HasWorked : (ℕ → ℕ) → (ℕ → ℕ → ℕ) → ℕ → View → (ℕ → ℕ) → View → (ℕ → ℕ) → Type 0
HasWorked value share count v before w after = (xs : List ℕ) × (past : ℕ) × All (λ x. x < count) xs × (count ≤ past) × (w ≡ drew (after_reports value v xs) past) × HasCounted share xs before after
