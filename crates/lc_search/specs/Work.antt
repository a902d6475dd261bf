-- What a worker of a round does.
--   block_value C m b                  the value on the board of the least word of block b
--   after_reports value v xs           the view v after its seat drew these numbers and reported the value of each
--   HasWorked value count v w          w is v after such reports, of numbers below the count, and after its seat drew one number
--                                      more, which isn't below the count: it was answered None
--   IsRoomOf C plan scratch            a scratch for the code C, of which this is a plan
use Rattle.std.specs.Prelude.{◌≡◌, ℕ, ◌<◌, ◌≤◌, List, ◌++◌, map, All, unwrap_or, option_map}
use Rattle.lc_algebra.specs.Matrix.{Matrix}
use Rattle.lc_enumeration.specs.Search.{block_least, board_value}
use Rattle.lc_place.specs.Place.{PlanSize}
use Rattle.lc_kernel.specs.Kernel.{IsPlanOf}
use Rattle.lc_board.specs.Board.{drew}
use Rattle.lc_board.specs.declared.views.View.{View}

unfoldable pub block_value : Matrix → ℕ → ℕ → ℕ
block_value C m b = unwrap_or (option_map board_value (block_least C m b)) 0

abbrev pub after_reports : (ℕ → ℕ) → View → List ℕ → View
after_reports value v xs = record v { book = record v.book { drawn = v.book.drawn ++ xs; reported = v.book.reported ++ map (λ x. (x, value x)) xs } }

abbrev pub HasWorked : (ℕ → ℕ) → ℕ → View → View → Type 0
HasWorked value count v w = (xs : List ℕ) × (past : ℕ) × All (λ x. x < count) xs × (count ≤ past) × (w ≡ drew (after_reports value v xs) past)

pub record IsRoomOf (C : Matrix) (plan : PlanSize) (scratch : Matrix) : Type 0 where
  pub code : scratch ≡ C
  pub plan_is : IsPlanOf plan C
