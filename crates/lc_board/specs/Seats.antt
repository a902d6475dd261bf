-- How contracts see a board and its seats.
--   Opened   a board: which table it is, its first value and its count
--   Seated   a seat: the table that it is of, and its view
--   Closing  what a closed board shows
--   books_of root others     the books of the root's seat and the others
--   joined_all v others      the root's view v after it took in the others
use Rattle.std.specs.Prelude.{ℕ, List, ◌∷◌, ◌++◌, map}
use Rattle.atomic_table.specs.Seated.{TableId}
use Rattle.lc_board.specs.declared.views.Book.{Book}
use Rattle.lc_board.specs.declared.views.View.{View}

pub record Opened : Type 0 where
  pub table : TableId
  pub first : ℕ
  pub count : ℕ

pub record Seated : Type 0 where
  pub table : TableId
  pub view : View

pub record Closing : Type 0 where
  pub count : ℕ
  pub claimed : ℕ
  pub best : ℕ

abbrev pub books_of : Seated → List Seated → List Book
books_of root others = root.view.book ∷ map (λ s. s.view.book) others

abbrev pub joined_all : View → List Seated → View
joined_all v others = record v { left = v.left ++ map (λ s. s.view.book) others }
