-- The workers of a round, before their work and after it.
--   IsFresh fits tally room    a room that was made for the blocks and has counted nothing
--   IsReady fits tally b w     a worker whose seat is of the board b and drew nothing, with such a room
--   HasDone value add count book total      a seat drew numbers below the count and then one that isn't, and reported the value of
--                              each below; the total is what these add
--   IsDone tally value share b w      a worker whose seat is of the board b and has done so, for each of its counts
--   Station, station w         what no work changes: the worker's number, whether the seat is the root's, and how many seats it made
--   AreNumbered ws             the workers have the numbers 1, 2, .. and the last one 0
--   HaveDone fits tally value share b before after      these workers have done so, and each keeps its station
--   IsRootLast ws              the last worker's number is 0, and its seat the root's, which made as many seats as there are workers
--   least_over value first start n    the least of `first` and the values of the n numbers from `start` on
use Rattle.std.specs.Prelude.{◌≡◌, ℕ, ◌-◌, ◌<◌, ◌≤◌, Bool, true, List, [], ◌∷◌, ◌++◌, map, length, All, sum_by}
use Rattle.lc_enumeration.specs.Message.{numbers_from}
use Rattle.lc_board.specs.Counting.{least}
use Rattle.lc_board.specs.Seats.{Opened}
use Rattle.lc_board.specs.declared.views.Book.{Book}
use Rattle.lc_crew.specs.declared.halves.Worker.{Worker}

abbrev pub IsFresh : {W : Type 0} → (W → Type 0) → (W → ℕ → ℕ) → W → Type 0
IsFresh fits tally room = fits room × ((j : ℕ) → tally room j ≡ 0)

abbrev pub IsReady : {W : Type 0} → (W → Type 0) → (W → ℕ → ℕ) → Opened → Worker W → Type 0
IsReady fits tally b w = (w.seat.table ≡ b.table) × (w.seat.view.book.drawn ≡ []) × (w.seat.view.book.reported ≡ []) × IsFresh fits tally w.room

abbrev pub HasDone : (ℕ → ℕ) → (ℕ → ℕ) → ℕ → Book → ℕ → Type 0
HasDone value add count book total = (xs : List ℕ) × (past : ℕ) × All (λ x. x < count) xs × (count ≤ past) × (book.drawn ≡ xs ++ past ∷ []) × (book.reported ≡ map (λ x. (x, value x)) xs) × (total ≡ sum_by add xs)

abbrev pub IsDone : {W : Type 0} → (W → ℕ → ℕ) → (ℕ → ℕ) → (ℕ → ℕ → ℕ) → Opened → Worker W → Type 0
IsDone tally value share b w = (w.seat.table ≡ b.table) × ((j : ℕ) → HasDone value (λ x. share x j) b.count w.seat.view.book (tally w.room j))

pub record Station : Type 0 where
  pub number : ℕ
  pub root : Bool
  pub made : ℕ

abbrev pub station : {W : Type 0} → Worker W → Station
station w = record { number = w.number; root = w.seat.view.root; made = w.seat.view.made }

pub record HaveDone {W : Type 0} (fits : W → Type 0) (tally : W → ℕ → ℕ) (value : ℕ → ℕ) (share : ℕ → ℕ → ℕ) (b : Opened) (before after : List (Worker W)) : Type 0 where
  pub done : All (IsDone tally value share b) after
  pub rooms : All (λ (w : Worker W). fits w.room) after
  pub stations : map station after ≡ map station before

abbrev pub IsRootLast : {W : Type 0} → List (Worker W) → Type 0
IsRootLast ws = (others : List Station) × (map station ws ≡ others ++ (record { number = 0; root = true; made = length ws }) ∷ [])

abbrev pub AreNumbered : {W : Type 0} → List (Worker W) → Type 0
AreNumbered ws = map (λ w. w.number) ws ≡ numbers_from 1 (length ws - 1) ++ 0 ∷ []

abbrev pub least_over : (ℕ → ℕ) → ℕ → ℕ → ℕ → ℕ
least_over value first start n = least first (map value (numbers_from start n))
