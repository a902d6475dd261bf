-- What the rule of a board says of its seats, sentence by sentence.
--   SeatSays count b           the sentences on one book
--   BoardSays t words views    the sentences on a board
--   RuleSays                   each board under the rule meets them
use Rattle.std.specs.Prelude.{◌≡◌, ◌≢◌, ◌⊎◌, ℕ, ◌+◌, ◌^◌, ◌<◌, ◌≤◌, true, false, List, [], length, All, Contains, slice_index}
use mathlib.Core.Option.{some}
use lib.ListN.{get_elem?}
use Rattle.lc_board.specs.Counting.{StandOnce, least}
use Rattle.lc_board.specs.Board.{nothing, reported_numbers, books, seat_numbers, drawn_numbers, reported_values, BoardRule}
use Rattle.lc_board.specs.declared.views.Terms.{Terms}
use Rattle.lc_board.specs.declared.views.Book.{Book}
use Rattle.lc_board.specs.declared.views.View.{View}

pub record SeatSays (count : ℕ) (b : Book) : Type 0 where
  -- the drawn numbers rise
  pub rising : (i j : ℕ) → i < j → j < length b.drawn → slice_index b.drawn i < slice_index b.drawn j
  -- only the last one may be at or above the count
  pub past : (k : ℕ) → k < length b.drawn → count ≤ slice_index b.drawn k → k + 1 ≡ length b.drawn
  -- a reported number was drawn, is below the count, and is reported once
  pub reported : All (λ x. Contains b.drawn x × (x < count)) (reported_numbers b)
  pub once : (i j : ℕ) → i < j → j < length (reported_numbers b) → slice_index (reported_numbers b) i ≢ slice_index (reported_numbers b) j
  -- only the last one below the count may not be reported
  pub held : (k : ℕ) → k < length b.drawn → slice_index b.drawn k < count → Contains (reported_numbers b) (slice_index b.drawn k) ⊎ ((j : ℕ) → k < j → j < length b.drawn → count ≤ slice_index b.drawn j)

pub record BoardSays (t : Terms) (words : List ℕ) (views : List View) : Type 0 where
  -- word 2 is the first value and word 3 the count that each view holds; the count is at most 2^40
  pub first : slice_index words 2 ≡ t.first
  pub count : slice_index words 3 ≡ t.count
  pub small : slice_index words 3 ≤ 2 ^ 40
  pub terms : (id : ℕ) (v : View) → get_elem? views id ≡ some v → v.spent ≡ false → (v.first ≡ t.first) × (v.count ≡ t.count)
  -- a spent view holds nothing, and a view that isn't the root's holds neither a number of seats nor what joined seats left
  pub spent : (id : ℕ) (v : View) → get_elem? views id ≡ some v → v.spent ≡ true → v ≡ nothing
  pub others : (id : ℕ) (v : View) → get_elem? views id ≡ some v → v.root ≡ false → (v.made ≡ 0) × (v.left ≡ [])
  -- exactly one view is the root's; it tells how many seats were made, at most 256, and each number below that is one seat's
  pub root : (id : ℕ) × (v : View) × (get_elem? views id ≡ some v) × (v.root ≡ true) × (v.made ≤ 256) × StandOnce v.made (seat_numbers (books views))
      × ((j : ℕ) (u : View) → get_elem? views j ≡ some u → u.root ≡ true → j ≡ id)
  -- each number below word 0 was drawn once, and word 0 is at most 256 above the count
  pub drawn : StandOnce (slice_index words 0) (drawn_numbers (books views))
  pub counter : slice_index words 0 ≤ slice_index words 3 + 256
  -- word 1 is the least of the first value and all reported ones
  pub best : slice_index words 1 ≡ least (slice_index words 2) (reported_values (books views))
  pub each_seat : All (SeatSays t.count) (books views)

abbrev pub RuleSays : Type 0
RuleSays = (t : Terms) (words : List ℕ) (views : List View) → BoardRule t words views → BoardSays t words views
