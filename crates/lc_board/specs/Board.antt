-- The rule of a board: what its four words and the views of its seats are between any two steps.
-- Word 0 is the claim counter, 1 the best value, 2 the first value, 3 the count.
--   empty_book n              the book of the seat n, which drew and reported nothing
--   root_view t               the view of the seat that a new board with the terms t gives
--   nothing                   a spent view, which holds nothing
--   drew v x                  the view v after its seat drew x
--   told v x value            the view v after its seat reported the value for x
--   split v, newcomer v       the root's view after a split, and the view of the new seat
--   joined v w                the root's view v after it took in the view w
--   HasDrawn v x w            w is v after it drew x, which exceeds all that it drew before
--   AllReported b             each number of the book is reported, in order
--   Owes b x                  each is, but x, which was drawn last
--   books_in v                the books of a view: its own, and at the root those of joined seats
--   books views               all books
--   seat_numbers, drawn_numbers, reported_values    what stands in a list of books
--   IsBook count b            what holds of each book
--   IsView t made v           what holds of each view
--   BoardRule t words views   the rule
use Rattle.std.specs.Prelude.{◌≡◌, ℕ, ◌+◌, ◌^◌, ◌<◌, ◌≤◌, true, false, cond, leb, List, [], ◌∷◌, ◌++◌, map, length, slice_index, flat_map, count_by, All}
use mathlib.Core.Option.{some}
use lib.ListN.{get_elem?}
use Rattle.atomic_table.specs.Table.{Me, Step}
use Rattle.lc_board.specs.Counting.{StandOnce, least}
use Rattle.lc_board.specs.declared.views.Terms.{Terms}
use Rattle.lc_board.specs.declared.views.Book.{Book}
use Rattle.lc_board.specs.declared.views.View.{View}

abbrev pub empty_book : ℕ → Book
empty_book number = record { number = number; drawn = []; reported = [] }

abbrev pub root_view : Terms → View
root_view t = record { spent = false; root = true; first = t.first; count = t.count; made = 1; book = empty_book 0; left = [] }

abbrev pub nothing : View
nothing = record { spent = true; root = false; first = 0; count = 0; made = 0; book = empty_book 0; left = [] }

abbrev pub drew : View → ℕ → View
drew v x = record v { book = record v.book { drawn = v.book.drawn ++ x ∷ [] } }

abbrev pub HasDrawn : View → ℕ → View → Type 0
HasDrawn v x w = (w ≡ drew v x) × All (λ y. y < x) v.book.drawn

abbrev pub told : View → ℕ → ℕ → View
told v x value = record v { book = record v.book { reported = v.book.reported ++ (x, value) ∷ [] } }

abbrev pub split : View → View
split v = record v { made = v.made + 1 }

abbrev pub newcomer : View → View
newcomer v = record { spent = false; root = false; first = v.first; count = v.count; made = 0; book = empty_book v.made; left = [] }

abbrev pub joined : View → View → View
joined v w = record v { left = v.left ++ w.book ∷ [] }

-- the numbers of the reported pairs
abbrev pub reported_numbers : Book → List ℕ
reported_numbers b = map (λ p. p.0) b.reported

abbrev pub AllReported : Book → Type 0
AllReported b = b.drawn ≡ reported_numbers b

abbrev pub Owes : Book → ℕ → Type 0
Owes b x = b.drawn ≡ reported_numbers b ++ x ∷ []

abbrev pub books_in : View → List Book
books_in v = cond v.spent [] (v.book ∷ v.left)

abbrev pub books : List View → List Book
books views = flat_map books_in views

abbrev pub seat_numbers : List Book → List ℕ
seat_numbers bs = map (λ b. b.number) bs

abbrev pub drawn_numbers : List Book → List ℕ
drawn_numbers bs = flat_map (λ b. b.drawn) bs

abbrev pub reported_values : List Book → List ℕ
reported_values bs = flat_map (λ b. map (λ p. p.1) b.reported) bs

-- what was drawn is what was reported, in the same order, and then at most one number more; it rises; and what was
-- reported is below the count
pub record IsBook (count : ℕ) (b : Book) : Type 0 where
  pub in_order : (rest : List ℕ) × (length rest ≤ 1) × (b.drawn ≡ reported_numbers b ++ rest)
  pub rising : (i j : ℕ) → i < j → j < length b.drawn → slice_index b.drawn i < slice_index b.drawn j
  pub below : All (λ p. p.0 < count) b.reported

pub record IsView (t : Terms) (made : ℕ) (v : View) : Type 0 where
  pub spent : v.spent ≡ true → v ≡ nothing
  pub terms : v.spent ≡ false → (v.first ≡ t.first) × (v.count ≡ t.count)
  pub root : v.root ≡ true → v.made ≡ made
  pub others : v.root ≡ false → (v.made ≡ 0) × (v.left ≡ [])
  pub book : IsBook t.count v.book
  pub left : All (IsBook t.count) v.left

pub record BoardRule (t : Terms) (words : List ℕ) (views : List View) : Type 0 where
  -- the claim counter, the best value, the number of seats
  pub next : ℕ
  pub best : ℕ
  pub made : ℕ
  pub words_are : words ≡ next ∷ best ∷ t.first ∷ t.count ∷ []
  pub small : t.count ≤ 2 ^ 40
  pub few : made ≤ 256
  pub one_root : count_by (λ v. v.root) views ≡ 1
  pub each_view : (id : ℕ) (v : View) → get_elem? views id ≡ some v → IsView t made v
  -- each seat number below `made` stands in one book, and no other number does
  pub seats : StandOnce made (seat_numbers (books views))
  pub all_seats : length (books views) ≡ made
  -- each number below word 0 was drawn once, and no other was
  pub drawn : StandOnce next (drawn_numbers (books views))
  -- those at or above the count are no more than the books that have one
  pub far : next ≤ t.count + count_by (λ x. leb t.count x) (drawn_numbers (books views))
  pub least_is : best ≡ least t.first (reported_values (books views))

abbrev Sat : Type 0
Sat = Me (Unit {0}) View

-- what a claim tells: the number found was drawn, and it exceeds all that the seat drew before
abbrev pub Draws : Step (Unit {0}) → Sat → ℕ → Sat → Type 0
Draws st m x m' = (m'.0 ≡ drew m.0 x) × (m'.1 ≡ m.1) × All (λ y. y < x) m.0.book.drawn

-- what a report tells: the value is reported for the number that the seat owed
abbrev pub Tells : Step (Unit {0}) → Sat → ℕ → Sat → Type 0
Tells st m found m' = ((x : ℕ) → Owes m.0.book x → m'.0 ≡ told m.0 x st.first) × (m'.1 ≡ m.1)
