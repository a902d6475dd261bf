-- Words and views of a board as a state of the round machine. Word 0 is next, word 1 best, word 2 first, word 3 count;
-- the actors are the 256 seat numbers that a board may have.
--   pending b                the numbers that a seat drew after all that it reported
--   actor_of count b         what the seat of the book b is in the machine
--   IsActor count b a        the same in words: what an actor holds, whether it is past, what it finished
--   IsRound words views r    the words and views are the state r
--   IsReached t words views  they are a state that events reach from the start
--   IsRuled t words views    what holds between any two steps on a board
--   OpensUnderTheRule    a new board is under that
--   ClaimKeepsTheRule, ReportKeepsTheRule, SplitKeepsTheRule, JoinKeepsTheRule    and each step leaves it so
--   ClaimIsAnEvent, ReportIsAnEvent, SplitLeavesTheState, JoinLeavesTheState    what the steps are in the machine
use Rattle.std.specs.Prelude.{◌≡◌, ◌≢◌, ◌↔◌, ℕ, ◌+◌, ◌^◌, ◌<◌, ◌≤◌, min, true, false, cond, ltb, List, [], ◌∷◌, ◌++◌, length, drop, set, Some, None, All, Contains, slice_index}
use mathlib.Core.Option.{some}
use lib.ListN.{get_elem?}
use Rattle.lc_board.specs.Counting.{times}
use Rattle.lc_board.specs.Round.{Round, idle, actor_at, start, Possible, moved, Reaches}
use Rattle.lc_board.specs.Board.{nothing, root_view, drew, told, split, newcomer, joined, reported_numbers, AllReported, Owes, books_in, books, seat_numbers, BoardRule}
use Rattle.lc_board.specs.declared.round.Mode.TheVariants.{Running}
use Rattle.lc_board.specs.declared.round.Event.{Event}
use Rattle.lc_board.specs.declared.round.Event.TheVariants.{Claim, Report}
use Rattle.lc_board.specs.declared.round.Actor.{Actor}
use Rattle.lc_board.specs.declared.views.Terms.{Terms}
use Rattle.lc_board.specs.declared.views.Book.{Book}
use Rattle.lc_board.specs.declared.views.View.{View}

abbrev pub pending : Book → List ℕ
pending b = drop (length b.reported) b.drawn

-- an actor that finished these pairs and drew these numbers since
abbrev pub actor_with : ℕ → List (ℕ × ℕ) → List ℕ → Actor
actor_with count pairs [] = record { held = None; past = false; finished = pairs }
actor_with count pairs (x ∷ xs) = cond (ltb x count) (record { held = Some x; past = false; finished = pairs }) (record { held = None; past = true; finished = pairs })

abbrev pub actor_of : ℕ → Book → Actor
actor_of count b = actor_with count b.reported (pending b)

-- an actor holds the number below the count that it drew and hasn't reported, it is past if it drew one at or above
-- the count, and it has finished what it reported
pub record IsActor (count : ℕ) (b : Book) (a : Actor) : Type 0 where
  pub held : (x : ℕ) → (a.held ≡ Some x) ↔ (Contains b.drawn x × (x < count) × (Contains (reported_numbers b) x → ⊥))
  pub past : (a.past ≡ true) ↔ ((x : ℕ) × Contains b.drawn x × (count ≤ x))
  pub finished : a.finished ≡ b.reported

pub record IsRound (words : List ℕ) (views : List View) (r : Round) : Type 0 where
  pub words_are : words ≡ r.next ∷ r.best ∷ r.first ∷ r.count ∷ []
  pub running : r.mode ≡ Running
  pub actors : length r.actors ≡ 256
  pub seats : (id : ℕ) (v : View) → get_elem? views id ≡ some v → All (λ b. actor_at r b.number ≡ actor_of r.count b) (books_in v)
  pub others : (a : ℕ) → times a (seat_numbers (books views)) ≡ 0 → actor_at r a ≡ idle

abbrev pub IsReached : Terms → List ℕ → List View → Type 0
IsReached t words views = (r : Round) × (events : List Event) × Reaches (start t.count t.first 256) events r × IsRound words views r

abbrev pub IsRuled : Terms → List ℕ → List View → Type 0
IsRuled t words views = BoardRule t words views × IsReached t words views

-- a new board is under the rule, and each step of a seat keeps it, so whatever the order of the steps it holds between
-- any two
abbrev pub OpensUnderTheRule : Type 0
OpensUnderTheRule = (t : Terms) → t.count ≤ 2 ^ 40 → IsRuled t (0 ∷ t.first ∷ t.first ∷ t.count ∷ []) (root_view t ∷ [])

abbrev pub ClaimKeepsTheRule : Type 0
ClaimKeepsTheRule = (t : Terms) (words : List ℕ) (views : List View) (id : ℕ) (v : View) → IsRuled t words views → get_elem? views id ≡ some v → v.spent ≡ false → AllReported v.book
    → IsRuled t (set words 0 (slice_index words 0 + 1)) (set views id (drew v (slice_index words 0)))

abbrev pub ReportKeepsTheRule : Type 0
ReportKeepsTheRule = (t : Terms) (words : List ℕ) (views : List View) (id : ℕ) (v : View) (x value : ℕ) → IsRuled t words views → get_elem? views id ≡ some v → v.spent ≡ false → Owes v.book x → x < t.count
    → IsRuled t (set words 1 (min (slice_index words 1) value)) (set views id (told v x value))

abbrev pub SplitKeepsTheRule : Type 0
SplitKeepsTheRule = (t : Terms) (words : List ℕ) (views : List View) (id : ℕ) (v : View) → IsRuled t words views → get_elem? views id ≡ some v → v.spent ≡ false → v.root ≡ true → v.made < 256
    → IsRuled t words (set views id (split v) ++ newcomer v ∷ [])

abbrev pub JoinKeepsTheRule : Type 0
JoinKeepsTheRule = (t : Terms) (words : List ℕ) (views : List View) (id : ℕ) (v : View) (other : ℕ) (w : View) → IsRuled t words views → get_elem? views id ≡ some v → v.spent ≡ false → v.root ≡ true
    → other ≢ id → get_elem? (set views id (joined v w)) other ≡ some w → w.spent ≡ false → IsRuled t words (set (set views id (joined v w)) other nothing)

module _ (t : Terms) (words : List ℕ) (views : List View) (r : Round) where
  -- a claim of a seat that has reported all that it drew is the event Claim of its number
  abbrev pub Claims : ℕ → View → Type 0
  Claims id v = get_elem? views id ≡ some v → v.spent ≡ false → AllReported v.book
      → Possible r (Claim v.book.number) × IsRound (set words 0 (slice_index words 0 + 1)) (set views id (drew v (slice_index words 0))) (moved r (Claim v.book.number))

  -- a report for the number that a seat owes is the event Report
  abbrev pub Reports : ℕ → View → ℕ → ℕ → Type 0
  Reports id v x value = get_elem? views id ≡ some v → v.spent ≡ false → Owes v.book x → x < t.count
      → Possible r (Report v.book.number value) × IsRound (set words 1 (min (slice_index words 1) value)) (set views id (told v x value)) (moved r (Report v.book.number value))

  abbrev pub Splits : ℕ → View → Type 0
  Splits id v = get_elem? views id ≡ some v → v.spent ≡ false → v.root ≡ true → v.made < 256 → IsRound words (set views id (split v) ++ newcomer v ∷ []) r

  abbrev pub Joins : ℕ → View → ℕ → View → Type 0
  Joins id v other w = get_elem? views id ≡ some v → v.spent ≡ false → v.root ≡ true → other ≢ id → get_elem? (set views id (joined v w)) other ≡ some w → w.spent ≡ false
      → IsRound words (set (set views id (joined v w)) other nothing) r

abbrev pub ClaimIsAnEvent : Type 0
ClaimIsAnEvent = (t : Terms) (words : List ℕ) (views : List View) (r : Round) (id : ℕ) (v : View) → BoardRule t words views → IsRound words views r → Claims t words views r id v

abbrev pub ReportIsAnEvent : Type 0
ReportIsAnEvent = (t : Terms) (words : List ℕ) (views : List View) (r : Round) (id : ℕ) (v : View) (x value : ℕ) → BoardRule t words views → IsRound words views r → Reports t words views r id v x value

abbrev pub SplitLeavesTheState : Type 0
SplitLeavesTheState = (t : Terms) (words : List ℕ) (views : List View) (r : Round) (id : ℕ) (v : View) → BoardRule t words views → IsRound words views r → Splits t words views r id v

abbrev pub JoinLeavesTheState : Type 0
JoinLeavesTheState = (t : Terms) (words : List ℕ) (views : List View) (r : Round) (id : ℕ) (v : View) (other : ℕ) (w : View) → BoardRule t words views → IsRound words views r → Joins t words views r id v other w

-- a new board is the starting state
abbrev pub OpensAtTheStart : Type 0
OpensAtTheStart = (t : Terms) → IsRound (0 ∷ t.first ∷ t.first ∷ t.count ∷ []) (root_view t ∷ []) (start t.count t.first 256)

-- the actors are what the books say
abbrev pub ActorsAreSeats : Type 0
ActorsAreSeats = (t : Terms) (words : List ℕ) (views : List View) (r : Round) → BoardRule t words views → IsRound words views r → All (λ b. IsActor t.count b (actor_at r b.number)) (books views)
