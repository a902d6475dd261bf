-- The round machine: actors draw the numbers of blocks one after another and report a value for each.
--   Round                 a state: how many blocks there are, the first value, the next number, the best value, the mode, the actors
--   idle                  an actor that holds no block, isn't past the blocks, and has finished none
--   actor_at r a          the actor a
--   start c f n           the starting state with c blocks, the first value f and n actors
--   Possible r e          the event e is possible in the state r
--   moved r e             what the state becomes by a possible event
--   NeedsMemory r e       the event is a report, and possible: it alone makes a list longer
--   Reaches r es s        the events es are possible one after another from r, and lead to s
--   blocks_of a           the blocks that an actor holds or has finished
--   values_of a           the values of the blocks that it has finished
--   blocks r, values r    the same of all actors of a state
--   IsSound r             what holds in each state that events reach from a starting state
use Rattle.std.specs.Prelude.{◌≡◌, ℕ, ◌+◌, ◌<◌, ◌≤◌, min, true, false, cond, ltb, List, [], ◌∷◌, ◌++◌, map, length, get_or, set, replicate, Some, None, IsSome, option_to_list, flat_map, All, count_by}
use Rattle.lc_board.specs.Counting.{StandOnce, least}
use Rattle.lc_board.specs.declared.round.Mode.{Mode}
use Rattle.lc_board.specs.declared.round.Mode.TheVariants.{Running, Ended, Stopped}
use Rattle.lc_board.specs.declared.round.Event.{Event}
use Rattle.lc_board.specs.declared.round.Event.TheVariants.{Claim, Report, EndRound, Kill, Resume}
use Rattle.lc_board.specs.declared.round.Actor.{Actor}

pub record Round : Type 0 where
  pub count : ℕ
  pub first : ℕ
  pub next : ℕ
  pub best : ℕ
  pub mode : Mode
  pub actors : List Actor

abbrev pub idle : Actor
idle = record { held = None; past = false; finished = [] }

abbrev pub actor_at : Round → ℕ → Actor
actor_at r a = get_or r.actors a idle

abbrev pub start : ℕ → ℕ → ℕ → Round
start count first actors = record { count = count; first = first; next = 0; best = first; mode = Running; actors = replicate actors idle }

abbrev pub Possible : Round → Event → Type 0
Possible r (Claim a) = (r.mode ≡ Running) × (a < length r.actors) × ((actor_at r a).held ≡ None) × ((actor_at r a).past ≡ false)
Possible r (Report a v) = (r.mode ≡ Running) × (a < length r.actors) × IsSome (actor_at r a).held
Possible r EndRound = (r.mode ≡ Running) × (r.count ≤ r.next) × All (λ a. a.held ≡ None) r.actors
Possible r Kill = r.mode ≡ Running
Possible r Resume = r.mode ≡ Stopped

-- an actor after it drew the number x of count blocks
abbrev pub drew : ℕ → ℕ → Actor → Actor
drew count x a = cond (ltb x count) (record a { held = Some x }) (record a { past = true })

-- an actor after it reported v for the block that it held
abbrev pub finished : ℕ → Actor → Actor
finished v a = record a { held = None; finished = a.finished ++ map (λ x. (x, v)) (option_to_list a.held) }

abbrev pub moved : Round → Event → Round
moved r (Claim a) = record r { next = r.next + 1; actors = set r.actors a (drew r.count r.next (actor_at r a)) }
moved r (Report a v) = record r { best = min r.best v; actors = set r.actors a (finished v (actor_at r a)) }
moved r EndRound = record r { mode = Ended }
moved r Kill = record r { mode = Stopped }
moved r Resume = start r.count r.first (length r.actors)

abbrev pub NeedsMemory : Round → Event → Type 0
NeedsMemory r (Claim a) = ⊥
NeedsMemory r (Report a v) = Possible r (Report a v)
NeedsMemory r EndRound = ⊥
NeedsMemory r Kill = ⊥
NeedsMemory r Resume = ⊥

abbrev pub Reaches : Round → List Event → Round → Type 0
Reaches r [] s = s ≡ r
Reaches r (e ∷ es) s = Possible r e × Reaches (moved r e) es s

abbrev pub blocks_of : Actor → List ℕ
blocks_of a = option_to_list a.held ++ map (λ p. p.0) a.finished

abbrev pub values_of : Actor → List ℕ
values_of a = map (λ p. p.1) a.finished

abbrev pub blocks : Round → List ℕ
blocks r = flat_map blocks_of r.actors

abbrev pub values : Round → List ℕ
values r = flat_map values_of r.actors

-- held and finished blocks are the numbers below the lesser of next and count, each once; best is the least of first and the
-- finished values; in an ended round nobody holds a block and all blocks were drawn; and each number drawn
-- at or above count has an actor that is past
pub record IsSound (r : Round) : Type 0 where
  pub once : StandOnce (min r.next r.count) (blocks r)
  pub best : r.best ≡ least r.first (values r)
  pub ended : r.mode ≡ Ended → (r.count ≤ r.next) × All (λ a. a.held ≡ None) r.actors
  pub past : r.next ≤ r.count + count_by (λ a. a.past) r.actors

-- in each state that events reach
abbrev pub IsAlwaysSound : Type 0
IsAlwaysSound = (count first actors : ℕ) (events : List Event) (r : Round) → Reaches (start count first actors) events r → IsSound r

-- in an ended round each block below the count is finished exactly once, and best is the least of first and all their values
abbrev pub EndsWithTheLeast : Type 0
EndsWithTheLeast = (count first actors : ℕ) (events : List Event) (r : Round) → Reaches (start count first actors) events r → r.mode ≡ Ended
    → StandOnce count (flat_map (λ a. map (λ p. p.0) a.finished) r.actors) × (r.best ≡ least first (values r))
