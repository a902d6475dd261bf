-- The larger code of a search, of which the error patterns are messages. C is a code with k rows and m information sets, and
-- x the given word.
--   led_rows m x rows      x with m ones before it, and then the rows, each with m zeros before it
--   led_code C x           the code of the rows that C and x give
--   led_plan C             the plan of its messages with its first m sets
--   HasRowsTo D C j n      the first n rows of set j of C, with zeros before them, are rows of set j of D, after its first one
--   AreLedSets C x D       the first m sets of a code have the generator matrices that those of C, and what is left of x, give
--   AreStartsOf plan starts        the first blocks of the first phases of a plan
--   IsLed C x l            the larger code: it has such sets, that plan, and the first blocks of its phases
--   HasBlock l ph b        block b of a phase is a whole one, and its patterns are those of a block of the larger code's plan
--   IsDeskOf C o d         what a worker of a search has: a room for C, and the kernel's memory for the larger code, if there is
--                          one
use Rattle.std.specs.Prelude.{◌≡◌, ℕ, suc, ◌+◌, ◌*◌, ◌<◌, ◌≤◌, List, [], ◌∷◌, ◌++◌, length, map, replicate, slice_index, slice_index_or, Option, option_map}
use Rattle.lc_algebra.specs.Field.{size}
use Rattle.lc_algebra.specs.Word.{zero_word}
use Rattle.lc_algebra.specs.Matrix.{Matrix}
use Rattle.lc_enumeration.specs.Plan.{blocks_before, total}
use Rattle.lc_enumeration.specs.Search.{set_count, generator_at}
use Rattle.lc_place.specs.Place.{PlanSize}
use Rattle.lc_coset.specs.declared.blocks.CosetPhase.{CosetPhase}
use Rattle.lc_coset.specs.declared.blocks.Desk.{Desk}
use Rattle.lc_coset.specs.declared.led.Led.{Led}
use Rattle.lc_coset.specs.Near.{near_left, IsRoomOf}

abbrev pub led_rows : ℕ → List ℕ → List (List ℕ) → List (List ℕ)
led_rows m x rows = (replicate m 1 ++ x) ∷ map (λ r. zero_word m ++ r) rows

abbrev pub led_code : Matrix → List ℕ → Matrix
led_code C x = record { field = C.field; columns = set_count C + C.columns; rows = led_rows (set_count C) x C.rows }

abbrev pub led_plan : Matrix → PlanSize
led_plan C = record { k = suc (length C.rows); q = size C.field; m = set_count C }

abbrev pub AreLedSets : Matrix → List ℕ → Matrix → Type 0
AreLedSets C x D = (j : ℕ) → j < set_count C → generator_at D j ≡ led_rows (set_count C) (near_left C x j) (generator_at C j)

abbrev pub HasRowsTo : Matrix → Matrix → ℕ → ℕ → Type 0
HasRowsTo D C j n = (i : ℕ) → i < n → slice_index_or (generator_at D j) (i + 1) [] ≡ zero_word (set_count C) ++ slice_index_or (generator_at C j) i []

abbrev pub AreStartsOf : PlanSize → List ℕ → Type 0
AreStartsOf p starts = (i : ℕ) → i < length starts → slice_index starts i ≡ blocks_before p.k p.q p.m i

pub record IsLed (C : Matrix) (x : List ℕ) (l : Led) : Type 0 where
  pub code : l.sets ≡ led_code C x
  pub many : set_count C ≤ set_count l.sets
  pub generators : AreLedSets C x l.sets
  pub steps : l.plan ≡ led_plan C
  pub firsts : AreStartsOf l.plan l.starts.items

pub record HasBlock (l : Led) (ph : CosetPhase) (b : ℕ) : Type 0 where
  pub started : ph.number < length l.starts.items
  pub whole : b * 4096 + 4096 ≤ ph.patterns
  pub inside : slice_index l.starts.items ph.number + b < total l.plan.k l.plan.q l.plan.m

pub record IsDeskOf (C : Matrix) (o : Option Led) (d : Desk) : Type 0 where
  pub place : IsRoomOf C d.room
  pub memory : d.scratch ≡ option_map (λ l. l.sets) o
