-- A search for a nearest word, its phases, and the best word so far.
--   IsFrame fr            a code with independent rows, at least one and fewer than columns, of which there are at most 255; a plan for it, a
--                         given word, and what the first word of each set leaves of it
--   IsGiven C x g         the information sets of C, and what the first words leave of x
--   IsPhaseOf fr ph       the phase of that number, of which some blocks are to be done, none from 2^40 on
--   IsPlaceOf fr ph place there is a word at the place, in one of these blocks
--   IsFitting fr ph o d   besides, the larger code if there is one, and what a worker has
--   IsBestAt C x l b      the best word after l blocks, with its distance and its place
--   IsStateAt fr l s      the state of a search after l blocks: the best word, a room for the code, the larger code if it is made, and what the
--                         workers have
use Rattle.std.specs.Prelude.{◌≡◌, ℕ, suc, ◌+◌, ◌*◌, ◌^◌, ◌<◌, ◌≤◌, min, List, length, Option, Some, All, IfSome}
use Rattle.lc_algebra.specs.Field.{size}
use Rattle.lc_algebra.specs.Word.{IsWord}
use Rattle.lc_algebra.specs.Span.{AreIndependent}
use Rattle.lc_algebra.specs.Matrix.{Matrix, AreRows}
use Rattle.lc_enumeration.specs.Search.{set_count}
use Rattle.lc_enumeration.specs.NearWord.{pattern_count, coset_level, coset_set, coset_blocks_before, coset_phases, coset_word_at, near_best}
use Rattle.lc_coset.specs.declared.frame.Frame.{Frame}
use Rattle.lc_coset.specs.declared.frame.Given.{Given}
use Rattle.lc_coset.specs.declared.round.State.{State}
use Rattle.lc_coset.specs.declared.blocks.CosetPhase.{CosetPhase}
use Rattle.lc_coset.specs.declared.blocks.Desk.{Desk}
use Rattle.lc_coset.specs.declared.led.Led.{Led}
use Rattle.lc_coset.specs.declared.best.Best.{Best}
use Rattle.lc_coset.specs.Near.{AreLefts, walk_plan, IsRoomOf}
use Rattle.lc_coset.specs.Led.{IsLed, IsDeskOf}

pub record IsFrame (fr : Frame) : Type 0 where
  pub rows : AreRows fr.sets.field fr.sets.columns fr.sets.rows
  pub independent : AreIndependent fr.sets.field fr.sets.columns fr.sets.rows
  pub short : fr.sets.columns ≤ 255
  pub fewer : length fr.sets.rows < fr.sets.columns
  pub steps : fr.plan ≡ walk_plan fr.sets
  pub given : IsWord fr.sets.field fr.sets.columns fr.word
  pub firsts : AreLefts fr.sets fr.word fr.lefts.items

pub record IsGiven (C : Matrix) (x : List ℕ) (g : Given) : Type 0 where
  pub code : g.sets ≡ C
  pub given : g.word ≡ x
  pub firsts : AreLefts C x g.lefts.items

pub record IsPhaseOf (fr : Frame) (ph : CosetPhase) : Type 0 where
  pub one : ph.number < coset_phases (length fr.sets.rows) (set_count fr.sets)
  pub on_set : ph.set ≡ coset_set (set_count fr.sets) ph.number
  pub of_level : ph.level ≡ coset_level (set_count fr.sets) ph.number
  pub begins : ph.first ≡ coset_blocks_before (length fr.sets.rows) (size fr.sets.field) (set_count fr.sets) ph.number
  pub counted : ph.patterns ≡ min (pattern_count (length fr.sets.rows) (size fr.sets.field) ph.level) (2 ^ 53)
  pub inside : ph.first + ph.blocks ≤ coset_blocks_before (length fr.sets.rows) (size fr.sets.field) (set_count fr.sets) (suc ph.number)
  pub uncut : ph.first + ph.blocks ≤ 2 ^ 40

pub record IsPlaceOf (fr : Frame) (ph : CosetPhase) (place : ℕ) : Type 0 where
  pub from : ph.first * 4096 ≤ place
  pub before : place < (ph.first + ph.blocks) * 4096
  pub word : (w : List ℕ) × (coset_word_at fr.sets fr.word place ≡ Some w)

pub record IsFitting (fr : Frame) (ph : CosetPhase) (o : Option Led) (d : Desk) : Type 0 where
  pub search : IsFrame fr
  pub phase : IsPhaseOf fr ph
  pub larger : IfSome o (IsLed fr.sets fr.word)
  pub desk : IsDeskOf fr.sets o d

pub record IsBestAt (C : Matrix) (x : List ℕ) (l : ℕ) (b : Best) : Type 0 where
  pub distance : b.weight ≡ (near_best C x l).weight
  pub place_is : b.place ≡ (near_best C x l).place
  pub there : coset_word_at C x b.place ≡ Some b.word
  pub light : b.weight ≤ 255
  pub near : b.place < 2 ^ 52
  pub long : length b.word ≡ C.columns

pub record IsStateAt (fr : Frame) (l : ℕ) (s : State) : Type 0 where
  pub found : IsBestAt fr.sets fr.word l s.best
  pub room : IsRoomOf fr.sets s.own
  pub larger : IfSome s.led (IsLed fr.sets fr.word)
  pub desks : All (IsDeskOf fr.sets s.led) s.spare.items
