-- How the items of a list are asked for their advice, one after the other.
--   IsAskedBy step note f item advice after left    an item was asked once, by a step that left what asks and the item so
--   AsksInTurn R s before after paused     each item of `before` was asked once, in order, by a step of R, the first from s on: those of which
--                                          the answer was Leave are gone, the others are there in their order, as R left them, and the flag
--                                          says whether the answer was Pause for some
use Rattle.std.specs.Prelude.{◌≡◌, Bool, true, false, cond, List, [], ◌∷◌}
use Rattle.std.specs.Borrow.{Bor, MutBor}
use Rattle.lc_io.specs.declared.watcher.Record.{Record}
use Rattle.lc_io.specs.declared.watcher.Advice.{Advice}
use Rattle.lc_io.specs.Watchers.{is_leave, is_pause}

-- an item was asked once about a record, by a step from one state of what asks to another
pub record IsAskedBy {F T : Type 0} (step : F → MutBor T → Bor Record → Advice → MutBor T → F → Type 0) (note : Record) (f : F) (item : T) (advice : Advice) (after : F) (left : T) : Type 0 where
  pub shown : MutBor T
  pub shows : shown.now ≡ item
  pub told : Bor Record
  pub tells : told.now ≡ note
  pub returned : MutBor T
  pub called : step f shown told advice returned after
  pub leaves : returned.now ≡ left

-- each item was asked once, in order; those that were to leave are gone
pub data AsksInTurn {S X : Type 0} (R : S → X → Advice → S → X → Type 0) : S → List X → List X → Bool → Type 0 where
  nobody : (s : S) → AsksInTurn R s [] [] false
  stays : (s t : S) (x y : X) (advice : Advice) (xs ys : List X) (paused : Bool) → is_leave advice ≡ false → R s x advice t y → AsksInTurn R t xs ys paused → AsksInTurn R s (x ∷ xs) (y ∷ ys) (cond (is_pause advice) true paused)
  leaves : (s t : S) (x y : X) (advice : Advice) (xs ys : List X) (paused : Bool) → is_leave advice ≡ true → R s x advice t y → AsksInTurn R t xs ys paused → AsksInTurn R s (x ∷ xs) ys paused
