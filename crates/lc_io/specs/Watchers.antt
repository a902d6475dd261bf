-- What a watcher of records answers, and what a record told to several watchers leaves of them.
--   is_pause advice, is_leave advice       which advice this is
--   first_advice coming, later coming      the next advice of those that are still to be given, Leave if there is none; the others
--   AnswersFrom before advice after        a watcher that tells what is to come answers the first of it, and takes it away;
--                                          one that doesn't tell doesn't begin to
--   HearsUnlessLeft before note advice after   what was heard grew by the record, unless the watcher left
--   pauses_after n advice                  how often it has paused, after this advice
--   Hearing                                a watcher as contracts see it: the records heard, the advice to come, the number of pauses
--   hearing heard coming pauses w          the three meanings of a watcher w, together
--   Hears note before advice after         the watcher was told this record, and gave this advice
--   Tells note before after paused         the record was told to these watchers, in order: those that answered Leave are gone,
--                                          the others keep their order, and the flag says whether one answered Pause
use Rattle.std.specs.Prelude.{◌≡◌, ◌+◌, ◌++◌, ℕ, Bool, true, false, cond, List, [], ◌∷◌, Option, Some, None, option_map}
use Rattle.lc_io.specs.declared.watcher.Record.{Record}
use Rattle.lc_io.specs.declared.watcher.Advice.{Advice}
use Rattle.lc_io.specs.declared.watcher.Advice.TheVariants.{Go, Pause, Leave}

abbrev pub is_pause : Advice → Bool
is_pause Go = false
is_pause Pause = true
is_pause Leave = false

abbrev pub is_leave : Advice → Bool
is_leave Go = false
is_leave Pause = false
is_leave Leave = true

-- the next advice of those still to be given; one that has none left leaves
abbrev pub first_advice : List Advice → Advice
first_advice [] = Leave
first_advice (a ∷ rest) = a

-- those after it
abbrev pub later : List Advice → List Advice
later [] = []
later (a ∷ rest) = rest

-- the first advice of those told, which is taken away
abbrev pub AnswersFrom : Option (List Advice) → Advice → Option (List Advice) → Type 0
AnswersFrom None advice after = after ≡ None
AnswersFrom (Some coming) advice after = (advice ≡ first_advice coming) × (after ≡ Some (later coming))

-- the records heard grew by this one, unless the watcher left
abbrev pub HearsUnlessLeft : Option (List Record) → Record → Advice → Option (List Record) → Type 0
HearsUnlessLeft before note Go after = after ≡ option_map (λ notes. notes ++ note ∷ []) before
HearsUnlessLeft before note Pause after = after ≡ option_map (λ notes. notes ++ note ∷ []) before
HearsUnlessLeft before note Leave after = Unit {0}

-- how often it has paused
abbrev pub pauses_after : ℕ → Advice → ℕ
pauses_after n Go = n
pauses_after n Pause = n + 1
pauses_after n Leave = n

-- a watcher as contracts see it
pub record Hearing : Type 0 where
  pub heard : Option (List Record)  -- the records heard, if it tells them
  pub coming : Option (List Advice)  -- the advice still to be given, if it tells it
  pub pauses : ℕ  -- how often it has answered Pause

-- the three meanings of a watcher, together
abbrev pub hearing : {W : Type 0} → (W → Option (List Record)) → (W → Option (List Advice)) → (W → ℕ) → W → Hearing
hearing heard coming pauses w = record { heard = heard w; coming = coming w; pauses = pauses w }

-- one watcher was told this record, and gave this advice
pub record Hears (note : Record) (before : Hearing) (advice : Advice) (after : Hearing) : Type 0 where
  pub coming : AnswersFrom before.coming advice after.coming
  pub heard : HearsUnlessLeft before.heard note advice after.heard
  pub pauses : after.pauses ≡ pauses_after before.pauses advice

-- each watcher hears the record in turn; those that answer Leave are gone, and the flag says whether one answered Pause
pub data Tells (note : Record) : List Hearing → List Hearing → Bool → Type 0 where
  nobody : Tells note [] [] false
  stays : (w w' : Hearing) (advice : Advice) (ws ws' : List Hearing) (paused : Bool) → is_leave advice ≡ false → Hears note w advice w' → Tells note ws ws' paused → Tells note (w ∷ ws) (w' ∷ ws') (cond (is_pause advice) true paused)
  leaves : (w w' : Hearing) (advice : Advice) (ws ws' : List Hearing) (paused : Bool) → is_leave advice ≡ true → Hears note w advice w' → Tells note ws ws' paused → Tells note (w ∷ ws) ws' paused

-- a watcher in memory, as contracts see it
pub record MemoryHearing : Type 0 where
  pub heard : List Record
  pub coming : List Advice
  pub pauses : ℕ
