-- A session on its way through the statements of its script.
--   HasCome budget first before start m c text now      it has done the statements before those that are left
--   Finishes w first t c now         it has done the statements, or up to one that fails, and this is the text
--   AreMet first needs               the needs of the first of some statements, however many
--   Ends w first c now halt          it ended before
--   Prints w bytes t c now, EndsBefore w bytes c now halt      the same of the statements of the bytes, if they are a script
use Rattle.std.specs.Prelude.{◌≡◌, ◌⊎◌, ℕ, false, List, [], ◌∷◌, ◌++◌, length, map, take, None}
use Rattle.lc_algebra.specs.Matrix.{Matrix}
use Rattle.lc_algebra.specs.Divisor.{divisor_of}
use Rattle.lc_enumeration.specs.Search.{Answer}
use Rattle.lc_enumeration.specs.Records.{SessionStep}
use Rattle.lc_enumeration.specs.Fitting.{misfit}
use Rattle.lc_grammar.specs.Tree.{Statement}
use Rattle.lc_parse.specs.Views.{statement_of}
use Rattle.lc_calls.specs.Built.{built_calls}
use Rattle.lc_eval.specs.Machine.{State}
use Rattle.lc_session_rules.specs.Needs.{Needs, IsNeeds, MeetsFirst}
use Rattle.lc_session_rules.specs.Answers.{RunsBy, IsTextBy}
use Rattle.lc_rounds.specs.Way.{Around, IsOnItsWay}
use Rattle.lc_session_rules.specs.Course.{begins}
use Rattle.lc_session_rules.specs.Statements.{HaveDone}
use Rattle.lc_rounds.specs.declared.course.Course.{Course}
use Rattle.lc_rounds.specs.declared.need.Halt.{Halt}
use Rattle.lc_rounds.specs.declared.need.Halt.TheVariants as halt
use Rattle.lc_rounds.specs.Going.{World, IsOf, IsRanged, settled_in, rounds_from, AreAnswered, Goes, Misfits, Stops, IsMisfit}
use Rattle.lc_text.specs.declared.statements.Text.{Text}

pub record HasCome (budget : ℕ) (first : List Statement) (before : Course) (start : Around) (m : State) (c : Course) (text : List ℕ) (now : Around) : Type 0 where
  pub needs : List Matrix
  pub answers : List Answer
  pub statements : HaveDone built_calls budget [] m.bindings first (map statement_of m.left) needs answers text
  pub met : c.met ≡ length needs
  pub ranged : IsRanged c
  pub goes : (w : World) → Goes w [] [] before start → Goes w needs answers c now

pub record Finishes (w : World) (first : List Statement) (t : Text) (c : Course) (now : Around) : Type 0 where
  pub needs : List Matrix
  pub answers : List Answer
  pub told : List SessionStep
  pub asks_all : Needs built_calls [] first needs
  pub prints_all : RunsBy built_calls w.budget [] first answers t.bytes.items t.ends
  pub rounds_are : rounds_from w needs ≡ record { steps = told; settled = settled_in c; left = c.pace.slice; is_stopped = false }
  pub way : IsOnItsWay w.origin told c.pace now
  pub of : IsOf w c.pace
  pub fitting : misfit divisor_of needs w.budget (begins w.beginning needs) ≡ None
  pub answered : AreAnswered w.budget needs (settled_in c) answers

-- the needs of the first of these statements, however many
abbrev pub AreMet : List Statement → List Matrix → Type 0
AreMet first needs = (n : ℕ) × Needs built_calls [] (take n first) needs

abbrev pub Ends : World → List Statement → Course → Around → Halt → Type 0
Ends w first c now (halt.Stop stop) = (needs : List Matrix) × AreMet first needs × Stops w needs c now stop
Ends w first c now (halt.Unfit told found) =
    (needs : List Matrix) × AreMet first needs × IsMisfit w needs c now c.met told found
    × (((before : List Matrix) × (C : Matrix) × (needs ≡ before ++ C ∷ []) × (c.met ≡ length before) × Misfits w.beginning w.budget before C)
    ⊎ ((c.met ≡ length needs) × Needs built_calls [] first needs))

pub record Prints (w : World) (bytes : List ℕ) (t : Text) (c : Course) (now : Around) : Type 0 where
  pub needs : List Matrix
  pub answers : List Answer
  pub told : List SessionStep
  pub asks_all : IsNeeds built_calls bytes needs
  pub prints_all : IsTextBy built_calls w.budget bytes answers t.bytes.items t.ends
  pub rounds_are : rounds_from w needs ≡ record { steps = told; settled = settled_in c; left = c.pace.slice; is_stopped = false }
  pub way : IsOnItsWay w.origin told c.pace now
  pub of : IsOf w c.pace
  pub fitting : misfit divisor_of needs w.budget (begins w.beginning needs) ≡ None
  pub answered : AreAnswered w.budget needs (settled_in c) answers

abbrev pub EndsBefore : World → List ℕ → Course → Around → Halt → Type 0
EndsBefore w bytes c now (halt.Stop stop) = (needs : List Matrix) × MeetsFirst built_calls bytes needs × Stops w needs c now stop
EndsBefore w bytes c now (halt.Unfit told found) =
    (needs : List Matrix) × MeetsFirst built_calls bytes needs × IsMisfit w needs c now c.met told found
    × (((before : List Matrix) × (C : Matrix) × (needs ≡ before ++ C ∷ []) × (c.met ≡ length before) × Misfits w.beginning w.budget before C)
    ⊎ ((c.met ≡ length needs) × IsNeeds built_calls bytes needs))
