-- The statements of a script that a session has done so far.
--   HaveDone                 what they asked, and what they printed by these answers
use Rattle.std.specs.Prelude.{◌≡◌, ℕ, Bool, List, ◌++◌}
use Rattle.lc_algebra.specs.Matrix.{Matrix}
use Rattle.lc_enumeration.specs.Search.{Answer}
use Rattle.lc_grammar.specs.Tree.{Statement}
use Rattle.lc_language.specs.declared.Call.{Call}
use Rattle.lc_language.specs.Value.{Binding}
use Rattle.lc_session_rules.specs.Needs.{Needs}
use Rattle.lc_session_rules.specs.Answers.{RunsBy}

-- the statements done so far asked these needs, and by these answers they printed this text, however the rest goes
pub record HaveDone (table : List Call) (budget : ℕ) (start now : List Binding) (first left : List Statement) (needs : List Matrix) (answers : List Answer) (text : List ℕ) : Type 0 where
  pub done : List Statement
  pub split : first ≡ done ++ left
  pub asks_so : (tail : List Statement) (more : List Matrix) → Needs table now tail more → Needs table start (done ++ tail) (needs ++ more)
  pub prints_so : (tail : List Statement) (others : List Answer) (rest : List ℕ) (ends : Bool) → RunsBy table budget now tail others rest ends → RunsBy table budget start (done ++ tail) (answers ++ others) (text ++ rest) ends
