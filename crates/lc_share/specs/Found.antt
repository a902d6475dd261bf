-- The part that is asked for, once it is done.
--   IsPartDone table bytes asked d      d is the part of the first need of the script
use Rattle.std.specs.Prelude.{ℕ, ◌<◌, List, [], ◌∷◌, length}
use Rattle.lc_algebra.specs.Matrix.{Matrix}
use Rattle.lc_language.specs.declared.Call.{Call}
use Rattle.lc_session_rules.specs.Needs.{MeetsFirst}
use Rattle.lc_part_search.specs.Done.{IsInside, IsDoneFor}
use Rattle.lc_part_search.specs.declared.done.Done.{Done}
use Rattle.lc_share.specs.Asked.{PartAsked}

pub record IsPartDone (table : List Call) (bytes : List ℕ) (a : PartAsked) (d : Done) : Type 0 where
  pub code : Matrix
  pub met : MeetsFirst table bytes (code ∷ [])
  pub some : 0 < length code.rows
  pub inside : IsInside code a.start a.count
  pub done : IsDoneFor code a.start a.count d
