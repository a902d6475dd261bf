-- What a call answers of its arguments.
--   Answers r P                  r is an answer, a value or a fault, of which P holds, unless memory ran out
--   IsStop s o                   s is the fault o
use Rattle.std.specs.Prelude.{◌≡◌, Result, Ok, Err}
use Rattle.lc_language.specs.Evaluation.{Outcome, gives, refused}
use Rattle.lc_calls.specs.Value.{value_of, refused_of}
use Rattle.lc_calls.specs.declared.values.Value.{Value}
use Rattle.lc_calls.specs.declared.refusals.Stop.{Stop}
use Rattle.lc_calls.specs.declared.refusals.Stop.TheVariants as stop

abbrev pub Answers : Result Value Stop → (Outcome → Type 0) → Type 0
Answers (Ok v) P = P (gives (value_of v))
Answers (Err (stop.Refused r)) P = P (refused (refused_of r))
Answers (Err stop.NoMemory) P = Unit {0}

abbrev pub IsStop : Stop → Outcome → Type 0
IsStop (stop.Refused r) o = refused (refused_of r) ≡ o
IsStop stop.NoMemory o = ⊥
