-- What the program keeps of the information sets of a code.
--   SetState              an information set, and the generator matrix that is the identity on its basis
--   set_state C s         that of a set of the code C
--   set_states C          those of all sets of the code
--   states_after C used most      those of the sets after those whose fresh columns are used, at most so many
--   IsKept C d states     a code over a symbol field, of length 1 to 255 (longest), with independent rows, at least one; the
--                         divisor of its weights, and the states of its sets
use Rattle.std.specs.Prelude.{◌≡◌, ℕ, ◌<◌, ◌≤◌, List, length, map, IsTrue}
use Rattle.lc_algebra.specs.Field.{is_symbol}
use Rattle.lc_algebra.specs.Span.{AreIndependent}
use Rattle.lc_algebra.specs.Matrix.{Matrix, AreRows}
use Rattle.lc_algebra.specs.Divisor.{divisor_of}
use Rattle.lc_enumeration.specs.InformationSet.{InformationSet, sets_after, systematic}
use Rattle.lc_enumeration.specs.Search.{sets_of}

pub record SetState : Type 0 where
  pub set : InformationSet
  pub generator : Matrix

abbrev pub set_state : Matrix → InformationSet → SetState
set_state C s = record { set = s; generator = record { field = C.field; columns = C.columns; rows = systematic C.field C.columns C.rows s.basis } }

abbrev pub set_states : Matrix → List SetState
set_states C = map (set_state C) (sets_of C)

abbrev pub states_after : Matrix → List ℕ → ℕ → List SetState
states_after C used most = map (set_state C) (sets_after C.field C.columns C.rows used most)

pub record IsKept (C : Matrix) (d : ℕ) (states : List SetState) : Type 0 where
  pub symbol : IsTrue (is_symbol C.field)
  pub least : 1 ≤ C.columns
  pub most : C.columns ≤ 255
  pub some : 0 < length C.rows
  pub words : AreRows C.field C.columns C.rows
  pub independent : AreIndependent C.field C.columns C.rows
  pub divisor : d ≡ divisor_of C
  pub sets : states ≡ set_states C
