-- When the lines of parts are true, and the checkpoint that they make. C is the code of the first search of a script.
--   IsTrueLine digest C l        the line of a true part of the search: it names this digest and the facts of the code
--   IsTrueText table bytes C budget text      the text is that of a checkpoint of a state that has the answer of the search; and if a
--                                block is done there, the checkpoint is a true one of the script
use Rattle.std.specs.Prelude.{◌≡◌, ℕ, ◌≤◌, List}
use Rattle.sha2.specs.Sha256.{sha256}
use Rattle.lc_algebra.specs.Matrix.{Matrix}
use Rattle.lc_algebra.specs.Divisor.{divisor_of}
use Rattle.lc_enumeration.specs.Records.{Progress}
use Rattle.lc_enumeration.specs.Truth.{IsSettled}
use Rattle.lc_formats.specs.Checkpoint.{checkpoint_text}
use Rattle.lc_language.specs.declared.Call.{Call}
use Rattle.lc_session_rules.specs.Slots.{IsTrueCheckpoint}
use Rattle.lc_parts.specs.Part.{IsTruePart, facts_of}
use Rattle.lc_join.specs.Lines.{Numbered}
use Rattle.lc_part_laws.specs.Point.{joined_point}

pub record IsTrueLine (digest : List ℕ) (C : Matrix) (l : Numbered) : Type 0 where
  pub script : l.line.script ≡ digest
  pub facts : l.line.facts ≡ facts_of C
  pub part : IsTruePart C l.line.part

pub record IsTrueText (table : List Call) (bytes : List ℕ) (C : Matrix) (budget : ℕ) (text : List ℕ) : Type 0 where
  pub state : Progress
  pub text_is : text ≡ checkpoint_text (joined_point (sha256 bytes) budget state)
  pub answered : IsSettled (divisor_of C) C budget state
  pub checkpoint : 1 ≤ state.blocks → IsTrueCheckpoint table bytes budget (joined_point (sha256 bytes) budget state)
