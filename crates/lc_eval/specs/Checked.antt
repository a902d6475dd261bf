-- The second argument of a call on a code, a list of numbers, as a word.
--   IsChecked C x offset r       r is the list x as a word of the code's length over its field, or the refusal of x at this offset,
--                                unless x has that length and memory ran out
use Rattle.std.specs.Prelude.{◌≡◌, ℕ, List, length, Some, None, Result, Ok, Err}
use Rattle.lc_algebra.specs.Word.{IsWord}
use Rattle.lc_algebra.specs.Matrix.{Matrix}
use Rattle.lc_language.specs.Refusal.{Refusal, first_of, from_codes, word_refusals}
use Rattle.lc_language.specs.Evaluation.{refused, refuse_call}
use Rattle.lc_calls.specs.Value.{refused_of}
use Rattle.lc_calls.specs.declared.refusals.Stop.{Stop}
use Rattle.lc_calls.specs.declared.refusals.Stop.TheVariants as stop

pub record IsRight (C : Matrix) (x w : List ℕ) : Type 0 where
  pub same : w ≡ x
  pub word : IsWord C.field C.columns w
  pub unrefused : first_of (from_codes (word_refusals C x)) ≡ None

abbrev pub IsChecked : Matrix → List ℕ → ℕ → Result (List ℕ) Stop → Type 0
IsChecked C x offset (Ok w) = IsRight C x w
IsChecked C x offset (Err (stop.Refused r)) = (e : Refusal) × (first_of (from_codes (word_refusals C x)) ≡ Some e) × (refused (refused_of r) ≡ refuse_call offset e)
IsChecked C x offset (Err stop.NoMemory) = length x ≡ C.columns
