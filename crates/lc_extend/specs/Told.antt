-- Construction X: its arguments, and its refusals as those of the language.
--   AreExtendable C D E       three codes that construction X takes, but for the length of what it gives
--   told e                    the refusal of the language that it is
--   IsRefusedWith result r    the result is a value only if r is None, and an error other than the want of memory only if r tells it
--   IsRefusedFirst result r   if r is a refusal, the result is this error: it comes before any memory is taken
use Rattle.std.specs.Prelude.{◌≡◌, ◌≢◌, ◌-◌, [], length, Option, Some, None, Result, MatchResult}
use Rattle.std.specs.Result.{IsErrOf}
use Rattle.lc_algebra.specs.Matrix.{Matrix, AreRows, IsReduced}
use Rattle.lc_constructions.specs.declared.refusal.CodeRefusal.{CodeRefusal}
use Rattle.lc_constructions.specs.declared.refusal.CodeRefusal.TheVariants.{NoMemory}
use Rattle.lc_language.specs.Refusal.{Refusal, refuse, refusal_from}
use Rattle.lc_language.specs.Relations.{IsSubcode}
use Rattle.lc_extend.specs.declared.refusal.ExtensionRefusal.{ExtensionRefusal}
use Rattle.lc_extend.specs.declared.refusal.ExtensionRefusal.TheVariants.{Codes, NotASubcode}

pub record AreExtendable (C D E : Matrix) : Type 0 where
  pub fields : C.field ≡ D.field
  pub tail_fields : C.field ≡ E.field
  pub lengths : C.columns ≡ D.columns
  pub whole_rows : AreRows C.field C.columns C.rows
  pub whole_reduced : IsReduced C.columns C.rows
  pub part_rows : AreRows D.field D.columns D.rows
  pub part_reduced : IsReduced D.columns D.rows
  pub tail_rows : AreRows E.field E.columns E.rows
  pub tail_reduced : IsReduced E.columns E.rows
  pub inside : IsSubcode D C
  pub dimension : length E.rows ≡ length C.rows - length D.rows

unfoldable pub told : ExtensionRefusal → Refusal
told (Codes e) = refusal_from e
told NotASubcode = refuse 51 []

abbrev pub IsRefusedWith : {T : Type 0} → Result T ExtensionRefusal → Option Refusal → Type 0
IsRefusedWith result r = MatchResult result (λ _. r ≡ None) (λ e. e ≢ Codes NoMemory → r ≡ Some (told e))

abbrev pub IsRefusedFirst : {T : Type 0} → Result T ExtensionRefusal → Option CodeRefusal → Type 0
IsRefusedFirst result r = (e : CodeRefusal) → r ≡ Some e → IsErrOf result (Codes e)
