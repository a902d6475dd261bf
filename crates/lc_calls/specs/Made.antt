-- What a constructor of codes answers, as the answer of a call at an offset.
--   IsMade made offset r      of a code: r is that answer, a value without an alternant form or a fault, unless memory ran out
--   IsFormed made offset r    of a code beside its alternant form: the value has this form
use Rattle.std.specs.Prelude.{◌≡◌, ◌≢◌, ℕ, Some, None, Result, Ok, Err}
use Rattle.lc_algebra.specs.Matrix.{Matrix}
use Rattle.lc_code.specs.declared.alternant.FormedCode.{FormedCode}
use Rattle.lc_constructions.specs.declared.refusal.CodeRefusal.{CodeRefusal}
use Rattle.lc_constructions.specs.declared.refusal.CodeRefusal.TheVariants.{NoMemory}
use Rattle.lc_language.specs.Value as language
use Rattle.lc_language.specs.Value.{code}
use Rattle.lc_language.specs.Refusal.{refusal_from}
use Rattle.lc_language.specs.Evaluation.{gives, refuse_call}
use Rattle.lc_calls.specs.declared.values.Value.{Value}
use Rattle.lc_calls.specs.declared.refusals.Stop.{Stop}
use Rattle.lc_calls.specs.Applied.{Answers}

-- with the value of what was made
abbrev pub IsMadeAs : {T : Type 0} → (T → language.Value) → Result T CodeRefusal → ℕ → Result Value Stop → Type 0
IsMadeAs {T = T} value (Ok x) offset r = Answers r (λ o. o ≡ gives (value x))
IsMadeAs {T = T} value (Err e) offset r = Answers r (λ o. (e ≢ NoMemory) × (o ≡ refuse_call offset (refusal_from e)))

abbrev pub plain_value : Matrix → language.Value
plain_value C = code C None

abbrev pub formed_value : FormedCode → language.Value
formed_value c = code c.code (Some c.form)

abbrev pub IsMade : Result Matrix CodeRefusal → ℕ → Result Value Stop → Type 0
IsMade made offset r = IsMadeAs plain_value made offset r

abbrev pub IsFormed : Result FormedCode CodeRefusal → ℕ → Result Value Stop → Type 0
IsFormed made offset r = IsMadeAs formed_value made offset r
