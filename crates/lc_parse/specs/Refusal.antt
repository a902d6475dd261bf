-- What `parse` and `tokens` answer if they refuse.
--   IsRefusedAs e P            where e is a fault, P holds of it; lack of memory says nothing
--   IsReadAs r P               r is an answer of which P holds, unless memory ran out
--   IsFaultAs r number offset  r is that fault, unless memory ran out
use Rattle.std.specs.Prelude.{◌≡◌, Result, Ok, Err}
use Rattle.lc_grammar.specs.Grammar.{Fault}
use Rattle.lc_parse.specs.declared.refusal.ParseRefusal.{ParseRefusal}
use Rattle.lc_parse.specs.declared.refusal.ParseRefusal.TheVariants as refusal

abbrev pub IsRefusedAs : ParseRefusal → (Fault → Type 0) → Type 0
IsRefusedAs (refusal.Fault number offset) P = P (record { number = number; offset = offset })
IsRefusedAs refusal.NoMemory P = Unit {0}

abbrev pub IsReadAs : {T : Type 0} → Result T ParseRefusal → (T → Type 0) → Type 0
IsReadAs (Ok x) P = P x
IsReadAs (Err (refusal.Fault number offset)) P = ⊥
IsReadAs (Err refusal.NoMemory) P = Unit {0}

abbrev pub IsFaultAs : {T : Type 0} → Result T ParseRefusal → Fault → Type 0
IsFaultAs (Ok x) fault = ⊥
IsFaultAs (Err (refusal.Fault number offset)) fault = (fault.number ≡ number) × (fault.offset ≡ offset)
IsFaultAs (Err refusal.NoMemory) fault = Unit {0}
