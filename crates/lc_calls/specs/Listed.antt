-- What the elements of a list so far make.
--   listed_of found              the numbers or the lists
--   ListsOn r found v offset     r is these elements with the value v, or the fault 45 at this offset if v doesn't fit, unless memory
--                                ran out
use Rattle.std.specs.Prelude.{◌≡◌, ℕ, Some, None, Result, Ok, Err}
use Rattle.lc_language.specs.Value as language
use Rattle.lc_language.specs.Evaluation as evaluation
use Rattle.lc_language.specs.Evaluation.{refused, refuse_at, nothing_yet, all_numbers, all_lists, listed_with}
use Rattle.lc_calls.specs.Value.{rows_of, refused_of}
use Rattle.lc_calls.specs.declared.lists.Listed.{Listed}
use Rattle.lc_calls.specs.declared.lists.Listed.TheVariants.{Nothing, Numbers, Lists}
use Rattle.lc_calls.specs.declared.refusals.Stop.{Stop}
use Rattle.lc_calls.specs.declared.refusals.Stop.TheVariants as stop

abbrev pub listed_of : Listed → evaluation.Listed
listed_of Nothing = nothing_yet
listed_of (Numbers u) = all_numbers u.items
listed_of (Lists rows) = all_lists (rows_of rows.items)

abbrev pub ListsOn : Result Listed Stop → evaluation.Listed → language.Value → ℕ → Type 0
ListsOn (Ok next) found v offset = listed_with found v ≡ Some (listed_of next)
ListsOn (Err (stop.Refused r)) found v offset = (listed_with found v ≡ None) × (refused (refused_of r) ≡ refuse_at 45 offset)
ListsOn (Err stop.NoMemory) found v offset = Unit {0}
