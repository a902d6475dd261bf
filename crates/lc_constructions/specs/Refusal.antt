-- The refusals of constructors and combinators of codes: their numbers, and which results answer them.
--   refusal_number r          the number of the refusal as the project counts them; running out of memory has none, and gives 0
--   refusal_values r          the numbers that it carries, in the order in which they are printed
--   refuse_if test r          the refusal r if the test passes, else None
--   first_refusal rs          the first refusal in the list; None if no entry is a refusal
--   IsChecked result r        what a check of arguments answers: the result is the error r, and Ok exactly if r is None
--   IsRefusedAs result r      the result is a value only if r is None, and an error other than NoMemory only if r is this error.
--                             NoMemory may come at any point
--   RefusesFirst result r     if r is a refusal, the result is this error: it comes before any memory is taken
use Rattle.std.specs.Prelude.{◌≡◌, ◌≢◌, ℕ, Bool, if◌then◌else◌, List, [], ◌∷◌, Option, Some, None, Result, MatchResult}
use Rattle.std.specs.Result.{IsErrOf}
use Rattle.lc_constructions.specs.declared.refusal.CodeRefusal.{CodeRefusal}
use Rattle.lc_constructions.specs.declared.refusal.CodeRefusal.TheVariants.{BadLength, BadArgument, NotADivisor, NoRoot, BadDelta, NoFieldOfLength, RepeatedPoint, RootAt, NotASubfield, FieldsDiffer, LengthsDiffer, BadPositions, InnerDimension, FieldTooLarge, NoMemory}

unfoldable pub refusal_number : CodeRefusal → ℕ
refusal_number BadLength = 2
refusal_number (BadArgument argument) = 3
refusal_number NotADivisor = 4
refusal_number NoRoot = 5
refusal_number BadDelta = 6
refusal_number NoFieldOfLength = 7
refusal_number (RepeatedPoint first second) = 8
refusal_number (RootAt place) = 9
refusal_number NotASubfield = 10
refusal_number FieldsDiffer = 11
refusal_number LengthsDiffer = 12
refusal_number BadPositions = 13
refusal_number (InnerDimension dimension degree) = 14
refusal_number FieldTooLarge = 17
refusal_number NoMemory = 0

unfoldable pub refusal_values : CodeRefusal → List ℕ
refusal_values (BadArgument argument) = argument ∷ []
refusal_values (RepeatedPoint first second) = first ∷ second ∷ []
refusal_values (RootAt place) = place ∷ []
refusal_values (InnerDimension dimension degree) = dimension ∷ degree ∷ []
refusal_values _ = []

unfoldable pub refuse_if : Bool → CodeRefusal → Option CodeRefusal
refuse_if test r = (if test then Some r else None)

unfoldable pub first_refusal : List (Option CodeRefusal) → Option CodeRefusal
first_refusal [] = None
first_refusal (None ∷ rs) = first_refusal rs
first_refusal (Some r ∷ rs) = Some r

abbrev pub IsChecked : {T : Type 0} → Result T CodeRefusal → Option CodeRefusal → Type 0
IsChecked result r = MatchResult result (λ _. r ≡ None) (λ e. r ≡ Some e)

abbrev pub IsRefusedAs : {T : Type 0} → Result T CodeRefusal → Option CodeRefusal → Type 0
IsRefusedAs result r = MatchResult result (λ _. r ≡ None) (λ e. e ≢ NoMemory → r ≡ Some e)

abbrev pub RefusesFirst : {T : Type 0} → Result T CodeRefusal → Option CodeRefusal → Type 0
RefusesFirst result r = (e : CodeRefusal) → r ≡ Some e → IsErrOf result e
