-- The forms of a call: the kinds of its arguments, and the call with such arguments. Most calls have one form.
--   Takes kinds R          a function of arguments of these kinds that gives an R
--   Form R                 a form: the kinds of its arguments, and what it makes of them
--   form kinds make        the form with these
--   one kinds make         the forms of a call that has this one alone
--   kinds_of forms         the kinds of the arguments in each form
--   filled kinds make vs   what is made of these values; None if they are more or fewer, or one is not of its kind
--   form_for n forms       the form with n arguments
--   bound forms vs         what the form with as many arguments as there are values makes of them
use Rattle.std.specs.Prelude.{ℕ, ◌==◌, List, [], ◌∷◌, length, map, find, Option, Some, None}
use Rattle.lc_language.specs.declared.Kind.{Kind}
use Rattle.lc_language.specs.Value.{Value, Meant, read}

abbrev pub Takes : List Kind → Type 0 → Type 0
Takes [] R = R
Takes (kind ∷ kinds) R = Meant kind → Takes kinds R

pub record Form (R : Type 0) : Type 0 where
  pub kinds : List Kind
  pub make : Takes kinds R

abbrev pub form : {R : Type 0} (kinds : List Kind) → Takes kinds R → Form R
form kinds make = record { kinds = kinds; make = make }

abbrev pub one : {R : Type 0} (kinds : List Kind) → Takes kinds R → List (Form R)
one kinds make = form kinds make ∷ []

abbrev pub kinds_of : {R : Type 0} → List (Form R) → List (List Kind)
kinds_of forms = map (λ form. form.kinds) forms

-- what is made of a value that is there
abbrev pub given : {A R : Type 0} → Option A → (A → Option R) → Option R
given None make = None
given (Some a) make = make a

abbrev pub filled : {R : Type 0} (kinds : List Kind) → Takes kinds R → List Value → Option R
filled [] made [] = Some made
filled (kind ∷ kinds) make (v ∷ vs) = given (read kind v) (λ a. filled kinds (make a) vs)
filled _ _ _ = None

abbrev pub form_for : {R : Type 0} → ℕ → List (Form R) → Option (Form R)
form_for n forms = find (λ form. length form.kinds == n) forms

abbrev pub bound : {R : Type 0} → List (Form R) → List Value → Option R
bound forms vs = given (form_for (length vs) forms) (λ form. filled form.kinds form.make vs)
