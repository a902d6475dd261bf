-- The values of a script.
--   Value             a number, a field, a list of numbers, a list of lists of numbers, a code with its alternant form if it
--                     has one, a truth value, or the nothing that a decoder answers if no word is near enough
--   number_in v, field_in v, numbers_in v, lists_in v     the number, field or list that the value is, if it is one; the empty
--                     list is both a list of numbers and a list of lists
--   CodeValue        a code with its alternant form, if it has one
--   code_in v         the code that the value is
--   Meant kind        what a value of the kind stands for: a number, a field, a list, or a code
--   read kind v       what the value stands for, if it is of the kind
--   is_kind kind v    whether the value is of the kind
--   Binding           a name and the value that it was assigned
--   value_named x env     the value that a name was assigned last
use Rattle.std.specs.Prelude.{ℕ, Bool, List, [], ◌∷◌, Option, Some, None, is_some, if◌then◌else◌}
use Rattle.lc_algebra.specs.declared.FieldName.{FieldName}
use Rattle.lc_algebra.specs.Matrix.{Matrix}
use Rattle.lc_constructions.specs.Alternant.{AlternantForm}
use Rattle.lc_language.specs.declared.Kind.{Kind}
use Rattle.lc_language.specs.declared.Kind.TheVariants.{Number, Field, Numbers, Lists, Code}
use Rattle.lc_formats.specs.Text.{same_bytes}

pub data Value : Type 0 where
  number : ℕ → Value
  field : FieldName → Value
  numbers : List ℕ → Value
  lists : List (List ℕ) → Value
  code : Matrix → Option AlternantForm → Value
  truth : Bool → Value
  nothing : Value

unfoldable pub number_in : Value → Option ℕ
number_in (number n) = Some n
number_in _ = None

unfoldable pub field_in : Value → Option FieldName
field_in (field f) = Some f
field_in _ = None

unfoldable pub numbers_in : Value → Option (List ℕ)
numbers_in (numbers u) = Some u
numbers_in (lists []) = Some []
numbers_in _ = None

unfoldable pub lists_in : Value → Option (List (List ℕ))
lists_in (lists rows) = Some rows
lists_in (numbers []) = Some []
lists_in _ = None

pub record CodeValue : Type 0 where
  pub code : Matrix
  pub form : Option AlternantForm

unfoldable pub code_in : Value → Option CodeValue
code_in (code C form) = Some (record { code = C; form = form })
code_in _ = None

abbrev pub Meant : Kind → Type 0
Meant Number = ℕ
Meant Field = FieldName
Meant Numbers = List ℕ
Meant Lists = List (List ℕ)
Meant Code = CodeValue

abbrev pub read : (kind : Kind) → Value → Option (Meant kind)
read Number v = number_in v
read Field v = field_in v
read Numbers v = numbers_in v
read Lists v = lists_in v
read Code v = code_in v

unfoldable pub is_kind : Kind → Value → Bool
is_kind kind v = is_some (read kind v)

pub record Binding : Type 0 where
  pub name : List ℕ
  pub value : Value

-- bindings stand with the last one first
unfoldable pub value_named : List ℕ → List Binding → Option Value
value_named x [] = None
value_named x (b ∷ env) = (if same_bytes x b.name then Some b.value else value_named x env)
