-- The text that a script prints. It is a function of the table of calls that exist: a call that the table lacks is an unknown
-- name. A budget is the number of blocks that the search of one query may look at.
--   Refused                      a fault: its number, its offset and the numbers after it
--   Outcome, Outcomes            the value of an expression, or the fault; the values of several, or the first fault
--   first_misfit kinds es vs     the offset of the first argument whose value is not of its kind
--   misfit_offset offset kinds es vs    that offset, if there is one
--   Listed                       what the elements of a list so far make
--   listed_with found v          the same with one element more, if it fits; the first says whether they are numbers or lists
--   list_value found             the list
--   AppliesTo offset b o         what a bound call gives: its refusal, or its value
--   Applies c es os o            what a call gives of its arguments' values
--   QueriesTo offset b step      what a bound query does as a statement: its refusal, or what it prints or asks
--   Evaluates table env e o      what an expression evaluates to
--   EvaluatesAll table env es os several expressions, from the left
--   ListGoesOn e p found Later o      an element with the outcome p, after those found so far: its fault, or 45, or what Later says
--   EvaluatesList table env es found o      the list whose elements so far are found, and then es, from the left
--   Step                         what a statement does: it binds a name, prints a line, asks a query of a code that is searched,
--                                counts the words of a code by weight, looks for a nearest word, or is refused
--   Steps table env s step       what the statement s does
--   Runs table budget env ss text ends      the text of the statements, and whether a fault ends it
--   IsText table budget bytes text ends     the text of a script
use Rattle.std.specs.Prelude.{◌≡◌, ℕ, ◌<◌, ◌⊎◌, Bool, true, false, List, [], ◌∷◌, ◌++◌, length, Option, Some, None, MatchOption}
use Rattle.lc_algebra.specs.declared.FieldName.{FieldName}
use Rattle.lc_algebra.specs.Word.{weight}
use Rattle.lc_algebra.specs.Span.{InSpan, IsLeast}
use Rattle.lc_algebra.specs.Matrix.{Matrix}
use Rattle.lc_language.specs.declared.Call.{Call}
use Rattle.lc_language.specs.declared.Call.TheVariants.{Value as Value_, Query}
use Rattle.lc_language.specs.declared.ValueCall.{ValueCall}
use Rattle.lc_language.specs.declared.QueryCall.{QueryCall}
use Rattle.lc_language.specs.declared.Kind.{Kind}
use Rattle.lc_grammar.specs.Tree.{Expr, Exprs, number, name, call, list, none, more, Statement, offset_of, count_of}
use Rattle.lc_grammar.specs.Grammar.{Reads, Fault, IsFault}
use Rattle.lc_language.specs.Value as value
use Rattle.lc_language.specs.Value.{Value, is_kind, Binding, value_named}
use Rattle.lc_language.specs.Calls as bound
use Rattle.lc_language.specs.Calls.{call_named, signature_for, BoundCall, bind, BoundQuery, bind_query, refusal_of, query_refusal_of, Gives, IsNotDivisor}
use Rattle.lc_language.specs.Refusal.{Refusal}
use Rattle.lc_constructions.specs.Refusals.{columns_of}
use Rattle.lc_constructions.specs.Nearest.{IsDecoded}
use Rattle.lc_language.specs.Meaning.{decoded}
use Rattle.lc_language.specs.Erasures.{Filling, IsFilling}
use Rattle.lc_language.specs.Print.{value_line, fault_line, least_line, least_none_line, filling_line}
use Rattle.lc_language.specs.Query.{QueryKind, distance, by_levels, by_scan, query_line, form_line, distribution_line, near_line}

pub record Refused : Type 0 where
  pub number : ℕ
  pub offset : ℕ
  pub values : List ℕ

pub data Outcome : Type 0 where
  gives : Value → Outcome
  refused : Refused → Outcome

pub data Outcomes : Type 0 where
  all_give : List Value → Outcomes
  one_refused : Refused → Outcomes

unfoldable pub refuse_at : ℕ → ℕ → Outcome
refuse_at n offset = refused (record { number = n; offset = offset; values = [] })

unfoldable pub refuse_call : ℕ → Refusal → Outcome
refuse_call offset r = refused (record { number = r.number; offset = offset; values = r.values })

unfoldable pub first_misfit : List Kind → Exprs → List Value → Option ℕ
first_misfit (kind ∷ kinds) (more e es) (v ∷ vs) = elim (is_kind kind v) as (λ _. Option ℕ) [ true ↦ first_misfit kinds es vs | false ↦ Some (offset_of e) ]
first_misfit _ _ _ = None

-- the offset of the first argument that is not of its kind; the offset of the call if all are, which is never asked for
unfoldable pub misfit_offset : ℕ → List Kind → Exprs → List Value → ℕ
misfit_offset offset kinds es vs = elim (first_misfit kinds es vs) as (λ _. ℕ) [ Some p ↦ p | None ↦ offset ]

-- what the elements so far make: nothing yet, numbers, or lists of numbers
pub data Listed : Type 0 where
  nothing_yet : Listed
  all_numbers : List ℕ → Listed
  all_lists : List (List ℕ) → Listed

-- the same with one element more; None if it doesn't fit. The first element says which of the two the list is
unfoldable pub listed_with : Listed → Value → Option Listed
listed_with nothing_yet (value.number n) = Some (all_numbers (n ∷ []))
listed_with nothing_yet (value.numbers u) = Some (all_lists (u ∷ []))
listed_with nothing_yet (value.lists []) = Some (all_lists ([] ∷ []))
listed_with (all_numbers found) (value.number n) = Some (all_numbers (found ++ n ∷ []))
listed_with (all_lists found) (value.numbers u) = Some (all_lists (found ++ u ∷ []))
listed_with (all_lists found) (value.lists []) = Some (all_lists (found ++ [] ∷ []))
listed_with _ _ = None

-- the empty list is both; it is kept as one of numbers
unfoldable pub list_value : Listed → Value
list_value nothing_yet = value.numbers []
list_value (all_numbers found) = value.numbers found
list_value (all_lists found) = value.lists found

-- an element and then the rest: the element's own fault, or 45 at an element that doesn't fit, and after it nothing is evaluated
abbrev pub ListGoesOn : Expr → Outcome → Listed → (Listed → Type 0) → Outcome → Type 0
ListGoesOn e (refused r) found Later o = o ≡ refused r
ListGoesOn e (gives v) found Later o = MatchOption (listed_with found v) (o ≡ refuse_at 45 (offset_of e)) Later

abbrev pub AppliesTo : ℕ → BoundCall → Outcome → Type 0
AppliesTo offset b o =
    MatchOption (refusal_of b)
    ((IsNotDivisor b × (o ≡ refuse_at 4 offset)) ⊎ (¬ IsNotDivisor b × ((v : Value) × Gives b v × (o ≡ gives v))))
    (λ r. o ≡ refuse_call offset r)

-- arguments of the call's kinds bind it; else the first that is not of its kind is the fault
abbrev pub Applies : ValueCall → ℕ → List Kind → Exprs → Outcomes → Outcome → Type 0
Applies c offset kinds es (one_refused r) o = o ≡ refused r
Applies c offset kinds es (all_give vs) o = MatchOption (bind c vs) (o ≡ refuse_at 45 (misfit_offset offset kinds es vs)) (λ b. AppliesTo offset b o)

-- a value, and then those of the rest or its first fault
abbrev pub Joins : Value → Outcomes → Outcomes → Type 0
Joins v (one_refused r) os = os ≡ one_refused r
Joins v (all_give vs) os = os ≡ all_give (v ∷ vs)

-- the first fault, from the left: after it nothing is evaluated
abbrev pub GoesOn : Outcome → (Outcomes → Type 0) → Outcomes → Type 0
GoesOn (refused r) Later os = os ≡ one_refused r
GoesOn (gives v) Later os = (rest : Outcomes) × Later rest × Joins v rest os

-- what a call of the table gives; its arguments' values are some of which Arguments holds. A query has no value
abbrev pub CallGives : Call → ℕ → Exprs → (Outcomes → Type 0) → Outcome → Type 0
CallGives (Query c) offset es Arguments o = o ≡ refuse_at 45 offset
CallGives (Value_ c) offset es Arguments o = MatchOption (signature_for (Value_ c) (count_of es)) (o ≡ refuse_at 46 offset) (λ kinds. (os : Outcomes) × Arguments os × Applies c offset kinds es os o)

-- a call is looked at in this order: its name, where it stands (a query only as a whole statement), the count of its arguments,
-- the arguments from the left, their kinds, and its own refusals
abbrev mutual
  pub Evaluates : List Call → List Binding → Expr → Outcome → Type 0
  Evaluates table env (number offset n) o = o ≡ gives (value.number n)
  Evaluates table env (name offset x) o = MatchOption (value_named x env) (o ≡ refuse_at 44 offset) (λ v. o ≡ gives v)
  Evaluates table env (list offset es) o = EvaluatesList table env es nothing_yet o
  Evaluates table env (call offset x es) o = MatchOption (call_named table x) (o ≡ refuse_at 44 offset) (λ c. CallGives c offset es (λ os. EvaluatesAll table env es os) o)

  pub EvaluatesAll : List Call → List Binding → Exprs → Outcomes → Type 0
  EvaluatesAll table env none os = os ≡ all_give []
  EvaluatesAll table env (more e es) os = (o : Outcome) × Evaluates table env e o × GoesOn o (λ rest. EvaluatesAll table env es rest) os

  pub EvaluatesList : List Call → List Binding → Exprs → Listed → Outcome → Type 0
  EvaluatesList table env none found o = o ≡ gives (list_value found)
  EvaluatesList table env (more e es) found o = (p : Outcome) × Evaluates table env e p × ListGoesOn e p found (λ next. EvaluatesList table env es next o) o

pub data Step : Type 0 where
  binds : Binding → Step
  prints : List ℕ → Step
  asks : QueryKind → Matrix → Step
  counts : Matrix → Step
  nears : Matrix → List ℕ → Step
  fails : Refused → Step

-- what LeastWord prints of the words of the rows
abbrev pub PrintsLeast : List (List ℕ) → FieldName → Step → Type 0
PrintsLeast rows f step =
    ((w : List ℕ) × IsLeast f (columns_of rows) rows w × (step ≡ prints (least_line (weight w) w)))
    ⊎ (((w : List ℕ) → InSpan f (columns_of rows) rows w → weight w ≡ 0) × (step ≡ prints least_none_line))

-- a query on a code of dimension 0 is answered at once
abbrev pub AsksOf : QueryKind → Matrix → Step → Type 0
AsksOf kind C step = ((length C.rows ≡ 0) × (step ≡ prints (query_line kind C 0))) ⊎ ((0 < length C.rows) × (step ≡ asks kind C))

-- a nearest word in a code of dimension 0 is known at once
abbrev pub NearsOf : Matrix → List ℕ → Step → Type 0
NearsOf C x step = ((length C.rows ≡ 0) × (step ≡ prints (near_line C x 0))) ⊎ ((0 < length C.rows) × (step ≡ nears C x))

-- what a query does as a statement that isn't refused. A code without an alternant form is refused before
abbrev pub Queries : BoundQuery → Step → Type 0
Queries (bound.algebraic_decode C None x) step = ⊥
Queries (bound.algebraic_decode C (Some form) x) step = (o : Option (List ℕ)) × IsDecoded C form x o × (step ≡ prints (value_line (decoded o)))
Queries (bound.least_word rows f) step = PrintsLeast rows f step
Queries (bound.minimum_distance C) step = AsksOf distance C step
Queries (bound.certificate C) step = AsksOf by_levels C step
Queries (bound.scan_certificate C) step = AsksOf by_scan C step
Queries (bound.weight_distribution C) step = step ≡ counts C
Queries (bound.alternant_certificate C None x) step = ⊥
Queries (bound.alternant_certificate C (Some form) x) step = step ≡ prints (form_line C form x)
Queries (bound.nearest_word C x) step = NearsOf C x step
Queries (bound.fill_erasures C x erased) step = (a : Filling) × IsFilling C x erased a × (step ≡ prints (filling_line a))

unfoldable pub fail_with : Outcome → Step
fail_with (gives v) = prints (value_line v)
fail_with (refused r) = fails r

abbrev pub QueriesTo : ℕ → BoundQuery → Step → Type 0
QueriesTo offset b step = MatchOption (query_refusal_of b) (Queries b step) (λ r. step ≡ fail_with (refuse_call offset r))

abbrev pub QueriesAll : QueryCall → ℕ → List Kind → Exprs → Outcomes → Step → Type 0
QueriesAll c offset kinds es (one_refused r) step = step ≡ fails r
QueriesAll c offset kinds es (all_give vs) step =
    MatchOption (bind_query c vs) (step ≡ fail_with (refuse_at 45 (misfit_offset offset kinds es vs))) (λ b. QueriesTo offset b step)

-- the query of a call, if it is one
abbrev pub as_query : Option Call → Option QueryCall
as_query None = None
as_query (Some (Value_ c)) = None
as_query (Some (Query c)) = Some c

-- whether a statement without a name is a query of the table
abbrev pub query_of : List Call → Expr → Option QueryCall
query_of table (call offset x es) = as_query (call_named table x)
query_of table _ = None

abbrev pub Assigns : List ℕ → Outcome → Step → Type 0
Assigns x (gives v) step = step ≡ binds (record { name = x; value = v })
Assigns x (refused r) step = step ≡ fails r

abbrev pub StepsAsQuery : List Call → List Binding → QueryCall → Expr → Step → Type 0
StepsAsQuery table env c (call offset x es) step =
    MatchOption (signature_for (Query c) (count_of es)) (step ≡ fail_with (refuse_at 46 offset))
    (λ kinds. (os : Outcomes) × EvaluatesAll table env es os × QueriesAll c offset kinds es os step)
StepsAsQuery table env c _ step = ⊥

abbrev pub StepsOf : List Call → List Binding → Option (List ℕ) → Expr → Step → Type 0
StepsOf table env (Some x) e step = (o : Outcome) × Evaluates table env e o × Assigns x o step
StepsOf table env None e step = MatchOption (query_of table e) ((o : Outcome) × Evaluates table env e o × (step ≡ fail_with o)) (λ c. StepsAsQuery table env c e step)

abbrev pub Steps : List Call → List Binding → Statement → Step → Type 0
Steps table env s step = StepsOf table env s.target s.expr step

-- how the text goes on after a statement: the env and the further text, or the end
abbrev pub Prints : ℕ → List Binding → Step → (List Binding → List ℕ → Bool → Type 0) → List ℕ → Bool → Type 0
Prints budget env (binds b) later text ends = later (b ∷ env) text ends
Prints budget env (prints l) later text ends = (rest : List ℕ) × later env rest ends × (text ≡ l ++ rest)
Prints budget env (asks kind C) later text ends = (rest : List ℕ) × later env rest ends × (text ≡ query_line kind C budget ++ rest)
Prints budget env (counts C) later text ends = (rest : List ℕ) × later env rest ends × (text ≡ distribution_line C ++ rest)
Prints budget env (nears C x) later text ends = (rest : List ℕ) × later env rest ends × (text ≡ near_line C x budget ++ rest)
Prints budget env (fails r) later text ends = (text ≡ fault_line r.number r.offset r.values) × (ends ≡ true)

abbrev pub Runs : List Call → ℕ → List Binding → List Statement → List ℕ → Bool → Type 0
Runs table budget env [] text ends = (text ≡ []) × (ends ≡ false)
Runs table budget env (s ∷ ss) text ends = (step : Step) × Steps table env s step × Prints budget env step (λ later. Runs table budget later ss) text ends

abbrev pub IsText : List Call → ℕ → List ℕ → List ℕ → Bool → Type 0
IsText table budget bytes text ends =
    ((ss : List Statement) × Reads bytes ss × Runs table budget [] ss text ends)
    ⊎ ((fault : Fault) × IsFault bytes fault × (text ≡ fault_line fault.number fault.offset []) × (ends ≡ true))
