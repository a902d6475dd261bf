-- What the evaluation of expressions and statements answers; the clauses of private functions alone speak of these.
--   AnswersAll r P               r is the values of several expressions or the first fault, of which P holds, unless memory ran out
--   takes_none b                 whether a bound call takes no memory: its value is read from what is there
--   kind_of k                    what a query of the kind k asks
--   need_of q                    what a statement does that asks the query q
--   Affects e P                  e is what a statement does, of which P holds
--   AffectsOrFails r P           r is what a statement does, or its fault, of which P holds, unless memory ran out
--   IsQueryAt e row c es         the expression is the query c of these arguments, and the row is that of c
--   IsQueryOf e o                o is what the expression asks, with its row and its arguments, if it is a query of the table
use Rattle.std.specs.Prelude.{◌≡◌, ℕ, Bool, true, false, List, Option, Some, None, Result, Ok, Err}
use Rattle.std.specs.Global.{Vec}
use Rattle.lc_grammar.specs.Tree as tree
use Rattle.lc_parse.specs.declared.tree.Expr.{Expr}
use Rattle.lc_parse.specs.Views.{tree_of, trees_of}
use Rattle.lc_language.specs.Print.{fault_line}
use Rattle.lc_language.specs.Query as language
use Rattle.lc_language.specs.Query.{distance, by_levels, by_scan}
use Rattle.lc_language.specs.Calls.{BoundCall, dimension, word_length, weight_of, is_self_orthogonal_code}
use Rattle.lc_language.specs.Evaluation as evaluation
use Rattle.lc_language.specs.Evaluation.{Outcomes, all_give, one_refused, Step, prints, binds, asks, counts, nears, fails, query_of}
use Rattle.lc_calls.specs.Built.{built_calls, query_call_of, IsAsked}
use Rattle.lc_calls.specs.Value.{values_of, binding_of, refused_of}
use Rattle.lc_calls.specs.declared.table.QueryCall.{QueryCall}
use Rattle.lc_calls.specs.declared.table.Row.{Row}
use Rattle.lc_eval.specs.declared.machine.Query.{Query}
use Rattle.lc_eval.specs.declared.machine.QueryKind.{QueryKind}
use Rattle.lc_eval.specs.declared.machine.QueryKind.TheVariants.{Distance, Levels, Scan}
use Rattle.lc_calls.specs.declared.values.Value.{Value}
use Rattle.lc_calls.specs.declared.refusals.Stop.{Stop}
use Rattle.lc_calls.specs.declared.refusals.Stop.TheVariants as stop
use Rattle.lc_eval.specs.declared.statement.Asked.{Asked}
use Rattle.lc_eval.specs.declared.statement.Effect.{Effect}
use Rattle.lc_eval.specs.declared.statement.Effect.TheVariants as effect

abbrev pub AnswersAll : Result (Vec Value) Stop → (Outcomes → Type 0) → Type 0
AnswersAll (Ok vs) P = P (all_give (values_of vs.items))
AnswersAll (Err (stop.Refused r)) P = P (one_refused (refused_of r))
AnswersAll (Err stop.NoMemory) P = Unit {0}

unfoldable pub takes_none : BoundCall → Bool
takes_none (dimension C) = true
takes_none (word_length C) = true
takes_none (weight_of x) = true
takes_none (is_self_orthogonal_code C) = true
takes_none _ = false

abbrev pub kind_of : QueryKind → language.QueryKind
kind_of Distance = distance
kind_of Levels = by_levels
kind_of Scan = by_scan

abbrev pub need_of : Query → Step
need_of q = asks (kind_of q.kind) q.code

abbrev pub Affects : Effect → (Step → Type 0) → Type 0
Affects (effect.Binds b) P = P (binds (binding_of b))
Affects (effect.Prints l) P = P (prints l.items)
Affects (effect.Needs q) P = P (need_of q)
Affects (effect.Counts C) P = P (counts C)
Affects (effect.Nears C x) P = P (nears C x)
Affects (effect.Fails l) P = (r : evaluation.Refused) × P (fails r) × (l.items ≡ fault_line r.number r.offset r.values)

abbrev pub AffectsOrFails : Result Effect Stop → (Step → Type 0) → Type 0
AffectsOrFails (Ok e) P = Affects e P
AffectsOrFails (Err (stop.Refused r)) P = P (fails (refused_of r))
AffectsOrFails (Err stop.NoMemory) P = Unit {0}

pub record IsQueryAt (e : Expr) (row : Row) (c : QueryCall) (es : List Expr) : Type 0 where
  pub asked : IsAsked row c
  pub found : query_of built_calls (tree_of e) ≡ Some (query_call_of c)
  pub name : List ℕ
  pub seen : tree_of e ≡ tree.call e.offset name (trees_of es)

abbrev pub IsQueryOf : Expr → Option Asked → Type 0
IsQueryOf e None = query_of built_calls (tree_of e) ≡ None
IsQueryOf e (Some q) = IsQueryAt e q.row.now q.call q.arguments.now
