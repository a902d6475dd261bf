-- The calls that are built.
--   query_call_of c, call_of c      the call of the table of all calls that a call of the program stands for
--   built_calls                  the calls that are built, in the order of that table: all that give a value, and nine queries
--   forms_of row                 the kinds of the arguments in each form of a row's call
--   IsRowOf x row                the row is that of the built call with the name x
--   IsAsked row c                and that call is the query c
use Rattle.std.specs.Prelude.{◌≡◌, ℕ, List, [], ◌∷◌, ◌++◌, map, Some}
use Rattle.lc_language.specs.declared.Call as language
use Rattle.lc_language.specs.declared.Call.TheVariants.{Value, Query}
use Rattle.lc_language.specs.declared.QueryCall as language_query
use Rattle.lc_language.specs.declared.QueryCall.TheVariants as query
use Rattle.lc_language.specs.declared.Kind.{Kind}
use Rattle.lc_language.specs.Calls.{value_calls, call_named, signatures}
use Rattle.lc_calls.specs.declared.table.QueryCall.{QueryCall}
use Rattle.lc_calls.specs.declared.table.QueryCall.TheVariants as q
use Rattle.lc_calls.specs.declared.table.Call.{Call}
use Rattle.lc_calls.specs.declared.table.Call.TheVariants as call
use Rattle.lc_calls.specs.declared.table.Row.{Row}

abbrev pub query_call_of : QueryCall → language_query.QueryCall
query_call_of q.AlgebraicDecode = query.AlgebraicDecode
query_call_of q.LeastWord = query.LeastWord
query_call_of q.MinimumDistance = query.MinimumDistance
query_call_of q.Certificate = query.Certificate
query_call_of q.ScanCertificate = query.ScanCertificate
query_call_of q.WeightDistribution = query.WeightDistribution
query_call_of q.AlternantCertificate = query.AlternantCertificate
query_call_of q.NearestWord = query.NearestWord
query_call_of q.FillErasures = query.FillErasures

abbrev pub call_of : Call → language.Call
call_of (call.Value c) = Value c
call_of (call.Query c) = Query (query_call_of c)

unfoldable pub built_calls : List language.Call
built_calls = map Value value_calls ++ Query query.AlgebraicDecode ∷ Query query.LeastWord ∷ Query query.MinimumDistance ∷ Query query.Certificate ∷ Query query.ScanCertificate ∷ Query query.WeightDistribution ∷ Query query.AlternantCertificate ∷ Query query.NearestWord ∷ Query query.FillErasures ∷ []

abbrev pub forms_of : Row → List (List Kind)
forms_of row = map (λ kinds. kinds.now) row.forms.now

pub record IsRowOf (x : List ℕ) (row : Row) : Type 0 where
  pub found : call_named built_calls x ≡ Some (call_of row.call)
  pub forms : signatures (call_of row.call) ≡ forms_of row

pub record IsAsked (row : Row) (c : QueryCall) : Type 0 where
  pub call : row.call ≡ call.Query c
  pub forms : signatures (Query (query_call_of c)) ≡ forms_of row
