-- The values of expressions, one after another, and of calls.
--   evaluated_more, evaluated_fault      one more expression has a value, or a fault
--   no_value_call                a query has no value
--   wrong_count, arguments_fault, call_bound, call_misfit      a call that gives a value, in an expression
--   query_count, query_fault, query_bound, query_misfit        a query, as a statement
use Rattle.std.proofs.Common.{◌≡◌, ℕ, zero, suc, ◌+◌, ◌<◌, ◌==◌, List, [], ◌∷◌, ◌++◌, length, map, take, drop, get_or, find, Option, Some, None, Result, Ok, Err, refl, sym, ap, subst, ◌∙◌, arith}
use Rattle.std.proofs.lemmas.List.{map-append, map_more}
use Rattle.lc_language.specs.declared.Call as declared
use Rattle.lc_language.specs.declared.Call.TheVariants as language_call
use Rattle.lc_language.specs.declared.Kind.{Kind}
use Rattle.lc_grammar.specs.Tree as tree
use Rattle.lc_grammar.specs.Tree.{count_of}
use Rattle.lc_language.specs.Value as language
use Rattle.lc_language.specs.Calls as bound
use Rattle.lc_language.specs.Calls.{bind, bind_query, signatures, signature_for}
use Rattle.lc_language.specs.Evaluation as evaluation
use Rattle.lc_language.specs.Evaluation.{Outcome, Outcomes, gives, refused, all_give, one_refused, refuse_at, misfit_offset, Evaluates, EvaluatesAll, GoesOn, Joins, Applies, AppliesTo, CallGives, Step, fails, fail_with, QueriesAll, QueriesTo, StepsAsQuery}
use Rattle.lc_parse.specs.declared.tree.Expr.{Expr}
use Rattle.lc_parse.specs.Views.{all_of, tree_of, trees_of}
use Rattle.lc_calls.specs.Built.{built_calls, query_call_of, call_of, forms_of, IsRowOf, IsAsked}
use Rattle.lc_calls.specs.declared.table.Call.{Call}
use Rattle.lc_calls.specs.declared.table.Call.TheVariants as call
use Rattle.lc_language.specs.declared.ValueCall.{ValueCall}
use Rattle.lc_calls.specs.declared.table.QueryCall.{QueryCall}
use Rattle.lc_calls.specs.declared.table.Row.{Row}
use Rattle.lc_calls.specs.declared.values.Value.{Value}
use Rattle.lc_calls.specs.declared.refusals.Stop.{Stop}
use Rattle.lc_calls.specs.declared.refusals.Stop.TheVariants as stop
use Rattle.lc_calls.specs.Value.{value_of, values_of, refused_of}
use Rattle.lc_calls.specs.Applied.{Answers, IsStop}
use Rattle.lc_eval.specs.Evaluated.{AnswersAll, AffectsOrFails}
use Rattle.lc_calls.proofs.KindLaws.{count_is}

record GaveAll (Later : Outcomes → Type 0) (o : Outcome) (vs : List language.Value) : Type 0 where
  first : language.Value
  rest : List language.Value
  is : o ≡ gives first
  later : Later (all_give rest)
  joined : vs ≡ first ∷ rest

gave_rest : (Later : Outcomes → Type 0) (v : language.Value) (rest : Outcomes) (vs : List language.Value) → Later rest → Joins v rest (all_give vs) → GaveAll Later (gives v) vs
gave_rest Later v (one_refused r) vs later j = absurd cc
gave_rest Later v (all_give us) vs later j = record { first = v; rest = us; is = refl; later = later; joined = cc }

gave_all : (Later : Outcomes → Type 0) (o : Outcome) (vs : List language.Value) → GoesOn o Later (all_give vs) → GaveAll Later o vs
gave_all Later (refused r) vs h = absurd cc
gave_all Later (gives v) vs h = gave_rest Later v h.0 vs h.1 h.2

module _ (env : List language.Binding) where
  all_more : (es : List tree.Expr) (e : tree.Expr) (vs : List language.Value) (v : language.Value) → EvaluatesAll built_calls env (all_of es) (all_give vs) → Evaluates built_calls env e (gives v) → EvaluatesAll built_calls env (all_of (es ++ e ∷ [])) (all_give (vs ++ v ∷ []))
  all_more [] e vs v h k =
      let none : vs ≡ [] = cc in
      (gives v, k, (all_give [], refl, ap (λ (us : List language.Value). all_give (us ++ v ∷ [])) none))
  all_more (x ∷ es) e vs v h k =
      let g = gave_all (λ rest. EvaluatesAll built_calls env (all_of es) rest) h.0 vs h.2 in
      (gives g.first, subst (Evaluates built_calls env x) g.is h.1, (all_give (g.rest ++ v ∷ []), all_more es e g.rest v g.later k, ap (λ (us : List language.Value). all_give (us ++ v ∷ [])) g.joined))

  all_fault : (es : List tree.Expr) (e : tree.Expr) (after : List tree.Expr) (vs : List language.Value) (r : evaluation.Refused) → EvaluatesAll built_calls env (all_of es) (all_give vs) → Evaluates built_calls env e (refused r) → EvaluatesAll built_calls env (all_of (es ++ e ∷ after)) (one_refused r)
  all_fault [] e after vs r h k = (refused r, k, refl)
  all_fault (x ∷ es) e after vs r h k =
      let g = gave_all (λ rest. EvaluatesAll built_calls env (all_of es) rest) h.0 vs h.2 in
      (gives g.first, subst (Evaluates built_calls env x) g.is h.1, (one_refused r, all_fault es e after g.rest r g.later k, refl))

  trees_split : (es : List Expr) (i : ℕ) (d : Expr) → i < length es → map tree_of (take i es) ++ tree_of (get_or es i d) ∷ map tree_of (drop (suc i) es) ≡ map tree_of es
  trees_split [] i d l = absurd (omega (arith, l))
  trees_split (e ∷ es) zero d l = refl
  trees_split (e ∷ es) (suc i) d l = ap (λ (ts : List tree.Expr). tree_of e ∷ ts) (trees_split es i d (omega (arith, l)))

  pub evaluated_more : (es : List Expr) (i : ℕ) (e : Expr) (vs now : List Value) (v : Value) → i < length es → e ≡ get_or es i e → now ≡ vs ++ v ∷ [] → EvaluatesAll built_calls env (trees_of (take i es)) (all_give (values_of vs)) → Evaluates built_calls env (tree_of e) (gives (value_of v)) → EvaluatesAll built_calls env (trees_of (take (i + 1) es)) (all_give (values_of now))
  evaluated_more es i e vs now v l is n h k =
      let trees : map tree_of (take i es) ++ tree_of e ∷ [] ≡ map tree_of (take (i + 1) es) = ap (λ (x : Expr). map tree_of (take i es) ++ tree_of x ∷ []) is ∙ sym (map_more tree_of es i e l) in
      let values : values_of vs ++ value_of v ∷ [] ≡ values_of now = sym (map-append value_of vs (v ∷ [])) ∙ ap (λ (us : List Value). values_of us) (sym n) in
      let whole : EvaluatesAll built_calls env (all_of (map tree_of (take i es) ++ tree_of e ∷ [])) (all_give (values_of vs ++ value_of v ∷ [])) = all_more (map tree_of (take i es)) (tree_of e) (values_of vs) (value_of v) h k in
      subst (λ (us : List language.Value). EvaluatesAll built_calls env (trees_of (take (i + 1) es)) (all_give us)) values
      (subst (λ (ts : List tree.Expr). EvaluatesAll built_calls env (all_of ts) (all_give (values_of vs ++ value_of v ∷ []))) trees whole)

  pub evaluated_fault : (es : List Expr) (i : ℕ) (e : Expr) (vs : List Value) (s : Stop) → i < length es → e ≡ get_or es i e → EvaluatesAll built_calls env (trees_of (take i es)) (all_give (values_of vs)) → Answers (Err s) (Evaluates built_calls env (tree_of e)) → AnswersAll (Err s) (EvaluatesAll built_calls env (trees_of es))
  evaluated_fault es i e vs (stop.Refused r) l is h k =
      let trees : map tree_of (take i es) ++ tree_of e ∷ map tree_of (drop (suc i) es) ≡ map tree_of es = ap (λ (x : Expr). map tree_of (take i es) ++ tree_of x ∷ map tree_of (drop (suc i) es)) is ∙ trees_split es i e l in
      let whole : EvaluatesAll built_calls env (all_of (map tree_of (take i es) ++ tree_of e ∷ map tree_of (drop (suc i) es))) (one_refused (refused_of r)) = all_fault (map tree_of (take i es)) (tree_of e) (map tree_of (drop (suc i) es)) (values_of vs) (refused_of r) h k in
      subst (λ (ts : List tree.Expr). EvaluatesAll built_calls env (all_of ts) (one_refused (refused_of r))) trees whole
  evaluated_fault es i e vs stop.NoMemory l is h k = tt

-- ---- calls that give a value

-- the kinds of the arguments of a call, if it takes as many as there are
abbrev Takes : Row → List Expr → Option (List Kind) → Type 0
Takes row es o = find (λ kinds. length kinds == length es) (forms_of row) ≡ o

signature_is : (row : Row) (c : declared.Call) (es : List Expr) (o : Option (List Kind)) → signatures c ≡ forms_of row → Takes row es o → signature_for c (count_of (trees_of es)) ≡ o
unfolding signature_for
signature_is row c es o f t = ap (λ n. find (λ kinds. length kinds == n) (signatures c)) (count_is es) ∙ ap (λ forms. find (λ kinds. length kinds == length es) forms) f ∙ t

module _ (env : List language.Binding) (offset : ℕ) (x : List ℕ) (es : List Expr) (row : Row) where
  call_is : (c : Call) (o : Outcome) → IsRowOf x row → row.call ≡ c → CallGives (call_of c) offset (trees_of es) (λ os. EvaluatesAll built_calls env (trees_of es) os) o → Evaluates built_calls env (tree.call offset x (trees_of es)) o
  call_is c o r is h = let found = r.found ∙ ap (λ k. Some (call_of k)) is in rw found h

  pub no_value_call : (r : evaluation.Refused) → IsRowOf x row → ((c : ValueCall) → row.call ≡ call.Value c → ⊥) → refused r ≡ refuse_at 45 offset → Evaluates built_calls env (tree.call offset x (trees_of es)) (refused r)
  no_value_call r f other h = by_call row.call refl
    where
      by_call : (c : Call) → row.call ≡ c → Evaluates built_calls env (tree.call offset x (trees_of es)) (refused r)
      by_call (call.Value c) is = absurd (other c is)
      by_call (call.Query c) is = call_is (call.Query c) (refused r) f is h

  module _ (c : ValueCall) (f : IsRowOf x row) (is : row.call ≡ call.Value c) where
    signature_at : (o : Option (List Kind)) → Takes row es o → signature_for (language_call.Value c) (count_of (trees_of es)) ≡ o
    signature_at o t = signature_is row (call_of (call.Value c)) es o (ap (λ k. signatures (call_of k)) (sym is) ∙ f.forms) t

    pub wrong_count : (r : evaluation.Refused) → Takes row es None → refused r ≡ refuse_at 46 offset → Evaluates built_calls env (tree.call offset x (trees_of es)) (refused r)
    wrong_count r t h = call_is (call.Value c) (refused r) f is (let s = signature_at None t in rw s h)

    counted : (kinds : List Kind) (os : Outcomes) (o : Outcome) → Takes row es (Some kinds) → EvaluatesAll built_calls env (trees_of es) os → Applies c offset kinds (trees_of es) os o → Evaluates built_calls env (tree.call offset x (trees_of es)) o
    counted kinds os o t e h = call_is (call.Value c) o f is (let s = signature_at (Some kinds) t in rw s (os, e, h))

    pub arguments_fault : (kinds : List Kind) (s : Stop) → Takes row es (Some kinds) → AnswersAll (Err s) (EvaluatesAll built_calls env (trees_of es)) → Answers (Err s) (Evaluates built_calls env (tree.call offset x (trees_of es)))
    arguments_fault kinds (stop.Refused r) t e = counted kinds (one_refused (refused_of r)) (refused (refused_of r)) t e refl
    arguments_fault kinds stop.NoMemory t e = tt

    applies_bound : (kinds : List Kind) (vs : List language.Value) (b : bound.BoundCall) (o : Outcome) → Takes row es (Some kinds) → EvaluatesAll built_calls env (trees_of es) (all_give vs) → bind c vs ≡ Some b → AppliesTo offset b o → Evaluates built_calls env (tree.call offset x (trees_of es)) o
    applies_bound kinds vs b o t e h a = counted kinds (all_give vs) o t e (rw h a)

    pub call_bound : (kinds : List Kind) (vs : List language.Value) (b : bound.BoundCall) (r : Result Value Stop) → Takes row es (Some kinds) → EvaluatesAll built_calls env (trees_of es) (all_give vs) → bind c vs ≡ Some b → Answers r (AppliesTo offset b) → Answers r (Evaluates built_calls env (tree.call offset x (trees_of es)))
    call_bound kinds vs b (Ok v) t e h a = applies_bound kinds vs b (gives (value_of v)) t e h a
    call_bound kinds vs b (Err (stop.Refused r)) t e h a = applies_bound kinds vs b (refused (refused_of r)) t e h a
    call_bound kinds vs b (Err stop.NoMemory) t e h a = tt

    pub call_misfit : (kinds : List Kind) (vs : List language.Value) (s : Stop) → Takes row es (Some kinds) → EvaluatesAll built_calls env (trees_of es) (all_give vs) → bind c vs ≡ None → IsStop s (refuse_at 45 (misfit_offset offset kinds (trees_of es) vs)) → Answers (Err s) (Evaluates built_calls env (tree.call offset x (trees_of es)))
    call_misfit kinds vs (stop.Refused r) t e h a = counted kinds (all_give vs) (refused (refused_of r)) t e (rw h a)
    call_misfit kinds vs stop.NoMemory t e h a = tt

-- ---- queries

module _ (env : List language.Binding) (offset : ℕ) (es : List Expr) (row : Row) (c : QueryCall) (a : IsAsked row c) where
  asked_at : (o : Option (List Kind)) → Takes row es o → signature_for (language_call.Query (query_call_of c)) (count_of (trees_of es)) ≡ o
  asked_at o t = signature_is row (language_call.Query (query_call_of c)) es o a.forms t

  asked : (kinds : List Kind) (os : Outcomes) (step : Step) → Takes row es (Some kinds) → EvaluatesAll built_calls env (trees_of es) os → QueriesAll (query_call_of c) offset kinds (trees_of es) os step → (x : List ℕ) → StepsAsQuery built_calls env (query_call_of c) (tree.call offset x (trees_of es)) step
  asked kinds os step t e h = λ x. let s = asked_at (Some kinds) t in rw s (os, e, h)

  pub query_count : (r : evaluation.Refused) → Takes row es None → refused r ≡ refuse_at 46 offset → (x : List ℕ) → StepsAsQuery built_calls env (query_call_of c) (tree.call offset x (trees_of es)) (fails r)
  unfolding fail_with
  query_count r t h = λ x. let s = asked_at None t in rw s (ap fail_with h)

  pub query_fault : (kinds : List Kind) (s : Stop) → Takes row es (Some kinds) → AnswersAll (Err s) (EvaluatesAll built_calls env (trees_of es)) → (x : List ℕ) → AffectsOrFails (Err s) (StepsAsQuery built_calls env (query_call_of c) (tree.call offset x (trees_of es)))
  query_fault kinds (stop.Refused r) t e = asked kinds (one_refused (refused_of r)) (fails (refused_of r)) t e refl
  query_fault kinds stop.NoMemory t e = λ x. tt

  pub query_bound : (kinds : List Kind) (vs : List language.Value) (b : bound.BoundQuery) (step : Step) → Takes row es (Some kinds) → EvaluatesAll built_calls env (trees_of es) (all_give vs) → bind_query (query_call_of c) vs ≡ Some b → QueriesTo offset b step → (x : List ℕ) → StepsAsQuery built_calls env (query_call_of c) (tree.call offset x (trees_of es)) step
  query_bound kinds vs b step t e h q = asked kinds (all_give vs) step t e (rw h q)

  pub query_misfit : (kinds : List Kind) (vs : List language.Value) (s : Stop) → Takes row es (Some kinds) → EvaluatesAll built_calls env (trees_of es) (all_give vs) → bind_query (query_call_of c) vs ≡ None → IsStop s (refuse_at 45 (misfit_offset offset kinds (trees_of es) vs)) → (x : List ℕ) → AffectsOrFails (Err s) (StepsAsQuery built_calls env (query_call_of c) (tree.call offset x (trees_of es)))
  unfolding fail_with
  query_misfit kinds vs (stop.Refused r) t e h a = asked kinds (all_give vs) (fails (refused_of r)) t e (rw h (ap fail_with a))
  query_misfit kinds vs stop.NoMemory t e h a = λ x. tt
