-- Where each call of a table gives one value and has one answer, expressions have one outcome, statements do one thing, and bytes
-- print one text.
--   named_one                    the call that a name stands for is one of the table
--   evaluates_one, evaluates_all_one, evaluates_list_one     an expression, several, and the elements of a list have one outcome
--   steps_one                    a statement does one thing
--   runs_one                     statements have one text
--   text_one                     and so have bytes
--   one_text                     by the calls that are built
use Rattle.std.proofs.Common.{◌≡◌, ℕ, ◌⊎◌, Bool, true, List, [], ◌∷◌, ◌++◌, Option, Some, None, refl, sym, ap, subst, ◌∙◌, ⊎_elim}
use Rattle.std.specs.List.{AllByRecursion}
use Rattle.lc_parse.proofs.Outcomes.{one_script, one_fault, no_both}
use Rattle.lc_language.specs.declared.Call.{Call}
use Rattle.lc_language.specs.declared.Call.TheVariants.{Value as Value_, Query}
use Rattle.lc_language.specs.declared.ValueCall.{ValueCall}
use Rattle.lc_language.specs.declared.QueryCall.{QueryCall}
use Rattle.lc_language.specs.declared.Kind.{Kind}
use Rattle.lc_grammar.specs.Tree.{Expr, Exprs, number, name, call, list, none, more, Statement, offset_of, count_of}
use Rattle.lc_grammar.specs.Grammar.{Reads, Fault, IsFault}
use Rattle.lc_language.specs.Value as value
use Rattle.lc_language.specs.Value.{Value, Binding, value_named}
use Rattle.lc_language.specs.Calls.{call_named, signature_for, BoundCall, bind, bind_query, refusal_of, query_refusal_of, Gives, IsNotDivisor}
use Rattle.lc_language.specs.Print.{fault_line}
use Rattle.lc_language.specs.Query.{query_line, distribution_line, near_line}
use Rattle.lc_language.specs.Evaluation.{Outcome, gives, refused, Outcomes, all_give, one_refused, refuse_at, refuse_call, misfit_offset, Listed, nothing_yet, listed_with, list_value, ListGoesOn, AppliesTo, Applies, CallGives, Joins, GoesOn, Evaluates, EvaluatesAll, EvaluatesList, Step, binds, prints, asks, counts, nears, fails, Queries, fail_with, QueriesTo, QueriesAll, as_query, query_of, Assigns, StepsAsQuery, StepsOf, Steps, Prints, Runs, IsText}
use Rattle.lc_calls.specs.Built.{built_calls}
use Rattle.lc_script_laws.proofs.AtMostOne.{One, Both, one_value, one_option, one_known, one_either, one_some}
use Rattle.lc_script_laws.proofs.ShapeLaws.{found_in}
use Rattle.lc_script_laws.proofs.CallLaws.{IsOneValued, IsOneAnswered, IsDeterminate, built_one}

-- ---- the calls of a table

pub named_one : (P : Call → Type 0) (table : List Call) (x : List ℕ) (c : Call) → AllByRecursion P table → call_named table x ≡ Some c → P c
unfolding call_named
named_one P table x c h e = found_in P _ table c h e

-- ---- expressions

joins_one : (v : Value) (rest : Outcomes) → One (Joins v rest)
joins_one v (one_refused r) = one_value (one_refused r)
joins_one v (all_give vs) = one_value (all_give (v ∷ vs))

goes_on_one : (Later : Outcomes → Type 0) (o : Outcome) → One Later → One (GoesOn o Later)
goes_on_one Later (refused r) h = one_value (one_refused r)
goes_on_one Later (gives v) h = one_some Later (Joins v) h (joins_one v)

list_goes_on_one : (e : Expr) (found : Listed) (Later : Listed → Outcome → Type 0) → ((next : Listed) → One (Later next)) → (p : Outcome) → One (λ o. ListGoesOn e p found (λ next. Later next o) o)
list_goes_on_one e found Later h (refused r) = one_value (refused r)
list_goes_on_one e found Later h (gives v) = one_option (listed_with found v) (λ o. o ≡ refuse_at 45 (offset_of e)) Later (one_value (refuse_at 45 (offset_of e))) (λ next k. h next)

applies_to_one : (offset : ℕ) (b : BoundCall) → (refusal_of b ≡ None → One (Gives b)) → One (AppliesTo offset b)
applies_to_one offset b d =
    one_known (refusal_of b)
    (λ o. (IsNotDivisor b × (o ≡ refuse_at 4 offset)) ⊎ (¬ IsNotDivisor b × ((v : Value) × Gives b v × (o ≡ gives v))))
    (λ r o. o ≡ refuse_call offset r)
    (λ unrefused. one_either (IsNotDivisor b) (¬ IsNotDivisor b)
    (λ o. o ≡ refuse_at 4 offset) (λ o. (v : Value) × Gives b v × (o ≡ gives v))
    (λ a b. b a)
    (one_value (refuse_at 4 offset))
    (one_some (Gives b) (λ v o. o ≡ gives v) (d unrefused) (λ v. one_value (gives v))))
    (λ r. one_value (refuse_call offset r))

applies_one : (c : ValueCall) (offset : ℕ) (kinds : List Kind) (es : Exprs) → IsOneValued c → (os : Outcomes) → One (Applies c offset kinds es os)
applies_one c offset kinds es d (one_refused r) = one_value (refused r)
applies_one c offset kinds es d (all_give vs) =
    one_option (bind c vs) (λ o. o ≡ refuse_at 45 (misfit_offset offset kinds es vs)) (λ b o. AppliesTo offset b o)
    (one_value (refuse_at 45 (misfit_offset offset kinds es vs)))
    (λ b e. applies_to_one offset b (d vs b e))

called_one : (offset : ℕ) (es : Exprs) (Arguments : Outcomes → Type 0) (c : Call) → IsDeterminate c → One Arguments → One (CallGives c offset es Arguments)
called_one offset es Arguments (Query c) d h = one_value (refuse_at 45 offset)
called_one offset es Arguments (Value_ c) d h =
    one_option (signature_for (Value_ c) (count_of es)) (λ o. o ≡ refuse_at 46 offset) (λ kinds o. (os : Outcomes) × Arguments os × Applies c offset kinds es os o)
    (one_value (refuse_at 46 offset))
    (λ kinds e. one_some Arguments (Applies c offset kinds es) h (applies_one c offset kinds es d))

mutual
  pub evaluates_one : (table : List Call) (env : List Binding) → AllByRecursion IsDeterminate table → (e : Expr) → One (Evaluates table env e)
  evaluates_one table env h (number offset n) = one_value (gives (value.number n))
  evaluates_one table env h (name offset x) = one_option (value_named x env) (λ o. o ≡ refuse_at 44 offset) (λ v o. o ≡ gives v) (one_value (refuse_at 44 offset)) (λ v e. one_value (gives v))
  evaluates_one table env h (list offset es) = evaluates_list_one table env h es nothing_yet
  evaluates_one table env h (call offset x es) =
      one_option (call_named table x) (λ o. o ≡ refuse_at 44 offset) (λ c. CallGives c offset es (EvaluatesAll table env es))
      (one_value (refuse_at 44 offset))
      (λ c e. called_one offset es (EvaluatesAll table env es) c (named_one IsDeterminate table x c h e) (evaluates_all_one table env h es))

  pub evaluates_all_one : (table : List Call) (env : List Binding) → AllByRecursion IsDeterminate table → (es : Exprs) → One (EvaluatesAll table env es)
  evaluates_all_one table env h none = one_value (all_give [])
  evaluates_all_one table env h (more e es) =
      one_some (Evaluates table env e) (λ o. GoesOn o (λ rest. EvaluatesAll table env es rest))
      (evaluates_one table env h e)
      (λ o. goes_on_one (EvaluatesAll table env es) o (evaluates_all_one table env h es))

  pub evaluates_list_one : (table : List Call) (env : List Binding) → AllByRecursion IsDeterminate table → (es : Exprs) (found : Listed) → One (EvaluatesList table env es found)
  evaluates_list_one table env h none found = one_value (gives (list_value found))
  evaluates_list_one table env h (more e es) found =
      one_some (Evaluates table env e) (λ p o. ListGoesOn e p found (λ next. EvaluatesList table env es next o) o)
      (evaluates_one table env h e)
      (list_goes_on_one e found (EvaluatesList table env es) (evaluates_list_one table env h es))

-- ---- statements

queries_all_one : (c : QueryCall) (offset : ℕ) (kinds : List Kind) (es : Exprs) → IsOneAnswered c → (os : Outcomes) → One (QueriesAll c offset kinds es os)
queries_all_one c offset kinds es d (one_refused r) = one_value (fails r)
queries_all_one c offset kinds es d (all_give vs) =
    one_option (bind_query c vs) (λ step. step ≡ fail_with (refuse_at 45 (misfit_offset offset kinds es vs))) (λ b step. QueriesTo offset b step)
    (one_value (fail_with (refuse_at 45 (misfit_offset offset kinds es vs))))
    (λ b e. one_option (query_refusal_of b) (Queries b) (λ r step. step ≡ fail_with (refuse_call offset r)) (d vs b e) (λ r e. one_value (fail_with (refuse_call offset r))))

steps_as_query_one : (table : List Call) (env : List Binding) → AllByRecursion IsDeterminate table → (c : QueryCall) → IsOneAnswered c → (e : Expr) → One (StepsAsQuery table env c e)
steps_as_query_one table env h c d (call offset x es) =
    one_option (signature_for (Query c) (count_of es)) (λ step. step ≡ fail_with (refuse_at 46 offset)) (λ kinds step. (os : Outcomes) × EvaluatesAll table env es os × QueriesAll c offset kinds es os step)
    (one_value (fail_with (refuse_at 46 offset)))
    (λ kinds e. one_some (EvaluatesAll table env es) (QueriesAll c offset kinds es) (evaluates_all_one table env h es) (queries_all_one c offset kinds es d))
steps_as_query_one table env h c d _ = λ s t a b. absurd a

assigns_one : (x : List ℕ) (o : Outcome) → One (Assigns x o)
assigns_one x (gives v) = one_value (binds (record { name = x; value = v }))
assigns_one x (refused r) = one_value (fails r)

asked_one : (r : Option Call) (c : QueryCall) → ((d : Call) → r ≡ Some d → IsDeterminate d) → as_query r ≡ Some c → IsOneAnswered c
asked_one None c h e = absurd (cc)
asked_one (Some (Value_ d)) c h e = absurd (cc)
asked_one (Some (Query d)) c h e = let same : d ≡ c = cc in subst IsOneAnswered same (h (Query d) refl)

query_one : (table : List Call) → AllByRecursion IsDeterminate table → (e : Expr) (c : QueryCall) → query_of table e ≡ Some c → IsOneAnswered c
query_one table h (call offset x es) c e = asked_one (call_named table x) c (λ d k. named_one IsDeterminate table x d h k) e
query_one table h (number offset n) c e = absurd (cc)
query_one table h (name offset x) c e = absurd (cc)
query_one table h (list offset es) c e = absurd (cc)

steps_of_one : (table : List Call) (env : List Binding) → AllByRecursion IsDeterminate table → (target : Option (List ℕ)) (e : Expr) → One (StepsOf table env target e)
steps_of_one table env h (Some x) e = one_some (Evaluates table env e) (Assigns x) (evaluates_one table env h e) (assigns_one x)
steps_of_one table env h None e =
    one_option (query_of table e) (λ step. (o : Outcome) × Evaluates table env e o × (step ≡ fail_with o)) (λ c. StepsAsQuery table env c e)
    (one_some (Evaluates table env e) (λ o step. step ≡ fail_with o) (evaluates_one table env h e) (λ o. one_value (fail_with o)))
    (λ c k. steps_as_query_one table env h c (query_one table h e c k) e)

pub steps_one : (table : List Call) (env : List Binding) → AllByRecursion IsDeterminate table → (s : Statement) → One (Steps table env s)
steps_one table env h s = steps_of_one table env h s.target s.expr

-- ---- texts

behind_one : (Later : List ℕ → Bool → Type 0) (line text other : List ℕ) (ends end : Bool) → Both Later → (rest : List ℕ) × Later rest ends × (text ≡ line ++ rest) → (rest : List ℕ) × Later rest end × (other ≡ line ++ rest) → (text ≡ other) × (ends ≡ end)
behind_one Later line text other ends end h p q =
    let same = h p.0 q.0 ends end p.1 q.1 in
    (p.2 ∙ ap (λ (rest : List ℕ). line ++ rest) same.0 ∙ sym q.2, same.1)

prints_one : (budget : ℕ) (env : List Binding) (step : Step) (later : List Binding → List ℕ → Bool → Type 0) → ((env : List Binding) → Both (later env)) → Both (Prints budget env step later)
prints_one budget env (binds b) later h = h (b ∷ env)
prints_one budget env (prints l) later h = λ text other ends end p q. behind_one (later env) l text other ends end (h env) p q
prints_one budget env (asks kind C) later h = λ text other ends end p q. behind_one (later env) (query_line kind C budget) text other ends end (h env) p q
prints_one budget env (counts C) later h = λ text other ends end p q. behind_one (later env) (distribution_line C) text other ends end (h env) p q
prints_one budget env (nears C x) later h = λ text other ends end p q. behind_one (later env) (near_line C x budget) text other ends end (h env) p q
prints_one budget env (fails r) later h = λ text other ends end p q. (p.0 ∙ sym q.0, p.1 ∙ sym q.1)

pub runs_one : (table : List Call) (budget : ℕ) → AllByRecursion IsDeterminate table → (ss : List Statement) (env : List Binding) → Both (Runs table budget env ss)
runs_one table budget h [] env = λ text other ends end p q. (p.0 ∙ sym q.0, p.1 ∙ sym q.1)
runs_one table budget h (s ∷ ss) env = λ text other ends end p q.
    let Later : List Binding → List ℕ → Bool → Type 0 = λ later. Runs table budget later ss in
    let same : p.0 ≡ q.0 = steps_one table env h s p.0 q.0 p.1 q.1 in
    let moved : Prints budget env q.0 Later text ends = subst (λ step. Prints budget env step Later text ends) same p.2 in
    prints_one budget env q.0 Later (λ later. runs_one table budget h ss later) text other ends end moved q.2

pub text_one : (table : List Call) (budget : ℕ) → AllByRecursion IsDeterminate table → (bytes : List ℕ) → Both (IsText table budget bytes)
text_one table budget h bytes = λ text other ends end p q.
    let Script : List ℕ → Bool → Type 0 = λ t e. (ss : List Statement) × Reads bytes ss × Runs table budget [] ss t e in
    let Faulty : List ℕ → Bool → Type 0 = λ t e. (fault : Fault) × IsFault bytes fault × (t ≡ fault_line fault.number fault.offset []) × (e ≡ true) in
    ⊎_elim
    (λ (a : Script text ends). ⊎_elim
    (λ (b : Script other end). runs_one table budget h b.0 [] text other ends end (subst (λ ss. Runs table budget [] ss text ends) (one_script bytes a.0 b.0 a.1 b.1) a.2) b.2)
    (λ (b : Faulty other end). absurd (no_both bytes a.0 b.0 a.1 b.1))
    q)
    (λ (a : Faulty text ends). ⊎_elim
    (λ (b : Script other end). absurd (no_both bytes b.0 a.0 b.1 a.1))
    (λ (b : Faulty other end). let same = one_fault bytes a.0 b.0 a.1 b.1 in (a.2 ∙ ap (λ (f : Fault). fault_line f.number f.offset []) same ∙ sym b.2, a.3 ∙ sym b.3))
    q)
    p

pub one_text : (budget : ℕ) (bytes text other : List ℕ) (ends end : Bool) → IsText built_calls budget bytes text ends → IsText built_calls budget bytes other end → (text ≡ other) × (ends ≡ end)
one_text budget bytes text other ends end p q = text_one built_calls budget built_one bytes text other ends end p q
