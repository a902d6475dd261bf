-- Each need of a script, and each code whose words it counts or to which it asks for nearest words, is a code over a symbol field, of length at most 255, with reduced rows.
--   evaluates_shaped, evaluates_all_shaped, evaluates_list_shaped      what expressions evaluate to, if the names have such values
--   steps_shaped         what a statement binds, asks for, counts or asks nearest words of
--   needs_shaped         the needs of some statements
--   met_shaped           those that a session meets
use Rattle.std.proofs.Common.{◌≡◌, ◌⊎◌, ◌<◌, ℕ, Bool, true, false, List, [], ◌∷◌, length, take, Option, Some, None, sym, subst, ⊎_elim}
use Rattle.std.specs.Prelude.{if◌then◌else◌}
use Rattle.std.specs.List.{AllByRecursion}
use Rattle.lc_algebra.specs.Matrix.{Matrix}
use Rattle.lc_grammar.specs.Tree.{Expr, Exprs, number, name, call, list, none, more, Statement, offset_of, count_of}
use Rattle.lc_grammar.specs.Grammar.{Reads}
use Rattle.lc_formats.specs.Text.{same_bytes}
use Rattle.lc_language.specs.declared.Call.{Call}
use Rattle.lc_language.specs.declared.Call.TheVariants.{Value as Value_, Query}
use Rattle.lc_language.specs.declared.ValueCall.{ValueCall}
use Rattle.lc_language.specs.declared.QueryCall.{QueryCall}
use Rattle.lc_language.specs.declared.Kind.{Kind}
use Rattle.lc_language.specs.Value as value
use Rattle.lc_language.specs.Value.{Value, Binding, value_named}
use Rattle.lc_language.specs.Calls as bound
use Rattle.lc_language.specs.Calls.{call_named, signature_for, BoundCall, bind, BoundQuery, bind_query, refusal_of, query_refusal_of, Gives, IsNotDivisor}
use Rattle.lc_language.specs.Query.{QueryKind, query_line, near_line}
use Rattle.lc_language.specs.Evaluation.{Outcome, gives, refused, Outcomes, all_give, one_refused, refuse_at, refuse_call, misfit_offset, Listed, nothing_yet, all_numbers, all_lists, listed_with, list_value, ListGoesOn, AppliesTo, Applies, CallGives, Joins, GoesOn, Evaluates, EvaluatesAll, EvaluatesList, Step, binds, prints, asks, counts, nears, fails, AsksOf, Queries, QueriesTo, QueriesAll, query_of, fail_with, Assigns, StepsAsQuery, StepsOf, Steps}
use Rattle.lc_session_rules.specs.Needs.{NeedsOn, Needs, MeetsFirst}
use Rattle.lc_script_laws.specs.Shapes.{IsCodeOfRows}
use Rattle.lc_script_laws.proofs.ShapeLaws.{IsShaped, AreShaped, from_option, from_known}
use Rattle.lc_script_laws.proofs.CallLaws.{GivesShaped, HaveQueryShapes, bind_shaped, bind_query_shaped}

abbrev IsGiven : Outcome → Type 0
IsGiven (gives v) = IsShaped v
IsGiven (refused r) = Unit {0}

abbrev AreGiven : Outcomes → Type 0
AreGiven (all_give vs) = AreShaped vs
AreGiven (one_refused r) = Unit {0}

abbrev pub AreBound : List Binding → Type 0
AreBound env = AllByRecursion (λ (b : Binding). IsShaped b.value) env

-- ---- expressions

given_as : (o p : Outcome) → o ≡ p → IsGiven p → IsGiven o
given_as o p e h = subst IsGiven (sym e) h

all_as : (os ps : Outcomes) → os ≡ ps → AreGiven ps → AreGiven os
all_as os ps e h = subst AreGiven (sym e) h

refused_at : (n offset : ℕ) (o : Outcome) → o ≡ refuse_at n offset → IsGiven o
unfolding refuse_at
refused_at n offset o e = given_as o _ e tt

picked : (b : Bool) (v w : Value) (r : Option Value) → IsShaped v → (r ≡ Some w → IsShaped w) → (if b then Some v else r) ≡ Some w → IsShaped w
picked true v w r h f e = let same : v ≡ w = (let g = e in cc) in subst IsShaped same h
picked false v w r h f e = f e

named_shaped : (x : List ℕ) (env : List Binding) (v : Value) → AreBound env → value_named x env ≡ Some v → IsShaped v
unfolding value_named
named_shaped x [] v h e = absurd (let f = e in cc)
named_shaped x (b ∷ env) v h e = picked (same_bytes x b.name) b.value v (value_named x env) h.0 (λ k. named_shaped x env v h.1 k) e

list_shaped : (found : Listed) → IsShaped (list_value found)
unfolding list_value
list_shaped nothing_yet = tt
list_shaped (all_numbers found) = tt
list_shaped (all_lists found) = tt

call_given : (offset : ℕ) (b : BoundCall) (o : Outcome) → GivesShaped b → AppliesTo offset b o → IsGiven o
unfolding refuse_call
call_given offset b o h k =
    from_known (refusal_of b) ((IsNotDivisor b × (o ≡ refuse_at 4 offset)) ⊎ (¬ IsNotDivisor b × ((v : Value) × Gives b v × (o ≡ gives v)))) (λ r. o ≡ refuse_call offset r) (IsGiven o)
    (λ unrefused c. ⊎_elim
    (λ (d : IsNotDivisor b × (o ≡ refuse_at 4 offset)). refused_at 4 offset o d.1)
    (λ (d : ¬ IsNotDivisor b × ((v : Value) × Gives b v × (o ≡ gives v))). given_as o (gives d.1.0) d.1.2 (h d.1.0 unrefused d.1.1))
    c)
    (λ r e. given_as o _ e tt) k

applied : (c : ValueCall) (offset : ℕ) (kinds : List Kind) (es : Exprs) (os : Outcomes) (o : Outcome) → AreGiven os → Applies c offset kinds es os o → IsGiven o
applied c offset kinds es (one_refused r) o h k = given_as o (refused r) k tt
applied c offset kinds es (all_give vs) o h k =
    from_option (bind c vs) (o ≡ refuse_at 45 (misfit_offset offset kinds es vs)) (λ b. AppliesTo offset b o) (IsGiven o)
    (λ e. refused_at 45 (misfit_offset offset kinds es vs) o e)
    (λ b e q. call_given offset b o (bind_shaped c vs b h e) q) k

called : (offset : ℕ) (es : Exprs) (Arguments : Outcomes → Type 0) (c : Call) (o : Outcome) → ((os : Outcomes) → Arguments os → AreGiven os) → CallGives c offset es Arguments o → IsGiven o
called offset es Arguments (Query c) o f k = refused_at 45 offset o k
called offset es Arguments (Value_ c) o f k =
    from_option (signature_for (Value_ c) (count_of es)) (o ≡ refuse_at 46 offset) (λ kinds. (os : Outcomes) × Arguments os × Applies c offset kinds es os o) (IsGiven o)
    (λ e. refused_at 46 offset o e)
    (λ kinds e q. applied c offset kinds es q.0 o (f q.0 q.1) q.2) k

joined : (v : Value) (rest os : Outcomes) → IsShaped v → AreGiven rest → Joins v rest os → AreGiven os
joined v (one_refused r) os h k e = all_as os (one_refused r) e tt
joined v (all_give vs) os h k e = all_as os (all_give (v ∷ vs)) e (h, k)

went_on : (o : Outcome) (Later : Outcomes → Type 0) (os : Outcomes) → IsGiven o → ((rest : Outcomes) → Later rest → AreGiven rest) → GoesOn o Later os → AreGiven os
went_on (refused r) Later os h f e = all_as os (one_refused r) e tt
went_on (gives v) Later os h f k = joined v k.0 os h (f k.0 k.1) k.2

listed_on : (e : Expr) (p : Outcome) (found : Listed) (Later : Listed → Outcome → Type 0) (o : Outcome) → ((next : Listed) → Later next o → IsGiven o) → ListGoesOn e p found (λ next. Later next o) o → IsGiven o
listed_on e (refused r) found Later o f k = given_as o (refused r) k tt
listed_on e (gives v) found Later o f k =
    from_option (listed_with found v) (o ≡ refuse_at 45 (offset_of e)) (λ next. Later next o) (IsGiven o) (λ q. refused_at 45 (offset_of e) o q) (λ next i q. f next q) k

mutual
  pub evaluates_shaped : (table : List Call) (env : List Binding) → AreBound env → (e : Expr) (o : Outcome) → Evaluates table env e o → IsGiven o
  evaluates_shaped table env h (number offset n) o k = given_as o (gives (value.number n)) k tt
  evaluates_shaped table env h (name offset x) o k =
      from_option (value_named x env) (o ≡ refuse_at 44 offset) (λ v. o ≡ gives v) (IsGiven o) (λ e. refused_at 44 offset o e) (λ v e q. given_as o (gives v) q (named_shaped x env v h e)) k
  evaluates_shaped table env h (list offset es) o k = evaluates_list_shaped table env h es nothing_yet o k
  evaluates_shaped table env h (call offset x es) o k =
      from_option (call_named table x) (o ≡ refuse_at 44 offset) (λ c. CallGives c offset es (λ os. EvaluatesAll table env es os) o) (IsGiven o)
      (λ e. refused_at 44 offset o e)
      (λ c e q. called offset es (λ os. EvaluatesAll table env es os) c o (λ os m. evaluates_all_shaped table env h es os m) q) k

  pub evaluates_all_shaped : (table : List Call) (env : List Binding) → AreBound env → (es : Exprs) (os : Outcomes) → EvaluatesAll table env es os → AreGiven os
  evaluates_all_shaped table env h none os k = all_as os (all_give []) k tt
  evaluates_all_shaped table env h (more e es) os k =
      went_on k.0 (λ rest. EvaluatesAll table env es rest) os (evaluates_shaped table env h e k.0 k.1) (λ rest m. evaluates_all_shaped table env h es rest m) k.2

  pub evaluates_list_shaped : (table : List Call) (env : List Binding) → AreBound env → (es : Exprs) (found : Listed) (o : Outcome) → EvaluatesList table env es found o → IsGiven o
  evaluates_list_shaped table env h none found o k = given_as o (gives (list_value found)) k (list_shaped found)
  evaluates_list_shaped table env h (more e es) found o k =
      listed_on e k.0 found (λ next p. EvaluatesList table env es next p) o (λ next m. evaluates_list_shaped table env h es next o m) k.2

-- ---- statements

abbrev pub HasShape : Step → Type 0
HasShape (binds b) = IsShaped b.value
HasShape (prints l) = Unit {0}
HasShape (asks kind C) = IsCodeOfRows C
HasShape (counts C) = IsCodeOfRows C
HasShape (nears C x) = IsCodeOfRows C
HasShape (fails r) = Unit {0}

told : (step other : Step) → step ≡ other → HasShape other → HasShape step
told step other e h = subst HasShape (sym e) h

failed : (o : Outcome) → HasShape (fail_with o)
unfolding fail_with
failed (gives v) = tt
failed (refused r) = tt

by_asks : (kind : QueryKind) (C : Matrix) (step : Step) → IsCodeOfRows C → AsksOf kind C step → HasShape step
by_asks kind C step shaped h =
    ⊎_elim (λ (a : (length C.rows ≡ 0) × (step ≡ prints (query_line kind C 0))). told step (prints (query_line kind C 0)) a.1 tt) (λ (a : (0 < length C.rows) × (step ≡ asks kind C)). told step (asks kind C) a.1 shaped) h

by_query : (b : BoundQuery) (step : Step) → HaveQueryShapes b → Queries b step → HasShape step
by_query (bound.algebraic_decode C None x) step s h = absurd h
by_query (bound.algebraic_decode C (Some form) x) step s h = told step _ h.2 tt
by_query (bound.least_word rows f) step s h = ⊎_elim (λ a. told step _ a.2 tt) (λ a. told step _ a.1 tt) h
by_query (bound.minimum_distance C) step s h = by_asks _ C step s h
by_query (bound.certificate C) step s h = by_asks _ C step s h
by_query (bound.scan_certificate C) step s h = by_asks _ C step s h
by_query (bound.weight_distribution C) step s h = told step (counts C) h s
by_query (bound.alternant_certificate C None x) step s h = absurd h
by_query (bound.alternant_certificate C (Some form) x) step s h = told step _ h tt
by_query (bound.nearest_word C x) step s h = ⊎_elim (λ (a : (length C.rows ≡ 0) × (step ≡ prints (near_line C x 0))). told step _ a.1 tt) (λ (a : (0 < length C.rows) × (step ≡ nears C x)). told step (nears C x) a.1 s) h
by_query (bound.fill_erasures C x erased) step s h = told step _ h.2 tt

by_all : (c : QueryCall) (offset : ℕ) (kinds : List Kind) (es : Exprs) (os : Outcomes) (step : Step) → AreGiven os → QueriesAll c offset kinds es os step → HasShape step
by_all c offset kinds es (one_refused r) step s h = told step (fails r) h tt
by_all c offset kinds es (all_give vs) step s h =
    from_option (bind_query c vs) (step ≡ fail_with (refuse_at 45 (misfit_offset offset kinds es vs))) (λ b. QueriesTo offset b step) (HasShape step) (λ e. told step _ e (failed _))
    (λ b i k. from_option (query_refusal_of b) (Queries b step) (λ r. step ≡ fail_with (refuse_call offset r)) (HasShape step) (by_query b step (bind_query_shaped c vs b s i)) (λ r j e. told step _ e (failed (refuse_call offset r))) k) h

as_query_shaped : (table : List Call) (env : List Binding) → AreBound env → (c : QueryCall) (e : Expr) (step : Step) → StepsAsQuery table env c e step → HasShape step
as_query_shaped table env s c (call offset x es) step h =
    from_option (signature_for (Query c) (count_of es)) (step ≡ fail_with (refuse_at 46 offset)) (λ kinds. (os : Outcomes) × EvaluatesAll table env es os × QueriesAll c offset kinds es os step) (HasShape step) (λ e. told step (fail_with (refuse_at 46 offset)) e (failed (refuse_at 46 offset))) (λ kinds i k. by_all c offset kinds es k.0 step (evaluates_all_shaped table env s es k.0 k.1) k.2) h
as_query_shaped table env s c (number offset n) step h = absurd h
as_query_shaped table env s c (name offset x) step h = absurd h
as_query_shaped table env s c (list offset es) step h = absurd h

assigned : (x : List ℕ) (o : Outcome) (step : Step) → IsGiven o → Assigns x o step → HasShape step
assigned x (gives v) step s h = told step _ h s
assigned x (refused r) step s h = told step _ h tt

steps_of_shaped : (table : List Call) (env : List Binding) → AreBound env → (target : Option (List ℕ)) (e : Expr) (step : Step) → StepsOf table env target e step → HasShape step
steps_of_shaped table env s (Some x) e step h = assigned x h.0 step (evaluates_shaped table env s e h.0 h.1) h.2
steps_of_shaped table env s None e step h =
    from_option (query_of table e) ((o : Outcome) × Evaluates table env e o × (step ≡ fail_with o)) (λ c. StepsAsQuery table env c e step) (HasShape step) (λ k. told step (fail_with k.0) k.2 (failed k.0)) (λ c i k. as_query_shaped table env s c e step k) h

pub steps_shaped : (table : List Call) (env : List Binding) (s : Statement) (step : Step) → AreBound env → Steps table env s step → HasShape step
steps_shaped table env s step h k = steps_of_shaped table env h s.target s.expr step k

-- ---- needs

abbrev pub AreCodesOfRows : List Matrix → Type 0
AreCodesOfRows needs = AllByRecursion IsCodeOfRows needs

pub codes_as : (needs others : List Matrix) → needs ≡ others → AreCodesOfRows others → AreCodesOfRows needs
codes_as needs others e h = subst AreCodesOfRows (sym e) h

on_codes : (step : Step) (env : List Binding) (Later : List Binding → List Matrix → Type 0) (needs : List Matrix) → AreBound env → HasShape step → ((later : List Binding) (rest : List Matrix) → AreBound later → Later later rest → AreCodesOfRows rest) → NeedsOn env step Later needs → AreCodesOfRows needs
on_codes (binds b) env Later needs s t f h = f (b ∷ env) needs (t, s) h
on_codes (prints l) env Later needs s t f h = f env needs s h
on_codes (asks kind C) env Later needs s t f h = codes_as needs (C ∷ h.0) h.2 (t, f env h.0 s h.1)
on_codes (counts C) env Later needs s t f h = f env needs s h
on_codes (nears C x) env Later needs s t f h = f env needs s h
on_codes (fails r) env Later needs s t f h = codes_as needs [] h tt

pub needs_shaped : (table : List Call) (ss : List Statement) (env : List Binding) (needs : List Matrix) → AreBound env → Needs table env ss needs → AreCodesOfRows needs
needs_shaped table [] env needs s h = codes_as needs [] h tt
needs_shaped table (t ∷ ss) env needs s h = on_codes h.0 env (λ later. Needs table later ss) needs s (steps_shaped table env t h.0 s h.1) (λ later rest l k. needs_shaped table ss later rest l k) h.2

pub met_shaped : (table : List Call) (bytes : List ℕ) (needs : List Matrix) → MeetsFirst table bytes needs → AreCodesOfRows needs
met_shaped table bytes needs met =
    ⊎_elim (λ (e : needs ≡ []). codes_as needs [] e tt) (λ (a : (ss : List Statement) × Reads bytes ss × ((n : ℕ) × Needs table [] (take n ss) needs)). needs_shaped table (take a.2.0 a.0) [] needs tt a.2.1) met
