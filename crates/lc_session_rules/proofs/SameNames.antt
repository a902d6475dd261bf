-- What statements print depends on the values of names alone.
--   AreSame env other            each name has the same value by two lists of bindings
--   evaluates_same, steps_same   so an expression has the same outcome, and a statement does the same
--   needs_same, runs_by_same     ask the same needs, and print the same by the same answers
use Rattle.std.proofs.Common.{◌≡◌, ℕ, Bool, if◌then◌else◌, List, [], ◌∷◌, Option, Some, None, ap, subst}
use Rattle.std.specs.Prelude.{MatchOption}
use Rattle.lc_formats.specs.Text.{same_bytes}
use Rattle.lc_language.specs.declared.Call.{Call}
use Rattle.lc_language.specs.declared.Call.TheVariants.{Value as Value_, Query}
use Rattle.lc_language.specs.declared.QueryCall.{QueryCall}
use Rattle.lc_grammar.specs.Tree.{Expr, Exprs, number, name, call, list, none, more, Statement, offset_of, count_of}
use Rattle.lc_language.specs.Value.{Value, Binding, value_named}
use Rattle.lc_language.specs.Calls.{call_named, signature_for}
use Rattle.lc_algebra.specs.Matrix.{Matrix}
use Rattle.lc_enumeration.specs.Search.{Answer}
use Rattle.lc_session_rules.specs.Needs.{NeedsOn, Needs}
use Rattle.lc_session_rules.specs.Answers.{PrintsBy, RunsBy}
use Rattle.lc_language.specs.Evaluation.{Outcome, gives, refused, Outcomes, refuse_at, Listed, nothing_yet, listed_with, ListGoesOn, Applies, GoesOn, CallGives, Evaluates, EvaluatesAll, EvaluatesList, Step, binds, prints, asks, counts, nears, fails, fail_with, QueriesAll, query_of, StepsAsQuery, StepsOf, Steps}

abbrev pub AreSame : List Binding → List Binding → Type 0
AreSame env other = (x : List ℕ) → value_named x env ≡ value_named x other

match_map : {K : Type 0} (o : Option K) (P Q : Type 0) (R S : K → Type 0) → (P → Q) → ((k : K) → R k → S k) → MatchOption o P R → MatchOption o Q S
match_map None P Q R S f g h = f h
match_map (Some k) P Q R S f g h = g k h

goes_on_map : (o : Outcome) (P Q : Outcomes → Type 0) → ((os : Outcomes) → P os → Q os) → (os : Outcomes) → GoesOn o P os → GoesOn o Q os
goes_on_map (refused r) P Q f os h = h
goes_on_map (gives v) P Q f os h = (h.0, f h.0 h.1, h.2)

list_goes_on_map : (e : Expr) (p : Outcome) (found : Listed) (P Q : Listed → Outcome → Type 0) → ((next : Listed) (o : Outcome) → P next o → Q next o) → (o : Outcome) → ListGoesOn e p found (λ next. P next o) o → ListGoesOn e p found (λ next. Q next o) o
list_goes_on_map e (refused r) found P Q f o h = h
list_goes_on_map e (gives v) found P Q f o h = match_map (listed_with found v) (o ≡ refuse_at 45 (offset_of e)) (o ≡ refuse_at 45 (offset_of e)) (λ next. P next o) (λ next. Q next o) (λ k. k) (λ next k. f next o k) h

call_map : (c : Call) (offset : ℕ) (es : Exprs) (P Q : Outcomes → Type 0) → ((os : Outcomes) → P os → Q os) → (o : Outcome) → CallGives c offset es P o → CallGives c offset es Q o
call_map (Query c) offset es P Q f o h = h
call_map (Value_ c) offset es P Q f o h =
    match_map (signature_for (Value_ c) (count_of es)) (o ≡ refuse_at 46 offset) (o ≡ refuse_at 46 offset)
    (λ kinds. (os : Outcomes) × P os × Applies c offset kinds es os o) (λ kinds. (os : Outcomes) × Q os × Applies c offset kinds es os o)
    (λ k. k) (λ kinds k. (k.0, f k.0 k.1, k.2)) h

module _ (table : List Call) (env other : List Binding) (same : AreSame env other) where
  mutual
    pub evaluates_same : (e : Expr) (o : Outcome) → Evaluates table env e o → Evaluates table other e o
    evaluates_same (number offset n) o h = h
    evaluates_same (name offset x) o h = subst (λ r. MatchOption r (o ≡ refuse_at 44 offset) (λ v. o ≡ gives v)) (same x) h
    evaluates_same (list offset es) o h = evaluates_list_same es nothing_yet o h
    evaluates_same (call offset x es) o h =
        match_map (call_named table x) (o ≡ refuse_at 44 offset) (o ≡ refuse_at 44 offset)
        (λ c. CallGives c offset es (λ os. EvaluatesAll table env es os) o) (λ c. CallGives c offset es (λ os. EvaluatesAll table other es os) o)
        (λ k. k) (λ c k. call_map c offset es (λ os. EvaluatesAll table env es os) (λ os. EvaluatesAll table other es os) (evaluates_all_same es) o k) h

    evaluates_all_same : (es : Exprs) (os : Outcomes) → EvaluatesAll table env es os → EvaluatesAll table other es os
    evaluates_all_same none os h = h
    evaluates_all_same (more e es) os h = (h.0, evaluates_same e h.0 h.1, goes_on_map h.0 (λ rest. EvaluatesAll table env es rest) (λ rest. EvaluatesAll table other es rest) (evaluates_all_same es) os h.2)

    evaluates_list_same : (es : Exprs) (found : Listed) (o : Outcome) → EvaluatesList table env es found o → EvaluatesList table other es found o
    evaluates_list_same none found o h = h
    evaluates_list_same (more e es) found o h = (h.0, evaluates_same e h.0 h.1, list_goes_on_map e h.0 found (λ next o. EvaluatesList table env es next o) (λ next o. EvaluatesList table other es next o) (λ next o k. evaluates_list_same es next o k) o h.2)

  query_same : (c : QueryCall) (e : Expr) (step : Step) → StepsAsQuery table env c e step → StepsAsQuery table other c e step
  query_same c (call offset x es) step h =
      match_map (signature_for (Query c) (count_of es)) (step ≡ fail_with (refuse_at 46 offset)) (step ≡ fail_with (refuse_at 46 offset))
      (λ kinds. (os : Outcomes) × EvaluatesAll table env es os × QueriesAll c offset kinds es os step) (λ kinds. (os : Outcomes) × EvaluatesAll table other es os × QueriesAll c offset kinds es os step)
      (λ k. k) (λ kinds k. (k.0, evaluates_all_same es k.0 k.1, k.2)) h
  query_same c (number offset n) step h = h
  query_same c (name offset x) step h = h
  query_same c (list offset es) step h = h

  steps_of_same : (target : Option (List ℕ)) (e : Expr) (step : Step) → StepsOf table env target e step → StepsOf table other target e step
  steps_of_same (Some x) e step h = (h.0, evaluates_same e h.0 h.1, h.2)
  steps_of_same None e step h =
      match_map (query_of table e) ((o : Outcome) × Evaluates table env e o × (step ≡ fail_with o)) ((o : Outcome) × Evaluates table other e o × (step ≡ fail_with o))
      (λ c. StepsAsQuery table env c e step) (λ c. StepsAsQuery table other c e step)
      (λ k. (k.0, evaluates_same e k.0 k.1, k.2)) (λ c k. query_same c e step k) h

  pub steps_same : (s : Statement) (step : Step) → Steps table env s step → Steps table other s step
  steps_same s step h = steps_of_same s.target s.expr step h

more_same : (env other : List Binding) (b : Binding) → AreSame env other → AreSame (b ∷ env) (b ∷ other)
unfolding value_named
more_same env other b same x = ap (λ (r : Option Value). if same_bytes x b.name then Some b.value else r) (same x)

-- ---- the needs of statements, and their text by given answers

needs_on_same : (env other : List Binding) (step : Step) (later : List Binding → List Matrix → Type 0) → AreSame env other → ((one two : List Binding) → AreSame one two → (needs : List Matrix) → later one needs → later two needs) → (needs : List Matrix) → NeedsOn env step later needs → NeedsOn other step later needs
needs_on_same env other (binds b) later same f needs h = f (b ∷ env) (b ∷ other) (more_same env other b same) needs h
needs_on_same env other (prints l) later same f needs h = f env other same needs h
needs_on_same env other (asks kind C) later same f needs h = (h.0, f env other same h.0 h.1, h.2)
needs_on_same env other (counts C) later same f needs h = f env other same needs h
needs_on_same env other (nears C x) later same f needs h = f env other same needs h
needs_on_same env other (fails r) later same f needs h = h

pub needs_same : (table : List Call) (ss : List Statement) (env other : List Binding) → AreSame env other → (needs : List Matrix) → Needs table env ss needs → Needs table other ss needs
needs_same table [] env other same needs h = h
needs_same table (s ∷ ss) env other same needs h =
    (h.0, steps_same table env other same s h.0 h.1, needs_on_same env other h.0 (λ later. Needs table later ss) same (λ one two is ns k. needs_same table ss one two is ns k) needs h.2)

prints_by_same : (budget : ℕ) (env other : List Binding) (step : Step) (later : List Binding → List Answer → List ℕ → Bool → Type 0) → AreSame env other
    → ((one two : List Binding) → AreSame one two → (answers : List Answer) (text : List ℕ) (ends : Bool) → later one answers text ends → later two answers text ends)
    → (answers : List Answer) (text : List ℕ) (ends : Bool) → PrintsBy budget env step later answers text ends → PrintsBy budget other step later answers text ends
prints_by_same budget env other (binds b) later same f answers text ends h = f (b ∷ env) (b ∷ other) (more_same env other b same) answers text ends h
prints_by_same budget env other (prints l) later same f answers text ends h = (h.0, f env other same answers h.0 ends h.1, h.2)
prints_by_same budget env other (asks kind C) later same f answers text ends (a, (left, split, (rest, k, is))) = (a, (left, split, (rest, f env other same left rest ends k, is)))
prints_by_same budget env other (counts C) later same f answers text ends h = (h.0, f env other same answers h.0 ends h.1, h.2)
prints_by_same budget env other (nears C x) later same f answers text ends h = (h.0, f env other same answers h.0 ends h.1, h.2)
prints_by_same budget env other (fails r) later same f answers text ends h = h

pub runs_by_same : (table : List Call) (budget : ℕ) (ss : List Statement) (env other : List Binding) → AreSame env other → (answers : List Answer) (text : List ℕ) (ends : Bool) → RunsBy table budget env ss answers text ends → RunsBy table budget other ss answers text ends
runs_by_same table budget [] env other same answers text ends h = h
runs_by_same table budget (s ∷ ss) env other same answers text ends h =
    (h.0, steps_same table env other same s h.0 h.1, prints_by_same budget env other h.0 (λ later. RunsBy table budget later ss) same (λ one two is left t e k. runs_by_same table budget ss one two is left t e k) answers text ends h.2)
