-- A query that searches asks for a code with rows, one that counts for a code whose weight distribution is computed, and one for a
-- nearest word for a code with rows and a word of its length over its field.
--   asked_rows           the code that a statement asks for has rows
--   counted_allowed      the weight distribution of the code that a statement counts isn't refused
--   near_allowed         the code to which a statement asks for a nearest word has rows, and the word is one of its length and field
--   met_rows             the needs that a session meets have rows
use Rattle.std.proofs.Common.{◌≡◌, ◌<◌, ◌==◌, ℕ, zero, suc, true, false, nat_lt, slice_index, List, [], ◌∷◌, length, take, Option, Some, None, option_map, refl, sym, ap, subst, ◌∙◌, ⊎_elim}
use Rattle.std.specs.Prelude.{MatchOption, slice_get}
use Rattle.std.proofs.lemmas.Bool.{cases_Bool, eqb-true}
use Rattle.std.proofs.lemmas.Bool.Decides.{Decides-ltb}
use Rattle.std.proofs.lemmas.List.Sums.{AllPass-from_list_all}
use Rattle.lc_algebra.specs.declared.FieldName.{FieldName}
use Rattle.lc_algebra.specs.Field.{size}
use Rattle.lc_algebra.specs.Word.{Fits, IsWord}
use Rattle.lc_algebra.specs.Matrix.{Matrix}
use Rattle.lc_enumeration.specs.Distribution.{NoDistribution, distribution_refusal}
use Rattle.lc_constructions.specs.Refusal.{refuse_if}
use Rattle.lc_constructions.specs.Refusals.{are_elements}
use Rattle.lc_grammar.specs.Tree.{Expr, Exprs, number, name, call, list, count_of, Statement}
use Rattle.lc_grammar.specs.Grammar.{Reads}
use Rattle.lc_language.specs.declared.Call.{Call}
use Rattle.lc_language.specs.declared.Call.TheVariants.{Query}
use Rattle.lc_language.specs.Calls as bound
use Rattle.lc_language.specs.Calls.{signature_for, BoundQuery, bind_query, query_refusals_of, query_refusal_of}
use Rattle.lc_language.specs.declared.QueryCall.{QueryCall}
use Rattle.lc_language.specs.declared.Kind.{Kind}
use Rattle.lc_language.specs.Value.{Binding}
use Rattle.lc_language.specs.Refusal.{refuse, first_of, from_codes, word_refusals, no_distribution}
use Rattle.lc_language.specs.Query.{QueryKind, query_line, near_line}
use Rattle.lc_language.specs.Evaluation.{Outcome, gives, refused, Outcomes, all_give, one_refused, refuse_at, refuse_call, Evaluates, EvaluatesAll, Assigns, Step, binds, prints, asks, counts, nears, fails, AsksOf, Queries, QueriesTo, QueriesAll, query_of, fail_with, StepsAsQuery, StepsOf, Steps}
use Rattle.lc_session_rules.specs.Needs.{NeedsOn, Needs, MeetsFirst}

abbrev IsAllowed : Step → Type 0
IsAllowed (binds b) = Unit {0}
IsAllowed (prints l) = Unit {0}
IsAllowed (asks kind C) = 0 < length C.rows
IsAllowed (counts C) = distribution_refusal (size C.field) C.columns (length C.rows) ≡ None
IsAllowed (nears C x) = (0 < length C.rows) × IsWord C.field C.columns x
IsAllowed (fails r) = Unit {0}

from_option : {A : Type 0} (o : Option A) (P : Type 0) (Q : A → Type 0) (R : Type 0) → (o ≡ None → P → R) → ((a : A) → Q a → R) → MatchOption o P Q → R
from_option None P Q R f g h = f refl h
from_option (Some a) P Q R f g h = g a h

told : (step other : Step) → step ≡ other → IsAllowed other → IsAllowed step
told step other e h = subst IsAllowed (sym e) h

failed : (o : Outcome) → IsAllowed (fail_with o)
unfolding fail_with
failed (gives v) = tt
failed (refused r) = tt

by_asks : (kind : QueryKind) (C : Matrix) (step : Step) → AsksOf kind C step → IsAllowed step
by_asks kind C step h =
    ⊎_elim (λ (a : (length C.rows ≡ 0) × (step ≡ prints (query_line kind C 0))). told step (prints (query_line kind C 0)) a.1 tt) (λ (a : (0 < length C.rows) × (step ≡ asks kind C)). told step (asks kind C) a.1 a.0) h

none_refused : (o : Option NoDistribution) → first_of (option_map (λ (r : NoDistribution). refuse 47 (r.dimension ∷ r.codimension ∷ [])) o ∷ []) ≡ None → o ≡ None
unfolding first_of
none_refused None e = refl
none_refused (Some r) e = absurd (let f = e in cc)

allowed : (C : Matrix) → query_refusal_of (bound.weight_distribution C) ≡ None → IsAllowed (counts C)
unfolding query_refusal_of query_refusals_of no_distribution
allowed C e = none_refused (distribution_refusal (size C.field) C.columns (length C.rows)) e

uneven : (C : Matrix) (x : List ℕ) → (length x == C.columns) ≡ false → query_refusal_of (bound.nearest_word C x) ≡ None → ⊥
unfolding query_refusal_of query_refusals_of from_codes word_refusals first_of refuse_if
uneven C x t e = (let f = rw t at e in cc)

unfit : (C : Matrix) (x : List ℕ) → (length x == C.columns) ≡ true → are_elements C.field x ≡ false → query_refusal_of (bound.nearest_word C x) ≡ None → ⊥
unfolding query_refusal_of query_refusals_of from_codes word_refusals first_of refuse_if
unfit C x t k e = (let f = rw (t, k) at e in cc)

elements_fit : (f : FieldName) (x : List ℕ) → are_elements f x ≡ true → Fits f x
unfolding are_elements
elements_fit f x h k l = (Decides-ltb (slice_index x k) (size f)).0 (AllPass-from_list_all (λ a. nat_lt a (size f)) x h k 0 l)

near_word : (C : Matrix) (x : List ℕ) → query_refusal_of (bound.nearest_word C x) ≡ None → IsWord C.field C.columns x
near_word C x e =
    ⊎_elim
    (λ (t : (length x == C.columns) ≡ true).
    ⊎_elim (λ (k : are_elements C.field x ≡ true). record { long = eqb-true (length x) C.columns t; fits = elements_fit C.field x k })
    (λ (k : are_elements C.field x ≡ false). absurd (unfit C x t k e)) (cases_Bool (are_elements C.field x)))
    (λ (t : (length x == C.columns) ≡ false). absurd (uneven C x t e)) (cases_Bool (length x == C.columns))

by_query : (b : BoundQuery) (step : Step) → query_refusal_of b ≡ None → Queries b step → IsAllowed step
by_query (bound.algebraic_decode C None x) step n h = absurd h
by_query (bound.algebraic_decode C (Some form) x) step n h = told step _ h.2 tt
by_query (bound.least_word rows f) step n h = ⊎_elim (λ a. told step _ a.2 tt) (λ a. told step _ a.1 tt) h
by_query (bound.minimum_distance C) step n h = by_asks _ C step h
by_query (bound.certificate C) step n h = by_asks _ C step h
by_query (bound.scan_certificate C) step n h = by_asks _ C step h
by_query (bound.weight_distribution C) step n h = told step (counts C) h (allowed C n)
by_query (bound.alternant_certificate C None x) step n h = absurd h
by_query (bound.alternant_certificate C (Some form) x) step n h = told step _ h tt
by_query (bound.nearest_word C x) step n h = ⊎_elim (λ (a : (length C.rows ≡ 0) × (step ≡ prints (near_line C x 0))). told step _ a.1 tt) (λ (a : (0 < length C.rows) × (step ≡ nears C x)). told step (nears C x) a.1 (a.0, near_word C x n)) h
by_query (bound.fill_erasures C x erased) step n h = told step _ h.2 tt

by_all : (c : QueryCall) (offset : ℕ) (kinds : List Kind) (es : Exprs) (os : Outcomes) (step : Step) → QueriesAll c offset kinds es os step → IsAllowed step
by_all c offset kinds es (one_refused r) step h = told step (fails r) h tt
by_all c offset kinds es (all_give vs) step h =
    from_option (bind_query c vs) _ (λ b. QueriesTo offset b step) (IsAllowed step) (λ _ e. told step _ e (failed _))
    (λ b k. from_option (query_refusal_of b) (Queries b step) _ (IsAllowed step) (by_query b step) (λ r e. told step _ e (failed (refuse_call offset r))) k) h

as_query_allowed : (table : List Call) (env : List Binding) (c : QueryCall) (e : Expr) (step : Step) → StepsAsQuery table env c e step → IsAllowed step
as_query_allowed table env c (call offset x es) step h =
    from_option (signature_for (Query c) (count_of es)) (step ≡ fail_with (refuse_at 46 offset)) (λ kinds. (os : Outcomes) × EvaluatesAll table env es os × QueriesAll c offset kinds es os step) (IsAllowed step) (λ _ e. told step (fail_with (refuse_at 46 offset)) e (failed (refuse_at 46 offset))) (λ kinds k. by_all c offset kinds es k.0 step k.2) h
as_query_allowed table env c (number offset n) step h = absurd h
as_query_allowed table env c (name offset x) step h = absurd h
as_query_allowed table env c (list offset es) step h = absurd h

assigned : (x : List ℕ) (o : Outcome) (step : Step) → Assigns x o step → IsAllowed step
assigned x (gives v) step h = told step _ h tt
assigned x (refused r) step h = told step _ h tt

steps_of_allowed : (table : List Call) (env : List Binding) (target : Option (List ℕ)) (e : Expr) (step : Step) → StepsOf table env target e step → IsAllowed step
steps_of_allowed table env (Some x) e step h = assigned x h.0 step h.2
steps_of_allowed table env None e step h =
    from_option (query_of table e) ((o : Outcome) × Evaluates table env e o × (step ≡ fail_with o)) (λ c. StepsAsQuery table env c e step) (IsAllowed step) (λ _ k. told step (fail_with k.0) k.2 (failed k.0)) (λ c k. as_query_allowed table env c e step k) h

pub asked_rows : (table : List Call) (env : List Binding) (s : Statement) (kind : QueryKind) (C : Matrix) → Steps table env s (asks kind C) → 0 < length C.rows
asked_rows table env s kind C h = steps_of_allowed table env s.target s.expr (asks kind C) h

pub counted_allowed : (table : List Call) (env : List Binding) (s : Statement) (C : Matrix) → Steps table env s (counts C) → distribution_refusal (size C.field) C.columns (length C.rows) ≡ None
counted_allowed table env s C h = steps_of_allowed table env s.target s.expr (counts C) h

pub near_allowed : (table : List Call) (env : List Binding) (s : Statement) (C : Matrix) (x : List ℕ) → Steps table env s (nears C x) → (0 < length C.rows) × IsWord C.field C.columns x
near_allowed table env s C x h = steps_of_allowed table env s.target s.expr (nears C x) h

-- ---- the needs of a session

abbrev pub HaveRows : List Matrix → Type 0
HaveRows needs = (i : ℕ) (C : Matrix) → slice_get needs i ≡ Some C → 0 < length C.rows

none_rows : (needs : List Matrix) → needs ≡ [] → HaveRows needs
none_rows needs e i C at = absurd (let f : slice_get {X = Matrix} [] i ≡ Some C = sym (ap (λ (l : List Matrix). slice_get l i) e) ∙ at in cc)

more_rows : (needs rest : List Matrix) (C : Matrix) → needs ≡ C ∷ rest → 0 < length C.rows → HaveRows rest → HaveRows needs
more_rows needs rest C e some h zero D at =
    let f : Some C ≡ Some D = sym (ap (λ (l : List Matrix). slice_get l zero) e) ∙ at in
    let same : C ≡ D = cc in
    subst (λ (B : Matrix). 0 < length B.rows) same some
more_rows needs rest C e some h (suc i) D at = h i D (sym (ap (λ (l : List Matrix). slice_get l (suc i)) e) ∙ at)

on_rows : (step : Step) (env : List Binding) (Later : List Binding → List Matrix → Type 0) (needs : List Matrix) → IsAllowed step → ((later : List Binding) (rest : List Matrix) → Later later rest → HaveRows rest) → NeedsOn env step Later needs → HaveRows needs
on_rows (binds b) env Later needs some f h = f (b ∷ env) needs h
on_rows (prints l) env Later needs some f h = f env needs h
on_rows (asks kind C) env Later needs some f h = more_rows needs h.0 C h.2 some (f env h.0 h.1)
on_rows (counts C) env Later needs some f h = f env needs h
on_rows (nears C x) env Later needs some f h = f env needs h
on_rows (fails r) env Later needs some f h = none_rows needs h

needs_rows : (table : List Call) (ss : List Statement) (env : List Binding) (needs : List Matrix) → Needs table env ss needs → HaveRows needs
needs_rows table [] env needs h = none_rows needs h
needs_rows table (s ∷ ss) env needs h = on_rows h.0 env (λ later. Needs table later ss) needs (steps_of_allowed table env s.target s.expr h.0 h.1) (λ later rest k. needs_rows table ss later rest k) h.2

pub met_rows : (table : List Call) (bytes : List ℕ) (needs : List Matrix) → MeetsFirst table bytes needs → HaveRows needs
met_rows table bytes needs met =
    ⊎_elim (λ (e : needs ≡ []). none_rows needs e) (λ (a : (ss : List Statement) × Reads bytes ss × ((n : ℕ) × Needs table [] (take n ss) needs)). needs_rows table (take a.2.0 a.0) [] needs a.2.1) met
