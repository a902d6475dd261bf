-- What the query `AlternantCertificate` prints in a script is accepted.
--   come_shaped           the values of names are shaped where a script comes to a statement
--   attained              a query that isn't refused asks for a word of the code whose weight is r + 1
--   certified             so a statement that prints a line prints an accepted one
--   printed_certified     wherever a script comes to it
use Rattle.std.proofs.Common.{◌≡◌, ◌+◌, ℕ, Bool, true, false, not, ◌==◌, List, [], ◌∷◌, ◌++◌, Option, Some, None, refl, sym, ap, subst, ◌∙◌, ⊎_elim}
use Rattle.std.proofs.lemmas.Bool.{and_parts, eqb-true}
use Rattle.lc_algebra.specs.Word.{weight}
use Rattle.lc_algebra.specs.Matrix.{Matrix}
use Rattle.lc_constructions.specs.declared.refusal.CodeRefusal.{CodeRefusal}
use Rattle.lc_constructions.specs.Code.{InCode}
use Rattle.lc_constructions.specs.Alternant.{AlternantForm}
use Rattle.lc_enumeration.specs.InformationSet.{in_span}
use Rattle.lc_enumeration.proofs.MemberLaws.{in_span_true}
use Rattle.lc_grammar.specs.Tree.{Expr, Exprs, number, name, call, list, count_of, Statement}
use Rattle.lc_language.specs.declared.Call.{Call}
use Rattle.lc_language.specs.declared.Call.TheVariants.{Value as Value_, Query}
use Rattle.lc_language.specs.declared.QueryCall.{QueryCall}
use Rattle.lc_language.specs.declared.QueryCall.TheVariants as query
use Rattle.lc_language.specs.declared.Kind.{Kind}
use Rattle.lc_language.specs.Value.{Value, Binding}
use Rattle.lc_language.specs.Calls as bound
use Rattle.lc_language.specs.Calls.{call_named, signature_for, BoundQuery, query_forms, bind_query, query_refusals_of, query_refusal_of}
use Rattle.lc_language.specs.Refusal.{Refusal, when, first_of, from_codes, word_refusals, no_form, not_attained}
use Rattle.lc_language.specs.Query.{form_line}
use Rattle.lc_language.specs.Evaluation.{Outcomes, all_give, one_refused, refuse_at, refuse_call, misfit_offset, EvaluatesAll, Step, binds, prints, asks, counts, nears, fails, QueriesTo, QueriesAll, as_query, query_of, fail_with, StepsAsQuery, StepsOf, Steps}
use Rattle.lc_script_laws.specs.Certified.{GoesTo, ComesTo, IsReached, IsFormQuery, AsksForm, IsAcceptedForm, IsCertified}
use Rattle.lc_script_laws.specs.Shapes.{IsCodeOfRows}
use Rattle.lc_script_laws.proofs.ShapeLaws.{HasForm, AreShaped, InForms, bound_shaped, from_option, from_known}
use Rattle.lc_script_laws.proofs.AskShapes.{AreBound, HasShape, steps_shaped, evaluates_all_shaped}
use Rattle.lc_script_laws.proofs.FormLaws.{form_line_accepted}

-- ---- statements that are come to

goes_shaped : (step : Step) (env : List Binding) (Later : List Binding → Type 0) (R : Type 0) → AreBound env → HasShape step → ((later : List Binding) → AreBound later → Later later → R) → GoesTo env step Later → R
goes_shaped (binds b) env Later R s t f h = f (b ∷ env) (t, s) h
goes_shaped (prints l) env Later R s t f h = f env s h
goes_shaped (asks kind C) env Later R s t f h = f env s h
goes_shaped (counts C) env Later R s t f h = f env s h
goes_shaped (nears C x) env Later R s t f h = f env s h
goes_shaped (fails r) env Later R s t f h = absurd h

pub come_shaped : (table : List Call) (ss : List Statement) (env now : List Binding) (s : Statement) → AreBound env → ComesTo table env ss now s → AreBound now
come_shaped table [] env now s b h = absurd h
come_shaped table (t ∷ ss) env now s b h =
    ⊎_elim
    (λ (a : (now ≡ env) × (s ≡ t)). subst AreBound (sym a.0) b)
    (λ (a : (step : Step) × Steps table env t step × GoesTo env step (λ later. ComesTo table later ss now s)).
    goes_shaped a.0 env (λ later. ComesTo table later ss now s) (AreBound now) b (steps_shaped table env t a.0 b a.1) (λ later c k. come_shaped table ss later now s c k) a.2)
    h

-- ---- what isn't refused

last_none : (rs : List (Option CodeRefusal)) (o : Option Refusal) → first_of (from_codes rs ++ o ∷ []) ≡ None → o ≡ None
unfolding first_of from_codes
last_none [] None e = refl
last_none [] (Some r) e = absurd (let f = e in cc)
last_none (None ∷ rs) o e = last_none rs o e
last_none (Some r ∷ rs) o e = absurd (let f = e in cc)

by_test : (b : Bool) (r : Refusal) → when (not b) r ≡ None → b ≡ true
unfolding when
by_test true r e = refl
by_test false r e = absurd (let f = e in cc)

pub attained : (C : Matrix) (form : AlternantForm) (x : List ℕ) → query_refusal_of (bound.alternant_certificate C (Some form) x) ≡ None → InCode C x × (weight x ≡ form.r + 1)
unfolding query_refusal_of query_refusals_of no_form not_attained when first_of
attained C form x e =
    let last : not_attained C (Some form) x ≡ None = last_none (word_refusals C x) (not_attained C (Some form) x) e in
    let both = and_parts (in_span C.field C.columns C.rows x) (weight x == form.r + 1) (by_test _ _ last) in
    (in_span_true C.field C.columns C.rows x both.0, eqb-true (weight x) (form.r + 1) both.1)

-- ---- the statement

no_fault : (l : List ℕ) (n offset : ℕ) → prints l ≡ fail_with (refuse_at n offset) → ⊥
unfolding fail_with refuse_at
no_fault l n offset e = (let f = e in cc)

no_refusal : (l : List ℕ) (offset : ℕ) (r : Refusal) → prints l ≡ fail_with (refuse_call offset r) → ⊥
unfolding fail_with refuse_call
no_refusal l offset r e = (let f = e in cc)

-- the query is on a code of rows, which has its form
abbrev IsOnForm : BoundQuery → Type 0
IsOnForm (bound.alternant_certificate C form x) = IsCodeOfRows C × HasForm C form
IsOnForm _ = ⊥

on_form : InForms IsOnForm (query_forms query.AlternantCertificate)
unfolding query_forms
on_form = (λ C h x. h, tt)

bound_on_form : (vs : List Value) (b : BoundQuery) → AreShaped vs → bind_query query.AlternantCertificate vs ≡ Some b → IsOnForm b
unfolding bind_query
bound_on_form vs b s e = bound_shaped IsOnForm (query_forms query.AlternantCertificate) vs b on_form s e

module _ (table : List Call) (env : List Binding) (s : Statement) (l : List ℕ) where
  by_form : (C : Matrix) (form : AlternantForm) (x : List ℕ) (offset : ℕ) → IsCodeOfRows C → HasForm C (Some form) → AsksForm table env s C form x → QueriesTo offset (bound.alternant_certificate C (Some form) x) (prints l) → IsCertified table env s l
  by_form C form x offset rows has asked h =
      from_known (query_refusal_of (bound.alternant_certificate C (Some form) x)) (prints l ≡ prints (form_line C form x)) (λ r. prints l ≡ fail_with (refuse_call offset r)) (IsCertified table env s l)
      (λ unrefused e.
      let same : l ≡ form_line C form x = (let f = e in cc) in
      let (inside, weighs) = attained C form x unrefused in
      (C, (form, (x, asked, subst (IsAcceptedForm C form x) (sym same) (form_line_accepted C form x rows has inside weighs)))))
      (λ r e. absurd (no_refusal l offset r e)) h

  by_bound : (b : BoundQuery) (offset : ℕ) → IsOnForm b → ((C : Matrix) (form : AlternantForm) (x : List ℕ) → b ≡ bound.alternant_certificate C (Some form) x → AsksForm table env s C form x) → QueriesTo offset b (prints l) → IsCertified table env s l
  by_bound (bound.alternant_certificate C (Some form) x) offset on asked h = by_form C form x offset on.0 on.1 (asked C form x refl) h
  by_bound (bound.alternant_certificate C None x) offset on asked h =
      from_known (query_refusal_of (bound.alternant_certificate C None x)) ⊥ (λ r. prints l ≡ fail_with (refuse_call offset r)) (IsCertified table env s l) (λ unrefused e. absurd e) (λ r e. absurd (no_refusal l offset r e)) h
  by_bound (bound.algebraic_decode C form x) offset on asked h = absurd on
  by_bound (bound.least_word rows f) offset on asked h = absurd on
  by_bound (bound.minimum_distance C) offset on asked h = absurd on
  by_bound (bound.certificate C) offset on asked h = absurd on
  by_bound (bound.scan_certificate C) offset on asked h = absurd on
  by_bound (bound.weight_distribution C) offset on asked h = absurd on
  by_bound (bound.nearest_word C x) offset on asked h = absurd on
  by_bound (bound.fill_erasures C x erased) offset on asked h = absurd on

  by_values : (offset : ℕ) (x : List ℕ) (es : Exprs) (kinds : List Kind) (os : Outcomes) → AreBound env → s.target ≡ None → s.expr ≡ call offset x es → call_named table x ≡ Some (Query query.AlternantCertificate)
      → EvaluatesAll table env es os → QueriesAll query.AlternantCertificate offset kinds es os (prints l) → IsCertified table env s l
  by_values offset x es kinds (one_refused r) b alone seen named values h = absurd (let f = h in cc)
  by_values offset x es kinds (all_give vs) b alone seen named values h =
      from_option (bind_query query.AlternantCertificate vs) (prints l ≡ fail_with (refuse_at 45 (misfit_offset offset kinds es vs))) (λ q. QueriesTo offset q (prints l)) (IsCertified table env s l)
      (λ e. absurd (no_fault l 45 (misfit_offset offset kinds es vs) e))
      (λ q i k.
      let shaped : AreShaped vs = evaluates_all_shaped table env b es (all_give vs) values in
      by_bound q offset (bound_on_form vs q shaped i)
      (λ C form u e. record { offset = offset; name = x; arguments = es; values = vs; alone = alone; seen = seen; named = named; evaluated = values; bound = i ∙ ap Some e }) k) h

  query_named : (o : Option Call) (c : QueryCall) → as_query o ≡ Some c → o ≡ Some (Query c)
  query_named None c e = absurd (let f = e in cc)
  query_named (Some (Value_ d)) c e = absurd (let f = e in cc)
  query_named (Some (Query d)) c e = let same : d ≡ c = (let f = e in cc) in ap (λ q. Some (Query q)) same

  by_expr : (e : Expr) → AreBound env → s.target ≡ None → s.expr ≡ e → query_of table e ≡ Some query.AlternantCertificate → StepsAsQuery table env query.AlternantCertificate e (prints l) → IsCertified table env s l
  by_expr (call offset x es) b alone seen is h =
      from_option (signature_for (Query query.AlternantCertificate) (count_of es)) (prints l ≡ fail_with (refuse_at 46 offset)) (λ kinds. (os : Outcomes) × EvaluatesAll table env es os × QueriesAll query.AlternantCertificate offset kinds es os (prints l)) (IsCertified table env s l)
      (λ e. absurd (no_fault l 46 offset e))
      (λ kinds i k. by_values offset x es kinds k.0 b alone seen (query_named (call_named table x) query.AlternantCertificate is) k.1 k.2) h
  by_expr (number offset n) b alone seen is h = absurd h
  by_expr (name offset x) b alone seen is h = absurd h
  by_expr (list offset es) b alone seen is h = absurd h

  pub certified : AreBound env → IsFormQuery table s → Steps table env s (prints l) → IsCertified table env s l
  certified b (alone, is) h =
      let stands : StepsOf table env None s.expr (prints l) = subst (λ t. StepsOf table env t s.expr (prints l)) alone h in
      let asks_so : StepsAsQuery table env query.AlternantCertificate s.expr (prints l) = rw is at stands in
      by_expr s.expr b alone refl is asks_so

pub printed_certified : (table : List Call) (bytes : List ℕ) (env : List Binding) (s : Statement) (l : List ℕ) → IsReached table bytes env s → IsFormQuery table s → Steps table env s (prints l) → IsCertified table env s l
printed_certified table bytes env s l (ss, reads, comes) is h = certified table env s l (come_shaped table ss [] env s tt comes) is h
