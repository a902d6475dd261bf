-- What a statement does, and what a step of the machine.
--   affects_map                                what an effect is of a wider relation
--   alone_fault, alone_given, query_alone      an expression that stands alone, and a query
--   first_left                                 the statement that is next, and those after it
--   silent_step, line_step, need_step, count_step, near_step, fault_step      a step that binds a name, that prints a line, that
--                                              asks a query, that counts the words of a code, that asks for a nearest word, and that
--                                              ends in a fault
use Rattle.std.proofs.Common.{◌≡◌, ℕ, zero, suc, ◌+◌, ◌<◌, [], ◌∷◌, length, drop, get_or, arith, add-one, List, Some, None, Result, Ok, Err, refl, sym, ap, subst, ◌∙◌}
use Rattle.std.specs.Global.{Vec}
use Rattle.std.proofs.lemmas.List.{drop_all}
use Rattle.lc_algebra.specs.Matrix.{Matrix}
use Rattle.lc_language.specs.declared.QueryCall.{QueryCall}
use Rattle.lc_grammar.specs.Tree as tree
use Rattle.lc_language.specs.Value as language
use Rattle.lc_language.specs.Print.{value_line, fault_line}
use Rattle.lc_language.specs.Evaluation.{gives, refused, prints, counts, nears, fails, fail_with, Step, Evaluates, StepsOf, StepsAsQuery, query_of, Refused, Steps, binds}
use Rattle.lc_calls.specs.Built.{built_calls}
use Rattle.lc_calls.specs.Names.{IsBound}
use Rattle.lc_calls.specs.declared.values.Value.{Value}
use Rattle.lc_calls.specs.declared.refusals.Stop.{Stop}
use Rattle.lc_calls.specs.declared.refusals.Stop.TheVariants as stop
use Rattle.lc_eval.specs.declared.statement.Effect.{Effect}
use Rattle.lc_eval.specs.declared.statement.Effect.TheVariants as effect
use Rattle.lc_calls.specs.Value.{value_of, binding_of, refused_of}
use Rattle.lc_calls.specs.Applied.{Answers}
use Rattle.lc_eval.specs.Evaluated.{AffectsOrFails, need_of}
use Rattle.lc_parse.specs.declared.tree.Statement.{Statement}
use Rattle.lc_parse.specs.Views.{statement_of}
use Rattle.lc_eval.specs.declared.machine.Query.{Query}
use Rattle.lc_eval.specs.declared.machine.Step.TheVariants.{Line, Silent, Need, Weights, Near, Fault}
use Rattle.lc_eval.specs.Machine.{State, Does}

pub affects_map : (r : Result Effect Stop) (P Q : Step → Type 0) → ((step : Step) → P step → Q step) → AffectsOrFails r P → AffectsOrFails r Q
affects_map (Ok (effect.Binds b)) P Q g h = g (binds (binding_of b)) h
affects_map (Ok (effect.Prints l)) P Q g h = g (prints l.items) h
affects_map (Ok (effect.Needs q)) P Q g h = g (need_of q) h
affects_map (Ok (effect.Counts C)) P Q g h = g (counts C) h
affects_map (Ok (effect.Nears C x)) P Q g h = g (nears C x) h
affects_map (Ok (effect.Fails l)) P Q g h = (h.0, g (fails h.0) h.1, h.2)
affects_map (Err (stop.Refused r)) P Q g h = g (fails (refused_of r)) h
affects_map (Err stop.NoMemory) P Q g h = tt

module _ (env : List language.Binding) (e : tree.Expr) where
  pub alone_fault : (s : Stop) → query_of built_calls e ≡ None → Answers (Err s) (Evaluates built_calls env e) → AffectsOrFails (Err s) (StepsOf built_calls env None e)
  unfolding fail_with
  alone_fault (stop.Refused r) n h = rw n (refused (refused_of r), h, refl)
  alone_fault stop.NoMemory n h = tt

  pub alone_given : (v : Value) (l : List ℕ) → query_of built_calls e ≡ None → Evaluates built_calls env e (gives (value_of v)) → l ≡ value_line (value_of v) → StepsOf built_calls env None e (prints l)
  unfolding fail_with
  alone_given v l n h is = rw n (gives (value_of v), h, ap prints is)

  query_steps : (c : QueryCall) (offset : ℕ) (x : List ℕ) (es : tree.Exprs) (step : Step) → query_of built_calls e ≡ Some c → e ≡ tree.call offset x es → StepsAsQuery built_calls env c (tree.call offset x es) step → StepsOf built_calls env None e step
  query_steps c offset x es step q is h =
      let at : StepsAsQuery built_calls env c e step = subst (λ y. StepsAsQuery built_calls env c y step) (sym is) h in
      rw q at

  pub query_alone : (c : QueryCall) (offset : ℕ) (x : List ℕ) (es : tree.Exprs) (r : Result Effect Stop) → query_of built_calls e ≡ Some c → e ≡ tree.call offset x es → AffectsOrFails r (StepsAsQuery built_calls env c (tree.call offset x es)) → AffectsOrFails r (StepsOf built_calls env None e)
  query_alone c offset x es r q is h = affects_map r (StepsAsQuery built_calls env c (tree.call offset x es)) (StepsOf built_calls env None e) (λ step. query_steps c offset x es step q is) h

-- ---- a step of the machine

first_left : (ss : List Statement) (next : ℕ) (s : Statement) → next < length ss → s ≡ get_or ss next s → drop next ss ≡ s ∷ drop (next + 1) ss
first_left ss next s l is = rw add-one (left ss next s l ∙ ap (λ (x : Statement). x ∷ drop (suc next) ss) (sym is))
  where
    left : (ss : List Statement) (next : ℕ) (d : Statement) → next < length ss → drop next ss ≡ get_or ss next d ∷ drop (suc next) ss
    left [] next d l = absurd (omega (arith, l))
    left (s ∷ ss) zero d l = refl
    left (s ∷ ss) (suc next) d l = left ss next d (omega (arith, l))

abbrev state_at : List language.Binding → List Statement → ℕ → State
state_at env ss next = record { bindings = env; left = drop next ss }

module _ (old : State) (env : List language.Binding) (ss : List Statement) (next : ℕ) (s : Statement) where
  pub silent_step : (now : List language.Binding) (b : language.Binding) → state_at env ss next ≡ old → next < length ss → s ≡ get_or ss next s → IsBound b env now → Steps built_calls env (statement_of s) (binds b) → Does old Silent (state_at now ss (next + 1))
  silent_step now b view l is n h = subst (λ o. Does o Silent (state_at now ss (next + 1))) view (s, (drop (next + 1) ss, first_left ss next s l is, (b, h, n, refl)))

  pub line_step : (text : Vec ℕ) → state_at env ss next ≡ old → next < length ss → s ≡ get_or ss next s → Steps built_calls env (statement_of s) (prints text.items) → Does old (Line text) (state_at env ss (next + 1))
  line_step text view l is h = subst (λ o. Does o (Line text) (state_at env ss (next + 1))) view (s, (drop (next + 1) ss, first_left ss next s l is, (h, refl)))

  pub need_step : (q : Query) → state_at env ss next ≡ old → next < length ss → s ≡ get_or ss next s → Steps built_calls env (statement_of s) (need_of q) → Does old (Need q) (state_at env ss (next + 1))
  need_step q view l is h = subst (λ o. Does o (Need q) (state_at env ss (next + 1))) view (s, (drop (next + 1) ss, first_left ss next s l is, (h, refl)))

  pub count_step : (C : Matrix) → state_at env ss next ≡ old → next < length ss → s ≡ get_or ss next s → Steps built_calls env (statement_of s) (counts C) → Does old (Weights C) (state_at env ss (next + 1))
  count_step C view l is h = subst (λ o. Does o (Weights C) (state_at env ss (next + 1))) view (s, (drop (next + 1) ss, first_left ss next s l is, (h, refl)))

  pub near_step : (C : Matrix) (x : List ℕ) → state_at env ss next ≡ old → next < length ss → s ≡ get_or ss next s → Steps built_calls env (statement_of s) (nears C x) → Does old (Near C x) (state_at env ss (next + 1))
  near_step C x view l is h = subst (λ o. Does o (Near C x) (state_at env ss (next + 1))) view (s, (drop (next + 1) ss, first_left ss next s l is, (h, refl)))

  pub fault_step : (text : Vec ℕ) (r : Refused) (n : ℕ) → state_at env ss next ≡ old → next < length ss → s ≡ get_or ss next s → Steps built_calls env (statement_of s) (fails r) → text.items ≡ fault_line r.number r.offset r.values → n ≡ length ss → Does old (Fault text) (state_at env ss n)
  fault_step text r n view l is h line ends =
      let none : state_at env ss n ≡ record { bindings = env; left = [] } = ap (λ (left : List Statement). record { bindings = env; left = left }) (drop_all n ss (omega arith)) in
      subst (λ o. Does o (Fault text) (state_at env ss n)) view (s, (drop (next + 1) ss, first_left ss next s l is, (r, h, line, none)))
