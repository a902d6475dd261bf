-- The machine that does a script's statements one after another, and what a step of it does.
--   State                the bindings, one for each name, and the statements that are left
--   AtFirst P old        a statement is left, and P holds of the first one and of those after it
--   Does old step new    what a step answers, and the state after it: the first statement is done, as the text of a script says;
--                        a fault leaves no statement
use Rattle.std.specs.Prelude.{◌≡◌, List, [], ◌∷◌}
use Rattle.lc_parse.specs.declared.tree.Statement.{Statement}
use Rattle.lc_parse.specs.Views.{statement_of}
use Rattle.lc_language.specs.Value.{Binding}
use Rattle.lc_language.specs.Print.{fault_line}
use Rattle.lc_language.specs.Evaluation as evaluation
use Rattle.lc_language.specs.Evaluation.{Steps, Refused}
use Rattle.lc_calls.specs.Built.{built_calls}
use Rattle.lc_calls.specs.Names.{IsBound}
use Rattle.lc_eval.specs.Evaluated.{need_of}
use Rattle.lc_eval.specs.declared.machine.Step.{Step}
use Rattle.lc_eval.specs.declared.machine.Step.TheVariants.{Line, Silent, Need, Weights, Near, Fault, End}

pub record State : Type 0 where
  pub bindings : List Binding
  pub left : List Statement

abbrev pub AtFirst : (Statement → List Statement → Type 0) → State → Type 0
AtFirst P old = (s : Statement) × ((rest : List Statement) × (old.left ≡ s ∷ rest) × P s rest)

abbrev pub Does : State → Step → State → Type 0
Does old (Line text) new = AtFirst (λ s rest. Steps built_calls old.bindings (statement_of s) (evaluation.prints text.items) × (new ≡ record { bindings = old.bindings; left = rest })) old
Does old Silent new = AtFirst (λ s rest. (b : Binding) × Steps built_calls old.bindings (statement_of s) (evaluation.binds b) × IsBound b old.bindings new.bindings × (new.left ≡ rest)) old
Does old (Need q) new = AtFirst (λ s rest. Steps built_calls old.bindings (statement_of s) (need_of q) × (new ≡ record { bindings = old.bindings; left = rest })) old
Does old (Weights C) new = AtFirst (λ s rest. Steps built_calls old.bindings (statement_of s) (evaluation.counts C) × (new ≡ record { bindings = old.bindings; left = rest })) old
Does old (Near C x) new = AtFirst (λ s rest. Steps built_calls old.bindings (statement_of s) (evaluation.nears C x) × (new ≡ record { bindings = old.bindings; left = rest })) old
Does old (Fault text) new = AtFirst (λ s rest. (r : Refused) × Steps built_calls old.bindings (statement_of s) (evaluation.fails r) × (text.items ≡ fault_line r.number r.offset r.values) × (new ≡ record { bindings = old.bindings; left = [] })) old
Does old End new = (old.left ≡ []) × (new ≡ old)
