-- The first need of a script, statement by statement.
--   HasMetNone first m       the statements before those that are left have asked no need
--   none_yet                 at the beginning
--   after_line, after_silent, after_count, after_near      after a statement
--   need_here                a statement asks the first need
--   none_at_end, none_at_fault      there is none
use Rattle.std.proofs.Common.{◌≡◌, ℕ, ◌<◌, List, [], ◌∷◌, ◌++◌, length, map, take, sym, subst}
use Rattle.lc_algebra.specs.Matrix.{Matrix}
use Rattle.lc_enumeration.specs.Search.{Answer}
use Rattle.lc_grammar.specs.Tree as tree
use Rattle.lc_parse.specs.Views.{statement_of}
use Rattle.lc_calls.specs.Built.{built_calls}
use Rattle.lc_eval.specs.Machine.{State, Does}
use Rattle.lc_eval.specs.Evaluated.{kind_of}
use Rattle.lc_eval.specs.declared.machine.Query.{Query}
use Rattle.lc_eval.specs.declared.machine.Step.TheVariants as step
use Rattle.lc_language.specs.Query.{distribution_line, near_line}
use Rattle.lc_session_rules.specs.Needs.{Needs}
use Rattle.lc_session_rules.specs.Statements.{HaveDone}
use Rattle.lc_session_rules.proofs.AskLaws.{asked_rows}
use Rattle.lc_session_rules.proofs.StatementLaws.{begun, by_line, by_binding, by_count, by_near, at_fault_asks, at_end_asks, met_with_next}

pub record HasMetNone (first : List tree.Statement) (m : State) : Type 0 where
  pub answers : List Answer
  pub text : List ℕ
  pub statements : HaveDone built_calls 0 [] m.bindings first (map statement_of m.left) [] answers text

pub none_yet : (m : State) → m.bindings ≡ [] → HasMetNone (map statement_of m.left) m
none_yet m unbound = record {
  answers = [];
  text = [];
  statements = subst (λ b. HaveDone built_calls 0 [] b (map statement_of m.left) (map statement_of m.left) [] [] []) (sym unbound) (begun built_calls 0 [] (map statement_of m.left));
}

module _ (first : List tree.Statement) (old new : State) (h : HasMetNone first old) where
  at : (s : _) (rest : _) → old.left ≡ s ∷ rest → HaveDone built_calls 0 [] old.bindings first (statement_of s ∷ map statement_of rest) [] h.answers h.text
  at s rest e = subst (λ l. HaveDone built_calls 0 [] old.bindings first (map statement_of l) [] h.answers h.text) e h.statements

  abbrev made : (m : State) (text : List ℕ) → HaveDone built_calls 0 [] m.bindings first (map statement_of m.left) [] h.answers text → HasMetNone first m
  made m text k = record { answers = h.answers; text = text; statements = k }

  pub after_line : (l : _) → Does old (step.Line l) new → HasMetNone first new
  after_line l d =
      made new (h.text ++ l.items)
      (subst (λ (m : State). HaveDone built_calls 0 [] m.bindings first (map statement_of m.left) [] h.answers (h.text ++ l.items)) (sym d.1.2.1)
      (by_line built_calls 0 [] old.bindings first (statement_of d.0) (map statement_of d.1.0) [] h.answers h.text (at d.0 d.1.0 d.1.1) l.items d.1.2.0))

  pub after_silent : Does old step.Silent new → HasMetNone first new
  after_silent d =
      made new h.text
      (subst (λ l. HaveDone built_calls 0 [] new.bindings first (map statement_of l) [] h.answers h.text) (sym d.1.2.3)
      (by_binding built_calls 0 [] old.bindings first (statement_of d.0) (map statement_of d.1.0) [] h.answers h.text (at d.0 d.1.0 d.1.1) d.1.2.0 new.bindings d.1.2.1 d.1.2.2))

  pub after_count : (C : Matrix) → Does old (step.Weights C) new → HasMetNone first new
  after_count C d =
      made new (h.text ++ distribution_line C)
      (subst (λ (m : State). HaveDone built_calls 0 [] m.bindings first (map statement_of m.left) [] h.answers (h.text ++ distribution_line C)) (sym d.1.2.1)
      (by_count built_calls 0 [] old.bindings first (statement_of d.0) (map statement_of d.1.0) [] h.answers h.text (at d.0 d.1.0 d.1.1) C d.1.2.0))

  pub after_near : (C : Matrix) (x : List ℕ) → Does old (step.Near C x) new → HasMetNone first new
  after_near C x d =
      made new (h.text ++ near_line C x 0)
      (subst (λ (m : State). HaveDone built_calls 0 [] m.bindings first (map statement_of m.left) [] h.answers (h.text ++ near_line C x 0)) (sym d.1.2.1)
      (by_near built_calls 0 [] old.bindings first (statement_of d.0) (map statement_of d.1.0) [] h.answers h.text (at d.0 d.1.0 d.1.1) C x d.1.2.0))

  pub need_here : (q : Query) → Does old (step.Need q) new → (0 < length q.code.rows) × ((n : ℕ) × Needs built_calls [] (take n first) (q.code ∷ []))
  need_here q d = (
    asked_rows built_calls old.bindings (statement_of d.0) (kind_of q.kind) q.code d.1.2.0,
    met_with_next built_calls 0 [] old.bindings first (statement_of d.0) (map statement_of d.1.0) [] h.answers h.text (at d.0 d.1.0 d.1.1) (kind_of q.kind) q.code d.1.2.0,
  )

  pub none_at_fault : (l : _) → Does old (step.Fault l) new → Needs built_calls [] first []
  none_at_fault l d = at_fault_asks built_calls 0 [] old.bindings first (statement_of d.0) (map statement_of d.1.0) [] h.answers h.text (at d.0 d.1.0 d.1.1) d.1.2.0 d.1.2.1

  pub none_at_end : Does old step.End new → Needs built_calls [] first []
  none_at_end d = at_end_asks built_calls 0 [] old.bindings first [] h.answers h.text (subst (λ l. HaveDone built_calls 0 [] old.bindings first (map statement_of l) [] h.answers h.text) d.0 h.statements)
