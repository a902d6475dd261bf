-- The values of lists, element by element.
--   misfit_element           the fault of a list whose elements fit up to one, and that one doesn't
use Rattle.std.proofs.Common.{◌≡◌, ℕ, zero, suc, ◌<◌, List, [], ◌∷◌, length, drop, get_or, Err, refl, sym, subst, ap, ◌∙◌, arith}
use Rattle.lc_grammar.specs.Tree as tree
use Rattle.lc_grammar.specs.Tree.{offset_of}
use Rattle.lc_language.specs.Evaluation.{Outcome, gives, refused, refuse_at, Evaluates, ListGoesOn, EvaluatesList}
use Rattle.lc_language.specs.Value as language
use Rattle.lc_parse.specs.declared.tree.Expr.{Expr}
use Rattle.lc_parse.specs.Views.{tree_of, trees_of}
use Rattle.lc_calls.specs.Built.{built_calls}
use Rattle.lc_calls.specs.declared.values.Value.{Value}
use Rattle.lc_calls.specs.Value.{value_of, refused_of}
use Rattle.lc_calls.specs.Applied.{Answers}
use Rattle.lc_calls.specs.declared.lists.Listed.{Listed}
use Rattle.lc_calls.specs.Listed.{listed_of, ListsOn}
use Rattle.lc_calls.specs.declared.refusals.Stop.{Stop}
use Rattle.lc_calls.specs.declared.refusals.Stop.TheVariants as stop
use Rattle.lc_calls.proofs.ListLaws.{offset_is}

trees_from : (es : List Expr) (i : ℕ) (d : Expr) → i < length es → trees_of (drop i es) ≡ tree.more (tree_of (get_or es i d)) (trees_of (drop (suc i) es))
trees_from [] i d l = absurd (omega (arith, l))
trees_from (e ∷ es) zero d l = refl
trees_from (e ∷ es) (suc i) d l = trees_from es i d (omega (arith, l))

module _ (env : List language.Binding) (es : List Expr) (i : ℕ) (e : Expr) (found : Listed) where
  from_element : i < length es → e ≡ get_or es i e → (o p : Outcome) → Evaluates built_calls env (tree_of e) p → ListGoesOn (tree_of e) p (listed_of found) (λ next. EvaluatesList built_calls env (trees_of (drop (suc i) es)) next o) o → EvaluatesList built_calls env (trees_of (drop i es)) (listed_of found) o
  from_element l is o p h k =
      let trees : tree.more (tree_of e) (trees_of (drop (suc i) es)) ≡ trees_of (drop i es) = ap (λ (x : Expr). tree.more (tree_of x) (trees_of (drop (suc i) es))) is ∙ sym (trees_from es i e l) in
      subst (λ (ts : tree.Exprs). EvaluatesList built_calls env ts (listed_of found) o) trees (p, h, k)

  pub misfit_element : (s : Stop) (v : Value) (P : Outcome → Type 0) → i < length es → e ≡ get_or es i e → ((o : Outcome) → EvaluatesList built_calls env (trees_of (drop i es)) (listed_of found) o → P o) → Evaluates built_calls env (tree_of e) (gives (value_of v)) → ListsOn (Err s) (listed_of found) (value_of v) e.offset → Answers (Err s) P
  misfit_element (stop.Refused r) v P l is so_far h misfit =
      let at : refused (refused_of r) ≡ refuse_at 45 (offset_of (tree_of e)) = misfit.1 ∙ ap (refuse_at 45) (sym (offset_is e)) in
      so_far (refused (refused_of r)) (from_element l is (refused (refused_of r)) (gives (value_of v)) h (rw misfit.0 at))
  misfit_element stop.NoMemory v P l is so_far h misfit = tt
