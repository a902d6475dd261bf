-- The elements of a list, and the offset of an expression.
--   offset_is                the offset of a tree is that of its expression
--   number_fits, list_fits   a number, and a list of numbers, fit as their values do
--   misfit_refused           another value is refused
use Rattle.std.proofs.Common.{◌≡◌, ℕ, List, [], ◌∷◌, Result, Ok, Err, Some, None, refl, sym, subst, ap, ◌∙◌}
use Rattle.lc_grammar.specs.Tree as tree
use Rattle.lc_grammar.specs.Tree.{offset_of}
use Rattle.lc_language.specs.Evaluation as evaluation
use Rattle.lc_language.specs.Evaluation.{Outcome, refuse_at, nothing_yet, all_numbers, all_lists, listed_with}
use Rattle.lc_language.specs.Value as language
use Rattle.lc_language.specs.Value.{number_in, numbers_in}
use Rattle.lc_parse.specs.declared.tree.Expr.{Expr, fold_out-Expr}
use Rattle.lc_parse.specs.declared.tree.Node.{fold_out-Node}
use Rattle.lc_parse.specs.declared.tree.Node.TheOpen.{Node-F}
use Rattle.lc_parse.specs.Views.{tree_of, node_step, expr_step}
use Rattle.lc_calls.specs.declared.lists.Listed.{Listed}
use Rattle.lc_calls.specs.Listed.{ListsOn}
use Rattle.lc_calls.specs.declared.refusals.Stop.{Stop}
use Rattle.lc_calls.specs.declared.refusals.Stop.TheVariants as stop

offset_step : (node : Node-F (ℕ → tree.Expr) tree.Expr) (offset : ℕ) → offset_of (node_step node offset) ≡ offset
unfolding offset_of
offset_step (Node-F.Number n) offset = refl
offset_step (Node-F.Name x) offset = refl
offset_step (Node-F.Call x es) offset = refl
offset_step (Node-F.List es) offset = refl

pub offset_is : (e : Expr) → offset_of (tree_of e) ≡ e.offset
offset_is e =
    ap offset_of (fold_out-Expr (ℕ → tree.Expr) tree.Expr node_step expr_step e)
    ∙ ap (λ (f : ℕ → tree.Expr). offset_of (f e.offset)) (fold_out-Node (ℕ → tree.Expr) tree.Expr node_step expr_step e.node)
    ∙ offset_step _ e.offset

-- ---- one element

lists_on_as : (r : Result Listed Stop) (found : evaluation.Listed) (v w : language.Value) (offset : ℕ) → listed_with found v ≡ listed_with found w → ListsOn r found v offset → ListsOn r found w offset
lists_on_as (Ok next) found v w offset e h = sym e ∙ h
lists_on_as (Err (stop.Refused r)) found v w offset e h = (sym e ∙ h.0, h.1)
lists_on_as (Err stop.NoMemory) found v w offset e h = tt

as_number : (v : language.Value) (n : ℕ) → Some n ≡ number_in v → v ≡ language.number n
unfolding number_in
as_number (language.number m) n e = cc
as_number (language.field f) n e = absurd (cc)
as_number (language.numbers u) n e = absurd (cc)
as_number (language.lists rows) n e = absurd (cc)
as_number (language.code C form) n e = absurd (cc)
as_number (language.truth b) n e = absurd (cc)
as_number language.nothing n e = absurd (cc)

pub number_fits : (found : evaluation.Listed) (v : language.Value) (n : ℕ) (r : Result Listed Stop) (offset : ℕ) → Some n ≡ number_in v → ListsOn r found (language.number n) offset → ListsOn r found v offset
number_fits found v n r offset e h = subst (λ w. ListsOn r found w offset) (sym (as_number v n e)) h

as_numbers : (found : evaluation.Listed) (v : language.Value) (u : List ℕ) → Some u ≡ numbers_in v → listed_with found (language.numbers u) ≡ listed_with found v
unfolding numbers_in listed_with
as_numbers found (language.number m) u e = absurd (cc)
as_numbers found (language.field f) u e = absurd (cc)
as_numbers found (language.numbers w) u e = let same : u ≡ w = cc in ap (λ (x : List ℕ). listed_with found (language.numbers x)) same
as_numbers nothing_yet (language.lists []) u e = let same : u ≡ [] = cc in ap (λ (x : List ℕ). listed_with nothing_yet (language.numbers x)) same
as_numbers (all_numbers w) (language.lists []) u e = refl
as_numbers (all_lists rows) (language.lists []) u e = let same : u ≡ [] = cc in ap (λ (x : List ℕ). listed_with (all_lists rows) (language.numbers x)) same
as_numbers found (language.lists (row ∷ rows)) u e = absurd (cc)
as_numbers found (language.code C form) u e = absurd (cc)
as_numbers found (language.truth b) u e = absurd (cc)
as_numbers found language.nothing u e = absurd (cc)

pub list_fits : (found : evaluation.Listed) (v : language.Value) (u w : List ℕ) (r : Result Listed Stop) (offset : ℕ) → Some u ≡ numbers_in v → w ≡ u → ListsOn r found (language.numbers w) offset → ListsOn r found v offset
list_fits found v u w r offset e s h = lists_on_as r found (language.numbers u) v offset (as_numbers found v u e) (subst (λ x. ListsOn r found (language.numbers x) offset) s h)

no_element : (found : evaluation.Listed) (v : language.Value) → None ≡ number_in v → None ≡ numbers_in v → listed_with found v ≡ None
unfolding number_in numbers_in listed_with
no_element found (language.number m) n e = absurd (cc)
no_element found (language.numbers u) n e = absurd (cc)
no_element found (language.lists []) n e = absurd (cc)
no_element nothing_yet (language.lists (row ∷ rows)) n e = refl
no_element (all_numbers u) (language.lists (row ∷ rows)) n e = refl
no_element (all_lists us) (language.lists (row ∷ rows)) n e = refl
no_element nothing_yet _ n e = refl
no_element (all_numbers u) _ n e = refl
no_element (all_lists us) _ n e = refl

pub misfit_refused : (found : evaluation.Listed) (v : language.Value) (o : Outcome) (offset : ℕ) → None ≡ number_in v → None ≡ numbers_in v → o ≡ refuse_at 45 offset → (listed_with found v ≡ None) × (o ≡ refuse_at 45 offset)
misfit_refused found v o offset n e is = (no_element found v n e, is)
