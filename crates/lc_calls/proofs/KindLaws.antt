-- The kinds of arguments.
--   misfit_first, misfit_later, misfit_none_kinds, misfit_none_elements, misfit_none_values      the first argument is not of its kind,
--                                or is; or there is none
--   count_is                     the number of arguments
--   kind_told, mapped_told       a value is of a kind exactly if it is read as one
--   four_values, five_values     the values of four arguments, and of five
use Rattle.std.proofs.Common.{◌≡◌, ◌<◌, ◌≤◌, ℕ, Bool, true, false, List, slice_index_or, [], ◌∷◌, length, Option, Some, None, is_some, option_map, refl, sym, ap, subst, ◌∙◌, arith}
use Rattle.lc_language.specs.declared.Kind.{Kind}
use Rattle.lc_grammar.specs.Tree as tree
use Rattle.lc_grammar.specs.Tree.{offset_of, count_of}
use Rattle.lc_language.specs.Value as language
use Rattle.lc_language.specs.Value.{Meant, read, is_kind}
use Rattle.lc_language.specs.Evaluation.{first_misfit}
use Rattle.lc_parse.specs.declared.tree.Expr.{Expr}
use Rattle.lc_parse.specs.Views.{tree_of, trees_of}
use Rattle.lc_calls.specs.declared.values.Value.{Value}
use Rattle.lc_calls.specs.Value.{value_of, values_of}
use Rattle.lc_calls.proofs.ListLaws.{offset_is}

one_misfit : (kind : Kind) (kinds : List Kind) (e : tree.Expr) (es : tree.Exprs) (v : language.Value) (vs : List language.Value) → is_kind kind v ≡ false → first_misfit (kind ∷ kinds) (tree.more e es) (v ∷ vs) ≡ Some (offset_of e)
unfolding first_misfit
one_misfit kind kinds e es v vs h = ap (λ (x : Bool). elim x as (λ _. Option ℕ) [ true ↦ first_misfit kinds es vs | false ↦ Some (offset_of e) ]) h

one_fit : (kind : Kind) (kinds : List Kind) (e : tree.Expr) (es : tree.Exprs) (v : language.Value) (vs : List language.Value) → is_kind kind v ≡ true → first_misfit (kind ∷ kinds) (tree.more e es) (v ∷ vs) ≡ first_misfit kinds es vs
unfolding first_misfit
one_fit kind kinds e es v vs h = ap (λ (x : Bool). elim x as (λ _. Option ℕ) [ true ↦ first_misfit kinds es vs | false ↦ Some (offset_of e) ]) h

pub misfit_first : (kinds later : List Kind) (kind : Kind) (es behind : List Expr) (e : Expr) (vs others : List Value) (v : Value) (r : Bool) → kinds ≡ kind ∷ later → es ≡ e ∷ behind → vs ≡ v ∷ others → r ≡ is_kind kind (value_of v) → r ≡ false → Some e.offset ≡ first_misfit kinds (trees_of es) (values_of vs)
misfit_first kinds later kind es behind e vs others v r p q s is f =
    rw (p, q, s) (ap Some (sym (offset_is e)) ∙ sym (one_misfit kind later (tree_of e) (trees_of behind) (value_of v) (values_of others) (sym is ∙ f)))

pub misfit_later : (kinds later : List Kind) (kind : Kind) (es behind : List Expr) (e : Expr) (vs others : List Value) (v : Value) (r : Bool) → kinds ≡ kind ∷ later → es ≡ e ∷ behind → vs ≡ v ∷ others → r ≡ is_kind kind (value_of v) → r ≡ true → first_misfit later (trees_of behind) (values_of others) ≡ first_misfit kinds (trees_of es) (values_of vs)
misfit_later kinds later kind es behind e vs others v r p q s is t =
    rw (p, q, s) (sym (one_fit kind later (tree_of e) (trees_of behind) (value_of v) (values_of others) (sym is ∙ t)))

pub misfit_none_kinds : (kinds : List Kind) (es : tree.Exprs) (vs : List language.Value) → length kinds ≡ 0 → None ≡ first_misfit kinds es vs
unfolding first_misfit
misfit_none_kinds [] es vs e = refl
misfit_none_kinds (kind ∷ kinds) es vs e = absurd (omega (arith, e))

pub misfit_none_elements : (kinds : List Kind) (es : List Expr) (vs : List language.Value) → length es ≡ 0 → None ≡ first_misfit kinds (trees_of es) vs
unfolding first_misfit
misfit_none_elements [] [] vs e = refl
misfit_none_elements (kind ∷ kinds) [] vs e = refl
misfit_none_elements kinds (x ∷ es) vs e = absurd (omega (arith, e))

pub misfit_none_values : (kinds : List Kind) (es : tree.Exprs) (vs : List Value) → length vs ≡ 0 → None ≡ first_misfit kinds es (values_of vs)
unfolding first_misfit
misfit_none_values [] es [] e = refl
misfit_none_values (kind ∷ kinds) tree.none [] e = refl
misfit_none_values (kind ∷ kinds) (tree.more x es) [] e = refl
misfit_none_values kinds es (v ∷ vs) e = absurd (omega (arith, e))

pub count_is : (es : List Expr) → count_of (trees_of es) ≡ length es
unfolding count_of
count_is [] = refl
count_is (e ∷ es) = let l = count_is es in omega (arith, l)

pub kind_told : (kind other : Kind) (v : language.Value) (b : Bool) → kind ≡ other → b ≡ is_some (read other v) → b ≡ is_kind kind v
unfolding is_kind
kind_told kind other v b e h = subst (λ k. b ≡ is_some (read k v)) (sym e) h

some_mapped : {A B : Type 0} (f : A → B) (r : Option A) → is_some r ≡ is_some (option_map f r)
some_mapped f None = refl
some_mapped f (Some a) = refl

pub mapped_told : {A : Type 0} (kind other : Kind) (v : language.Value) (f : A → Meant other) (r : Option A) (b : Bool) → kind ≡ other → b ≡ is_some r → option_map f r ≡ read other v → b ≡ is_kind kind v
mapped_told kind other v f r b e h k = kind_told kind other v b e (h ∙ some_mapped f r ∙ ap is_some k)

pub four_values : (vs : List Value) (a b c d : Value) → 4 ≤ length vs → length vs < 5 → a ≡ slice_index_or vs 0 a → b ≡ slice_index_or vs 1 b → c ≡ slice_index_or vs 2 c → d ≡ slice_index_or vs 3 d → value_of a ∷ value_of b ∷ value_of c ∷ value_of d ∷ [] ≡ values_of vs
four_values [] a b c d l s i j k m = absurd (omega (arith, l, s))
four_values (u ∷ []) a b c d l s i j k m = absurd (omega (arith, l, s))
four_values (u ∷ v ∷ []) a b c d l s i j k m = absurd (omega (arith, l, s))
four_values (u ∷ v ∷ w ∷ []) a b c d l s i j k m = absurd (omega (arith, l, s))
four_values (u ∷ v ∷ w ∷ x ∷ []) a b c d l s i j k m = cc
four_values (u ∷ v ∷ w ∷ x ∷ y ∷ vs) a b c d l s i j k m = absurd (omega (arith, l, s))

pub five_values : (vs : List Value) (a b c d e : Value) → 5 ≤ length vs → length vs < 6 → a ≡ slice_index_or vs 0 a → b ≡ slice_index_or vs 1 b → c ≡ slice_index_or vs 2 c → d ≡ slice_index_or vs 3 d → e ≡ slice_index_or vs 4 e → value_of a ∷ value_of b ∷ value_of c ∷ value_of d ∷ value_of e ∷ [] ≡ values_of vs
five_values [] a b c d e l s i j k m n = absurd (omega (arith, l, s))
five_values (u ∷ []) a b c d e l s i j k m n = absurd (omega (arith, l, s))
five_values (u ∷ v ∷ []) a b c d e l s i j k m n = absurd (omega (arith, l, s))
five_values (u ∷ v ∷ w ∷ []) a b c d e l s i j k m n = absurd (omega (arith, l, s))
five_values (u ∷ v ∷ w ∷ x ∷ []) a b c d e l s i j k m n = absurd (omega (arith, l, s))
five_values (u ∷ v ∷ w ∷ x ∷ y ∷ []) a b c d e l s i j k m n = cc
five_values (u ∷ v ∷ w ∷ x ∷ y ∷ z ∷ vs) a b c d e l s i j k m n = absurd (omega (arith, l, s))
