-- Arguments and the kinds of a call.
--   fits kinds vs                each value is of its kind
--   filled_fits, bound_fits      a form makes something of values, and so do several, exactly if the values are of its kinds
--   misfit_found                 else one of them isn't
--   misfits_told, query_misfits_told      so arguments that don't bind a call have a first one that is not of its kind
use Rattle.std.proofs.Common.{◌≡◌, ◌↔◌, ℕ, Bool, true, false, not, cond, ◌&&◌, ◌==◌, List, [], ◌∷◌, length, find, Option, Some, None, is_some, refl, sym, ap, subst, ◌∙◌, true≢false, arith}
use Rattle.std.proofs.lemmas.Bool.Decides.{nat_tests}
use Rattle.lc_constructions.proofs.ExpansionLaws.{not_true}
use Rattle.lc_grammar.specs.Tree.{Exprs, none, more, count_of, offset_of}
use Rattle.lc_language.specs.declared.Call.TheVariants.{Value as Value_, Query}
use Rattle.lc_language.specs.declared.ValueCall.{ValueCall}
use Rattle.lc_language.specs.declared.QueryCall.{QueryCall}
use Rattle.lc_language.specs.declared.Kind.{Kind}
use Rattle.lc_language.specs.Calls.{value_forms, query_forms, signature_for, signatures, bind, bind_query}
use Rattle.lc_language.specs.Forms.{Takes, Form, kinds_of, given, filled, form_for, bound}
use Rattle.lc_language.specs.Value.{read, Value, is_kind}
use Rattle.lc_language.specs.Evaluation.{first_misfit}

fits : List Kind → List Value → Bool
fits (k ∷ kinds) (v ∷ vs) = is_kind k v && fits kinds vs
fits _ _ = true

-- ---- the first argument that is not of its kind

picked : (b : Bool) (o : Option ℕ) (p : ℕ) (rest : Bool) → is_some o ≡ not rest → is_some (elim b as (λ _. Option ℕ) [ true ↦ o | false ↦ Some p ]) ≡ not (b && rest)
picked true o p rest h = h
picked false o p rest h = refl

misfit_found : (kinds : List Kind) (es : Exprs) (vs : List Value) → count_of es ≡ length vs → is_some (first_misfit kinds es vs) ≡ not (fits kinds vs)
unfolding first_misfit fits count_of
misfit_found [] es vs n = refl
misfit_found (k ∷ kinds) none [] n = refl
misfit_found (k ∷ kinds) none (v ∷ vs) n = absurd (omega (arith, n))
misfit_found (k ∷ kinds) (more e es) [] n = absurd (omega (arith, n))
misfit_found (k ∷ kinds) (more e es) (v ∷ vs) n = picked (is_kind k v) (first_misfit kinds es vs) (offset_of e) (fits kinds vs) (misfit_found kinds es vs (omega (arith, n)))

-- ---- what a form makes of values

given_fits : {A R : Type 0} (o : Option A) (make : A → Option R) (rest : Bool) → ((a : A) → is_some (make a) ≡ rest) → is_some (given o make) ≡ (is_some o && rest)
given_fits None make rest h = refl
given_fits (Some a) make rest h = h a

filled_fits : (R : Type 0) (kinds : List Kind) (make : Takes kinds R) (vs : List Value) → length kinds ≡ length vs → is_some (filled kinds make vs) ≡ fits kinds vs
unfolding fits is_kind
filled_fits R [] made [] n = refl
filled_fits R [] made (v ∷ vs) n = absurd (omega (arith, n))
filled_fits R (k ∷ kinds) make [] n = absurd (omega (arith, n))
filled_fits R (k ∷ kinds) make (v ∷ vs) n = given_fits (read k v) (λ a. filled kinds (make a) vs) (fits kinds vs) (λ a. filled_fits R kinds (make a) vs (omega (arith, n)))

form_fits : {R : Type 0} (form : Form R) (kinds : List Kind) (vs : List Value) → (length form.kinds == length vs) ≡ true → Some form.kinds ≡ Some kinds → is_some (filled form.kinds form.make vs) ≡ fits kinds vs
form_fits form kinds vs n e =
    let same : form.kinds ≡ kinds = cc in
    let long : length form.kinds ≡ length vs = grind (arith, nat_tests, n) in
    subst (λ ks. is_some (filled form.kinds form.make vs) ≡ fits ks vs) same (filled_fits _ form.kinds form.make vs long)

by_count : {R : Type 0} (b : Bool) (form : Form R) (later : Option (Form R)) (later_kinds : Option (List Kind)) (kinds : List Kind) (vs : List Value) → (length form.kinds == length vs) ≡ b
    → (later_kinds ≡ Some kinds → is_some (given later (λ form. filled form.kinds form.make vs)) ≡ fits kinds vs)
    → cond b (Some form.kinds) later_kinds ≡ Some kinds → is_some (given (cond b (Some form) later) (λ form. filled form.kinds form.make vs)) ≡ fits kinds vs
by_count true form later later_kinds kinds vs n h e = form_fits form kinds vs n e
by_count false form later later_kinds kinds vs n h e = h e

bound_fits : {R : Type 0} (forms : List (Form R)) (vs : List Value) (kinds : List Kind) → find (λ ks. length ks == length vs) (kinds_of forms) ≡ Some kinds → is_some (bound forms vs) ≡ fits kinds vs
bound_fits [] vs kinds e = absurd (let f = e in cc)
bound_fits (form ∷ forms) vs kinds e =
    by_count (length form.kinds == length vs) form (form_for (length vs) forms) (find (λ ks. length ks == length vs) (kinds_of forms)) kinds vs refl (bound_fits forms vs kinds) e

-- ---- misfits

none_there : {X : Type 0} (o : Option X) → is_some o ≡ false → o ≡ None
none_there None h = refl
none_there (Some x) h = absurd (true≢false h)

some_there : (o : Option ℕ) → is_some o ≡ true → (p : ℕ) × (o ≡ Some p)
some_there None h = absurd (true≢false (sym h))
some_there (Some p) h = (p, refl)

misfit_iff : {R : Type 0} (made : Option R) (o : Option ℕ) (b : Bool) → is_some made ≡ b → is_some o ≡ not b → (made ≡ None) ↔ ((offset : ℕ) × (o ≡ Some offset))
misfit_iff made o b h k = (
  (λ e. let f : b ≡ false = sym h ∙ ap is_some e in some_there o (k ∙ ap not f)),
  (λ p. none_there made (h ∙ not_true b (sym k ∙ ap is_some p.1))),
)

pub misfits_told : (c : ValueCall) (es : Exprs) (vs : List Value) (kinds : List Kind) → signature_for (Value_ c) (count_of es) ≡ Some kinds → count_of es ≡ length vs → (bind c vs ≡ None) ↔ ((offset : ℕ) × (first_misfit kinds es vs ≡ Some offset))
unfolding signature_for signatures bind
misfits_told c es vs kinds s n = misfit_iff (bind c vs) (first_misfit kinds es vs) (fits kinds vs) (bound_fits (value_forms c) vs kinds (ap (λ (m : ℕ). find (λ ks. length ks == m) (kinds_of (value_forms c))) (sym n) ∙ s)) (misfit_found kinds es vs n)

pub query_misfits_told : (c : QueryCall) (es : Exprs) (vs : List Value) (kinds : List Kind) → signature_for (Query c) (count_of es) ≡ Some kinds → count_of es ≡ length vs → (bind_query c vs ≡ None) ↔ ((offset : ℕ) × (first_misfit kinds es vs ≡ Some offset))
unfolding signature_for signatures bind_query
query_misfits_told c es vs kinds s n = misfit_iff (bind_query c vs) (first_misfit kinds es vs) (fits kinds vs) (bound_fits (query_forms c) vs kinds (ap (λ (m : ℕ). find (λ ks. length ks == m) (kinds_of (query_forms c))) (sym n) ∙ s)) (misfit_found kinds es vs n)

pub ruleset misfits_are_arguments_laws = (misfits_told, query_misfits_told)
