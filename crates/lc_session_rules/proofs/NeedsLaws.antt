-- A script determines its needs: what sessions meet of them agrees as far as both have come.
--   nothing_met          no need is met where none is asked for
--   asked_agree          after the same need, the needs agree if those after it do
--   needs_agree          the needs of the first statements, however many
--   met_agree            those that sessions meet
use Rattle.std.proofs.Common.{◌≡◌, ℕ, zero, suc, ⊎_elim, List, [], ◌∷◌, take, sym, ap, subst, ◌∙◌}
use Rattle.std.specs.Prelude.{Some, slice_get}
use Rattle.lc_algebra.specs.Matrix.{Matrix}
use Rattle.lc_grammar.specs.Tree.{Statement}
use Rattle.lc_grammar.specs.Grammar.{Reads}
use Rattle.lc_language.specs.declared.Call.{Call}
use Rattle.lc_language.specs.Value.{Binding}
use Rattle.lc_language.specs.Evaluation.{Step, binds, prints, asks, counts, nears, fails}
use Rattle.lc_session_rules.specs.Needs.{NeedsOn, Needs, MeetsFirst, AgreeAsFar, OneScript, OneStep}

nothing_met : (needs others : List Matrix) → needs ≡ [] → AgreeAsFar needs others
nothing_met needs others none i C D at other = absurd (let e : slice_get {X = Matrix} [] i ≡ Some C = sym (ap (λ (l : List Matrix). slice_get l i) none) ∙ at in cc)

none_besides : (needs others : List Matrix) → others ≡ [] → AgreeAsFar needs others
none_besides needs others none i C D at other = absurd (let e : slice_get {X = Matrix} [] i ≡ Some D = sym (ap (λ (l : List Matrix). slice_get l i) none) ∙ other in cc)

asked_agree : (needs others rest left : List Matrix) (C : Matrix) → needs ≡ C ∷ rest → others ≡ C ∷ left → AgreeAsFar rest left → AgreeAsFar needs others
asked_agree needs others rest left C is same later zero D E at other =
    let first : Some C ≡ Some D = sym (ap (λ (l : List Matrix). slice_get l zero) is) ∙ at in
    let second : Some C ≡ Some E = sym (ap (λ (l : List Matrix). slice_get l zero) same) ∙ other in
    cc
asked_agree needs others rest left C is same later (suc i) D E at other =
    later i D E (sym (ap (λ (l : List Matrix). slice_get l (suc i)) is) ∙ at) (sym (ap (λ (l : List Matrix). slice_get l (suc i)) same) ∙ other)

after_step : (step : Step) (env : List Binding) (One Other : List Binding → List Matrix → Type 0) (needs others : List Matrix) → ((later : List Binding) (rest left : List Matrix) → One later rest → Other later left → AgreeAsFar rest left)
    → NeedsOn env step One needs → NeedsOn env step Other others → AgreeAsFar needs others
after_step (binds b) env One Other needs others later p q = later (b ∷ env) needs others p q
after_step (prints l) env One Other needs others later p q = later env needs others p q
after_step (asks kind C) env One Other needs others later p q = asked_agree needs others p.0 q.0 C p.2 q.2 (later env p.0 q.0 p.1 q.1)
after_step (counts C) env One Other needs others later p q = later env needs others p q
after_step (nears C x) env One Other needs others later p q = later env needs others p q
after_step (fails r) env One Other needs others later p q = nothing_met needs others p

pub needs_agree : (table : List Call) → OneStep table → (ss : List Statement) (env : List Binding) (n m : ℕ) (needs others : List Matrix) → Needs table env (take n ss) needs → Needs table env (take m ss) others → AgreeAsFar needs others
needs_agree table one ss env zero m needs others p q = nothing_met needs others p
needs_agree table one ss env (suc n) zero needs others p q = none_besides needs others q
needs_agree table one [] env (suc n) (suc m) needs others p q = nothing_met needs others p
needs_agree table one (s ∷ ss) env (suc n) (suc m) needs others p q =
    let same : p.0 ≡ q.0 = one env s p.0 q.0 p.1 q.1 in
    let moved = subst (λ (step : Step). NeedsOn env step (λ later. Needs table later (take n ss)) needs) same p.2 in
    after_step q.0 env (λ later. Needs table later (take n ss)) (λ later. Needs table later (take m ss)) needs others (λ later rest left a b. needs_agree table one ss later n m rest left a b) moved q.2

pub met_agree : (table : List Call) (bytes : List ℕ) → OneScript bytes → OneStep table → (needs others : List Matrix) → MeetsFirst table bytes needs → MeetsFirst table bytes others → AgreeAsFar needs others
met_agree table bytes script one needs others p q =
    ⊎_elim (λ (e : needs ≡ []). nothing_met needs others e)
    (λ (a : (ss : List Statement) × Reads bytes ss × ((n : ℕ) × Needs table [] (take n ss) needs)).
    ⊎_elim (λ (e : others ≡ []). none_besides needs others e)
    (λ (b : (ss : List Statement) × Reads bytes ss × ((n : ℕ) × Needs table [] (take n ss) others)).
    needs_agree table one b.0 [] a.2.0 b.2.0 needs others (subst (λ (ss : List Statement). Needs table [] (take a.2.0 ss) needs) (script a.0 b.0 a.1 b.1) a.2.1) b.2.1) q) p
