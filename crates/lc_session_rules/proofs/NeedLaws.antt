-- How many bytes a need takes.
--   name_found           a call that is found has the name that was looked for
--   query_long           the name of a query, and twice the number of its arguments
--   asked                a statement that asks for a search is a call of a query
--   needs_long           fifteen bytes for each need
use Rattle.std.proofs.Common.{◌≡◌, ℕ, zero, suc, ◌+◌, ◌*◌, ◌≤◌, Bool, true, false, ◌==◌, List, [], ◌∷◌, ◌++◌, length, find, take, cond, Option, Some, None, refl, sym, ap, subst, ◌∙◌, inl, inr, arith}
use Rattle.std.specs.Prelude.{MatchOption}
use Rattle.std.proofs.lemmas.Bool.{eqb-true, false≢true}
use Rattle.std.proofs.Math.Seq.{take-length}
use Rattle.lc_algebra.specs.Matrix.{Matrix}
use Rattle.lc_formats.specs.Text.{same_bytes}
use Rattle.lc_formats.proofs.CertificateShaped.{find_passes}
use Rattle.lc_formats.proofs.ByteLaws.{same_from_bytes}
use Rattle.lc_grammar.specs.declared.Token.{Token}
use Rattle.lc_grammar.specs.Token.{scan}
use Rattle.lc_grammar.specs.Tree.{Expr, Exprs, number, name, call, list, Statement, count_of}
use Rattle.lc_grammar.specs.Grammar.{Reads, IsStatement, IsScript}
use Rattle.lc_language.specs.declared.Call.{Call}
use Rattle.lc_language.specs.declared.Call.TheVariants.{Value as Value_, Query}
use Rattle.lc_language.specs.declared.QueryCall.{QueryCall}
use Rattle.lc_language.specs.declared.QueryCall.TheVariants as query
use Rattle.lc_language.specs.declared.Kind.{Kind}
use Rattle.lc_language.specs.declared.Kind.TheVariants.{Numbers, Lists, Field, Code}
use Rattle.lc_language.specs.Value.{Binding}
use Rattle.lc_language.specs.Calls.{query_name, name_of, query_forms, signatures, call_named, signature_for}
use Rattle.lc_language.specs.Query.{QueryKind}
use Rattle.lc_language.specs.Evaluation.{Outcome, Outcomes, gives, refused, refuse_at, Step, binds, prints, asks, counts, nears, fails, fail_with, as_query, Evaluates, EvaluatesAll, QueriesAll, Assigns, StepsOf, StepsAsQuery, Steps}
use Rattle.lc_session_rules.specs.Needs.{NeedsOn, Needs, IsNeeds, MeetsFirst}
use Rattle.lc_session_rules.proofs.WidthLaws.{AreWide, widths, widths-append, wide_left, wide_right, statement_wide, tokens_wide}

pub name_found : (table : List Call) (x : List ℕ) (c : QueryCall) → call_named table x ≡ Some (Query c) → length x ≡ length (query_name c)
unfolding call_named name_of
name_found table x c e = ap (λ (u : List ℕ). length u) (same_from_bytes x (query_name c) (find_passes (λ (d : Call). same_bytes x (name_of d)) table (Query c) e))

only : (b : Bool) (kinds found : List Kind) → cond b (Some kinds) None ≡ Some found → b ≡ true
only true kinds found e = refl
only false kinds found e = absurd (let f = e in cc)

-- the only form of a call
one_form : (kinds found : List Kind) (n : ℕ) → find (λ (ks : List Kind). length ks == n) (kinds ∷ []) ≡ Some found → length kinds ≡ n
one_form kinds found n e = eqb-true (length kinds) n (only (length kinds == n) kinds found e)

pub query_long : (c : QueryCall) (n : ℕ) (kinds : List Kind) → signature_for (Query c) n ≡ Some kinds → 13 ≤ length (query_name c) + 2 * n
unfolding signature_for signatures query_forms query_name
query_long query.AlgebraicDecode n kinds e = (let l = one_form (Code ∷ Numbers ∷ []) kinds n e in omega (arith, l))
query_long query.LeastWord n kinds e = (let l = one_form (Lists ∷ Field ∷ []) kinds n e in omega (arith, l))
query_long query.MinimumDistance n kinds e = (let l = one_form (Code ∷ []) kinds n e in omega (arith, l))
query_long query.Certificate n kinds e = (let l = one_form (Code ∷ []) kinds n e in omega (arith, l))
query_long query.ScanCertificate n kinds e = (let l = one_form (Code ∷ []) kinds n e in omega (arith, l))
query_long query.WeightDistribution n kinds e = (let l = one_form (Code ∷ []) kinds n e in omega (arith, l))
query_long query.AlternantCertificate n kinds e = (let l = one_form (Code ∷ Numbers ∷ []) kinds n e in omega (arith, l))
query_long query.NearestWord n kinds e = (let l = one_form (Code ∷ Numbers ∷ []) kinds n e in omega (arith, l))
query_long query.FillErasures n kinds e = (let l = one_form (Code ∷ Numbers ∷ Numbers ∷ []) kinds n e in omega (arith, l))

abbrev is_ask : Step → Bool
is_ask (asks kind C) = true
is_ask (binds b) = false
is_ask (prints l) = false
is_ask (counts C) = false
is_ask (nears C x) = false
is_ask (fails r) = false

pub record IsQuery (table : List Call) (e : Expr) : Type 0 where
  pub offset : ℕ
  pub x : List ℕ
  pub es : Exprs
  pub c : QueryCall
  pub kinds : List Kind
  pub is : e ≡ call offset x es
  pub named : call_named table x ≡ Some (Query c)
  pub form : signature_for (Query c) (count_of es) ≡ Some kinds

no_value : (kind : QueryKind) (C : Matrix) (o : Outcome) → asks kind C ≡ fail_with o → ⊥
unfolding fail_with
no_value kind C (gives v) e = false≢true (sym (ap is_ask e))
no_value kind C (refused r) e = false≢true (sym (ap is_ask e))

module _ (table : List Call) (env : List Binding) (kind : QueryKind) (C : Matrix) where
  no_name : (x : List ℕ) (o : Outcome) → Assigns x o (asks kind C) → ⊥
  no_name x (gives v) e = false≢true (sym (ap is_ask e))
  no_name x (refused r) e = false≢true (sym (ap is_ask e))

  asked_call : (offset : ℕ) (x : List ℕ) (es : Exprs) → StepsOf table env None (call offset x es) (asks kind C) → IsQuery table (call offset x es)
  asked_call offset x es h = by (call_named table x) refl h
    where
      form : (c : QueryCall) → call_named table x ≡ Some (Query c) → (k : Option (List Kind)) → signature_for (Query c) (count_of es) ≡ k
          → MatchOption k (asks kind C ≡ fail_with (refuse_at 46 offset)) (λ kinds. (os : Outcomes) × EvaluatesAll table env es os × QueriesAll c offset kinds es os (asks kind C)) → IsQuery table (call offset x es)
      form c named None e f = absurd (no_value kind C (refuse_at 46 offset) f)
      form c named (Some kinds) e f = record { offset = offset; x = x; es = es; c = c; kinds = kinds; is = refl; named = named; form = e }

      by : (o : Option Call) → call_named table x ≡ o → MatchOption (as_query o) ((v : Outcome) × Evaluates table env (call offset x es) v × (asks kind C ≡ fail_with v)) (λ c. StepsAsQuery table env c (call offset x es) (asks kind C)) → IsQuery table (call offset x es)
      by None e (v, is, f) = absurd (no_value kind C v f)
      by (Some (Value_ c)) e (v, is, f) = absurd (no_value kind C v f)
      by (Some (Query c)) e f = form c e (signature_for (Query c) (count_of es)) refl f

  asked_of : (target : Option (List ℕ)) (e : Expr) → StepsOf table env target e (asks kind C) → IsQuery table e
  asked_of (Some x) e (o, is, gives_it) = absurd (no_name x o gives_it)
  asked_of None (number offset n) (o, is, fails_it) = absurd (no_value kind C o fails_it)
  asked_of None (name offset x) (o, is, fails_it) = absurd (no_value kind C o fails_it)
  asked_of None (list offset es) (o, is, fails_it) = absurd (no_value kind C o fails_it)
  asked_of None (call offset x es) h = asked_call offset x es h

pub asked : (table : List Call) (env : List Binding) (s : Statement) (kind : QueryKind) (C : Matrix) → Steps table env s (asks kind C) → IsQuery table s.expr
asked table env s kind C h = asked_of table env kind C s.target s.expr h

statement_long : (table : List Call) (env : List Binding) (bytes : List ℕ) (ts : List Token) (s : Statement) (kind : QueryKind) (C : Matrix) → AreWide ts → IsStatement bytes ts s → Steps table env s (asks kind C) → 15 ≤ widths ts
statement_long table env bytes ts s kind C w is h =
    let q = asked table env s kind C h in
    let l = statement_wide bytes ts s q.offset q.x q.es q.is w is in
    let n = name_found table q.x q.c q.named in
    let m = query_long q.c (count_of q.es) q.kinds q.form in
    omega (arith, l, n, m)

-- the bytes of a statement, and those of the needs after it
module _ (table : List Call) (bytes : List ℕ) (env : List Binding) (s : Statement) (us : List Token) (more : ℕ) (Later : List Binding → List Matrix → Type 0) (each : (next : List Binding) (rest : List Matrix) → Later next rest → 15 * length rest ≤ more) where
  needs_on : (t : Step) (needs : List Matrix) → AreWide us → IsStatement bytes us s → Steps table env s t → NeedsOn env t Later needs → 15 * length needs ≤ widths us + more
  needs_on (binds b) needs w is does h = (let l = each (b ∷ env) needs h in omega (arith, l))
  needs_on (prints l) needs w is does h = (let m = each env needs h in omega (arith, m))
  needs_on (counts C) needs w is does h = (let l = each env needs h in omega (arith, l))
  needs_on (nears C x) needs w is does h = (let l = each env needs h in omega (arith, l))
  needs_on (fails r) needs w is does h = (let e = ap (λ (l : List Matrix). length l) h in omega (arith, e))
  needs_on (asks kind C) needs w is does (rest, h, e) =
      let l = each env rest h in
      let m = statement_long table env bytes us s kind C w is does in
      let k = ap (λ (l : List Matrix). length l) e in
      omega (arith, l, m, k)

pub needs_long : (table : List Call) (bytes : List ℕ) (ss : List Statement) (n : ℕ) (env : List Binding) (ts : List Token) (needs : List Matrix) → AreWide ts → IsScript bytes ts ss → Needs table env (take n ss) needs → 15 * length needs ≤ widths ts
needs_long table bytes ss zero env ts needs w is h = (let e = ap (λ (l : List Matrix). length l) h in omega (arith, e))
needs_long table bytes [] (suc n) env ts needs w is h = (let e = ap (λ (l : List Matrix). length l) h in omega (arith, e))
needs_long table bytes (s ∷ ss) (suc n) env ts needs w (us, (vs, split, first, others)) (step, does, goes) =
    let here : AreWide (us ++ vs) = subst AreWide split w in
    let sum : widths ts ≡ widths us + widths vs = ap widths split ∙ widths-append us vs in
    let l = needs_on table bytes env s us (widths vs) (λ next. Needs table next (take n ss)) (λ next rest g. needs_long table bytes ss n next vs rest (wide_right us vs here) others g) step needs (wide_left us vs here) first does goes in
    omega (arith, l, sum)

-- the needs of the first statements of a script
front_long : (table : List Call) (bytes : List ℕ) (ss : List Statement) (n : ℕ) (needs : List Matrix) → Reads bytes ss → Needs table [] (take n ss) needs → 15 * length needs ≤ length bytes
front_long table bytes ss n needs reads h =
    let w = tokens_wide bytes in
    let l = needs_long table bytes ss n [] (scan bytes).tokens needs w.0 reads.script h in
    let m = w.1 in
    omega (arith, l, m)

pub script_long : (table : List Call) (bytes : List ℕ) (needs : List Matrix) → IsNeeds table bytes needs → 15 * length needs ≤ length bytes
script_long table bytes needs (inl (ss, reads, h)) = front_long table bytes ss (length ss) needs reads (subst (λ (l : List Statement). Needs table [] l needs) (sym (take-length ss)) h)
script_long table bytes needs (inr (fault, is, none)) = (let e = ap (λ (l : List Matrix). length l) none in omega (arith, e))

pub met_long : (table : List Call) (bytes : List ℕ) (front : List Matrix) → MeetsFirst table bytes front → 15 * length front ≤ length bytes
met_long table bytes front (inl none) = (let e = ap (λ (l : List Matrix). length l) none in omega (arith, e))
met_long table bytes front (inr (ss, reads, (n, h))) = front_long table bytes ss n front reads h
