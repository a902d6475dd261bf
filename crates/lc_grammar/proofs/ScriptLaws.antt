-- Scripts and first faults, by the course of the tokens.
use Rattle.std.proofs.Common.{◌≡◌, ℕ, zero, suc, ◌<◌, ◌≤◌, List, [], ◌∷◌, ◌++◌, length, Some, None, refl, sym, ap, ◌∙◌, ◌⊎◌, inl, inr, append_assoc, arith}
use Rattle.std.proofs.lemmas.List.{append-nil}
use Rattle.lc_grammar.specs.declared.TokenKind.{TokenKind}
use Rattle.lc_grammar.specs.declared.TokenKind.TheVariants.{Name, Number, Assign, Open, Close, OpenList, CloseList, Comma, End}
use Rattle.lc_grammar.specs.declared.Token.{Token}
use Rattle.lc_grammar.specs.Token.{text_of, script_end}
use Rattle.lc_grammar.specs.Tree.{Statement, nesting}
use Rattle.lc_grammar.specs.Grammar.{IsStatement, IsScript}
use Rattle.lc_grammar.proofs.Course.{with_target, statement, start, read, course, IsNoTarget}
use Rattle.lc_grammar.proofs.GrammarLaws.{expr_read, statement_ends, start_wants, start_target, AreShallow}

module _ (bytes : List ℕ) (limit : ℕ) where
  is_name : (kind : TokenKind) → (kind ≡ Name) ⊎ (kind ≡ Name → ⊥)
  is_name Name = inl refl
  is_name Number = inr (λ e. cc)
  is_name Assign = inr (λ e. cc)
  is_name Open = inr (λ e. cc)
  is_name Close = inr (λ e. cc)
  is_name OpenList = inr (λ e. cc)
  is_name CloseList = inr (λ e. cc)
  is_name Comma = inr (λ e. cc)
  is_name End = inr (λ e. cc)

  is_assign : (kind : TokenKind) → (kind ≡ Assign) ⊎ (kind ≡ Assign → ⊥)
  is_assign Assign = inl refl
  is_assign Name = inr (λ e. cc)
  is_assign Number = inr (λ e. cc)
  is_assign Open = inr (λ e. cc)
  is_assign Close = inr (λ e. cc)
  is_assign OpenList = inr (λ e. cc)
  is_assign CloseList = inr (λ e. cc)
  is_assign Comma = inr (λ e. cc)
  is_assign End = inr (λ e. cc)

  -- a name and `:=` stand first, or not
  record TargetFirst (ts : List Token) : Type 0 where
    first : Token
    assign : Token
    rest : List Token
    split : ts ≡ first ∷ assign ∷ rest
    kind : first.kind ≡ Name
    assigns : assign.kind ≡ Assign

  target_first : (ts : List Token) → TargetFirst ts ⊎ IsNoTarget ts
  target_first [] = inr tt
  target_first (t ∷ []) = inr tt
  target_first (t ∷ u ∷ ts) =
      elim (is_name t.kind) [
        | inl k ↦ elim (is_assign u.kind) [
          | inl a ↦ inl (record { first = t; assign = u; rest = ts; split = refl; kind = k; assigns = a })
          | inr no_assign ↦ inr (λ m a. no_assign a)
        ]
        | inr no_name ↦ inr (λ m a. no_name m)
      ]

  -- the tokens are a script
  pub record ScriptRead (ts : List Token) (ss out : List Statement) : Type 0 where
    pub ss' : List Statement
    pub is : IsScript bytes ts ss'
    pub shallow : AreShallow bytes limit ss'
    pub all : out ≡ ss ++ ss'

  -- one statement, read up to its end
  record StatementRead (ts : List Token) (ss : List Statement) (offset : ℕ) (out : List Statement) : Type 0 where
    us : List Token
    s : Statement
    rest : List Token
    split : ts ≡ us ++ rest
    is : IsStatement bytes us s
    shallow : nesting s.expr ≤ limit
    goes_on : course bytes limit (start (ss ++ s ∷ [])) rest (script_end offset) ≡ read out
    shorter : length rest < length ts

  plain_read : (t : Token) (ts : List Token) (ss : List Statement) (offset : ℕ) (out : List Statement) → IsNoTarget (t ∷ ts) → course bytes limit (start ss) (t ∷ ts) (script_end offset) ≡ read out → StatementRead (t ∷ ts) ss offset out
  plain_read t ts ss offset out no_target h =
      let e = expr_read bytes limit (length (t ∷ ts)) (t ∷ ts) (statement ss None) (script_end offset) out (omega arith) (omega arith) (sym (start_wants bytes limit ss t ts (script_end offset) no_target) ∙ h) in
      let ends = statement_ends bytes limit e.rest ss None e.e (script_end offset) out e.goes_on in
      record {
        us = e.us ++ ends.last ∷ [];
        s = with_target None e.e;
        rest = ends.rest;
        split = e.split ∙ ap (λ l. e.us ++ l) ends.split ∙ sym (append_assoc e.us (ends.last ∷ []) ends.rest);
        is = ([], (e.us, (ends.last, refl, refl, e.is, ends.ends)));
        shallow = omega (arith, e.shallow);
        goes_on = ends.goes_on;
        shorter = omega (arith, e.shorter, ap length ends.split);
      }

  target_read : (ts : List Token) (first : TargetFirst ts) (ss : List Statement) (offset : ℕ) (out : List Statement) → course bytes limit (start ss) ts (script_end offset) ≡ read out → StatementRead ts ss offset out
  target_read ts first ss offset out h =
      let x = text_of bytes first.first in
      let wanted = sym (ap (λ l. course bytes limit (start ss) l (script_end offset)) first.split ∙ start_target bytes limit ss first.first first.assign first.rest (script_end offset) first.kind first.assigns) ∙ h in
      let e = expr_read bytes limit (length first.rest) first.rest (statement ss (Some x)) (script_end offset) out (omega arith) (omega arith) wanted in
      let ends = statement_ends bytes limit e.rest ss (Some x) e.e (script_end offset) out e.goes_on in
      record {
        us = first.first ∷ first.assign ∷ (e.us ++ ends.last ∷ []);
        s = with_target (Some x) e.e;
        rest = ends.rest;
        split = first.split ∙ ap (λ l. first.first ∷ first.assign ∷ l) (e.split ∙ ap (λ l. e.us ++ l) ends.split ∙ sym (append_assoc e.us (ends.last ∷ []) ends.rest));
        is = (first.first ∷ first.assign ∷ [], (e.us, (ends.last, refl, (first.first, (first.assign, refl, first.kind, first.assigns, refl)), e.is, ends.ends)));
        shallow = omega (arith, e.shallow);
        goes_on = ends.goes_on;
        shorter = omega (arith, e.shorter, ap length ends.split, ap length first.split);
      }

  statement_read : (t : Token) (ts : List Token) (ss : List Statement) (offset : ℕ) (out : List Statement) → course bytes limit (start ss) (t ∷ ts) (script_end offset) ≡ read out → StatementRead (t ∷ ts) ss offset out
  statement_read t ts ss offset out h =
      elim (target_first (t ∷ ts)) [
        | inl first ↦ target_read (t ∷ ts) first ss offset out h
        | inr no_target ↦ plain_read t ts ss offset out no_target h
      ]

  pub script_read : (n : ℕ) (ts : List Token) (ss : List Statement) (offset : ℕ) (out : List Statement) → length ts ≤ n → course bytes limit (start ss) ts (script_end offset) ≡ read out → ScriptRead ts ss out
  unfolding course
  script_read n [] ss offset out l h = record { ss' = []; is = refl; shallow = tt; all = let e : ss ≡ out = cc in sym e ∙ sym (append-nil ss) }
  script_read zero (t ∷ ts) ss offset out l h = absurd (omega arith)
  script_read (suc n) (t ∷ ts) ss offset out l h =
      let first = statement_read t ts ss offset out h in
      let rest = script_read n first.rest (ss ++ first.s ∷ []) offset out (omega (arith, first.shorter)) first.goes_on in
      record {
        ss' = first.s ∷ rest.ss';
        is = (first.us, (first.rest, first.split, first.is, rest.is));
        shallow = (first.shallow, rest.shallow);
        all = rest.all ∙ append_assoc ss (first.s ∷ []) rest.ss';
      }
