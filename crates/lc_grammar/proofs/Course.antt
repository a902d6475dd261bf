-- What may come next in a script, token by token: a way of deciding the grammar that the laws of `GrammarLaws` prove right.
--   Bracket              an opening sign with what stands before it: a call with its offset and name, or a list with its offset
--   filled b es          the expression that the bracket closes to
--   after_all es e       the expressions with one more at the end
--   Around               what an expression stands in: a statement behind others, or a bracket with what it holds so far
--   depth_of a           how many brackets are open around
--   State                what was read last: whole statements, a name that begins one, nothing of an expression that must
--                        come, an opening sign, a name, or a whole expression
--   level_of s           how many brackets are open
--   next bytes s t       the state behind one more token, if the grammar lets it stand there
--   IsNoTarget ts        no name and `:=` stand first
--   Move, move           the same below the limit of open brackets, or the number of the fault (kind_move: by the kind)
--   reach                the state behind several tokens
--   Outcome, course      the statements that the tokens are with this ending, or the first fault
use Rattle.std.specs.Prelude.{◌≡◌, ℕ, suc, Bool, true, false, nat_le, ◌&&◌, List, [], ◌∷◌, ◌++◌, Option, Some, None}
use Rattle.lc_grammar.specs.declared.TokenKind.{TokenKind}
use Rattle.lc_grammar.specs.declared.TokenKind.TheVariants.{Name, Number, Assign, Open, Close, OpenList, CloseList, Comma, End}
use Rattle.lc_grammar.specs.declared.Token.{Token}
use Rattle.lc_grammar.specs.Token.{text_of, number_of, Ending, script_end, bad_token, too_wide}
use Rattle.lc_grammar.specs.Tree.{Expr, Exprs, number, name, call, list, none, more, Statement}
use Rattle.lc_grammar.specs.Grammar.{opens}

pub data Bracket : Type 0 where
  of_call : ℕ → List ℕ → Bracket
  of_list : ℕ → Bracket

abbrev pub closing : Bracket → TokenKind
closing (of_call offset x) = Close
closing (of_list offset) = CloseList

abbrev pub filled : Bracket → Exprs → Expr
filled (of_call offset x) es = call offset x es
filled (of_list offset) es = list offset es

abbrev pub after_all : Exprs → Expr → Exprs
after_all none e = more e none
after_all (more first es) e = more first (after_all es e)

abbrev pub with_target : Option (List ℕ) → Expr → Statement
with_target target e = record { target = target; expr = e }

pub data Around : Type 0 where
  statement : List Statement → Option (List ℕ) → Around
  inside : Bracket → Exprs → Around → Around

abbrev pub depth_of : Around → ℕ
depth_of (statement ss target) = 0
depth_of (inside b es a) = suc (depth_of a)

pub data State : Type 0 where
  start : List Statement → State
  begun : List Statement → ℕ → List ℕ → State
  want : Around → State
  opened : Bracket → Around → State
  named : Around → ℕ → List ℕ → State
  done : Around → Expr → State

abbrev pub level_of : State → ℕ
level_of (start ss) = 0
level_of (begun ss offset x) = 0
level_of (want a) = depth_of a
level_of (opened b a) = suc (depth_of a)
level_of (named a offset x) = depth_of a
level_of (done a e) = depth_of a

-- a token after a whole expression
abbrev pub after_expr : Around → Expr → TokenKind → Option State
after_expr (statement ss target) e End = Some (start (ss ++ with_target target e ∷ []))
after_expr (statement ss target) e _ = None
after_expr (inside b es a) e Comma = Some (want (inside b (after_all es e) a))
after_expr (inside (of_call offset x) es a) e Close = Some (done a (call offset x (after_all es e)))
after_expr (inside (of_list offset) es a) e CloseList = Some (done a (list offset (after_all es e)))
after_expr (inside b es a) e _ = None

-- after a name
abbrev pub after_name : Around → ℕ → List ℕ → TokenKind → Option State
after_name a offset x Open = Some (opened (of_call offset x) a)
after_name a offset x kind = after_expr a (name offset x) kind

-- after a name that begins a statement
abbrev pub after_first : List Statement → ℕ → List ℕ → TokenKind → Option State
after_first ss offset x Assign = Some (want (statement ss (Some x)))
after_first ss offset x kind = after_name (statement ss None) offset x kind

module _ (bytes : List ℕ) where
  -- if an expression must come
  abbrev pub at_expr : Around → Token → TokenKind → Option State
  at_expr a t Name = Some (named a t.start (text_of bytes t))
  at_expr a t Number = Some (done a (number t.start (number_of (text_of bytes t))))
  at_expr a t OpenList = Some (opened (of_list t.start) a)
  at_expr a t _ = None

  -- if a statement may come
  abbrev pub at_start : List Statement → Token → TokenKind → Option State
  at_start ss t Name = Some (begun ss t.start (text_of bytes t))
  at_start ss t kind = at_expr (statement ss None) t kind

  -- after an opening sign
  abbrev pub at_opened : Bracket → Around → Token → TokenKind → Option State
  at_opened (of_call offset x) a t Close = Some (done a (call offset x none))
  at_opened (of_list offset) a t CloseList = Some (done a (list offset none))
  at_opened b a t kind = at_expr (inside b none a) t kind

  abbrev pub next_by : State → Token → TokenKind → Option State
  next_by (start ss) t kind = at_start ss t kind
  next_by (begun ss offset x) t kind = after_first ss offset x kind
  next_by (want a) t kind = at_expr a t kind
  next_by (opened b a) t kind = at_opened b a t kind
  next_by (named a offset x) t kind = after_name a offset x kind
  next_by (done a e) t kind = after_expr a e kind

  abbrev pub next : State → Token → Option State
  next s t = next_by s t t.kind

-- these tokens don't begin with a target
abbrev pub IsNoTarget : List Token → Type 0
IsNoTarget [] = Unit {0}
IsNoTarget (t ∷ []) = Unit {0}
IsNoTarget (t ∷ u ∷ ts) = t.kind ≡ Name → u.kind ≡ Assign → ⊥

pub data Move : Type 0 where
  goes : State → Move
  stops : ℕ → Move

abbrev pub moved : Option State → Move
moved None = stops 41
moved (Some s) = goes s

abbrev pub move_by : Bool → Option State → Move
move_by true o = stops 42
move_by false o = moved o

pub data Outcome : Type 0 where
  read : List Statement → Outcome
  fault : ℕ → ℕ → Outcome

abbrev pub at_end : State → ℕ → Outcome
at_end (start ss) offset = read ss
at_end s offset = fault 41 offset

abbrev pub ended_at : State → Ending → Outcome
ended_at s (script_end offset) = at_end s offset
ended_at s (bad_token offset) = fault 40 offset
ended_at s (too_wide offset) = fault 43 offset

abbrev pub outcome_by : Token → Move → (State → Outcome) → Outcome
outcome_by t (goes s) more_of = more_of s
outcome_by t (stops n) more_of = fault n t.start

abbrev pub state_by : Move → (State → Option State) → Option State
state_by (goes s) more_of = more_of s
state_by (stops n) more_of = None

module _ (bytes : List ℕ) (limit : ℕ) where
  abbrev pub kind_move : State → Token → TokenKind → Move
  kind_move s t kind = move_by (opens kind && nat_le limit (level_of s)) (next_by bytes s t kind)

  abbrev pub move : State → Token → Move
  move s t = kind_move s t t.kind

  unfoldable pub reach : State → List Token → Option State
  reach s [] = Some s
  reach s (t ∷ ts) = state_by (move s t) (λ after. reach after ts)

  unfoldable pub course : State → List Token → Ending → Outcome
  course s [] ending = ended_at s ending
  course s (t ∷ ts) ending = outcome_by t (move s t) (λ after. course after ts ending)
