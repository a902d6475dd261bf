-- The first fault of the tokens is the one at which their course stops.
--   completes        from each state some tokens lead to a whole script
--   may_go_on        tokens that lead to a state may go on; reached: tokens that may go on lead to one
--   level_reach      how many signs are open behind tokens
use Rattle.std.proofs.Common.{◌≡◌, ℕ, suc, ◌+◌, Bool, true, false, cond, ◌&&◌, nat_le, List, [], ◌∷◌, ◌++◌, length, Option, Some, None, refl, sym, ap, ◌∙◌, subst, arith}
use Rattle.std.proofs.lemmas.List.Sums.{sum_by-cons}
use Rattle.std.specs.List.{count_by}
use Rattle.lc_grammar.specs.declared.TokenKind.{TokenKind}
use Rattle.lc_grammar.specs.declared.TokenKind.TheVariants.{Name, Number, Assign, Open, Close, OpenList, CloseList, Comma, End}
use Rattle.lc_grammar.specs.declared.Token.{Token}
use Rattle.lc_grammar.specs.Token.{text_of, number_of, Ending, script_end}
use Rattle.lc_grammar.specs.Tree.{Expr, number, name, none, Statement}
use Rattle.lc_grammar.specs.Grammar.{MayGoOn, opens, closes, is_opening, is_closing}
use Rattle.lc_grammar.proofs.Course.{Bracket, of_call, of_list, closing, filled, after_all, with_target, Around, statement, inside, depth_of, State, start, begun, want, opened, named, done, level_of, after_expr, after_name, after_first, at_expr, at_start, at_opened, next_by, next, Move, goes, stops, move_by, read, outcome_by, state_by, move, reach, course}
use Rattle.lc_grammar.proofs.GrammarLaws.{course_at, closes_opened, closes_done, ends_done, name_read}
use Rattle.lc_grammar.proofs.ScriptLaws.{script_read}

token_of : TokenKind → Token
token_of kind = record { kind = kind; start = 0; end = 0 }

closers : Around → List Token
closers (statement ss target) = token_of End ∷ []
closers (inside b es a) = token_of (closing b) ∷ closers a

module _ (bytes : List ℕ) (limit : ℕ) where
  record Completed (s : State) (us : List Token) : Type 0 where
    out : List Statement
    goes_on : course bytes limit s us (script_end 0) ≡ read out

  closes_all : (a : Around) (e : Expr) → Completed (done a e) (closers a)
  unfolding closers token_of course
  closes_all (statement ss target) e = record { out = ss ++ with_target target e ∷ []; goes_on = ends_done bytes limit ss target e (token_of End) [] (script_end 0) refl }
  closes_all (inside b es a) e =
      let rest = closes_all a (filled b (after_all es e)) in
      record { out = rest.out; goes_on = closes_done bytes limit b es a e (token_of (closing b)) (closers a) (script_end 0) refl ∙ rest.goes_on }

  named_closes : (a : Around) (offset : ℕ) (x : List ℕ) → course bytes limit (named a offset x) (closers a) (script_end 0) ≡ course bytes limit (done a (name offset x)) (closers a) (script_end 0)
  unfolding closers token_of
  named_closes (statement ss target) offset x = name_read bytes limit (statement ss target) offset x (token_of End) [] (script_end 0) (λ k. cc)
  named_closes (inside (of_call p y) es a) offset x = name_read bytes limit (inside (of_call p y) es a) offset x (token_of Close) (closers a) (script_end 0) (λ k. cc)
  named_closes (inside (of_list p) es a) offset x = name_read bytes limit (inside (of_list p) es a) offset x (token_of CloseList) (closers a) (script_end 0) (λ k. cc)

  pub record Completion (s : State) : Type 0 where
    pub us : List Token
    pub out : List Statement
    pub goes_on : course bytes limit s us (script_end 0) ≡ read out

  pub completes : (s : State) → Completion s
  unfolding token_of course
  completes (start ss) = record { us = []; out = ss; goes_on = refl }
  completes (begun ss offset x) = record { us = token_of End ∷ []; out = ss ++ with_target None (name offset x) ∷ []; goes_on = course_at bytes limit (begun ss offset x) (token_of End) [] (script_end 0) End refl }
  completes (want a) =
      let rest = closes_all a (number 0 (number_of (text_of bytes (token_of Number)))) in
      record { us = token_of Number ∷ closers a; out = rest.out; goes_on = course_at bytes limit (want a) (token_of Number) (closers a) (script_end 0) Number refl ∙ rest.goes_on }
  completes (opened b a) =
      let rest = closes_all a (filled b none) in
      record { us = token_of (closing b) ∷ closers a; out = rest.out; goes_on = closes_opened bytes limit b a (token_of (closing b)) (closers a) (script_end 0) refl ∙ rest.goes_on }
  completes (named a offset x) =
      let rest = closes_all a (name offset x) in
      record { us = closers a; out = rest.out; goes_on = named_closes a offset x ∙ rest.goes_on }
  completes (done a e) =
      let rest = closes_all a e in
      record { us = closers a; out = rest.out; goes_on = rest.goes_on }

  -- from a state that tokens lead to the course goes on
  pub course_reach : (us : List Token) (s s' : State) (ts : List Token) (ending : Ending) → reach bytes limit s us ≡ Some s' → course bytes limit s (us ++ ts) ending ≡ course bytes limit s' ts ending
  unfolding course reach
  course_reach [] s s' ts ending h = let e : s ≡ s' = cc in ap (λ s. course bytes limit s ts ending) e
  course_reach (t ∷ us) s s' ts ending h = by_move (λ after. course_reach us after s' ts ending) (move bytes limit s t) h
    where
      by_move : ((after : State) → reach bytes limit after us ≡ Some s' → course bytes limit after (us ++ ts) ending ≡ course bytes limit s' ts ending) → (m : Move) → state_by m (λ after. reach bytes limit after us) ≡ Some s' → outcome_by t m (λ after. course bytes limit after (us ++ ts) ending) ≡ course bytes limit s' ts ending
      by_move again (goes after) h = again after h
      by_move again (stops n) h = absurd (cc)

  pub record Reached (s : State) (us : List Token) : Type 0 where
    pub state : State
    pub is : reach bytes limit s us ≡ Some state

  pub reaches : (us : List Token) (s : State) (ts : List Token) (ending : Ending) (out : List Statement) → course bytes limit s (us ++ ts) ending ≡ read out → Reached s us
  unfolding course reach
  reaches [] s ts ending out h = record { state = s; is = refl }
  reaches (t ∷ us) s ts ending out h = by_move (λ after. reaches us after ts ending out) (move bytes limit s t) refl h
    where
      by_move : ((after : State) → course bytes limit after (us ++ ts) ending ≡ read out → Reached after us) → (m : Move) → move bytes limit s t ≡ m → outcome_by t m (λ after. course bytes limit after (us ++ ts) ending) ≡ read out → Reached s (t ∷ us)
      by_move again (goes after) e h =
          let rest = again after h in
          record { state = rest.state; is = ap (λ m. state_by m (λ after. reach bytes limit after us)) e ∙ rest.is }
      by_move again (stops n) e h = absurd (cc)

  pub reach-append : (us vs : List Token) (s s' : State) → reach bytes limit s us ≡ Some s' → reach bytes limit s (us ++ vs) ≡ reach bytes limit s' vs
  unfolding reach
  reach-append [] vs s s' h = let e : s ≡ s' = cc in ap (λ s. reach bytes limit s vs) e
  reach-append (t ∷ us) vs s s' h = by_move (λ after. reach-append us vs after s') (move bytes limit s t) h
    where
      by_move : ((after : State) → reach bytes limit after us ≡ Some s' → reach bytes limit after (us ++ vs) ≡ reach bytes limit s' vs) → (m : Move) → state_by m (λ after. reach bytes limit after us) ≡ Some s' → state_by m (λ after. reach bytes limit after (us ++ vs)) ≡ reach bytes limit s' vs
      by_move again (goes after) h = again after h
      by_move again (stops n) h = absurd (cc)

  pub may_go_on : (front : List Token) (s : State) → reach bytes limit (start []) front ≡ Some s → MayGoOn bytes front
  may_go_on front s h =
      let end = completes s in
      let whole = course_reach front (start []) s end.us (script_end 0) h ∙ end.goes_on in
      let found = script_read bytes limit (length (front ++ end.us)) (front ++ end.us) [] 0 end.out (omega arith) whole in
      (end.us, (found.ss', found.is))

  -- how many signs are open
  abbrev bit : Bool → ℕ
  bit true = 1
  bit false = 0

  abbrev LevelIs : ℕ → TokenKind → Option State → Type 0
  LevelIs n kind None = Unit {0}
  LevelIs n kind (Some s) = level_of s + bit (closes kind) ≡ n + bit (opens kind)

  expr_level : (a : Around) (t : Token) (kind : TokenKind) → LevelIs (depth_of a) kind (at_expr bytes a t kind)
  expr_level a t Name = refl
  expr_level a t Number = refl
  expr_level a t OpenList = omega arith
  expr_level a t Assign = tt
  expr_level a t Open = tt
  expr_level a t Close = tt
  expr_level a t CloseList = tt
  expr_level a t Comma = tt
  expr_level a t End = tt

  after_level : (a : Around) (e : Expr) (kind : TokenKind) → LevelIs (depth_of a) kind (after_expr a e kind)
  after_level (statement ss target) e End = refl
  after_level (statement ss target) e Name = tt
  after_level (statement ss target) e Number = tt
  after_level (statement ss target) e Assign = tt
  after_level (statement ss target) e Open = tt
  after_level (statement ss target) e Close = tt
  after_level (statement ss target) e OpenList = tt
  after_level (statement ss target) e CloseList = tt
  after_level (statement ss target) e Comma = tt
  after_level (inside (of_call p x) es a) e Comma = refl
  after_level (inside (of_call p x) es a) e Close = omega arith
  after_level (inside (of_call p x) es a) e Name = tt
  after_level (inside (of_call p x) es a) e Number = tt
  after_level (inside (of_call p x) es a) e Assign = tt
  after_level (inside (of_call p x) es a) e Open = tt
  after_level (inside (of_call p x) es a) e OpenList = tt
  after_level (inside (of_call p x) es a) e CloseList = tt
  after_level (inside (of_call p x) es a) e End = tt
  after_level (inside (of_list p) es a) e Comma = refl
  after_level (inside (of_list p) es a) e CloseList = omega arith
  after_level (inside (of_list p) es a) e Name = tt
  after_level (inside (of_list p) es a) e Number = tt
  after_level (inside (of_list p) es a) e Assign = tt
  after_level (inside (of_list p) es a) e Open = tt
  after_level (inside (of_list p) es a) e OpenList = tt
  after_level (inside (of_list p) es a) e Close = tt
  after_level (inside (of_list p) es a) e End = tt

  name_level : (a : Around) (offset : ℕ) (x : List ℕ) (kind : TokenKind) → LevelIs (depth_of a) kind (after_name a offset x kind)
  name_level a offset x Open = omega arith
  name_level a offset x Name = after_level a (name offset x) Name
  name_level a offset x Number = after_level a (name offset x) Number
  name_level a offset x Assign = after_level a (name offset x) Assign
  name_level a offset x Close = after_level a (name offset x) Close
  name_level a offset x OpenList = after_level a (name offset x) OpenList
  name_level a offset x CloseList = after_level a (name offset x) CloseList
  name_level a offset x Comma = after_level a (name offset x) Comma
  name_level a offset x End = after_level a (name offset x) End

  first_level : (ss : List Statement) (offset : ℕ) (x : List ℕ) (kind : TokenKind) → LevelIs 0 kind (after_first ss offset x kind)
  first_level ss offset x Assign = refl
  first_level ss offset x Name = tt
  first_level ss offset x Number = tt
  first_level ss offset x Open = name_level (statement ss None) offset x Open
  first_level ss offset x Close = tt
  first_level ss offset x OpenList = tt
  first_level ss offset x CloseList = tt
  first_level ss offset x Comma = tt
  first_level ss offset x End = refl

  start_level : (ss : List Statement) (t : Token) (kind : TokenKind) → LevelIs 0 kind (at_start bytes ss t kind)
  start_level ss t Name = refl
  start_level ss t Number = refl
  start_level ss t OpenList = expr_level (statement ss None) t OpenList
  start_level ss t Assign = tt
  start_level ss t Open = tt
  start_level ss t Close = tt
  start_level ss t CloseList = tt
  start_level ss t Comma = tt
  start_level ss t End = tt

  opened_level : (b : Bracket) (a : Around) (t : Token) (kind : TokenKind) → LevelIs (suc (depth_of a)) kind (at_opened bytes b a t kind)
  opened_level (of_call p x) a t Close = omega arith
  opened_level (of_call p x) a t Name = refl
  opened_level (of_call p x) a t Number = refl
  opened_level (of_call p x) a t OpenList = expr_level (inside (of_call p x) none a) t OpenList
  opened_level (of_call p x) a t Assign = tt
  opened_level (of_call p x) a t Open = tt
  opened_level (of_call p x) a t CloseList = tt
  opened_level (of_call p x) a t Comma = tt
  opened_level (of_call p x) a t End = tt
  opened_level (of_list p) a t CloseList = omega arith
  opened_level (of_list p) a t Name = refl
  opened_level (of_list p) a t Number = refl
  opened_level (of_list p) a t OpenList = expr_level (inside (of_list p) none a) t OpenList
  opened_level (of_list p) a t Assign = tt
  opened_level (of_list p) a t Open = tt
  opened_level (of_list p) a t Close = tt
  opened_level (of_list p) a t Comma = tt
  opened_level (of_list p) a t End = tt

  next_level : (s : State) (t : Token) (kind : TokenKind) → LevelIs (level_of s) kind (next_by bytes s t kind)
  next_level (start ss) t kind = start_level ss t kind
  next_level (begun ss offset x) t kind = first_level ss offset x kind
  next_level (want a) t kind = expr_level a t kind
  next_level (opened b a) t kind = opened_level b a t kind
  next_level (named a offset x) t kind = name_level a offset x kind
  next_level (done a e) t kind = after_level a e kind

  count_first : (p : Token → Bool) (t : Token) (us : List Token) → count_by p (t ∷ us) ≡ bit (p t) + count_by p us
  count_first p t us = sum_by-cons (λ x. cond (p x) 1 0) t us ∙ ap (λ n. n + count_by p us) (by_test (p t))
    where
      by_test : (b : Bool) → cond b 1 0 ≡ bit b
      by_test true = refl
      by_test false = refl

  -- what a move that goes on says
  pub record Goes (s : State) (t : Token) (after : State) : Type 0 where
    pub allowed : (opens t.kind && nat_le limit (level_of s)) ≡ false
    pub moves : next bytes s t ≡ Some after

  pub moves_on : (s : State) (t : Token) (after : State) → move bytes limit s t ≡ goes after → Goes s t after
  moves_on s t after h = by_test (opens t.kind && nat_le limit (level_of s)) (next bytes s t) refl refl h
    where
      by_test : (b : Bool) (o : Option State) → (opens t.kind && nat_le limit (level_of s)) ≡ b → next bytes s t ≡ o → move_by b o ≡ goes after → Goes s t after
      by_test true o eb eo h = absurd (cc)
      by_test false None eb eo h = absurd (cc)
      by_test false (Some s') eb eo h = let e : s' ≡ after = cc in record { allowed = eb; moves = eo ∙ ap Some e }

  pub level_reach : (us : List Token) (s s' : State) → reach bytes limit s us ≡ Some s' → level_of s' + count_by is_closing us ≡ level_of s + count_by is_opening us
  unfolding reach
  level_reach [] s s' h = let e : s ≡ s' = cc in ap (λ s. level_of s + 0) (sym e)
  level_reach (t ∷ us) s s' h = by_move (λ after. level_reach us after s') (move bytes limit s t) refl h
    where
      by_move : ((after : State) → reach bytes limit after us ≡ Some s' → level_of s' + count_by is_closing us ≡ level_of after + count_by is_opening us) → (m : Move) → move bytes limit s t ≡ m → state_by m (λ after. reach bytes limit after us) ≡ Some s' → level_of s' + count_by is_closing (t ∷ us) ≡ level_of s + count_by is_opening (t ∷ us)
      by_move again (goes after) e h =
          let one = subst (LevelIs (level_of s) t.kind) (moves_on s t after e).moves (next_level s t t.kind) in
          let rest = again after h in
          omega (arith, one, rest, count_first is_closing t us, count_first is_opening t us)
      by_move again (stops n) e h = absurd (cc)
