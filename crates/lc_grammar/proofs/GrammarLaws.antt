-- The grammar and the course of its tokens say the same.
use Rattle.std.proofs.Common.{◌≡◌, ℕ, zero, suc, ◌+◌, ◌<◌, ◌≤◌, Bool, true, false, ◌&&◌, nat_le, List, [], ◌∷◌, ◌++◌, length, Option, Some, None, refl, sym, ap, ap₂, ◌∙◌, subst, ◌⊎◌, inl, inr, append_assoc, arith, length-append}
use Rattle.std.proofs.lemmas.Bool.Decides.{nat_tests}
use Rattle.std.proofs.lemmas.List.{append-nil}
use Rattle.std.specs.List.{AllByRecursion}
use Rattle.lc_grammar.specs.declared.TokenKind.{TokenKind}
use Rattle.lc_grammar.specs.declared.TokenKind.TheVariants.{Name, Number, Assign, Open, Close, OpenList, CloseList, Comma, End}
use Rattle.lc_grammar.specs.declared.Token.{Token}
use Rattle.lc_grammar.specs.Token.{text_of, number_of, Ending, script_end, bad_token, too_wide}
use Rattle.lc_grammar.specs.Tree.{Expr, Exprs, number, name, call, list, none, more, Statement, nesting, nesting_all}
use Rattle.lc_grammar.specs.Grammar.{IsExpr, IsList, IsStatement, IsScript, opens}
use Rattle.lc_grammar.proofs.Course.{Bracket, of_call, of_list, closing, filled, after_all, with_target, Around, statement, inside, depth_of, State, start, begun, want, opened, named, done, level_of, after_name, at_expr, next_by, next, stops, move_by, read, fault, at_end, ended_at, outcome_by, kind_move, course, IsNoTarget}

-- a test of the limit that is passed
below_limit : (limit depth : ℕ) → depth < limit → nat_le limit depth ≡ false
below_limit limit depth l = grind (arith, nat_tests)

at_limit : (limit depth : ℕ) → limit ≤ depth → nat_le limit depth ≡ true
at_limit limit depth l = grind (arith, nat_tests)

module _ (bytes : List ℕ) (limit : ℕ) where
  -- a token of this kind stands first
  pub course_at : (s : State) (t : Token) (ts : List Token) (ending : Ending) (kind : TokenKind) → t.kind ≡ kind → course bytes limit s (t ∷ ts) ending ≡ outcome_by t (kind_move bytes limit s t kind) (λ after. course bytes limit after ts ending)
  unfolding course
  course_at s t ts ending kind e = ap (λ k. outcome_by t (kind_move bytes limit s t k) (λ after. course bytes limit after ts ending)) e

  -- a sign opens below the limit
  pub course_open : (s : State) (t : Token) (ts : List Token) (ending : Ending) (after : State) → opens t.kind ≡ true → level_of s < limit → next bytes s t ≡ Some after → course bytes limit s (t ∷ ts) ending ≡ course bytes limit after ts ending
  unfolding course
  course_open s t ts ending after o l e = rw (o, below_limit limit (level_of s) l, e) refl

  -- after an expression
  abbrev after_read : Around → Expr → State
  after_read a (name offset x) = named a offset x
  after_read a (number offset n) = done a (number offset n)
  after_read a (call offset x es) = done a (call offset x es)
  after_read a (list offset es) = done a (list offset es)

  -- two states that one token moves alike
  pub same_course : (s s' : State) (t : Token) (ts : List Token) (ending : Ending) (kind : TokenKind) → t.kind ≡ kind → kind_move bytes limit s t kind ≡ kind_move bytes limit s' t kind → course bytes limit s (t ∷ ts) ending ≡ course bytes limit s' (t ∷ ts) ending
  same_course s s' t ts ending kind e same = course_at s t ts ending kind e ∙ ap (λ m. outcome_by t m (λ after. course bytes limit after ts ending)) same ∙ sym (course_at s' t ts ending kind e)

  name_move : (a : Around) (offset : ℕ) (x : List ℕ) (t : Token) (kind : TokenKind) → (kind ≡ Open → ⊥) → kind_move bytes limit (named a offset x) t kind ≡ kind_move bytes limit (done a (name offset x)) t kind
  name_move a offset x t Open no_call = absurd (no_call refl)
  name_move a offset x t Name no_call = refl
  name_move a offset x t Number no_call = refl
  name_move a offset x t Assign no_call = refl
  name_move a offset x t Close no_call = refl
  name_move a offset x t OpenList no_call = refl
  name_move a offset x t CloseList no_call = refl
  name_move a offset x t Comma no_call = refl
  name_move a offset x t End no_call = refl

  -- the grammar lets no token stand first
  pub stuck_course : (s : State) (t : Token) (ts : List Token) (ending : Ending) (n : ℕ) → next bytes s t ≡ None → move_by (opens t.kind && nat_le limit (level_of s)) None ≡ stops n → course bytes limit s (t ∷ ts) ending ≡ fault n t.start
  unfolding course
  stuck_course s t ts ending n stuck is = ap (λ o. outcome_by t (move_by (opens t.kind && nat_le limit (level_of s)) o) (λ after. course bytes limit after ts ending)) stuck ∙ ap (λ m. outcome_by t m (λ after. course bytes limit after ts ending)) is

  -- a sign opens too deep
  pub course_deep : (s : State) (t : Token) (ts : List Token) (ending : Ending) → opens t.kind ≡ true → limit ≤ level_of s → course bytes limit s (t ∷ ts) ending ≡ fault 42 t.start
  unfolding course
  course_deep s t ts ending o l = rw (o, at_limit limit (level_of s) l) refl

  -- a name that no opening sign follows is a whole expression
  pub name_read : (a : Around) (offset : ℕ) (x : List ℕ) (t : Token) (ts : List Token) (ending : Ending) → (t.kind ≡ Open → ⊥) → course bytes limit (named a offset x) (t ∷ ts) ending ≡ course bytes limit (done a (name offset x)) (t ∷ ts) ending
  name_read a offset x t ts ending no_call = same_course (named a offset x) (done a (name offset x)) t ts ending t.kind refl (name_move a offset x t t.kind no_call)

  -- the first token of an expression
  begins : TokenKind → Bool
  begins Name = true
  begins Number = true
  begins OpenList = true
  begins _ = false

  record Begins (us : List Token) : Type 0 where
    first : Token
    rest : List Token
    split : us ≡ first ∷ rest
    kind : begins first.kind ≡ true

  begins_expr : (e : Expr) (us : List Token) → IsExpr bytes us e → Begins us
  unfolding begins
  begins_expr (number offset n) us (t, split, is) = record { first = t; rest = []; split = split; kind = rw is.kind refl }
  begins_expr (name offset x) us (t, split, is) = record { first = t; rest = []; split = split; kind = rw is.kind refl }
  begins_expr (call offset x es) us (t, (rest, split, is, more_of)) = record { first = t; rest = rest; split = split; kind = rw is.kind refl }
  begins_expr (list offset es) us (first, (inner, (last, between, stands, is))) = record { first = first; rest = inner ++ last ∷ []; split = between.all; kind = rw between.opens refl }

  opened_move : (b : Bracket) (a : Around) (t : Token) (kind : TokenKind) → begins kind ≡ true → kind_move bytes limit (opened b a) t kind ≡ kind_move bytes limit (want (inside b none a)) t kind
  unfolding begins
  opened_move (of_call offset x) a t Name h = refl
  opened_move (of_list offset) a t Name h = refl
  opened_move (of_call offset x) a t Number h = refl
  opened_move (of_list offset) a t Number h = refl
  opened_move (of_call offset x) a t OpenList h = refl
  opened_move (of_list offset) a t OpenList h = refl
  opened_move b a t Assign h = absurd (cc)
  opened_move b a t Open h = absurd (cc)
  opened_move b a t Close h = absurd (cc)
  opened_move b a t CloseList h = absurd (cc)
  opened_move b a t Comma h = absurd (cc)
  opened_move b a t End h = absurd (cc)

  -- after an opening sign, if no closing sign follows
  pub opened_wants : (b : Bracket) (a : Around) (t : Token) (kind : TokenKind) → (kind ≡ closing b → ⊥) → kind_move bytes limit (opened b a) t kind ≡ kind_move bytes limit (want (inside b none a)) t kind
  opened_wants (of_call offset x) a t Close h = absurd (h refl)
  opened_wants (of_list offset) a t CloseList h = absurd (h refl)
  opened_wants (of_call offset x) a t Name h = refl
  opened_wants (of_call offset x) a t Number h = refl
  opened_wants (of_call offset x) a t Assign h = refl
  opened_wants (of_call offset x) a t Open h = refl
  opened_wants (of_call offset x) a t OpenList h = refl
  opened_wants (of_call offset x) a t CloseList h = refl
  opened_wants (of_call offset x) a t Comma h = refl
  opened_wants (of_call offset x) a t End h = refl
  opened_wants (of_list offset) a t Name h = refl
  opened_wants (of_list offset) a t Number h = refl
  opened_wants (of_list offset) a t Assign h = refl
  opened_wants (of_list offset) a t Open h = refl
  opened_wants (of_list offset) a t Close h = refl
  opened_wants (of_list offset) a t OpenList h = refl
  opened_wants (of_list offset) a t Comma h = refl
  opened_wants (of_list offset) a t End h = refl

  -- an element may come if one must come
  opened_begins : (b : Bracket) (a : Around) (us ts : List Token) (ending : Ending) → Begins us → course bytes limit (opened b a) (us ++ ts) ending ≡ course bytes limit (want (inside b none a)) (us ++ ts) ending
  opened_begins b a us ts ending first =
      rw first.split (same_course (opened b a) (want (inside b none a)) first.first (first.rest ++ ts) ending first.first.kind refl (opened_move b a first.first first.first.kind first.kind))

  -- the expressions with these after them
  abbrev all_after : Exprs → Exprs → Exprs
  all_after es none = es
  all_after es (more e rest) = all_after (after_all es e) rest

  -- what the elements come to, and the state before them
  abbrev elements : Exprs → Exprs → Exprs
  elements es none = none
  elements es (more e rest) = all_after es (more e rest)

  abbrev before_elements : Bracket → Exprs → Around → Exprs → State
  before_elements b es a none = opened b a
  before_elements b es a (more e rest) = want (inside b es a)

  -- all_after goes through the list from its front
  all_after-more : (es : Exprs) (e : Expr) (rest : Exprs) → all_after (more e es) rest ≡ more e (all_after es rest)
  all_after-more es e none = refl
  all_after-more es e (more first rest) = all_after-more (after_all es first) e rest

  all_after_none : (es : Exprs) → all_after none es ≡ es
  all_after_none none = refl
  all_after_none (more e es) = all_after-more none e es ∙ ap (more e) (all_after_none es)

  elements_none : (es : Exprs) → elements none es ≡ es
  elements_none none = refl
  elements_none (more e es) = all_after_none (more e es)

  -- a token that may follow an expression in a list
  read_whole : (a : Around) (e : Expr) (t : Token) (ts : List Token) (ending : Ending) → (t.kind ≡ Open → ⊥) → course bytes limit (after_read a e) (t ∷ ts) ending ≡ course bytes limit (done a e) (t ∷ ts) ending
  read_whole a (name offset x) t ts ending h = name_read a offset x t ts ending h
  read_whole a (number offset n) t ts ending h = refl
  read_whole a (call offset x es) t ts ending h = refl
  read_whole a (list offset es) t ts ending h = refl

  pub closes_opened : (b : Bracket) (a : Around) (t : Token) (ts : List Token) (ending : Ending) → t.kind ≡ closing b → course bytes limit (opened b a) (t ∷ ts) ending ≡ course bytes limit (done a (filled b none)) ts ending
  closes_opened (of_call offset x) a t ts ending e = course_at (opened (of_call offset x) a) t ts ending Close e
  closes_opened (of_list offset) a t ts ending e = course_at (opened (of_list offset) a) t ts ending CloseList e

  pub closes_done : (b : Bracket) (es : Exprs) (a : Around) (e : Expr) (t : Token) (ts : List Token) (ending : Ending) → t.kind ≡ closing b → course bytes limit (done (inside b es a) e) (t ∷ ts) ending ≡ course bytes limit (done a (filled b (after_all es e))) ts ending
  closes_done (of_call offset x) es a e t ts ending k = course_at (done (inside (of_call offset x) es a) e) t ts ending Close k
  closes_done (of_list offset) es a e t ts ending k = course_at (done (inside (of_list offset) es a) e) t ts ending CloseList k

  pub comma_done : (b : Bracket) (es : Exprs) (a : Around) (e : Expr) (t : Token) (ts : List Token) (ending : Ending) → t.kind ≡ Comma → course bytes limit (done (inside b es a) e) (t ∷ ts) ending ≡ course bytes limit (want (inside b (after_all es e) a)) ts ending
  comma_done (of_call offset x) es a e t ts ending k = course_at (done (inside (of_call offset x) es a) e) t ts ending Comma k
  comma_done (of_list offset) es a e t ts ending k = course_at (done (inside (of_list offset) es a) e) t ts ending Comma k

  not_open : (b : Bracket) (t : Token) → t.kind ≡ closing b → t.kind ≡ Open → ⊥
  not_open (of_call offset x) t e k = cc
  not_open (of_list offset) t e k = cc

  -- the elements of a bracket begin as it is opened
  opened_elements : (es : Exprs) (b : Bracket) (a : Around) (us ts : List Token) (ending : Ending) → IsList bytes us es → course bytes limit (opened b a) (us ++ ts) ending ≡ course bytes limit (before_elements b none a es) (us ++ ts) ending
  opened_elements none b a us ts ending h = refl
  opened_elements (more e none) b a us ts ending h = opened_begins b a us ts ending (begins_expr e us h)
  opened_elements (more e (more next es)) b a us ts ending (us1, (comma, (vs, split, is, head, tail))) =
      let first = begins_expr e us1 head in
      opened_begins b a us ts ending (record { first = first.first; rest = first.rest ++ comma ∷ vs; split = split ∙ ap (λ l. l ++ comma ∷ vs) first.split; kind = first.kind })

  mutual
    unfolding nesting nesting_all

    expr_course : (e : Expr) (us : List Token) → IsExpr bytes us e → (a : Around) → nesting e + depth_of a ≤ limit → (ts : List Token) (ending : Ending) → course bytes limit (want a) (us ++ ts) ending ≡ course bytes limit (after_read a e) ts ending
    expr_course (number offset n) us (t, split, is) a l ts ending =
        rw split (course_at (want a) t ts ending Number is.kind ∙ cc (is.stands, is.value))
    expr_course (name offset x) us (t, split, is) a l ts ending =
        rw split (course_at (want a) t ts ending Name is.kind ∙ cc (is.stands, is.text))
    expr_course (call offset x es) us (t, (rest, split, is, (first, (inner, (last, between, list_is))))) a l ts ending =
        let all : us ++ ts ≡ t ∷ first ∷ (inner ++ (last ∷ ts)) = rw (split, between.all) (ap (λ l. t ∷ first ∷ l) (append_assoc inner (last ∷ []) ts)) in
        ap (λ l. course bytes limit (want a) l ending) all
        ∙ course_at (want a) t (first ∷ (inner ++ (last ∷ ts))) ending Name is.kind
        ∙ ap₂ (λ p y. course bytes limit (named a p y) (first ∷ (inner ++ (last ∷ ts))) ending) is.stands is.text
        ∙ course_open (named a offset x) first (inner ++ (last ∷ ts)) ending (opened (of_call offset x) a) (ap opens between.opens) (omega arith) (ap (after_name a offset x) between.opens)
        ∙ opened_elements es (of_call offset x) a inner (last ∷ ts) ending list_is
        ∙ list_course es inner list_is (of_call offset x) none a (omega arith) last between.closes ts ending
        ∙ ap (λ l. course bytes limit (done a (call offset x l)) ts ending) (elements_none es)
    expr_course (list offset es) us (first, (inner, (last, between, stands, list_is))) a l ts ending =
        let all : us ++ ts ≡ first ∷ (inner ++ (last ∷ ts)) = rw between.all (ap (λ l. first ∷ l) (append_assoc inner (last ∷ []) ts)) in
        ap (λ l. course bytes limit (want a) l ending) all
        ∙ course_open (want a) first (inner ++ (last ∷ ts)) ending (opened (of_list first.start) a) (ap opens between.opens) (omega arith) (ap (at_expr bytes a first) between.opens)
        ∙ ap (λ p. course bytes limit (opened (of_list p) a) (inner ++ (last ∷ ts)) ending) stands
        ∙ opened_elements es (of_list offset) a inner (last ∷ ts) ending list_is
        ∙ list_course es inner list_is (of_list offset) none a (omega arith) last between.closes ts ending
        ∙ ap (λ l. course bytes limit (done a (list offset l)) ts ending) (elements_none es)

    list_course : (es : Exprs) (us : List Token) → IsList bytes us es → (b : Bracket) (so_far : Exprs) (a : Around) → nesting_all es + suc (depth_of a) ≤ limit → (last : Token) → last.kind ≡ closing b → (ts : List Token) (ending : Ending)
        → course bytes limit (before_elements b so_far a es) (us ++ last ∷ ts) ending ≡ course bytes limit (done a (filled b (elements so_far es))) ts ending
    list_course none us h b so_far a l last closes_it ts ending =
        rw h (closes_opened b a last ts ending closes_it)
    list_course (more e none) us h b so_far a l last closes_it ts ending =
        expr_course e us h (inside b so_far a) (omega arith) (last ∷ ts) ending
        ∙ read_whole (inside b so_far a) e last ts ending (not_open b last closes_it)
        ∙ closes_done b so_far a e last ts ending closes_it
    list_course (more e (more next es)) us (us1, (comma, (vs, split, is, head, tail))) b so_far a l last closes_it ts ending =
        let all : us ++ last ∷ ts ≡ us1 ++ (comma ∷ (vs ++ (last ∷ ts))) = rw split (append_assoc us1 (comma ∷ vs) (last ∷ ts)) in
        ap (λ l. course bytes limit (want (inside b so_far a)) l ending) all
        ∙ expr_course e us1 head (inside b so_far a) (omega arith) (comma ∷ (vs ++ (last ∷ ts))) ending
        ∙ read_whole (inside b so_far a) e comma (vs ++ (last ∷ ts)) ending (λ k. cc)
        ∙ comma_done b so_far a e comma (vs ++ (last ∷ ts)) ending is
        ∙ list_course (more next es) vs tail b (after_all so_far e) a (omega arith) last closes_it ts ending

  start_move : (ss : List Statement) (t : Token) (kind : TokenKind) → (kind ≡ Name → ⊥) → kind_move bytes limit (start ss) t kind ≡ kind_move bytes limit (want (statement ss None)) t kind
  start_move ss t Name h = absurd (h refl)
  start_move ss t Number h = refl
  start_move ss t Assign h = refl
  start_move ss t Open h = refl
  start_move ss t Close h = refl
  start_move ss t OpenList h = refl
  start_move ss t CloseList h = refl
  start_move ss t Comma h = refl
  start_move ss t End h = refl

  first_move : (ss : List Statement) (offset : ℕ) (x : List ℕ) (t : Token) (kind : TokenKind) → (kind ≡ Assign → ⊥) → kind_move bytes limit (begun ss offset x) t kind ≡ kind_move bytes limit (named (statement ss None) offset x) t kind
  first_move ss offset x t Assign h = absurd (h refl)
  first_move ss offset x t Name h = refl
  first_move ss offset x t Number h = refl
  first_move ss offset x t Open h = refl
  first_move ss offset x t Close h = refl
  first_move ss offset x t OpenList h = refl
  first_move ss offset x t CloseList h = refl
  first_move ss offset x t Comma h = refl
  first_move ss offset x t End h = refl

  first_end : (ss : List Statement) (offset : ℕ) (x : List ℕ) (ending : Ending) → ended_at (begun ss offset x) ending ≡ ended_at (named (statement ss None) offset x) ending
  first_end ss offset x (script_end p) = refl
  first_end ss offset x (bad_token p) = refl
  first_end ss offset x (too_wide p) = refl

  -- after a name that no `:=` follows
  first_read : (ss : List Statement) (offset : ℕ) (x : List ℕ) (t : Token) (ts : List Token) (ending : Ending) → t.kind ≡ Name → IsNoTarget (t ∷ ts) → course bytes limit (begun ss offset x) ts ending ≡ course bytes limit (named (statement ss None) offset x) ts ending
  unfolding course
  first_read ss offset x t [] ending k h = first_end ss offset x ending
  first_read ss offset x t (u ∷ ts) ending k h = same_course (begun ss offset x) (named (statement ss None) offset x) u ts ending u.kind refl (first_move ss offset x u u.kind (h k))

  -- a statement with no target begins as an expression
  pub start_wants : (ss : List Statement) (t : Token) (ts : List Token) (ending : Ending) → IsNoTarget (t ∷ ts) → course bytes limit (start ss) (t ∷ ts) ending ≡ course bytes limit (want (statement ss None)) (t ∷ ts) ending
  start_wants ss t ts ending h = by_kind t.kind refl
    where
      other : (kind : TokenKind) → t.kind ≡ kind → (kind ≡ Name → ⊥) → course bytes limit (start ss) (t ∷ ts) ending ≡ course bytes limit (want (statement ss None)) (t ∷ ts) ending
      other kind e no_name = same_course (start ss) (want (statement ss None)) t ts ending kind e (start_move ss t kind no_name)

      by_kind : (kind : TokenKind) → t.kind ≡ kind → course bytes limit (start ss) (t ∷ ts) ending ≡ course bytes limit (want (statement ss None)) (t ∷ ts) ending
      by_kind Name e = course_at (start ss) t ts ending Name e ∙ first_read ss t.start (text_of bytes t) t ts ending e h ∙ sym (course_at (want (statement ss None)) t ts ending Name e)
      by_kind Number e = other Number e (λ k. cc)
      by_kind Assign e = other Assign e (λ k. cc)
      by_kind Open e = other Open e (λ k. cc)
      by_kind Close e = other Close e (λ k. cc)
      by_kind OpenList e = other OpenList e (λ k. cc)
      by_kind CloseList e = other CloseList e (λ k. cc)
      by_kind Comma e = other Comma e (λ k. cc)
      by_kind End e = other End e (λ k. cc)

  -- a statement with a target
  pub start_target : (ss : List Statement) (t u : Token) (ts : List Token) (ending : Ending) → t.kind ≡ Name → u.kind ≡ Assign → course bytes limit (start ss) (t ∷ u ∷ ts) ending ≡ course bytes limit (want (statement ss (Some (text_of bytes t)))) ts ending
  start_target ss t u ts ending k a = course_at (start ss) t (u ∷ ts) ending Name k ∙ course_at (begun ss t.start (text_of bytes t)) u ts ending Assign a

  -- an expression of a statement begins with no target
  no_target : (e : Expr) (us : List Token) → IsExpr bytes us e → (last : Token) → last.kind ≡ End → (ts : List Token) → IsNoTarget (us ++ last ∷ ts)
  no_target (number offset n) us (t, split, is) last k ts = rw split (λ m a. let kind = is.kind in cc)
  no_target (name offset x) us (t, split, is) last k ts = rw split (λ m a. cc)
  no_target (call offset x es) us (t, (rest, split, is, (first, (inner, (last', between, list_is))))) last k ts = rw (split, between.all) (λ m a. let kind = between.opens in cc)
  no_target (list offset es) us (first, (inner, (last', between, stands, list_is))) last k ts = rw between.all (no_name first (inner ++ (last' ∷ []) ++ (last ∷ ts)) between.opens)
    where
      no_name : (t : Token) (us : List Token) → t.kind ≡ OpenList → IsNoTarget (t ∷ us)
      no_name t [] e = tt
      no_name t (u ∷ us) e = λ m a. cc

  pub ends_done : (ss : List Statement) (target : Option (List ℕ)) (e : Expr) (t : Token) (ts : List Token) (ending : Ending) → t.kind ≡ End → course bytes limit (done (statement ss target) e) (t ∷ ts) ending ≡ course bytes limit (start (ss ++ with_target target e ∷ [])) ts ending
  ends_done ss target e t ts ending k = course_at (done (statement ss target) e) t ts ending End k

  -- an expression up to the end of its statement
  expr_ends : (ss : List Statement) (target : Option (List ℕ)) (e : Expr) (us : List Token) → IsExpr bytes us e → nesting e ≤ limit → (last : Token) → last.kind ≡ End → (ts : List Token) (ending : Ending)
      → course bytes limit (want (statement ss target)) (us ++ last ∷ ts) ending ≡ course bytes limit (start (ss ++ with_target target e ∷ [])) ts ending
  expr_ends ss target e us is l last k ts ending =
      expr_course e us is (statement ss target) (omega arith) (last ∷ ts) ending ∙ read_whole (statement ss target) e last ts ending (λ o. cc) ∙ ends_done ss target e last ts ending k

  begins_no_target : (ss : List Statement) (us ts : List Token) (ending : Ending) → Begins us → IsNoTarget (us ++ ts) → course bytes limit (start ss) (us ++ ts) ending ≡ course bytes limit (want (statement ss None)) (us ++ ts) ending
  begins_no_target ss us ts ending first h =
      rw first.split (start_wants ss first.first (first.rest ++ ts) ending (subst (λ l. IsNoTarget (l ++ ts)) first.split h))

  statement_course : (ss : List Statement) (target : Option (List ℕ)) (e : Expr) (us : List Token) → IsStatement bytes us (with_target target e) → nesting e ≤ limit → (ts : List Token) (ending : Ending) → course bytes limit (start ss) (us ++ ts) ending ≡ course bytes limit (start (ss ++ with_target target e ∷ [])) ts ending
  statement_course ss None e us (front, (middle, (last, split, front_is, is, k))) l ts ending =
      let all : us ++ ts ≡ middle ++ (last ∷ ts) = rw (split, front_is) (append_assoc middle (last ∷ []) ts) in
      ap (λ l. course bytes limit (start ss) l ending) all
      ∙ begins_no_target ss middle (last ∷ ts) ending (begins_expr e middle is) (no_target e middle is last k ts)
      ∙ expr_ends ss None e middle is l last k ts ending
  statement_course ss (Some x) e us (front, (middle, (last, split, (t, (assign, front_is, kind, assigns, text)), is, k))) l ts ending =
      let all : us ++ ts ≡ t ∷ assign ∷ (middle ++ (last ∷ ts)) = rw (split, front_is) (ap (λ l. t ∷ assign ∷ l) (append_assoc middle (last ∷ []) ts)) in
      ap (λ l. course bytes limit (start ss) l ending) all
      ∙ start_target ss t assign (middle ++ (last ∷ ts)) ending kind assigns
      ∙ ap (λ y. course bytes limit (want (statement ss (Some y))) (middle ++ (last ∷ ts)) ending) text
      ∙ expr_ends ss (Some x) e middle is l last k ts ending

  abbrev pub AreShallow : List Statement → Type 0
  AreShallow ss = AllByRecursion (λ s. nesting s.expr ≤ limit) ss

  pub script_course : (ss' : List Statement) (ts : List Token) → IsScript bytes ts ss' → AreShallow ss' → (ss : List Statement) (offset : ℕ) → course bytes limit (start ss) ts (script_end offset) ≡ read (ss ++ ss')
  unfolding course
  script_course [] ts h all ss offset = rw h (ap read (sym (append-nil ss)))
  script_course (s ∷ ss') ts (us, (vs, split, is, rest)) all ss offset =
      ap (λ l. course bytes limit (start ss) l (script_end offset)) split
      ∙ statement_course ss s.target s.expr us is all.0 vs (script_end offset)
      ∙ script_course ss' vs rest all.1 (ss ++ s ∷ []) offset
      ∙ ap read (append_assoc ss (s ∷ []) ss')

  -- what a token that doesn't end in a fault did
  pub record Went (s : State) (t : Token) (ts : List Token) (ending : Ending) (out : List Statement) (kind : TokenKind) : Type 0 where
    pub after : State
    pub moves : next_by bytes s t kind ≡ Some after
    pub allowed : (opens kind && nat_le limit (level_of s)) ≡ false
    pub goes_on : course bytes limit after ts ending ≡ read out

  went_by : (s : State) (t : Token) (ts : List Token) (ending : Ending) (out : List Statement) (kind : TokenKind) (b : Bool) (o : Option State) → (opens kind && nat_le limit (level_of s)) ≡ b → next_by bytes s t kind ≡ o
      → outcome_by t (move_by b o) (λ after. course bytes limit after ts ending) ≡ read out → Went s t ts ending out kind
  went_by s t ts ending out kind true o eb eo h = absurd (cc)
  went_by s t ts ending out kind false None eb eo h = absurd (cc)
  went_by s t ts ending out kind false (Some after) eb eo h = record { after = after; moves = eo; allowed = eb; goes_on = h }

  pub went : (s : State) (t : Token) (ts : List Token) (ending : Ending) (out : List Statement) (kind : TokenKind) → t.kind ≡ kind → course bytes limit s (t ∷ ts) ending ≡ read out → Went s t ts ending out kind
  went s t ts ending out kind e h = went_by s t ts ending out kind (opens kind && nat_le limit (level_of s)) (next_by bytes s t kind) refl refl (sym (course_at s t ts ending kind e) ∙ h)

  -- the tokens begin with an expression
  pub record ExprRead (ts : List Token) (a : Around) (ending : Ending) (out : List Statement) : Type 0 where
    pub us : List Token
    pub e : Expr
    pub rest : List Token
    pub split : ts ≡ us ++ rest
    pub is : IsExpr bytes us e
    pub shallow : nesting e + depth_of a ≤ limit
    pub goes_on : course bytes limit (done a e) rest ending ≡ read out
    pub shorter : length rest < length ts

  -- the tokens begin with elements and the closing sign
  record ListRead (ts : List Token) (b : Bracket) (so_far : Exprs) (a : Around) (ending : Ending) (out : List Statement) : Type 0 where
    us : List Token
    es : Exprs
    last : Token
    rest : List Token
    split : ts ≡ us ++ last ∷ rest
    is : IsList bytes us es
    closes_it : last.kind ≡ closing b
    shallow : nesting_all es + suc (depth_of a) ≤ limit
    goes_on : course bytes limit (done a (filled b (all_after so_far es))) rest ending ≡ read out

  -- after an expression of a list: the further elements and the closing sign
  record TailRead (ts : List Token) (b : Bracket) (so_far : Exprs) (a : Around) (ending : Ending) (out : List Statement) : Type 0 where
    vs : List Token
    es : Exprs
    last : Token
    rest : List Token
    split : ts ≡ vs ++ last ∷ rest
    is : (us : List Token) (e : Expr) → IsExpr bytes us e → IsList bytes (us ++ vs) (more e es)
    closes_it : last.kind ≡ closing b
    shallow : nesting_all es + suc (depth_of a) ≤ limit
    goes_on : course bytes limit (done a (filled b (all_after so_far es))) rest ending ≡ read out

  end_refused : (s : State) (ending : Ending) (out : List Statement) → (s' : State) → ended_at s ending ≡ read out → ((p : ℕ) → at_end s p ≡ fault 41 p) → ⊥
  end_refused s (script_end p) out s' h no_end = let e = no_end p in cc
  end_refused s (bad_token p) out s' h no_end = cc
  end_refused s (too_wide p) out s' h no_end = cc

  pub want_end : (a : Around) (ending : Ending) (out : List Statement) → ended_at (want a) ending ≡ read out → ⊥
  want_end a (script_end p) out h = cc
  want_end a (bad_token p) out h = cc
  want_end a (too_wide p) out h = cc

  pub opened_end : (b : Bracket) (a : Around) (ending : Ending) (out : List Statement) → ended_at (opened b a) ending ≡ read out → ⊥
  opened_end b a (script_end p) out h = cc
  opened_end b a (bad_token p) out h = cc
  opened_end b a (too_wide p) out h = cc

  pub done_end : (a : Around) (e : Expr) (ending : Ending) (out : List Statement) → ended_at (done a e) ending ≡ read out → ⊥
  done_end a e (script_end p) out h = cc
  done_end a e (bad_token p) out h = cc
  done_end a e (too_wide p) out h = cc

  pub named_end : (a : Around) (offset : ℕ) (x : List ℕ) (ending : Ending) → ended_at (named a offset x) ending ≡ ended_at (done a (name offset x)) ending
  named_end a offset x (script_end p) = refl
  named_end a offset x (bad_token p) = refl
  named_end a offset x (too_wide p) = refl

  above : (depth : ℕ) → nat_le limit depth ≡ false → depth < limit
  above depth h = grind (arith, nat_tests)

  pub tail_kinds : (b : Bracket) (so_far : Exprs) (a : Around) (e : Expr) (t : Token) (kind : TokenKind) (after : State) → next_by bytes (done (inside b so_far a) e) t kind ≡ Some after
      → ((kind ≡ Comma) × (after ≡ want (inside b (after_all so_far e) a))) ⊎ ((kind ≡ closing b) × (after ≡ done a (filled b (after_all so_far e))))
  tail_kinds (of_call offset x) so_far a e t Name after h = absurd (cc)
  tail_kinds (of_call offset x) so_far a e t Number after h = absurd (cc)
  tail_kinds (of_call offset x) so_far a e t Assign after h = absurd (cc)
  tail_kinds (of_call offset x) so_far a e t Open after h = absurd (cc)
  tail_kinds (of_call offset x) so_far a e t Close after h = inr (refl, cc)
  tail_kinds (of_call offset x) so_far a e t OpenList after h = absurd (cc)
  tail_kinds (of_call offset x) so_far a e t CloseList after h = absurd (cc)
  tail_kinds (of_call offset x) so_far a e t Comma after h = inl (refl, cc)
  tail_kinds (of_call offset x) so_far a e t End after h = absurd (cc)
  tail_kinds (of_list offset) so_far a e t Name after h = absurd (cc)
  tail_kinds (of_list offset) so_far a e t Number after h = absurd (cc)
  tail_kinds (of_list offset) so_far a e t Assign after h = absurd (cc)
  tail_kinds (of_list offset) so_far a e t Open after h = absurd (cc)
  tail_kinds (of_list offset) so_far a e t Close after h = absurd (cc)
  tail_kinds (of_list offset) so_far a e t OpenList after h = absurd (cc)
  tail_kinds (of_list offset) so_far a e t CloseList after h = inr (refl, cc)
  tail_kinds (of_list offset) so_far a e t Comma after h = inl (refl, cc)
  tail_kinds (of_list offset) so_far a e t End after h = absurd (cc)

  opened_kinds : (b : Bracket) (a : Around) (t : Token) (kind : TokenKind) (after : State) → next_by bytes (opened b a) t kind ≡ Some after
      → ((kind ≡ closing b) × (after ≡ done a (filled b none))) ⊎ (begins kind ≡ true)
  unfolding begins
  opened_kinds b a t Name after h = inr refl
  opened_kinds b a t Number after h = inr refl
  opened_kinds b a t OpenList after h = inr refl
  opened_kinds (of_call offset x) a t Assign after h = absurd (cc)
  opened_kinds (of_call offset x) a t Open after h = absurd (cc)
  opened_kinds (of_call offset x) a t Close after h = inl (refl, cc)
  opened_kinds (of_call offset x) a t CloseList after h = absurd (cc)
  opened_kinds (of_call offset x) a t Comma after h = absurd (cc)
  opened_kinds (of_call offset x) a t End after h = absurd (cc)
  opened_kinds (of_list offset) a t Assign after h = absurd (cc)
  opened_kinds (of_list offset) a t Open after h = absurd (cc)
  opened_kinds (of_list offset) a t Close after h = absurd (cc)
  opened_kinds (of_list offset) a t CloseList after h = inl (refl, cc)
  opened_kinds (of_list offset) a t Comma after h = absurd (cc)
  opened_kinds (of_list offset) a t End after h = absurd (cc)

  pub end_kinds : (ss : List Statement) (target : Option (List ℕ)) (e : Expr) (t : Token) (kind : TokenKind) (after : State) → next_by bytes (done (statement ss target) e) t kind ≡ Some after
      → (kind ≡ End) × (after ≡ start (ss ++ with_target target e ∷ []))
  end_kinds ss target e t Name after h = absurd (cc)
  end_kinds ss target e t Number after h = absurd (cc)
  end_kinds ss target e t Assign after h = absurd (cc)
  end_kinds ss target e t Open after h = absurd (cc)
  end_kinds ss target e t Close after h = absurd (cc)
  end_kinds ss target e t OpenList after h = absurd (cc)
  end_kinds ss target e t CloseList after h = absurd (cc)
  end_kinds ss target e t Comma after h = absurd (cc)
  end_kinds ss target e t End after h = (refl, cc)

  -- with tokens no longer than n
  abbrev pub ExprReads : ℕ → Type 0
  ExprReads n = (ts : List Token) (a : Around) (ending : Ending) (out : List Statement) → length ts ≤ n → depth_of a ≤ limit → course bytes limit (want a) ts ending ≡ read out → ExprRead ts a ending out

  tail_read : (n : ℕ) → ExprReads n → (m : ℕ) (ts : List Token) (b : Bracket) (so_far : Exprs) (a : Around) (e : Expr) (ending : Ending) (out : List Statement) → length ts ≤ m → length ts ≤ n → suc (depth_of a) ≤ limit
      → course bytes limit (done (inside b so_far a) e) ts ending ≡ read out → TailRead ts b (after_all so_far e) a ending out
  unfolding course nesting_all
  tail_read n reads m [] b so_far a e ending out lm ln d h = absurd (done_end (inside b so_far a) e ending out h)
  tail_read n reads zero (t ∷ ts) b so_far a e ending out lm ln d h = absurd (omega arith)
  tail_read n reads (suc m) (t ∷ ts) b so_far a e ending out lm ln d h =
      let step = went (done (inside b so_far a) e) t ts ending out t.kind refl h in
      elim (tail_kinds b so_far a e t t.kind step.after step.moves) [
        | inl k ↦
            let more_of = reads ts (inside b (after_all so_far e) a) ending out (omega arith) d (ap (λ s. course bytes limit s ts ending) (sym k.1) ∙ step.goes_on) in
            let tail = tail_read n reads m more_of.rest b (after_all so_far e) a more_of.e ending out (omega (arith, more_of.shorter)) (omega (arith, more_of.shorter)) d more_of.goes_on in
            record {
              vs = t ∷ (more_of.us ++ tail.vs);
              es = more more_of.e tail.es;
              last = tail.last;
              rest = tail.rest;
              split = ap (λ l. t ∷ l) (more_of.split ∙ ap (λ l. more_of.us ++ l) tail.split ∙ sym (append_assoc more_of.us tail.vs (tail.last ∷ tail.rest)));
              is = λ us e' is. (us, (t, (more_of.us ++ tail.vs, refl, k.0, is, tail.is more_of.us more_of.e more_of.is)));
              closes_it = tail.closes_it;
              shallow = omega (arith, more_of.shallow, tail.shallow);
              goes_on = tail.goes_on;
            }
        | inr k ↦
            record {
              vs = [];
              es = none;
              last = t;
              rest = ts;
              split = refl;
              is = λ us e' is. subst (λ l. IsExpr bytes l e') (sym (append-nil us)) is;
              closes_it = k.0;
              shallow = omega arith;
              goes_on = ap (λ s. course bytes limit s ts ending) (sym k.1) ∙ step.goes_on;
            }
      ]

  list_read : (n : ℕ) → ExprReads n → (ts : List Token) (b : Bracket) (a : Around) (ending : Ending) (out : List Statement) → length ts ≤ n → suc (depth_of a) ≤ limit
      → course bytes limit (opened b a) ts ending ≡ read out → ListRead ts b none a ending out
  unfolding course nesting_all
  list_read n reads [] b a ending out l d h = absurd (opened_end b a ending out h)
  list_read n reads (t ∷ ts) b a ending out l d h =
      let step = went (opened b a) t ts ending out t.kind refl h in
      elim (opened_kinds b a t t.kind step.after step.moves) [
        | inl k ↦
            record {
              us = [];
              es = none;
              last = t;
              rest = ts;
              split = refl;
              is = refl;
              closes_it = k.0;
              shallow = omega arith;
              goes_on = ap (λ s. course bytes limit s ts ending) (sym k.1) ∙ step.goes_on;
            }
        | inr k ↦
            let wanted = sym (same_course (opened b a) (want (inside b none a)) t ts ending t.kind refl (opened_move b a t t.kind k)) ∙ h in
            let first = reads (t ∷ ts) (inside b none a) ending out l d wanted in
            let tail = tail_read n reads n first.rest b none a first.e ending out (omega (arith, first.shorter)) (omega (arith, first.shorter)) d first.goes_on in
            record {
              us = first.us ++ tail.vs;
              es = more first.e tail.es;
              last = tail.last;
              rest = tail.rest;
              split = first.split ∙ ap (λ l. first.us ++ l) tail.split ∙ sym (append_assoc first.us tail.vs (tail.last ∷ tail.rest));
              is = tail.is first.us first.e first.is;
              closes_it = tail.closes_it;
              shallow = omega (arith, first.shallow, tail.shallow);
              goes_on = tail.goes_on;
            }
      ]

  -- a name is a whole expression, or an opening sign follows
  record CallRead (ts : List Token) (a : Around) (offset : ℕ) (x : List ℕ) (ending : Ending) (out : List Statement) : Type 0 where
    first : Token
    rest : List Token
    split : ts ≡ first ∷ rest
    opens_it : first.kind ≡ Open
    room : depth_of a < limit
    goes_on : course bytes limit (opened (of_call offset x) a) rest ending ≡ read out

  name_cases : (ts : List Token) (a : Around) (offset : ℕ) (x : List ℕ) (ending : Ending) (out : List Statement) → course bytes limit (named a offset x) ts ending ≡ read out
      → (course bytes limit (done a (name offset x)) ts ending ≡ read out) ⊎ CallRead ts a offset x ending out
  unfolding course
  name_cases [] a offset x ending out h = inl (sym (named_end a offset x ending) ∙ h)
  name_cases (t ∷ ts) a offset x ending out h = by_kind t.kind refl
    where
      other : (t.kind ≡ Open → ⊥) → course bytes limit (done a (name offset x)) (t ∷ ts) ending ≡ read out
      other no_call = sym (name_read a offset x t ts ending no_call) ∙ h

      by_kind : (kind : TokenKind) → t.kind ≡ kind → (course bytes limit (done a (name offset x)) (t ∷ ts) ending ≡ read out) ⊎ CallRead (t ∷ ts) a offset x ending out
      by_kind Open e =
          let step = went (named a offset x) t ts ending out Open e h in
          let is : step.after ≡ opened (of_call offset x) a = let m = step.moves in cc in
          inr (record { first = t; rest = ts; split = refl; opens_it = e; room = above (depth_of a) step.allowed; goes_on = ap (λ s. course bytes limit s ts ending) (sym is) ∙ step.goes_on })
      by_kind Name e = inl (other (λ k. cc))
      by_kind Number e = inl (other (λ k. cc))
      by_kind Assign e = inl (other (λ k. cc))
      by_kind Close e = inl (other (λ k. cc))
      by_kind OpenList e = inl (other (λ k. cc))
      by_kind CloseList e = inl (other (λ k. cc))
      by_kind Comma e = inl (other (λ k. cc))
      by_kind End e = inl (other (λ k. cc))

  filled_none : (es : Exprs) → all_after none es ≡ es
  filled_none es = all_after_none es

  expr_kinds : (n : ℕ) → ExprReads n → (t : Token) (ts : List Token) (a : Around) (ending : Ending) (out : List Statement) → length ts ≤ n → depth_of a ≤ limit → (kind : TokenKind) → t.kind ≡ kind → Went (want a) t ts ending out kind → ExprRead (t ∷ ts) a ending out
  unfolding nesting nesting_all
  expr_kinds n reads t ts a ending out l d Number e step =
      let is : step.after ≡ done a (number t.start (number_of (text_of bytes t))) = let m = step.moves in cc in
      record {
        us = t ∷ [];
        e = number t.start (number_of (text_of bytes t));
        rest = ts;
        split = refl;
        is = (t, refl, record { kind = e; stands = refl; value = refl });
        shallow = omega arith;
        goes_on = ap (λ s. course bytes limit s ts ending) (sym is) ∙ step.goes_on;
        shorter = omega arith;
      }
  expr_kinds n reads t ts a ending out l d Name e step =
      let is : step.after ≡ named a t.start (text_of bytes t) = let m = step.moves in cc in
      elim (name_cases ts a t.start (text_of bytes t) ending out (ap (λ s. course bytes limit s ts ending) (sym is) ∙ step.goes_on)) [
        | inl h ↦
            record {
              us = t ∷ [];
              e = name t.start (text_of bytes t);
              rest = ts;
              split = refl;
              is = (t, refl, record { kind = e; stands = refl; text = refl });
              shallow = omega arith;
              goes_on = h;
              shorter = omega arith;
            }
        | inr c ↦
            let inside_it = list_read n reads c.rest (of_call t.start (text_of bytes t)) a ending out (omega (arith, ap length c.split)) c.room c.goes_on in
            record {
              us = t ∷ c.first ∷ (inside_it.us ++ inside_it.last ∷ []);
              e = call t.start (text_of bytes t) inside_it.es;
              rest = inside_it.rest;
              split = ap (λ l. t ∷ l) (c.split ∙ ap (λ l. c.first ∷ l) (inside_it.split ∙ sym (append_assoc inside_it.us (inside_it.last ∷ []) inside_it.rest)));
              is = (t, (c.first ∷ (inside_it.us ++ inside_it.last ∷ []), refl, record { kind = e; stands = refl; text = refl }, (c.first, (inside_it.us, (inside_it.last, record { all = refl; opens = c.opens_it; closes = inside_it.closes_it }, inside_it.is)))));
              shallow = omega (arith, inside_it.shallow);
              goes_on = ap (λ es. course bytes limit (done a (call t.start (text_of bytes t) es)) inside_it.rest ending) (sym (all_after_none inside_it.es)) ∙ inside_it.goes_on;
              shorter = omega (arith, ap length c.split, ap length inside_it.split, length-append inside_it.us (inside_it.last ∷ inside_it.rest));
            }
      ]
  expr_kinds n reads t ts a ending out l d OpenList e step =
      let is : step.after ≡ opened (of_list t.start) a = let m = step.moves in cc in
      let inside_it = list_read n reads ts (of_list t.start) a ending out l (above (depth_of a) step.allowed) (ap (λ s. course bytes limit s ts ending) (sym is) ∙ step.goes_on) in
      record {
        us = t ∷ (inside_it.us ++ inside_it.last ∷ []);
        e = list t.start inside_it.es;
        rest = inside_it.rest;
        split = ap (λ l. t ∷ l) (inside_it.split ∙ sym (append_assoc inside_it.us (inside_it.last ∷ []) inside_it.rest));
        is = (t, (inside_it.us, (inside_it.last, record { all = refl; opens = e; closes = inside_it.closes_it }, refl, inside_it.is)));
        shallow = omega (arith, inside_it.shallow);
        goes_on = ap (λ es. course bytes limit (done a (list t.start es)) inside_it.rest ending) (sym (all_after_none inside_it.es)) ∙ inside_it.goes_on;
        shorter = omega (arith, ap length inside_it.split, length-append inside_it.us (inside_it.last ∷ inside_it.rest));
      }
  expr_kinds n reads t ts a ending out l d Assign e step = absurd (let m = step.moves in cc)
  expr_kinds n reads t ts a ending out l d Open e step = absurd (let m = step.moves in cc)
  expr_kinds n reads t ts a ending out l d Close e step = absurd (let m = step.moves in cc)
  expr_kinds n reads t ts a ending out l d CloseList e step = absurd (let m = step.moves in cc)
  expr_kinds n reads t ts a ending out l d Comma e step = absurd (let m = step.moves in cc)
  expr_kinds n reads t ts a ending out l d End e step = absurd (let m = step.moves in cc)

  pub expr_read : (n : ℕ) → ExprReads n
  unfolding course
  expr_read n [] a ending out l d h = absurd (want_end a ending out h)
  expr_read zero (t ∷ ts) a ending out l d h = absurd (omega arith)
  expr_read (suc n) (t ∷ ts) a ending out l d h = expr_kinds n (expr_read n) t ts a ending out (omega arith) d t.kind refl (went (want a) t ts ending out t.kind refl h)

  pub record StatementEnds (ts : List Token) (ss : List Statement) (s : Statement) (ending : Ending) (out : List Statement) : Type 0 where
    pub last : Token
    pub rest : List Token
    pub split : ts ≡ last ∷ rest
    pub ends : last.kind ≡ End
    pub goes_on : course bytes limit (start (ss ++ s ∷ [])) rest ending ≡ read out

  pub statement_ends : (ts : List Token) (ss : List Statement) (target : Option (List ℕ)) (e : Expr) (ending : Ending) (out : List Statement) → course bytes limit (done (statement ss target) e) ts ending ≡ read out → StatementEnds ts ss (with_target target e) ending out
  unfolding course
  statement_ends [] ss target e ending out h = absurd (done_end (statement ss target) e ending out h)
  statement_ends (t ∷ ts) ss target e ending out h =
      let step = went (done (statement ss target) e) t ts ending out t.kind refl h in
      let k = end_kinds ss target e t t.kind step.after step.moves in
      record { last = t; rest = ts; split = refl; ends = k.0; goes_on = ap (λ s. course bytes limit s ts ending) (sym k.1) ∙ step.goes_on }
