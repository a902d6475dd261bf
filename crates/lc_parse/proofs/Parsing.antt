-- Steps of the parser, for the goals of `src/reading.rt`.
--   refuse_end, refuse_first     the refusal of the end and of a first token
--   number_found, name_ascii     the value of a number's digits; the text of a name
--   within_rest                  the tokens after the first stand within the bytes
--   too_deep                     the refusal of a sign that opens one level too many
--   step_number .. step_no_target      one token read
use Rattle.std.proofs.Common.{◌≡◌, ℕ, ◌^◌, ◌<◌, ◌≤◌, true, ◌&&◌, nat_le, List, [], ◌∷◌, ◌++◌, length, Option, Some, None, Result, Ok, Err, IfOk, IfErr, MatchOption, unwrap_or, refl, sym, ap, ◌∙◌, subst, arith}
use Rattle.std.proofs.lemmas.Str.{IsUtf8-from_ascii}
use Rattle.std.specs.Str.{IsUtf8}
use Rattle.lc_grammar.specs.declared.TokenKind.{TokenKind}
use Rattle.lc_grammar.specs.declared.TokenKind.TheVariants.{Name, Number, Assign, Open, Close, OpenList, CloseList, Comma, End}
use Rattle.lc_grammar.specs.declared.Token.{Token}
use Rattle.lc_grammar.specs.Token as language
use Rattle.lc_grammar.specs.Token.{text_of, number_of, widest}
use Rattle.lc_grammar.specs.Tree as tree
use Rattle.lc_grammar.specs.Tree.{Expr, Exprs, Statement}
use Rattle.lc_grammar.specs.Grammar.{deepest, opens}
use Rattle.lc_grammar.proofs.Course.{Bracket, of_call, of_list, closing, filled, after_all, with_target, Around, statement, inside, depth_of, State, start, want, opened, named, done, level_of, after_name, at_expr, next_by, stops, move_by, ended_at, course, IsNoTarget}
use Rattle.lc_grammar.proofs.GrammarLaws.{course_at, course_open, course_deep, stuck_course, same_course, name_read, opened_wants, closes_opened, closes_done, comma_done, ends_done, start_wants, start_target, named_end}
use Rattle.lc_parse.specs.Reading.{ending_of, IsWithin, AreWithin, IsNotFirst, IsBehind, Stays, IsStuck, IsNotStart, IsOutcome, Refuses, IsTooDeepFirst, IsTargetFirst}
use Rattle.lc_parse.specs.declared.scan.Ending.{Ending}
use Rattle.lc_parse.specs.declared.refusal.ParseRefusal.{ParseRefusal}
use Rattle.lc_parse.specs.declared.refusal.ParseRefusal.TheVariants as refusal

pub number_found : (o : Option ℕ) (text : List ℕ) → MatchOption o (2 ^ 64 ≤ number_of text) (λ n. number_of text ≡ n) → number_of text ≤ widest → unwrap_or o 0 ≡ number_of text
unfolding widest
number_found None text h l = absurd (omega (arith, h))
number_found (Some n) text h l = sym h

pub name_ascii : (bytes : List ℕ) (t : Token) → IsWithin bytes t → t.kind ≡ Name → IsUtf8 (text_of bytes t)
name_ascii bytes t h k = IsUtf8-from_ascii (text_of bytes t) (h.ascii k)

pub within_rest : (bytes : List ℕ) (ts : List Token) (t : Token) (rest : List Token) → ts ≡ t ∷ rest → AreWithin bytes ts → AreWithin bytes rest
within_rest bytes ts t rest e h = (subst (AreWithin bytes) e h).1

module _ (bytes : List ℕ) (ending : Ending) where
  pub refuse_end : (s : State) (ts : List Token) (e : ParseRefusal) → length ts ≡ 0 → ((s : State) → IsNotStart s → IsOutcome e (ended_at s (ending_of ending))) → IsStuck bytes s ts → Refuses bytes ending s ts e
  unfolding course
  refuse_end s [] e l h stuck = h s stuck
  refuse_end s (t ∷ ts) e l h stuck = absurd (omega arith)

  pub refuse_first : (s : State) (ts : List Token) (t : Token) (rest : List Token) (n depth : ℕ) → ts ≡ t ∷ rest → move_by (opens t.kind && nat_le deepest depth) None ≡ stops n → level_of s ≡ depth → IsStuck bytes s ts → Refuses bytes ending s ts (refusal.Fault n t.start)
  refuse_first s ts t rest n depth e is l stuck =
      ap (λ ts. course bytes deepest s ts (ending_of ending)) e
      ∙ stuck_course bytes deepest s t rest (ending_of ending) n (subst (IsStuck bytes s) e stuck) (ap (λ d. move_by (opens t.kind && nat_le deepest d) None) l ∙ is)

  pub too_deep : (s : State) (ts : List Token) (t : Token) (rest : List Token) → ts ≡ t ∷ rest → opens t.kind ≡ true → deepest ≤ level_of s → Refuses bytes ending s ts (refusal.Fault 42 t.start)
  too_deep s ts t rest e o l = ap (λ ts. course bytes deepest s ts (ending_of ending)) e ∙ course_deep bytes deepest s t rest (ending_of ending) o l

  pub step_number : (a : Around) (ts : List Token) (t : Token) (rest : List Token) (n : ℕ) (e : Expr) → ts ≡ t ∷ rest → t.kind ≡ Number → n ≡ number_of (text_of bytes t) → e ≡ tree.number t.start n → Stays bytes ending (want a) ts (done a e) rest
  step_number a ts t rest n e split k value is =
      ap (λ ts. course bytes deepest (want a) ts (ending_of ending)) split
      ∙ course_at bytes deepest (want a) t rest (ending_of ending) Number k
      ∙ ap (λ e. course bytes deepest (done a e) rest (ending_of ending)) (ap (tree.number t.start) (sym value) ∙ sym is)

  pub step_name : (a : Around) (ts : List Token) (t : Token) (rest : List Token) → ts ≡ t ∷ rest → t.kind ≡ Name → Stays bytes ending (want a) ts (named a t.start (text_of bytes t)) rest
  step_name a ts t rest split k =
      ap (λ ts. course bytes deepest (want a) ts (ending_of ending)) split
      ∙ course_at bytes deepest (want a) t rest (ending_of ending) Name k

  pub step_list : (a : Around) (ts : List Token) (t : Token) (rest : List Token) → ts ≡ t ∷ rest → t.kind ≡ OpenList → depth_of a < deepest → Stays bytes ending (want a) ts (opened (of_list t.start) a) rest
  step_list a ts t rest split k l =
      ap (λ ts. course bytes deepest (want a) ts (ending_of ending)) split
      ∙ course_open bytes deepest (want a) t rest (ending_of ending) (opened (of_list t.start) a) (ap opens k) l (ap (at_expr bytes a t) k)

  pub step_call : (a : Around) (offset : ℕ) (x : List ℕ) (ts : List Token) (rest : List Token) → IsBehind Open ts rest → depth_of a < deepest → Stays bytes ending (named a offset x) ts (opened (of_call offset x) a) rest
  step_call a offset x ts rest (t, k, split) l =
      ap (λ ts. course bytes deepest (named a offset x) ts (ending_of ending)) split
      ∙ course_open bytes deepest (named a offset x) t rest (ending_of ending) (opened (of_call offset x) a) (ap opens k) l (ap (after_name a offset x) k)

  pub step_alone : (a : Around) (offset : ℕ) (x : List ℕ) (ts : List Token) → IsNotFirst Open ts → Stays bytes ending (named a offset x) ts (done a (tree.name offset x)) ts
  unfolding course
  step_alone a offset x [] h = named_end bytes deepest a offset x (ending_of ending)
  step_alone a offset x (t ∷ ts) h = name_read bytes deepest a offset x t ts (ending_of ending) h

  pub step_opened : (b : Bracket) (a : Around) (ts : List Token) → IsNotFirst (closing b) ts → Stays bytes ending (opened b a) ts (want (inside b tree.none a)) ts
  unfolding course
  step_opened b a [] h = same_end (ending_of ending)
    where
      same_end : (ending : language.Ending) → ended_at (opened b a) ending ≡ ended_at (want (inside b tree.none a)) ending
      same_end (language.script_end p) = refl
      same_end (language.bad_token p) = refl
      same_end (language.too_wide p) = refl
  step_opened b a (t ∷ ts) h = same_course bytes deepest (opened b a) (want (inside b tree.none a)) t ts (ending_of ending) t.kind refl (opened_wants bytes deepest b a t t.kind h)

  pub step_empty : (b : Bracket) (a : Around) (ts rest : List Token) → IsBehind (closing b) ts rest → Stays bytes ending (opened b a) ts (done a (filled b tree.none)) rest
  step_empty b a ts rest (t, k, split) = ap (λ ts. course bytes deepest (opened b a) ts (ending_of ending)) split ∙ closes_opened bytes deepest b a t rest (ending_of ending) k

  pub step_closed : (b : Bracket) (es : Exprs) (a : Around) (e : Expr) (ts rest : List Token) → IsBehind (closing b) ts rest → Stays bytes ending (done (inside b es a) e) ts (done a (filled b (after_all es e))) rest
  step_closed b es a e ts rest (t, k, split) = ap (λ ts. course bytes deepest (done (inside b es a) e) ts (ending_of ending)) split ∙ closes_done bytes deepest b es a e t rest (ending_of ending) k

  pub step_comma : (b : Bracket) (es : Exprs) (a : Around) (e : Expr) (ts rest : List Token) → IsBehind Comma ts rest → Stays bytes ending (done (inside b es a) e) ts (want (inside b (after_all es e) a)) rest
  step_comma b es a e ts rest (t, k, split) = ap (λ ts. course bytes deepest (done (inside b es a) e) ts (ending_of ending)) split ∙ comma_done bytes deepest b es a e t rest (ending_of ending) k

  pub step_end : (ss : List Statement) (target : Option (List ℕ)) (e : Expr) (ts rest : List Token) → IsBehind End ts rest → Stays bytes ending (done (statement ss target) e) ts (start (ss ++ with_target target e ∷ [])) rest
  step_end ss target e ts rest (t, k, split) = ap (λ ts. course bytes deepest (done (statement ss target) e) ts (ending_of ending)) split ∙ ends_done bytes deepest ss target e t rest (ending_of ending) k

  pub step_target : (ss : List Statement) (ts : List Token) (t : Token) (rest : List Token) → IsTargetFirst ts t rest → Stays bytes ending (start ss) ts (want (statement ss (Some (text_of bytes t)))) rest
  step_target ss ts t rest (u, split, k, a) = ap (λ ts. course bytes deepest (start ss) ts (ending_of ending)) split ∙ start_target bytes deepest ss t u rest (ending_of ending) k a

  pub step_no_target : (ss : List Statement) (ts : List Token) → 0 < length ts → IsNoTarget ts → Stays bytes ending (start ss) ts (want (statement ss None)) ts
  step_no_target ss [] l h = absurd (omega arith)
  step_no_target ss (t ∷ ts) l h = start_wants bytes deepest ss t ts (ending_of ending) h

none_first : (ss : List Statement) (target : Option (List ℕ)) (e : Expr) (bytes : List ℕ) (t : Token) (kind : TokenKind) → (kind ≡ End → ⊥) → next_by bytes (done (statement ss target) e) t kind ≡ None
none_first ss target e bytes t End h = absurd (h refl)
none_first ss target e bytes t Name h = refl
none_first ss target e bytes t Number h = refl
none_first ss target e bytes t Assign h = refl
none_first ss target e bytes t Open h = refl
none_first ss target e bytes t Close h = refl
none_first ss target e bytes t OpenList h = refl
none_first ss target e bytes t CloseList h = refl
none_first ss target e bytes t Comma h = refl

no_element : (bytes : List ℕ) (b : Bracket) (es : Exprs) (a : Around) (e : Expr) (t : Token) (kind : TokenKind) → (kind ≡ closing b → ⊥) → (kind ≡ Comma → ⊥) → next_by bytes (done (inside b es a) e) t kind ≡ None
no_element bytes b es a e t Comma h k = absurd (k refl)
no_element bytes (of_call offset x) es a e t Close h k = absurd (h refl)
no_element bytes (of_list offset) es a e t CloseList h k = absurd (h refl)
no_element bytes (of_call offset x) es a e t Name h k = refl
no_element bytes (of_call offset x) es a e t Number h k = refl
no_element bytes (of_call offset x) es a e t Assign h k = refl
no_element bytes (of_call offset x) es a e t Open h k = refl
no_element bytes (of_call offset x) es a e t OpenList h k = refl
no_element bytes (of_call offset x) es a e t CloseList h k = refl
no_element bytes (of_call offset x) es a e t End h k = refl
no_element bytes (of_list offset) es a e t Name h k = refl
no_element bytes (of_list offset) es a e t Number h k = refl
no_element bytes (of_list offset) es a e t Assign h k = refl
no_element bytes (of_list offset) es a e t Open h k = refl
no_element bytes (of_list offset) es a e t Close h k = refl
no_element bytes (of_list offset) es a e t OpenList h k = refl
no_element bytes (of_list offset) es a e t End h k = refl

-- if an expression must come
abbrev pub IsNoExpr : TokenKind → Type 0
IsNoExpr Name = ⊥
IsNoExpr Number = ⊥
IsNoExpr OpenList = ⊥
IsNoExpr kind = Unit {0}

pub refuses_from : (bytes : List ℕ) (ending : Ending) (s : State) (ts : List Token) (after : State) (rest : List Token) (e : ParseRefusal) → Stays bytes ending s ts after rest → Refuses bytes ending after rest e → Refuses bytes ending s ts e
refuses_from bytes ending s ts after rest e stays h = subst (IsOutcome e) (sym stays) h

pub deep_first : (bytes : List ℕ) (ending : Ending) (s : State) (ts : List Token) (depth : ℕ) (e : ParseRefusal) → IsTooDeepFirst ts depth e → level_of s ≡ depth → Refuses bytes ending s ts e
deep_first bytes ending s ts depth e (t, (rest, split, k, l, is)) level = rw is (too_deep bytes ending s ts t rest split (ap opens k) (omega arith))

-- what is read after a name is read from the name on
pub name_reads : {E X : Type 0} (tree_of : E → Expr) (now : X → List Token) (bytes : List ℕ) (ending : Ending) (depth : ℕ) (ts : List Token) (t : Token) (rest : List Token) → ts ≡ t ∷ rest → t.kind ≡ Name → (r : Result (E × X) ParseRefusal)
    → IfOk r (λ x. (a : Around) → depth_of a ≡ depth → Stays bytes ending (named a t.start (text_of bytes t)) rest (done a (tree_of x.0)) (now x.1))
    → IfOk r (λ x. (a : Around) → depth_of a ≡ depth → Stays bytes ending (want a) ts (done a (tree_of x.0)) (now x.1))
name_reads tree_of now bytes ending depth ts t rest split k (Ok x) h = λ a d. step_name bytes ending a ts t rest split k ∙ h a d
name_reads tree_of now bytes ending depth ts t rest split k (Err e) h = tt

pub name_refuses : {R : Type 0} (bytes : List ℕ) (ending : Ending) (depth : ℕ) (ts : List Token) (t : Token) (rest : List Token) → ts ≡ t ∷ rest → t.kind ≡ Name → (r : Result R ParseRefusal)
    → IfErr r (λ e. (a : Around) → depth_of a ≡ depth → Refuses bytes ending (named a t.start (text_of bytes t)) rest e)
    → IfErr r (λ e. (a : Around) → depth_of a ≡ depth → Refuses bytes ending (want a) ts e)
name_refuses bytes ending depth ts t rest split k (Ok x) h = tt
name_refuses bytes ending depth ts t rest split k (Err e) h = λ a d. refuses_from bytes ending (want a) ts (named a t.start (text_of bytes t)) rest e (step_name bytes ending a ts t rest split k) (h a d)
