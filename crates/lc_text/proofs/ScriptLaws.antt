-- The text of the bytes of a script, or of bytes that are none.
--   by_script            statements that were read
--   by_script_end        a session that ended among them
--   no_script, no_script_left      bytes that are no script
--   starved_first        memory is refused before the first statement
--   by_script_result, no_script_result       the same, of a machine and of a result
--   no_statement         no bytes are the script of no statements
use Rattle.std.proofs.Common.{Result, MatchResult, ◌≡◌, ◌<◌, ◌≤◌, ◌+◌, inl, inr, ⊎_elim, ℕ, true, false, is_some, List, [], ◌∷◌, ◌++◌, length, map, refl, sym, ap, subst, ◌∙◌, arith}
use Rattle.lc_algebra.specs.Matrix.{Matrix}
use Rattle.lc_grammar.specs.Tree as tree
use Rattle.std.proofs.lemmas.List.Elements.{All-from_recursion}
use Rattle.lc_grammar.specs.Token.{script_end}
use Rattle.lc_grammar.specs.Tree.{nesting}
use Rattle.lc_grammar.specs.Grammar.{Reads, Fault, IsFault, deepest}
use Rattle.lc_language.specs.Print.{fault_line}
use Rattle.lc_parse.specs.Views.{statement_of, script_of}
use Rattle.lc_parse.specs.declared.tree.Script.{Script}
use Rattle.lc_parse.specs.declared.tree.Statement.{Statement}
use Rattle.lc_parse.proofs.Outcomes.{nothing_scanned}
use Rattle.lc_calls.specs.Built.{built_calls}
use Rattle.lc_eval.specs.Machine.{State}
use Rattle.lc_session_rules.specs.Needs.{Needs}
use Rattle.lc_rounds.specs.Way.{Around}
use Rattle.lc_rounds.specs.declared.course.Course.{Course}
use Rattle.lc_rounds.specs.declared.need.Halt.{Halt}
use Rattle.lc_rounds.specs.declared.need.Halt.TheVariants as halt
use Rattle.lc_rounds.specs.declared.rounds.Stop.TheVariants.{NoMemory}
use Rattle.lc_text.specs.declared.statements.Text.{Text}
use Rattle.lc_rounds.specs.Going.{World, Goes, Misfits}
use Rattle.lc_text.specs.Text.{Finishes, Ends, Prints, EndsBefore}
use Rattle.lc_rounds.proofs.NeedLaws.{starving}
use Rattle.lc_text.proofs.TextLaws.{even, over, ended_as, IsEnded}

pub by_script : (w : World) (bytes : List ℕ) (ss : List tree.Statement) (t : Text) (c : Course) (now : Around) → Reads bytes ss → Finishes w ss t c now → Prints w bytes t c now
by_script w bytes ss t c now reads h = record {
  needs = h.needs;
  answers = h.answers;
  told = h.told;
  asks_all = inl (ss, reads, h.asks_all);
  prints_all = inl (ss, reads, h.prints_all);
  rounds_are = h.rounds_are;
  way = h.way;
  of = h.of;
  fitting = h.fitting;
  answered = h.answered;
}

pub by_script_end : (w : World) (bytes : List ℕ) (ss : List tree.Statement) (c : Course) (now : Around) (x : Halt) → Reads bytes ss → Ends w ss c now x → EndsBefore w bytes c now x
by_script_end w bytes ss c now (halt.Stop stop) reads h = (h.0, inr (ss, reads, h.1), h.2)
by_script_end w bytes ss c now (halt.Unfit told found) reads h = (
  h.0,
  inr (ss, reads, h.1),
  h.2,
  ⊎_elim (λ (a : (before : List Matrix) × (C : Matrix) × (h.0 ≡ before ++ C ∷ []) × (c.met ≡ length before) × Misfits w.beginning w.budget before C). inl a)
      (λ (a : (c.met ≡ length h.0) × Needs built_calls [] ss h.0). inr (a.0, inl (ss, reads, a.1))) h.3,
)

pub starved_first : (w : World) (bytes : List ℕ) (c : Course) (now : Around) → Goes w [] [] c now → EndsBefore w bytes c now (halt.Stop NoMemory)
starved_first w bytes c now h = ([], inl refl, starving w [] [] c now h)

pub no_script : (w : World) (bytes : List ℕ) (f : Fault) (t : Text) (c : Course) (now : Around) → IsFault bytes f → is_some c.current ≡ false → Goes w [] [] c now → t.bytes.items ≡ fault_line f.number f.offset [] → t.ends ≡ true → Prints w bytes t c now
no_script w bytes f t c now fault none h text ends =
    let e = even w [] [] c now none h in
    record {
      needs = [];
      answers = [];
      told = e.told;
      asks_all = inr (f, fault, refl);
      prints_all = inr (f, fault, text, ends, refl);
      rounds_are = e.rounds_are;
      way = e.way;
      of = e.of;
      fitting = e.fitting;
      answered = e.answered;
    }

pub no_script_left : (w : World) (bytes : List ℕ) (f : Fault) (c : Course) (now : Around) → IsFault bytes f → is_some c.current ≡ true → Goes w [] [] c now → EndsBefore w bytes c now (halt.Unfit (length c.pace.point.settled.items + 1) 0)
no_script_left w bytes f c now fault some h = ([], inl refl, over w [] [] c now some h, inr (h.met, inr (f, fault, refl)))

pub by_script_result : (w : World) (bytes : List ℕ) (s : Script) (m : State) (r : Result Text Halt) (c : Course) (now : Around) → Reads bytes (script_of s) → m ≡ record { bindings = []; left = s.statements.items } → MatchResult r (λ t. Finishes w (map statement_of m.left) t c now) (λ x. Ends w (map statement_of m.left) c now x) → MatchResult r (λ t. Prints w bytes t c now) (λ x. EndsBefore w bytes c now x)
by_script_result w bytes s m r c now reads e h =
    let at : Reads bytes (map statement_of m.left) = subst (λ (x : State). Reads bytes (map statement_of x.left)) (sym e) reads in
    ended_as r (λ t. Finishes w (map statement_of m.left) t c now) (λ t. Prints w bytes t c now) (λ x. Ends w (map statement_of m.left) c now x) (λ x. EndsBefore w bytes c now x)
    (λ t f. by_script w bytes (map statement_of m.left) t c now at f) (λ x f. by_script_end w bytes (map statement_of m.left) c now x at f) h

pub no_script_result : (w : World) (bytes : List ℕ) (f : Fault) (line : List ℕ) (r : Result Text Halt) (c : Course) (now : Around) → IsFault bytes f → line ≡ fault_line f.number f.offset [] → Goes w [] [] c now → IsEnded c line true r → MatchResult r (λ t. Prints w bytes t c now) (λ x. EndsBefore w bytes c now x)
no_script_result w bytes f line r c now fault is g h =
    ended_as r (λ t. (is_some c.current ≡ false) × (t.bytes.items ≡ line) × (t.ends ≡ true)) (λ t. Prints w bytes t c now) (λ x. (is_some c.current ≡ true) × (x ≡ halt.Unfit (length c.pace.point.settled.items + 1) 0)) (λ x. EndsBefore w bytes c now x)
    (λ t e. no_script w bytes f t c now fault e.0 g (e.1 ∙ is) e.2) (λ x e. subst (λ (y : Halt). EndsBefore w bytes c now y) (sym e.1) (no_script_left w bytes f c now fault e.0 g)) h

none_of : (ss : List Statement) → map statement_of ss ≡ [] → ss ≡ []
none_of [] e = refl
none_of (s ∷ ss) e = (let n = ap length e in absurd (omega (arith, n)))

pub no_statement : (bytes : List ℕ) (s : Script) (m : State) → bytes ≡ [] → ((ss : List tree.Statement) → Reads bytes ss → script_of s ≡ ss) → m ≡ record { bindings = []; left = s.statements.items } → m.left ≡ []
no_statement bytes s m none readable is =
    let scanned = nothing_scanned bytes none in
    let reads : Reads bytes [] = record {
      whole = scanned.1 ∙ ap (λ (b : List ℕ). script_end (length b)) (sym none);
      script = scanned.0;
      shallow = All-from_recursion (λ (t : tree.Statement). nesting t.expr ≤ deepest) [] tt;
    } in
    ap (λ (x : State). x.left) is ∙ none_of s.statements.items (readable [] reads)
