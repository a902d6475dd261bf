-- A session on its way, statement by statement.
--   at_first             it has done no statement
--   after_line, after_silent, after_need, after_count, after_near     it has done one more
--   few_met              it has met few needs
--   starved_here, starved_next       memory is refused, before a need or after it
--   halts_here           it ends at a need
--   ends_whole, ends_left        no statement is left, and no record is, or some are
--   ends_faulty, ends_faulty_left    a statement fails, so too
--   whole_result, faulty_result      the same, of a result
--   only_ends            a machine with no statement left answers that, and nothing else
--   IsUntouched first before m c     if the machine had no statement, it has none and the session is as it was
--   is_ended             there is a text if no record is left
use Rattle.std.proofs.Common.{◌≡◌, ◌<◌, ◌+◌, ℕ, Bool, true, false, is_some, Result, Ok, Err, is_ok, is_err, IsOk, if◌then◌else◌, MatchResult, List, [], ◌∷◌, ◌++◌, length, map, take, refl, sym, ap, subst, ◌∙◌, arith}
use Rattle.std.proofs.lemmas.List.{length-append}
use Rattle.lc_algebra.specs.Matrix.{Matrix}
use Rattle.lc_enumeration.specs.Search.{Answer}
use Rattle.lc_grammar.specs.Tree as tree
use Rattle.lc_parse.specs.Views.{statement_of}
use Rattle.lc_calls.specs.Built.{built_calls}
use Rattle.lc_eval.specs.Machine.{State, Does}
use Rattle.lc_eval.specs.Evaluated.{kind_of}
use Rattle.lc_eval.specs.declared.machine.Query.{Query}
use Rattle.lc_eval.specs.declared.machine.Step.{Step}
use Rattle.lc_eval.specs.declared.machine.Step.TheVariants as step
use Rattle.lc_language.specs.Query.{distribution_line, near_line}
use Rattle.lc_session_rules.specs.Needs.{Needs}
use Rattle.lc_session_rules.specs.Answers.{answer_line}
use Rattle.lc_rounds.specs.Way.{Around}
use Rattle.lc_rounds.specs.declared.rounds.Stop.TheVariants.{NoMemory}
use Rattle.lc_session_rules.proofs.StatementLaws.{begun}
use Rattle.lc_rounds.specs.declared.course.Course.{Course}
use Rattle.lc_rounds.specs.declared.need.Halt.{Halt}
use Rattle.lc_rounds.specs.declared.need.Halt.TheVariants as halt
use Rattle.lc_rounds.specs.Going.{World, IsRanged, Goes, Halts}
use Rattle.lc_rounds.proofs.NeedLaws.{starving}
use Rattle.lc_text.specs.declared.statements.Text.{Text}
use Rattle.lc_text.specs.Text.{HasCome, Finishes, Ends}
use Rattle.lc_session_rules.specs.Statements.{HaveDone}
use Rattle.lc_text.proofs.TextLaws.{IsWritten, on_line, on_silent, on_need, on_count, on_near, met_next, met_now, whole, faulty, finished_so, records_left, halted, ended_as, IsEnded}

-- the text with one more line
pub added : {A E : Type 0} (r : Result A E) (old new line given other : List ℕ) → is_err r ≡ false → new ≡ (if is_ok r then old ++ given else other) → given ≡ line → new ≡ old ++ line
added (Ok a) old new line given other e h g = h ∙ ap (λ (x : List ℕ). old ++ x) g
added (Err x) old new line given other e h g = absurd (let f = e in cc)

pub at_first : (budget : ℕ) (before : Course) (start : Around) (m : State) (text : List ℕ) → m.bindings ≡ [] → before.met ≡ 0 → IsRanged before → text ≡ [] → HasCome budget (map statement_of m.left) before start m before text start
at_first budget before start m text unbound unmet ranged none = record {
  needs = [];
  answers = [];
  statements = subst (λ (t : List ℕ). HaveDone built_calls budget [] m.bindings (map statement_of m.left) (map statement_of m.left) [] [] t) (sym none)
      (subst (λ b. HaveDone built_calls budget [] b (map statement_of m.left) (map statement_of m.left) [] [] []) (sym unbound) (begun built_calls budget [] (map statement_of m.left)));
  met = unmet;
  ranged = ranged;
  goes = λ w h. h;
}

module _ (budget : ℕ) (first : List tree.Statement) (before : Course) (start : Around) (old new : State) (c : Course) (text : List ℕ) (now : Around) (h : HasCome budget first before start old c text now) where
  pub after_line : (l : _) (later : List ℕ) → Does old (step.Line l) new → later ≡ text ++ l.items → HasCome budget first before start new c later now
  after_line l later d e = record {
    needs = h.needs;
    answers = h.answers;
    statements = on_line budget first old new l h.needs h.answers text later d e h.statements;
    met = h.met;
    ranged = h.ranged;
    goes = h.goes;
  }

  pub after_silent : Does old step.Silent new → HasCome budget first before start new c text now
  after_silent d = record {
    needs = h.needs;
    answers = h.answers;
    statements = on_silent budget first old new h.needs h.answers text d h.statements;
    met = h.met;
    ranged = h.ranged;
    goes = h.goes;
  }

  -- what the line of the need did
  abbrev pub IsAnswered : Query → Course → Around → List ℕ → Type 0
  IsAnswered q d next line = (a : Answer) × (line ≡ answer_line (kind_of q.kind) q.code a) × ((w : World) (needs : List Matrix) (answers : List Answer) → Goes w needs answers c now → Goes w (needs ++ q.code ∷ []) (answers ++ a ∷ []) d next)

  pub after_need : (q : Query) (d : Course) (next : Around) (line later : List ℕ) → Does old (step.Need q) new → IsAnswered q d next line → later ≡ text ++ line → IsRanged d → d.met ≡ c.met + 1 → HasCome budget first before start new d later next
  after_need q d next line later does a e ranged more = record {
    needs = h.needs ++ q.code ∷ [];
    answers = h.answers ++ a.0 ∷ [];
    statements = on_need budget first old new q a.0 h.needs h.answers text line later does a.1 e h.statements;
    met = (let l = length-append h.needs (q.code ∷ []) in omega (arith, l, more, h.met));
    ranged = ranged;
    goes = λ w g. a.2 w h.needs h.answers (h.goes w g);
  }

  pub after_count : (C : Matrix) (line later : List ℕ) → Does old (step.Weights C) new → line ≡ distribution_line C → later ≡ text ++ line → HasCome budget first before start new c later now
  after_count C line later d l e = record {
    needs = h.needs;
    answers = h.answers;
    statements = on_count budget first old new C h.needs h.answers text line later d l e h.statements;
    met = h.met;
    ranged = h.ranged;
    goes = h.goes;
  }

  pub after_near : (C : Matrix) (x line later : List ℕ) → Does old (step.Near C x) new → line ≡ near_line C x budget → later ≡ text ++ line → HasCome budget first before start new c later now
  after_near C x line later d l e = record {
    needs = h.needs;
    answers = h.answers;
    statements = on_near budget first old new C x h.needs h.answers text line later d l e h.statements;
    met = h.met;
    ranged = h.ranged;
    goes = h.goes;
  }

  pub few_met : ((n : ℕ) (needs : List Matrix) → Needs built_calls [] (take n first) needs → length needs < 70000) → c.met < 70000
  few_met few =
      let met = met_now budget first old h.needs h.answers text h.statements in
      omega (arith, h.met, few met.0 h.needs met.1)

  pub starved_here : (w : World) → Goes w [] [] before start → Ends w first c now (halt.Stop NoMemory)
  starved_here w g = (h.needs, met_now budget first old h.needs h.answers text h.statements, starving w h.needs h.answers c now (h.goes w g))

  pub starved_next : (q : Query) (d : Course) (next : Around) (line : List ℕ) → Does old (step.Need q) new → IsAnswered q d next line → (w : World) → Goes w [] [] before start → Ends w first d next (halt.Stop NoMemory)
  starved_next q d next line does a w g = (
    h.needs ++ q.code ∷ [],
    met_next budget first old new q h.needs h.answers text does h.statements,
    starving w (h.needs ++ q.code ∷ []) (h.answers ++ a.0 ∷ []) d next (a.2 w h.needs h.answers (h.goes w g)),
  )

  pub halts_here : (q : Query) (d : Course) (next : Around) (x : Halt) → Does old (step.Need q) new → ((w : World) (needs : List Matrix) (answers : List Answer) → Goes w needs answers c now → Halts w needs q.code d next x) → (w : World) → Goes w [] [] before start → Ends w first d next x
  halts_here q d next x does f w g =
      halted w first h.needs q.code d next x (met_now budget first old h.needs h.answers text h.statements) (met_next budget first old new q h.needs h.answers text does h.statements) (f w h.needs h.answers (h.goes w g))

  -- the world has the budget
  pub ends_whole : Does old step.End new → (w : World) → w.budget ≡ budget → Goes w [] [] before start → (t : Text) → is_some c.current ≡ false → t.bytes.items ≡ text → t.ends ≡ false → Finishes w first t c now
  ends_whole d w funds g t none e f =
      finished_so w first h.needs h.answers t c now none (h.goes w g)
      (subst (λ (n : ℕ). IsWritten n first h.needs h.answers t.bytes.items t.ends) (sym funds)
      (subst (λ (b : Bool). IsWritten budget first h.needs h.answers t.bytes.items b) (sym f)
      (subst (λ (l : List ℕ). IsWritten budget first h.needs h.answers l false) (sym e) (whole budget first old new h.needs h.answers text d h.statements))))

  pub ends_left : Does old step.End new → (w : World) → w.budget ≡ budget → Goes w [] [] before start → is_some c.current ≡ true → Ends w first c now (halt.Unfit (length c.pace.point.settled.items + 1) 0)
  ends_left d w funds g some =
      records_left w first h.needs h.answers text false c now some (h.goes w g) (met_now budget first old h.needs h.answers text h.statements)
      (subst (λ (n : ℕ). IsWritten n first h.needs h.answers text false) (sym funds) (whole budget first old new h.needs h.answers text d h.statements))

  pub ends_faulty : (l : _) (later : List ℕ) → Does old (step.Fault l) new → later ≡ text ++ l.items → (w : World) → w.budget ≡ budget → Goes w [] [] before start → (t : Text) → is_some c.current ≡ false → t.bytes.items ≡ later → t.ends ≡ true → Finishes w first t c now
  ends_faulty l later d more w funds g t none e f =
      finished_so w first h.needs h.answers t c now none (h.goes w g)
      (subst (λ (n : ℕ). IsWritten n first h.needs h.answers t.bytes.items t.ends) (sym funds)
      (subst (λ (b : Bool). IsWritten budget first h.needs h.answers t.bytes.items b) (sym f)
      (subst (λ (x : List ℕ). IsWritten budget first h.needs h.answers x true) (sym e) (faulty budget first old new l h.needs h.answers text later d more h.statements))))

  pub ends_faulty_left : (l : _) (later : List ℕ) → Does old (step.Fault l) new → later ≡ text ++ l.items → (w : World) → w.budget ≡ budget → Goes w [] [] before start → is_some c.current ≡ true → Ends w first c now (halt.Unfit (length c.pace.point.settled.items + 1) 0)
  ends_faulty_left l later d more w funds g some =
      records_left w first h.needs h.answers later true c now some (h.goes w g) (met_now budget first old h.needs h.answers text h.statements)
      (subst (λ (n : ℕ). IsWritten n first h.needs h.answers later true) (sym funds) (faulty budget first old new l h.needs h.answers text later d more h.statements))

  pub whole_result : Does old step.End new → (w : World) → w.budget ≡ budget → Goes w [] [] before start → (r : Result Text Halt) → IsEnded c text false r → MatchResult r (λ t. Finishes w first t c now) (λ x. Ends w first c now x)
  whole_result d w funds g r e =
      ended_as r (λ t. (is_some c.current ≡ false) × (t.bytes.items ≡ text) × (t.ends ≡ false)) (λ t. Finishes w first t c now) (λ x. (is_some c.current ≡ true) × (x ≡ halt.Unfit (length c.pace.point.settled.items + 1) 0)) (λ x. Ends w first c now x)
      (λ t a. ends_whole d w funds g t a.0 a.1 a.2) (λ x a. subst (λ (y : Halt). Ends w first c now y) (sym a.1) (ends_left d w funds g a.0)) e

  pub faulty_result : (l : _) (later : List ℕ) → Does old (step.Fault l) new → later ≡ text ++ l.items → (w : World) → w.budget ≡ budget → Goes w [] [] before start → (r : Result Text Halt) → IsEnded c later true r → MatchResult r (λ t. Finishes w first t c now) (λ x. Ends w first c now x)
  faulty_result l later d more w funds g r e =
      ended_as r (λ t. (is_some c.current ≡ false) × (t.bytes.items ≡ later) × (t.ends ≡ true)) (λ t. Finishes w first t c now) (λ x. (is_some c.current ≡ true) × (x ≡ halt.Unfit (length c.pace.point.settled.items + 1) 0)) (λ x. Ends w first c now x)
      (λ t a. ends_faulty l later d more w funds g t a.0 a.1 a.2) (λ x a. subst (λ (y : Halt). Ends w first c now y) (sym a.1) (ends_faulty_left l later d more w funds g a.0)) e

no_first : {A : Type 0} (left : List A) (s : A) (rest : List A) → left ≡ s ∷ rest → left ≡ [] → ⊥
no_first left s rest e none = (let f = ap length (sym e ∙ none) in absurd (omega (arith, f)))

pub only_ends : (old new : State) (x : Step) → Does old x new → old.left ≡ [] → x ≡ step.End
only_ends old new (step.Line l) d none = absurd (no_first old.left d.0 d.1.0 d.1.1 none)
only_ends old new step.Silent d none = absurd (no_first old.left d.0 d.1.0 d.1.1 none)
only_ends old new (step.Need q) d none = absurd (no_first old.left d.0 d.1.0 d.1.1 none)
only_ends old new (step.Weights C) d none = absurd (no_first old.left d.0 d.1.0 d.1.1 none)
only_ends old new (step.Near C x) d none = absurd (no_first old.left d.0 d.1.0 d.1.1 none)
only_ends old new (step.Fault l) d none = absurd (no_first old.left d.0 d.1.0 d.1.1 none)
only_ends old new step.End d none = refl

abbrev pub IsUntouched : State → Course → State → Course → Type 0
IsUntouched first before m c = first.left ≡ [] → (m.left ≡ []) × (c ≡ before)

module _ (first : State) (before : Course) (m new : State) (c : Course) (u : IsUntouched first before m c) where
  pub no_line : (l : _) → Does m (step.Line l) new → first.left ≡ [] → ⊥
  no_line l d none = (let e = only_ends m new (step.Line l) d (u none).0 in cc)

  pub not_silent : Does m step.Silent new → first.left ≡ [] → ⊥
  not_silent d none = (let e = only_ends m new step.Silent d (u none).0 in cc)

  pub no_need : (q : Query) → Does m (step.Need q) new → first.left ≡ [] → ⊥
  no_need q d none = (let e = only_ends m new (step.Need q) d (u none).0 in cc)

  pub no_count : (C : Matrix) → Does m (step.Weights C) new → first.left ≡ [] → ⊥
  no_count C d none = (let e = only_ends m new (step.Weights C) d (u none).0 in cc)

  pub no_near : (C : Matrix) (x : List ℕ) → Does m (step.Near C x) new → first.left ≡ [] → ⊥
  no_near C x d none = (let e = only_ends m new (step.Near C x) d (u none).0 in cc)

  pub no_fault : (l : _) → Does m (step.Fault l) new → first.left ≡ [] → ⊥
  no_fault l d none = (let e = only_ends m new (step.Fault l) d (u none).0 in cc)

pub is_ended : (c : Course) (text : List ℕ) (b : Bool) (r : Result Text Halt) → IsEnded c text b r → is_some c.current ≡ false → IsOk r
is_ended c text b (Ok t) h none = refl
is_ended c text b (Err x) h none = absurd (let e = sym h.0 ∙ none in cc)
