-- The text of a script, statement by statement.
--   on_line, on_silent, on_need, on_count, on_near      after a statement
--   need_rows, count_allowed, near_allowed      the code of a need has rows, the distribution of one that is counted isn't refused, and
--                        a nearest word is asked of a code with rows and for a word of its length and field
--   met_next, met_now    the needs that are met, with the one that a statement asks, and without
--   IsWritten            what a script asks and prints
--   whole, faulty        that is the text at the end of the script, and after a statement that fails
--   halted               the session ends at a need
--   even, finished_so    it has the text
--   over, records_left   records are left at the end of the text
--   ended_as, IsEnded    what an end of the text says
use Rattle.std.proofs.Common.{◌≡◌, ◌<◌, ◌+◌, inl, inr, ⊎_elim, ℕ, suc, Bool, true, false, is_some, List, [], ◌∷◌, ◌++◌, length, map, Option, Some, None, option_map, refl, sym, ap, subst, ◌∙◌, arith, Result, Ok, Err, MatchResult}
use Rattle.std.proofs.lemmas.List.{append-nil, length-map}
use Rattle.lc_algebra.specs.Field.{size}
use Rattle.lc_algebra.specs.Word.{IsWord}
use Rattle.lc_algebra.specs.Matrix.{Matrix}
use Rattle.lc_algebra.specs.Divisor.{divisor_of}
use Rattle.lc_enumeration.specs.Search.{Answer}
use Rattle.lc_enumeration.specs.Distribution.{distribution_refusal}
use Rattle.lc_enumeration.specs.Records.{Progress, SessionStep}
use Rattle.lc_enumeration.specs.Fitting.{misfit}
use Rattle.lc_grammar.specs.Tree as tree
use Rattle.lc_parse.specs.Views.{statement_of}
use Rattle.lc_checkpoint.specs.Seen.{settled_of}
use Rattle.lc_calls.specs.Built.{built_calls}
use Rattle.lc_eval.specs.Machine.{State, Does}
use Rattle.lc_eval.specs.Evaluated.{kind_of}
use Rattle.lc_eval.specs.declared.machine.Query.{Query}
use Rattle.lc_eval.specs.declared.machine.Step.TheVariants as step
use Rattle.lc_language.specs.Query.{distribution_line, near_line}
use Rattle.lc_session_rules.specs.Needs.{Needs}
use Rattle.lc_session_rules.specs.Answers.{RunsBy, answer_line}
use Rattle.lc_rounds.specs.Way.{Around, IsOnItsWay}
use Rattle.lc_session_rules.specs.Course.{begins, Stands}
use Rattle.lc_session_rules.specs.Statements.{HaveDone}
use Rattle.lc_session_rules.proofs.FrontLaws.{ends_here}
use Rattle.lc_session_rules.proofs.AskLaws.{asked_rows, counted_allowed}
use Rattle.lc_session_rules.proofs.AskLaws as asks
use Rattle.lc_session_rules.proofs.StatementLaws.{by_line, by_binding, by_need, by_count, by_near, at_fault, at_fault_asks, at_end, at_end_asks, met_with_next, met_so_far}
use Rattle.lc_session_rules.proofs.PlaceLaws.{left_over}
use Rattle.lc_rounds.specs.declared.course.Course.{Course}
use Rattle.lc_rounds.specs.declared.need.Halt.{Halt}
use Rattle.lc_rounds.specs.declared.need.Halt.TheVariants as halt
use Rattle.lc_text.specs.declared.statements.Text.{Text}
use Rattle.lc_rounds.specs.Going.{World, IsOf, settled_in, rounds_from, AreAnswered, Goes, Stops, IsMisfit, Halts}
use Rattle.lc_text.specs.Text.{Finishes, AreMet, Ends}

abbrev pub Done : ℕ → List tree.Statement → State → List Matrix → List Answer → List ℕ → Type 0
Done budget first m needs answers text = HaveDone built_calls budget [] m.bindings first (map statement_of m.left) needs answers text

-- the statements that are left, the first of them apart
split_left : (budget : ℕ) (first : List tree.Statement) (m : State) (s : _) (rest : _) (needs : List Matrix) (answers : List Answer) (text : List ℕ) → m.left ≡ s ∷ rest → Done budget first m needs answers text → HaveDone built_calls budget [] m.bindings first (statement_of s ∷ map statement_of rest) needs answers text
split_left budget first m s rest needs answers text e h = subst (λ l. HaveDone built_calls budget [] m.bindings first (map statement_of l) needs answers text) e h

pub on_line : (budget : ℕ) (first : List tree.Statement) (old new : State) (l : _) (needs : List Matrix) (answers : List Answer) (text later : List ℕ) → Does old (step.Line l) new → later ≡ text ++ l.items → Done budget first old needs answers text → Done budget first new needs answers later
on_line budget first old new l needs answers text later d e h =
    let at = split_left budget first old d.0 d.1.0 needs answers text d.1.1 h in
    let on = by_line built_calls budget [] old.bindings first (statement_of d.0) (map statement_of d.1.0) needs answers text at l.items d.1.2.0 in
    subst (λ (t : List ℕ). Done budget first new needs answers t) (sym e) (subst (λ (m : State). Done budget first m needs answers (text ++ l.items)) (sym d.1.2.1) on)

pub on_silent : (budget : ℕ) (first : List tree.Statement) (old new : State) (needs : List Matrix) (answers : List Answer) (text : List ℕ) → Does old step.Silent new → Done budget first old needs answers text → Done budget first new needs answers text
on_silent budget first old new needs answers text d h =
    let at = split_left budget first old d.0 d.1.0 needs answers text d.1.1 h in
    let on = by_binding built_calls budget [] old.bindings first (statement_of d.0) (map statement_of d.1.0) needs answers text at d.1.2.0 new.bindings d.1.2.1 d.1.2.2 in
    subst (λ l. HaveDone built_calls budget [] new.bindings first (map statement_of l) needs answers text) (sym d.1.2.3) on

pub on_need : (budget : ℕ) (first : List tree.Statement) (old new : State) (q : Query) (a : Answer) (needs : List Matrix) (answers : List Answer) (text line later : List ℕ) → Does old (step.Need q) new → line ≡ answer_line (kind_of q.kind) q.code a → later ≡ text ++ line → Done budget first old needs answers text → Done budget first new (needs ++ q.code ∷ []) (answers ++ a ∷ []) later
on_need budget first old new q a needs answers text line later d l e h =
    let at = split_left budget first old d.0 d.1.0 needs answers text d.1.1 h in
    let on = by_need built_calls budget [] old.bindings first (statement_of d.0) (map statement_of d.1.0) needs answers text at (kind_of q.kind) q.code a d.1.2.0 in
    subst (λ (t : List ℕ). Done budget first new (needs ++ q.code ∷ []) (answers ++ a ∷ []) t) (ap (λ (x : List ℕ). text ++ x) (sym l) ∙ sym e) (subst (λ (m : State). Done budget first m (needs ++ q.code ∷ []) (answers ++ a ∷ []) (text ++ answer_line (kind_of q.kind) q.code a)) (sym d.1.2.1) on)

pub on_count : (budget : ℕ) (first : List tree.Statement) (old new : State) (C : Matrix) (needs : List Matrix) (answers : List Answer) (text line later : List ℕ) → Does old (step.Weights C) new → line ≡ distribution_line C → later ≡ text ++ line → Done budget first old needs answers text → Done budget first new needs answers later
on_count budget first old new C needs answers text line later d l e h =
    let at = split_left budget first old d.0 d.1.0 needs answers text d.1.1 h in
    let on = by_count built_calls budget [] old.bindings first (statement_of d.0) (map statement_of d.1.0) needs answers text at C d.1.2.0 in
    subst (λ (t : List ℕ). Done budget first new needs answers t) (ap (λ (x : List ℕ). text ++ x) (sym l) ∙ sym e) (subst (λ (m : State). Done budget first m needs answers (text ++ distribution_line C)) (sym d.1.2.1) on)

pub count_allowed : (old new : State) (C : Matrix) → Does old (step.Weights C) new → distribution_refusal (size C.field) C.columns (length C.rows) ≡ None
count_allowed old new C d = counted_allowed built_calls old.bindings (statement_of d.0) C d.1.2.0

pub on_near : (budget : ℕ) (first : List tree.Statement) (old new : State) (C : Matrix) (x : List ℕ) (needs : List Matrix) (answers : List Answer) (text line later : List ℕ) → Does old (step.Near C x) new → line ≡ near_line C x budget → later ≡ text ++ line → Done budget first old needs answers text → Done budget first new needs answers later
on_near budget first old new C x needs answers text line later d l e h =
    let at = split_left budget first old d.0 d.1.0 needs answers text d.1.1 h in
    let on = by_near built_calls budget [] old.bindings first (statement_of d.0) (map statement_of d.1.0) needs answers text at C x d.1.2.0 in
    subst (λ (t : List ℕ). Done budget first new needs answers t) (ap (λ (x : List ℕ). text ++ x) (sym l) ∙ sym e) (subst (λ (m : State). Done budget first m needs answers (text ++ near_line C x budget)) (sym d.1.2.1) on)

pub near_allowed : (old new : State) (C : Matrix) (x : List ℕ) → Does old (step.Near C x) new → (0 < length C.rows) × IsWord C.field C.columns x
near_allowed old new C x d = asks.near_allowed built_calls old.bindings (statement_of d.0) C x d.1.2.0

pub need_rows : (old new : State) (q : Query) → Does old (step.Need q) new → 0 < length q.code.rows
need_rows old new q d = asked_rows built_calls old.bindings (statement_of d.0) (kind_of q.kind) q.code d.1.2.0

pub met_next : (budget : ℕ) (first : List tree.Statement) (old new : State) (q : Query) (needs : List Matrix) (answers : List Answer) (text : List ℕ) → Does old (step.Need q) new → Done budget first old needs answers text → AreMet first (needs ++ q.code ∷ [])
met_next budget first old new q needs answers text d h =
    let at = split_left budget first old d.0 d.1.0 needs answers text d.1.1 h in
    met_with_next built_calls budget [] old.bindings first (statement_of d.0) (map statement_of d.1.0) needs answers text at (kind_of q.kind) q.code d.1.2.0

pub met_now : (budget : ℕ) (first : List tree.Statement) (m : State) (needs : List Matrix) (answers : List Answer) (text : List ℕ) → Done budget first m needs answers text → AreMet first needs
met_now budget first m needs answers text h = met_so_far built_calls budget [] m.bindings first (map statement_of m.left) needs answers text h

-- ---- the end of the text

-- what a script asks and prints
pub record IsWritten (budget : ℕ) (first : List tree.Statement) (needs : List Matrix) (answers : List Answer) (text : List ℕ) (ends : Bool) : Type 0 where
  pub asks_all : Needs built_calls [] first needs
  pub prints_all : RunsBy built_calls budget [] first answers text ends

pub whole : (budget : ℕ) (first : List tree.Statement) (old new : State) (needs : List Matrix) (answers : List Answer) (text : List ℕ) → Does old step.End new → Done budget first old needs answers text → IsWritten budget first needs answers text false
whole budget first old new needs answers text d h =
    let at : HaveDone built_calls budget [] old.bindings first [] needs answers text = subst (λ l. HaveDone built_calls budget [] old.bindings first (map statement_of l) needs answers text) d.0 h in
    record { asks_all = at_end_asks built_calls budget [] old.bindings first needs answers text at; prints_all = at_end built_calls budget [] old.bindings first needs answers text at }

pub faulty : (budget : ℕ) (first : List tree.Statement) (old new : State) (l : _) (needs : List Matrix) (answers : List Answer) (text later : List ℕ) → Does old (step.Fault l) new → later ≡ text ++ l.items → Done budget first old needs answers text → IsWritten budget first needs answers later true
faulty budget first old new l needs answers text later d e h =
    let at = split_left budget first old d.0 d.1.0 needs answers text d.1.1 h in
    let r = d.1.2.0 in
    record {
      asks_all = at_fault_asks built_calls budget [] old.bindings first (statement_of d.0) (map statement_of d.1.0) needs answers text at r d.1.2.1;
      prints_all = subst (λ (t : List ℕ). RunsBy built_calls budget [] first answers t true) (ap (λ (x : List ℕ). text ++ x) (sym d.1.2.2) ∙ sym e)
          (at_fault built_calls budget [] old.bindings first (statement_of d.0) (map statement_of d.1.0) needs answers text at r d.1.2.1);
    }

none_mapped : {A B : Type 0} (f : A → B) (o : Option A) → is_some o ≡ false → option_map f o ≡ None
none_mapped f None e = refl
none_mapped f (Some s) e = absurd (let g = e in cc)

some_mapped : {A B : Type 0} (f : A → B) (o : Option A) → is_some o ≡ true → is_some (option_map f o) ≡ true
some_mapped f None e = absurd (let g = e in cc)
some_mapped f (Some s) e = refl

-- nothing is left of the records, and no round
pub record IsEven (w : World) (needs : List Matrix) (answers : List Answer) (c : Course) (now : Around) : Type 0 where
  pub told : List SessionStep
  pub rounds_are : rounds_from w needs ≡ record { steps = told; settled = settled_in c; left = c.pace.slice; is_stopped = false }
  pub way : IsOnItsWay w.origin told c.pace now
  pub of : IsOf w c.pace
  pub fitting : misfit divisor_of needs w.budget (begins w.beginning needs) ≡ None
  pub answered : AreAnswered w.budget needs (settled_in c) answers

pub even : (w : World) (needs : List Matrix) (answers : List Answer) (c : Course) (now : Around) → is_some c.current ≡ false → Goes w needs answers c now → IsEven w needs answers c now
even w needs answers c now none h = by (option_map settled_of c.current) (none_mapped settled_of c.current none) h.stands
  where
    by : (o : Option Progress) → o ≡ None → Stands w.beginning c.version w.budget w.longest w.slice needs h.told (settled_in c) c.pace.slice h.done o → IsEven w needs answers c now
    by (Some current) e s = absurd (let f = e in cc)
    by None e s = record {
      told = h.told;
      rounds_are = ends_here divisor_of w.budget w.longest (begins w.beginning) w.slice needs h.told (record { settled = settled_in c; current = None }) c.pace.slice s.goes (omega (arith, s.as_many));
      way = h.way;
      of = h.of;
      fitting = subst (λ (ns : List Matrix). misfit divisor_of ns w.budget (begins w.beginning ns) ≡ None) (append-nil needs) (s.fits []);
      answered = subst (λ (l : List Progress). AreAnswered w.budget needs l answers) s.all h.answered;
    }

pub finished_so : (w : World) (first : List tree.Statement) (needs : List Matrix) (answers : List Answer) (t : Text) (c : Course) (now : Around) → is_some c.current ≡ false → Goes w needs answers c now → IsWritten w.budget first needs answers t.bytes.items t.ends → Finishes w first t c now
finished_so w first needs answers t c now none h written =
    let e = even w needs answers c now none h in
    record {
      needs = needs;
      answers = answers;
      told = e.told;
      asks_all = written.asks_all;
      prints_all = written.prints_all;
      rounds_are = e.rounds_are;
      way = e.way;
      of = e.of;
      fitting = e.fitting;
      answered = e.answered;
    }

-- more records than needs are left
pub over : (w : World) (needs : List Matrix) (answers : List Answer) (c : Course) (now : Around) → is_some c.current ≡ true → Goes w needs answers c now → IsMisfit w needs c now c.met (length c.pace.point.settled.items + 1) 0
over w needs answers c now some h = by (option_map settled_of c.current) (some_mapped settled_of c.current some) h.stands
  where
    long : suc (length (settled_in c)) ≡ length c.pace.point.settled.items + 1
    long = omega (arith, length-map c.pace.point.settled.items settled_of)

    by : (o : Option Progress) → is_some o ≡ true → Stands w.beginning c.version w.budget w.longest w.slice needs h.told (settled_in c) c.pace.slice h.done o → IsMisfit w needs c now c.met (length c.pace.point.settled.items + 1) 0
    by None e s = absurd (let f = e in cc)
    by (Some current) e s = record {
      first = left_over w.beginning c.version w.budget w.longest w.slice needs h.told (settled_in c) c.pace.slice h.done current s
          ∙ ap (λ (n : ℕ). Some (record { need = n; told = suc (length (settled_in c)); found = 0 })) (sym h.met)
          ∙ ap (λ (n : ℕ). Some (record { need = c.met; told = n; found = 0 })) long;
      way = subst (λ (l : List SessionStep). IsOnItsWay w.origin l c.pace now) s.silent h.way;
      of = h.of;
    }

pub records_left : (w : World) (first : List tree.Statement) (needs : List Matrix) (answers : List Answer) (text : List ℕ) (ends : Bool) (c : Course) (now : Around) → is_some c.current ≡ true → Goes w needs answers c now → AreMet first needs → IsWritten w.budget first needs answers text ends → Ends w first c now (halt.Unfit (length c.pace.point.settled.items + 1) 0)
records_left w first needs answers text ends c now some h met written = (needs, met, over w needs answers c now some h, inr (h.met, written.asks_all))

-- what an end of the text says, in other words
pub ended_as : {A E : Type 0} (r : Result A E) (P P' : A → Type 0) (Q Q' : E → Type 0) → ((a : A) → P a → P' a) → ((e : E) → Q e → Q' e) → MatchResult r P Q → MatchResult r P' Q'
ended_as (Ok a) P P' Q Q' f g h = f a h
ended_as (Err e) P P' Q Q' f g h = g e h

abbrev pub IsEnded : Course → List ℕ → Bool → Result Text Halt → Type 0
IsEnded c text ends r = MatchResult r (λ t. (is_some c.current ≡ false) × (t.bytes.items ≡ text) × (t.ends ≡ ends)) (λ x. (is_some c.current ≡ true) × (x ≡ halt.Unfit (length c.pace.point.settled.items + 1) 0))

-- the session ends at a need
pub halted : (w : World) (first : List tree.Statement) (needs : List Matrix) (C : Matrix) (c : Course) (now : Around) (x : Halt) → AreMet first needs → AreMet first (needs ++ C ∷ []) → Halts w needs C c now x → Ends w first c now x
halted w first needs C c now (halt.Stop stop) met next h = ⊎_elim (λ (a : Stops w needs c now stop). (needs, met, a)) (λ (a : Stops w (needs ++ C ∷ []) c now stop). (needs ++ C ∷ [], next, a)) h
halted w first needs C c now (halt.Unfit told found) met next (m, untrue, e) = (
  needs ++ C ∷ [],
  next,
  subst (λ (n : ℕ). IsMisfit w (needs ++ C ∷ []) c now n told found) (sym e) m,
  inl (needs, C, refl, e, untrue),
)
