-- The text of a script is the text by the answers of the search for its needs.
--   answered         a text of some statements is one by the answers of their needs
--   answered_back    a text by given answers is the text, if these are the answers of the search
--   met_whole        the needs of a script are those of its first statements
use Rattle.std.proofs.Common.{◌≡◌, ℕ, Bool, List, [], ◌∷◌, ◌++◌, length, take, refl, sym, ap, subst, ◌∙◌, inr}
use Rattle.lc_algebra.specs.Matrix.{Matrix}
use Rattle.lc_enumeration.specs.Search.{Answer, answer}
use Rattle.lc_algebra.specs.Divisor.{divisor_of}
use Rattle.lc_grammar.specs.Tree.{Statement}
use Rattle.lc_grammar.specs.Grammar.{Reads}
use Rattle.lc_language.specs.declared.Call.{Call}
use Rattle.lc_language.specs.Value.{Binding}
use Rattle.lc_language.specs.Query.{QueryKind, distance, by_levels, by_scan, query_line}
use Rattle.lc_language.specs.Evaluation.{Step, Steps, binds, prints, asks, counts, nears, fails, Prints, Runs}
use Rattle.lc_session_rules.specs.Needs.{Needs, MeetsFirst}
use Rattle.lc_session_rules.specs.Answers.{answer_line, PrintsBy, RunsBy, answers_of}

line_of_answer : (kind : QueryKind) (C : Matrix) (budget : ℕ) → query_line kind C budget ≡ answer_line kind C (answer (divisor_of C) C budget)
unfolding query_line
line_of_answer distance C budget = refl
line_of_answer by_levels C budget = refl
line_of_answer by_scan C budget = refl

-- what a text of these statements gives: needs, and the same text by their answers
abbrev IsAnswered : List Call → ℕ → List Binding → List Statement → List ℕ → Bool → Type 0
IsAnswered table budget env ss text ends = (needs : List Matrix) × Needs table env ss needs × RunsBy table budget env ss (answers_of needs budget) text ends

goes_on : (table : List Call) (budget : ℕ) (env : List Binding) (s : Statement) (ss : List Statement) (step : Step) (text : List ℕ) (ends : Bool) → Steps table env s step
    → ((later : List Binding) (rest : List ℕ) → Runs table budget later ss rest ends → IsAnswered table budget later ss rest ends)
    → Prints budget env step (λ later. Runs table budget later ss) text ends → IsAnswered table budget env (s ∷ ss) text ends
goes_on table budget env s ss (binds b) text ends steps later runs = let all = later (b ∷ env) text runs in (all.0, (binds b, steps, all.1), (binds b, steps, all.2))
goes_on table budget env s ss (prints l) text ends steps later (rest, runs, is) = let all = later env rest runs in (all.0, (prints l, steps, all.1), (prints l, steps, (rest, all.2, is)))
goes_on table budget env s ss (asks kind C) text ends steps later (rest, runs, is) =
    let all = later env rest runs in
    (C ∷ all.0, (asks kind C, steps, (all.0, all.1, refl)), (asks kind C, steps, (answer (divisor_of C) C budget, (answers_of all.0 budget, refl, (rest, all.2, is ∙ ap (λ (l : List ℕ). l ++ rest) (line_of_answer kind C budget))))))
goes_on table budget env s ss (counts C) text ends steps later (rest, runs, is) = let all = later env rest runs in (all.0, (counts C, steps, all.1), (counts C, steps, (rest, all.2, is)))
goes_on table budget env s ss (nears C x) text ends steps later (rest, runs, is) = let all = later env rest runs in (all.0, (nears C x, steps, all.1), (nears C x, steps, (rest, all.2, is)))
goes_on table budget env s ss (fails r) text ends steps later (is, ended) = ([], (fails r, steps, refl), (fails r, steps, (is, ended, refl)))

pub answered : (table : List Call) (budget : ℕ) (env : List Binding) (ss : List Statement) (text : List ℕ) (ends : Bool) → Runs table budget env ss text ends → IsAnswered table budget env ss text ends
answered table budget env [] text ends (is, ended) = ([], refl, (is, ended, refl))
answered table budget env (s ∷ ss) text ends (step, steps, runs) = goes_on table budget env s ss step text ends steps (λ later rest r. answered table budget later ss rest ends r) runs

-- what a text by given answers gives: the needs, and the text itself if these answers are those of the search
abbrev IsAnsweredBack : List Call → ℕ → List Binding → List Statement → List Answer → List ℕ → Bool → Type 0
IsAnsweredBack table budget env ss answers text ends = (needs : List Matrix) × Needs table env ss needs × (answers ≡ answers_of needs budget → Runs table budget env ss text ends)

goes_back : (table : List Call) (budget : ℕ) (env : List Binding) (s : Statement) (ss : List Statement) (step : Step) (answers : List Answer) (text : List ℕ) (ends : Bool) → Steps table env s step
    → ((later : List Binding) (left : List Answer) (rest : List ℕ) → RunsBy table budget later ss left rest ends → IsAnsweredBack table budget later ss left rest ends)
    → PrintsBy budget env step (λ later. RunsBy table budget later ss) answers text ends → IsAnsweredBack table budget env (s ∷ ss) answers text ends
goes_back table budget env s ss (binds b) answers text ends steps later runs = let all = later (b ∷ env) answers text runs in (all.0, (binds b, steps, all.1), λ e. (binds b, steps, all.2 e))
goes_back table budget env s ss (prints l) answers text ends steps later (rest, runs, is) = let all = later env answers rest runs in (all.0, (prints l, steps, all.1), λ e. (prints l, steps, (rest, all.2 e, is)))
goes_back table budget env s ss (asks kind C) answers text ends steps later (a, (left, split, (rest, runs, is))) =
    let all = later env left rest runs in (
      C ∷ all.0,
      (asks kind C, steps, (all.0, all.1, refl)),
      λ e.
          (let same : a ∷ left ≡ answer (divisor_of C) C budget ∷ answers_of all.0 budget = sym split ∙ e in
          let first : a ≡ answer (divisor_of C) C budget = (let f = same in cc) in
          let others : left ≡ answers_of all.0 budget = (let f = same in cc) in
          (asks kind C, steps, (rest, all.2 others, is ∙ ap (λ (b : Answer). answer_line kind C b ++ rest) first ∙ ap (λ (l : List ℕ). l ++ rest) (sym (line_of_answer kind C budget))))),
    )
goes_back table budget env s ss (counts C) answers text ends steps later (rest, runs, is) = let all = later env answers rest runs in (all.0, (counts C, steps, all.1), λ e. (counts C, steps, (rest, all.2 e, is)))
goes_back table budget env s ss (nears C x) answers text ends steps later (rest, runs, is) = let all = later env answers rest runs in (all.0, (nears C x, steps, all.1), λ e. (nears C x, steps, (rest, all.2 e, is)))
goes_back table budget env s ss (fails r) answers text ends steps later (is, ended, none) = ([], (fails r, steps, refl), λ e. (fails r, steps, (is, ended)))

pub answered_back : (table : List Call) (budget : ℕ) (env : List Binding) (ss : List Statement) (answers : List Answer) (text : List ℕ) (ends : Bool) → RunsBy table budget env ss answers text ends → IsAnsweredBack table budget env ss answers text ends
answered_back table budget env [] answers text ends (is, ended, none) = ([], refl, λ e. (is, ended))
answered_back table budget env (s ∷ ss) answers text ends (step, steps, runs) = goes_back table budget env s ss step answers text ends steps (λ later left rest r. answered_back table budget later ss left rest ends r) runs

take_all : (ss : List Statement) → take (length ss) ss ≡ ss
take_all [] = refl
take_all (s ∷ ss) = ap (λ (l : List Statement). s ∷ l) (take_all ss)

pub met_whole : (table : List Call) (bytes : List ℕ) (ss : List Statement) (needs : List Matrix) → Reads bytes ss → Needs table [] ss needs → MeetsFirst table bytes needs
met_whole table bytes ss needs reads all = inr (ss, reads, (length ss, subst (λ (l : List Statement). Needs table [] l needs) (sym (take_all ss)) all))
