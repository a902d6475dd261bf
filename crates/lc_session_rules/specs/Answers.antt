-- The text of a script whose searches are answered by given answers. A session that resumes a checkpoint which no session wrote
-- prints such a text: the answers are those that its records and its rounds settle.
--   answer_line kind C a                        what a query of a code prints of an answer
--   RunsBy table budget env ss answers text ends       the text of the statements, each query that searches taking the next answer
--   IsTextBy table budget bytes answers text ends      the text of a script
--   Settle budget needs states answers          the answers of the needs whose searches ended in these states
--   answers_of needs budget                     the answers of the search
--   HasWords needs answers                      the word of each answer stands at its place: a nonzero word of the code, of that
--                                               weight
use Rattle.std.specs.Prelude.{◌≡◌, ℕ, ◌⊎◌, Bool, true, false, List, [], ◌∷◌, ◌++◌, map, Some}
use Rattle.lc_algebra.specs.Matrix.{Matrix}
use Rattle.lc_enumeration.specs.Search.{Answer, no_word, exact, bracket, answer, finished}
use Rattle.lc_enumeration.specs.Records.{Progress, found_of}
use Rattle.lc_enumeration.specs.Truth.{HasWord}
use Rattle.lc_algebra.specs.Divisor.{divisor_of}
use Rattle.lc_grammar.specs.Tree.{Statement}
use Rattle.lc_grammar.specs.Grammar.{Reads, Fault, IsFault}
use Rattle.lc_language.specs.declared.Call.{Call}
use Rattle.lc_language.specs.Value.{Binding}
use Rattle.lc_language.specs.Print.{fault_line}
use Rattle.lc_language.specs.Query.{QueryKind, distance, by_levels, by_scan, distance_answer_line, certificate_answer_line, distribution_line, near_line}
use Rattle.lc_language.specs.Evaluation.{Step, Steps, binds, prints, asks, counts, nears, fails}

abbrev pub answer_line : QueryKind → Matrix → Answer → List ℕ
answer_line distance C a = distance_answer_line C a
answer_line by_levels C a = certificate_answer_line by_levels C a
answer_line by_scan C a = certificate_answer_line by_scan C a

-- how the text goes on after a statement: the bindings, the answers that are left and the further text, or the end
abbrev pub PrintsBy : ℕ → List Binding → Step → (List Binding → List Answer → List ℕ → Bool → Type 0) → List Answer → List ℕ → Bool → Type 0
PrintsBy budget env (binds b) later answers text ends = later (b ∷ env) answers text ends
PrintsBy budget env (prints l) later answers text ends = (rest : List ℕ) × later env answers rest ends × (text ≡ l ++ rest)
PrintsBy budget env (asks kind C) later answers text ends = (a : Answer) × ((left : List Answer) × (answers ≡ a ∷ left) × ((rest : List ℕ) × later env left rest ends × (text ≡ answer_line kind C a ++ rest)))
PrintsBy budget env (counts C) later answers text ends = (rest : List ℕ) × later env answers rest ends × (text ≡ distribution_line C ++ rest)
PrintsBy budget env (nears C x) later answers text ends = (rest : List ℕ) × later env answers rest ends × (text ≡ near_line C x budget ++ rest)
PrintsBy budget env (fails r) later answers text ends = (text ≡ fault_line r.number r.offset r.values) × (ends ≡ true) × (answers ≡ [])

abbrev pub RunsBy : List Call → ℕ → List Binding → List Statement → List Answer → List ℕ → Bool → Type 0
RunsBy table budget env [] answers text ends = (text ≡ []) × (ends ≡ false) × (answers ≡ [])
RunsBy table budget env (s ∷ ss) answers text ends = (step : Step) × Steps table env s step × PrintsBy budget env step (λ later. RunsBy table budget later ss) answers text ends

abbrev pub IsTextBy : List Call → ℕ → List ℕ → List Answer → List ℕ → Bool → Type 0
IsTextBy table budget bytes answers text ends =
    ((ss : List Statement) × Reads bytes ss × RunsBy table budget [] ss answers text ends)
    ⊎ ((fault : Fault) × IsFault bytes fault × (text ≡ fault_line fault.number fault.offset []) × (ends ≡ true) × (answers ≡ []))

-- a search that ended in a state is answered by it
abbrev pub Settle : ℕ → List Matrix → List Progress → List Answer → Type 0
Settle budget [] [] answers = answers ≡ []
Settle budget [] (s ∷ states) answers = ⊥
Settle budget (C ∷ needs) [] answers = ⊥
Settle budget (C ∷ needs) (s ∷ states) answers = (a : Answer) × ((left : List Answer) × (answers ≡ a ∷ left) × (finished (divisor_of C) C budget s.blocks (found_of s) ≡ Some a) × Settle budget needs states left)

abbrev pub answers_of : List Matrix → ℕ → List Answer
answers_of needs budget = map (λ C. answer (divisor_of C) C budget) needs

abbrev pub AnswerHasWord : Matrix → Answer → Type 0
AnswerHasWord C no_word = ⊥
AnswerHasWord C (exact found l) = HasWord C found
AnswerHasWord C (bracket low found l) = HasWord C found

abbrev pub HasWords : List Matrix → List Answer → Type 0
HasWords [] answers = answers ≡ []
HasWords (C ∷ needs) [] = ⊥
HasWords (C ∷ needs) (a ∷ answers) = AnswerHasWord C a × HasWords needs answers
