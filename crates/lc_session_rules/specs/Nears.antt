-- The queries of a script for a word of a code that is nearest to a given word, and when what is printed of them is true. They search,
-- but are no needs: no checkpoint keeps anything of them. Whoever prints their lines answers each of them truly: `NearsHold` is a
-- field of `IsScriptText` and of `IsResumedText`.
--   NearQuery                        a code and a word
--   NearsOn env step later queries   what a statement adds to the queries of those after it
--   Nears table env ss queries       the queries of some statements, in their order
--   AreNears table bytes queries     those of a script; bytes that are no script ask none
--   NearsHold table bytes budget     the answer to each of them is true
use Rattle.std.specs.Prelude.{◌≡◌, ℕ, ◌⊎◌, List, [], ◌∷◌, All}
use Rattle.lc_algebra.specs.Matrix.{Matrix}
use Rattle.lc_enumeration.specs.NearWord.{near_answer, NearHolds}
use Rattle.lc_grammar.specs.Tree.{Statement}
use Rattle.lc_grammar.specs.Grammar.{Reads, Fault, IsFault}
use Rattle.lc_language.specs.declared.Call.{Call}
use Rattle.lc_language.specs.Value.{Binding}
use Rattle.lc_language.specs.Evaluation.{Step, Steps, binds, prints, asks, counts, nears, fails}

pub record NearQuery : Type 0 where
  pub code : Matrix
  pub word : List ℕ

abbrev pub NearsOn : List Binding → Step → (List Binding → List NearQuery → Type 0) → List NearQuery → Type 0
NearsOn env (binds b) later queries = later (b ∷ env) queries
NearsOn env (prints l) later queries = later env queries
NearsOn env (asks kind C) later queries = later env queries
NearsOn env (counts C) later queries = later env queries
NearsOn env (nears C x) later queries = (rest : List NearQuery) × later env rest × (queries ≡ record { code = C; word = x } ∷ rest)
NearsOn env (fails r) later queries = queries ≡ []

abbrev pub Nears : List Call → List Binding → List Statement → List NearQuery → Type 0
Nears table env [] queries = queries ≡ []
Nears table env (s ∷ ss) queries = (step : Step) × Steps table env s step × NearsOn env step (λ later. Nears table later ss) queries

abbrev pub AreNears : List Call → List ℕ → List NearQuery → Type 0
AreNears table bytes queries =
    ((ss : List Statement) × Reads bytes ss × Nears table [] ss queries)
    ⊎ ((fault : Fault) × IsFault bytes fault × (queries ≡ []))

abbrev pub NearsHold : List Call → List ℕ → ℕ → Type 0
NearsHold table bytes budget = (queries : List NearQuery) → AreNears table bytes queries → All (λ q. NearHolds q.code q.word (near_answer q.code q.word budget)) queries
