-- The codes whose words a script counts by weight, in the order in which its statements ask it; and how many words of a weight a code has.
--   CountsOn env step later codes   what a statement adds to the codes of those after it
--   Counts table env ss codes       those of some statements
--   AreCounted table bytes codes    those of a script; bytes that are no script count none
--   HasWordsOfWeight C j n          the code has n words of weight j: they are the entries of a list without repetitions
use Rattle.std.specs.Prelude.{◌≡◌, ◌≢◌, ℕ, ◌⊎◌, ◌↔◌, List, [], ◌∷◌, length, Contains, AllPairs}
use Rattle.lc_algebra.specs.Word.{weight}
use Rattle.lc_algebra.specs.Span.{InSpan}
use Rattle.lc_algebra.specs.Matrix.{Matrix}
use Rattle.lc_grammar.specs.Tree.{Statement}
use Rattle.lc_grammar.specs.Grammar.{Reads, Fault, IsFault}
use Rattle.lc_language.specs.declared.Call.{Call}
use Rattle.lc_language.specs.Value.{Binding}
use Rattle.lc_language.specs.Evaluation.{Step, Steps, binds, prints, asks, counts, nears, fails}

abbrev pub CountsOn : List Binding → Step → (List Binding → List Matrix → Type 0) → List Matrix → Type 0
CountsOn env (binds b) later codes = later (b ∷ env) codes
CountsOn env (prints l) later codes = later env codes
CountsOn env (asks kind C) later codes = later env codes
CountsOn env (counts C) later codes = (rest : List Matrix) × later env rest × (codes ≡ C ∷ rest)
CountsOn env (nears C x) later codes = later env codes
CountsOn env (fails r) later codes = codes ≡ []

abbrev pub Counts : List Call → List Binding → List Statement → List Matrix → Type 0
Counts table env [] codes = codes ≡ []
Counts table env (s ∷ ss) codes = (step : Step) × Steps table env s step × CountsOn env step (λ later. Counts table later ss) codes

abbrev pub AreCounted : List Call → List ℕ → List Matrix → Type 0
AreCounted table bytes codes =
    ((ss : List Statement) × Reads bytes ss × Counts table [] ss codes)
    ⊎ ((fault : Fault) × IsFault bytes fault × (codes ≡ []))

pub record HasWordsOfWeight (C : Matrix) (j n : ℕ) : Type 0 where
  pub listed : List (List ℕ)
  pub members : (w : List ℕ) → Contains listed w ↔ (InSpan C.field C.columns C.rows w × (weight w ≡ j))
  pub once : AllPairs (λ v w. v ≢ w) listed
  pub many : length listed ≡ n
