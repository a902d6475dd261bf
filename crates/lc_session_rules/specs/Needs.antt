-- The queries of a script that search, in the order in which the statements ask them.
--   Needs table env ss needs          the codes of the queries of some statements
--   IsNeeds table bytes needs         those of a script
--   MeetsFirst table bytes front      those of its first statements, however many: what a session has met that stopped on its way.
--                                     A session that hasn't read a statement has met none
--   AgreeAsFar needs others           two lists of needs have the same need wherever both have one
--   OneScript bytes, NoFault bytes, OneStep table     what the language shows: bytes are one script, a script has no fault, and a
--                                     statement does one thing
use Rattle.std.specs.Prelude.{◌≡◌, ℕ, ◌⊎◌, List, [], ◌∷◌, take, slice_get, Some}
use Rattle.lc_algebra.specs.Matrix.{Matrix}
use Rattle.lc_grammar.specs.Tree.{Statement}
use Rattle.lc_grammar.specs.Grammar.{Reads, Fault, IsFault}
use Rattle.lc_language.specs.declared.Call.{Call}
use Rattle.lc_language.specs.Value.{Binding}
use Rattle.lc_language.specs.Evaluation.{Step, Steps, binds, prints, asks, counts, nears, fails}

abbrev pub NeedsOn : List Binding → Step → (List Binding → List Matrix → Type 0) → List Matrix → Type 0
NeedsOn env (binds b) later needs = later (b ∷ env) needs
NeedsOn env (prints l) later needs = later env needs
NeedsOn env (asks kind C) later needs = (rest : List Matrix) × later env rest × (needs ≡ C ∷ rest)
NeedsOn env (counts C) later needs = later env needs
NeedsOn env (nears C x) later needs = later env needs
NeedsOn env (fails r) later needs = needs ≡ []

abbrev pub Needs : List Call → List Binding → List Statement → List Matrix → Type 0
Needs table env [] needs = needs ≡ []
Needs table env (s ∷ ss) needs = (step : Step) × Steps table env s step × NeedsOn env step (λ later. Needs table later ss) needs

-- bytes that are no script ask nothing
abbrev pub IsNeeds : List Call → List ℕ → List Matrix → Type 0
IsNeeds table bytes needs =
    ((ss : List Statement) × Reads bytes ss × Needs table [] ss needs)
    ⊎ ((fault : Fault) × IsFault bytes fault × (needs ≡ []))

-- those of the first n statements, for some n
abbrev pub MeetsFirst : List Call → List ℕ → List Matrix → Type 0
MeetsFirst table bytes front = (front ≡ []) ⊎ ((ss : List Statement) × Reads bytes ss × ((n : ℕ) × Needs table [] (take n ss) front))

-- the same need wherever both have one
abbrev pub AgreeAsFar : List Matrix → List Matrix → Type 0
AgreeAsFar needs others = (i : ℕ) (C D : Matrix) → slice_get needs i ≡ Some C → slice_get others i ≡ Some D → C ≡ D

abbrev pub OneScript : List ℕ → Type 0
OneScript bytes = (ss others : List Statement) → Reads bytes ss → Reads bytes others → ss ≡ others

abbrev pub NoFault : List ℕ → Type 0
NoFault bytes = (ss : List Statement) (fault : Fault) → Reads bytes ss → IsFault bytes fault → ⊥

abbrev pub OneStep : List Call → Type 0
OneStep table = (env : List Binding) (s : Statement) (step other : Step) → Steps table env s step → Steps table env s other → step ≡ other
