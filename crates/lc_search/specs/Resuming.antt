-- A search that goes on from a record of so many blocks, and of a word's weight and place.
--   IsResumed C budget blocks weight place s      the record fits the code, and s is a search in its state
--   IsUnfit C blocks weight place e               the record doesn't fit the code, and e tells the weight found; or no memory is left
use Rattle.std.specs.Prelude.{◌≡◌, ℕ, true, false, ⊤}
use Rattle.lc_algebra.specs.Matrix.{Matrix}
use Rattle.lc_enumeration.specs.Search.{fits, weight_at}
use Rattle.lc_search.specs.declared.resume.ResumeRefusal.{ResumeRefusal}
use Rattle.lc_search.specs.declared.resume.ResumeRefusal.TheVariants.{Unfit, NoMemory}
use Rattle.lc_search.specs.State.{SearchState}

pub record IsResumed (C : Matrix) (budget blocks weight place : ℕ) (s : SearchState) : Type 0 where
  pub fitting : fits C blocks (record { weight = weight; place = place }) ≡ true
  pub state : s ≡ record { code = C; budget = budget; progress = record { blocks = blocks; weight = weight; place = place } }

abbrev pub IsUnfit : Matrix → ℕ → ℕ → ℕ → ResumeRefusal → Type 0
IsUnfit C blocks weight place (Unfit found) = (fits C blocks (record { weight = weight; place = place }) ≡ false) × (found ≡ weight_at C place)
IsUnfit C blocks weight place NoMemory = ⊤
