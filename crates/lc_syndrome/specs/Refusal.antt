-- Why a code has no table of coset leaders.
--   refusal_number r          the number of the refusal as the project counts them; running out of memory has none, and gives 0
--   refusal_values r          the numbers that it carries, in the order in which they are printed
use Rattle.std.specs.Prelude.{ℕ, List, [], ◌∷◌}
use Rattle.lc_syndrome.specs.declared.refusal.SyndromeRefusal.{SyndromeRefusal}
use Rattle.lc_syndrome.specs.declared.refusal.SyndromeRefusal.TheVariants.{TooManyCosets, NoMemory}

unfoldable pub refusal_number : SyndromeRefusal → ℕ
refusal_number (TooManyCosets checks) = 15
refusal_number NoMemory = 0

unfoldable pub refusal_values : SyndromeRefusal → List ℕ
refusal_values (TooManyCosets checks) = checks ∷ []
refusal_values NoMemory = []
