-- What is known while the table of leaders grows, by rising weight and then lexicographically.
--   Holds list s                     s is an entry of the list
--   unknown                          the symbol at a syndrome that no leader has yet
--   IsLevelSoFar H w list firsts     the list has syndromes of leaders of weight w with, for each, the coordinate of its first nonzero
--                                    symbol, and of each leader there all leaders of weight w that come no later
--   IsLevel H w list firsts          besides, all leaders of weight w are there
--   IsTable H w coordinates symbols next      a syndrome that has a symbol is that of a leader, whose first nonzero symbol is kept:
--                                    one of the leaders lighter than w, all of which are there, or one whose syndrome is in the list
--   IsTried H w i c p frontier next  the list has the leaders of weight w that are 0 before coordinate i and have there a symbol
--                                    below c, or c and then a word whose syndrome is among the first p of the frontier
--   IsAt ..                          all of these
--   Grows H i c p frontier steps next      the same, of the values that the code keeps
--   IsSteps H coordinates symbols    of each leader the table has the first nonzero symbol and its coordinate
use Rattle.std.specs.Prelude.{◌≡◌, ◌≢◌, ℕ, ◌+◌, ◌<◌, ◌≤◌, ◌⊎◌, List, length, set, slice_index}
use Rattle.lc_algebra.specs.Word.{weight, AtMost}
use Rattle.lc_algebra.specs.Matrix.{Matrix}
use Rattle.lc_syndrome.specs.Syndrome.{syndrome_number, coset_count}
use Rattle.lc_syndrome.specs.Leading.{Leads, Starts, IsFirst, IsStep}
use Rattle.lc_syndrome.specs.declared.level.Level.{Level}
use Rattle.lc_syndrome.specs.declared.steps.Steps.{Steps}

abbrev pub Holds : List ℕ → ℕ → Type 0
Holds list s = (r : ℕ) × (r < length list) × (slice_index list r ≡ s)

abbrev pub unknown : ℕ
unknown = 255

pub record IsLevelSoFar (H : Matrix) (w : ℕ) (list firsts : List ℕ) : Type 0 where
  pub count : length firsts ≡ length list
  pub items : (r : ℕ) → r < length list → (e : List ℕ) × Leads H e × (syndrome_number H e ≡ slice_index list r) × (weight e ≡ w) × IsFirst H.columns (slice_index firsts r) e
  pub closed : (r : ℕ) (e l : List ℕ) → r < length list → Leads H e → syndrome_number H e ≡ slice_index list r → Leads H l → weight l ≡ w → AtMost l e → (t : ℕ) × (t ≤ r) × (slice_index list t ≡ syndrome_number H l)

pub record IsLevel (H : Matrix) (w : ℕ) (list firsts : List ℕ) : Type 0 where
  pub sofar : IsLevelSoFar H w list firsts
  pub whole : (e : List ℕ) → Leads H e → weight e ≡ w → Holds list (syndrome_number H e)

pub record IsTable (H : Matrix) (w : ℕ) (coordinates symbols next : List ℕ) : Type 0 where
  pub coordinate_count : length coordinates ≡ coset_count H
  pub symbol_count : length symbols ≡ coset_count H
  pub sound : (s : ℕ) → s < coset_count H → slice_index symbols s ≢ unknown → (e : List ℕ) × Leads H e × (syndrome_number H e ≡ s) × IsStep H (slice_index coordinates s) (slice_index symbols s) e × ((weight e < w) ⊎ Holds next s)
  pub named : (r : ℕ) → r < length next → slice_index symbols (slice_index next r) ≢ unknown
  pub lower : (e : List ℕ) → Leads H e → weight e < w → slice_index symbols (syndrome_number H e) ≢ unknown

pub record IsTried (H : Matrix) (w i c p : ℕ) (frontier next : List ℕ) : Type 0 where
  pub before : (l : List ℕ) → Leads H l → weight l ≡ w → Starts i l → slice_index l i < c → Holds next (syndrome_number H l)
  pub here : (l : List ℕ) (r : ℕ) → Leads H l → weight l ≡ w → Starts i l → slice_index l i ≡ c → r < p → slice_index frontier r ≡ syndrome_number H (set l i 0) → Holds next (syndrome_number H l)

pub record IsAt (H : Matrix) (w i c p : ℕ) (frontier coordinates symbols next firsts : List ℕ) : Type 0 where
  pub table : IsTable H w coordinates symbols next
  pub level : IsLevelSoFar H w next firsts
  pub tried : IsTried H w i c p frontier next

pub record IsSteps (H : Matrix) (coordinates symbols : List ℕ) : Type 0 where
  pub coordinate_count : length coordinates ≡ coset_count H
  pub symbol_count : length symbols ≡ coset_count H
  pub steps : (e : List ℕ) → Leads H e → IsStep H (slice_index coordinates (syndrome_number H e)) (slice_index symbols (syndrome_number H e)) e

abbrev pub Grows : Matrix → ℕ → ℕ → ℕ → Level → Steps → Level → Type 0
Grows H i c p frontier steps next = IsAt H (frontier.weight + 1) i c p frontier.syndromes.items steps.coordinates.items steps.symbols.items next.syndromes.items next.firsts.items
