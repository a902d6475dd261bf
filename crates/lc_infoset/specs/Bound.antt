-- The lower bound that whole levels of information sets give (Grassl's description of the method of Brouwer and Zimmermann).
-- The code is the words of the rows, n symbols each; k is its dimension.
--   LevelSet                      a basis of columns, those of it that are fresh, the generator matrix that is the identity on the
--                                 basis, and the level up to which the combinations of its rows are seen
--   IsLevelSet f n k rows s       the matrix is systematic on a basis of k columns, and the fresh columns are some of them, each
--                                 once
--   AreLevelSets f n k rows sets  each is one, and no column is fresh in two of them
--   IsUnseen f n c s              c is no combination of 1 to level rows of the matrix
--   IsNoMultiple f n c s          c is no nonzero multiple of the word of a message of the levels 1 to level
--   SeenAtLeast f n d s           the nonzero words of the messages of the levels 1 to level have weight d at least
--   set_bound k sets              the sum over the sets of level + 1 - (k - fresh columns), taken as 0 where it is negative
--   set_at C j                    the information set j of a code
--   AreGenerators C               each basis has k columns, and the generator of each set is systematic on its basis
use Rattle.std.specs.Prelude.{◌≡◌, ◌≢◌, ℕ, ◌<◌, ◌≤◌, List, [], length, map, slice_index_or, All, AllPairs, Contains}
use Rattle.lc_algebra.specs.declared.FieldName.{FieldName}
use Rattle.lc_algebra.specs.Field.{size}
use Rattle.lc_algebra.specs.Word.{IsWord, weight, scale}
use Rattle.lc_algebra.specs.Span.{combine}
use Rattle.lc_algebra.specs.Matrix.{Matrix, IsSystematic}
use Rattle.lc_enumeration.specs.Message.{Message, messages, vector_of}
use Rattle.lc_enumeration.specs.InformationSet.{InformationSet}
use Rattle.lc_enumeration.specs.Search.{bound_sum, sets_of, set_count, generator_at}

pub record LevelSet : Type 0 where
  pub basis : List ℕ
  pub fresh : List ℕ
  pub matrix : List (List ℕ)
  pub level : ℕ

pub record IsLevelSet (f : FieldName) (n k : ℕ) (rows : List (List ℕ)) (s : LevelSet) : Type 0 where
  pub many : length s.basis ≡ k
  pub systematic : IsSystematic f n rows s.basis s.matrix
  pub part : All (Contains s.basis) s.fresh
  pub once : AllPairs (λ a b. a ≢ b) s.fresh

pub record AreLevelSets (f : FieldName) (n k : ℕ) (rows : List (List ℕ)) (sets : List LevelSet) : Type 0 where
  pub each : All (IsLevelSet f n k rows) sets
  pub apart : AllPairs (λ one other. (column : ℕ) → Contains one.fresh column → ¬ Contains other.fresh column) sets

abbrev pub IsUnseen : FieldName → ℕ → List ℕ → LevelSet → Type 0
IsUnseen f n c s = (v : List ℕ) → IsWord f (length s.matrix) v → 0 < weight v → weight v ≤ s.level → c ≢ combine f n v s.matrix

abbrev pub IsNoMultiple : FieldName → ℕ → List ℕ → LevelSet → Type 0
IsNoMultiple f n c s = (w a : ℕ) (m : Message) → 0 < w → w ≤ s.level → a < size f → 0 < a → Contains (messages (length s.matrix) (size f) w) m → c ≢ scale f a (combine f n (vector_of (length s.matrix) m) s.matrix)

abbrev pub SeenAtLeast : FieldName → ℕ → ℕ → LevelSet → Type 0
SeenAtLeast f n d s = (w : ℕ) (m : Message) → 0 < w → w ≤ s.level → Contains (messages (length s.matrix) (size f) w) m → 0 < weight (combine f n (vector_of (length s.matrix) m) s.matrix) → d ≤ weight (combine f n (vector_of (length s.matrix) m) s.matrix)

abbrev pub set_bound : ℕ → List LevelSet → ℕ
set_bound k sets = bound_sum k (map (λ s. length s.fresh) sets) (map (λ s. s.level) sets)

abbrev pub set_at : Matrix → ℕ → InformationSet
set_at C j = slice_index_or (sets_of C) j (record { basis = []; fresh = [] })

abbrev pub AreGenerators : Matrix → Type 0
AreGenerators C = (j : ℕ) → j < set_count C → (length (set_at C j).basis ≡ length C.rows) × IsSystematic C.field C.columns C.rows (set_at C j).basis (generator_at C j)
