-- Cosets of a code, their leaders and their syndromes (MacWilliams and Sloane, chapter 1).
--   AreInOneCoset C x y        x and y differ by a word of the code
--   IsLeader C x e             e is the leader of the coset of x: its first word, by weight and then lexicographically
--   syndrome f checks x        the dots of x with the rows of a parity-check matrix
--   IsParityCheck C checks     the words of the code are those that have dot 0 with each row
--   IsLeaderTable C checks leaders      a list of the coset leaders by their syndromes: of each word x, the leader of its coset is the entry
--                              whose index is the number with the symbols of its syndrome as digits, the first one lowest
--   too_many_cosets C          n - k if the code has more than 2^20 cosets, of which there are q^(n - k); else None
use Rattle.std.specs.Prelude.{◌≡◌, ℕ, ◌-◌, ◌^◌, ◌↔◌, nat_lt, if◌then◌else◌, List, [], length, map, slice_index_or, Option, Some, None}
use Rattle.lc_algebra.specs.declared.FieldName.{FieldName}
use Rattle.lc_algebra.specs.Field.{size}
use Rattle.lc_algebra.specs.Residue.{number}
use Rattle.lc_algebra.specs.Word.{IsWord, difference, word_dot, ComesNoLater}
use Rattle.lc_algebra.specs.Matrix.{Matrix, AreRows}
use Rattle.lc_constructions.specs.Code.{InCode, CheckedBy}

abbrev pub AreInOneCoset : Matrix → List ℕ → List ℕ → Type 0
AreInOneCoset C x y = InCode C (difference C.field x y)

pub record IsLeader (C : Matrix) (x e : List ℕ) : Type 0 where
  pub word : IsWord C.field C.columns e
  pub inside : AreInOneCoset C x e
  pub first : (d : List ℕ) → IsWord C.field C.columns d → AreInOneCoset C x d → ComesNoLater e d

unfoldable pub syndrome : FieldName → List (List ℕ) → List ℕ → List ℕ
syndrome f checks x = map (λ row. word_dot f row x) checks

pub record IsParityCheck (C : Matrix) (checks : List (List ℕ)) : Type 0 where
  pub rows : AreRows C.field C.columns checks
  pub words : (w : List ℕ) → IsWord C.field C.columns w → InCode C w ↔ CheckedBy C.field checks w

pub record IsLeaderTable (C : Matrix) (checks leaders : List (List ℕ)) : Type 0 where
  pub parity : IsParityCheck C checks
  pub count : length leaders ≡ size C.field ^ length checks
  pub leads : (x : List ℕ) → IsWord C.field C.columns x → IsLeader C x (slice_index_or leaders (number (size C.field) (syndrome C.field checks x)) [])

unfoldable pub too_many_cosets : Matrix → Option ℕ
too_many_cosets C = (if nat_lt (2 ^ 20) (size C.field ^ (C.columns - length C.rows)) then Some (C.columns - length C.rows) else None)
