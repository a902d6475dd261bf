-- Tables of traces; the clauses of private functions alone speak of these.
--   AreTracesBelow F K n ts      ts has the traces to F of the elements of K below n
--   AreTraces F K ts             of all of them
--   traced ts u                  the traces of the symbols of u
--   traced_multiples K s ts u    those of the multiples of u by the first s powers of the primitive element
--   traced_rows K s ts us        so for each of the words
use Rattle.std.specs.Prelude.{◌≡◌, ℕ, ◌<◌, List, length, map, slice_index}
use Rattle.lc_algebra.specs.declared.FieldName.{FieldName}
use Rattle.lc_algebra.specs.Field.{size}
use Rattle.lc_language.specs.Trace.{IsTrace}
use Rattle.lc_linear_laws.specs.Powers.{power_multiples, outer_rows}

pub record AreTracesBelow (F K : FieldName) (n : ℕ) (ts : List ℕ) : Type 0 where
  pub long : length ts ≡ n
  pub traces : (a : ℕ) → a < n → IsTrace F K a (slice_index ts a)

abbrev pub AreTraces : FieldName → FieldName → List ℕ → Type 0
AreTraces F K ts = AreTracesBelow F K (size K) ts

abbrev pub traced : List ℕ → List ℕ → List ℕ
traced ts u = map (slice_index ts) u

abbrev pub traced_multiples : FieldName → ℕ → List ℕ → List ℕ → List (List ℕ)
traced_multiples K s ts u = map (traced ts) (power_multiples K s u)

abbrev pub traced_rows : FieldName → ℕ → List ℕ → List (List ℕ) → List (List ℕ)
traced_rows K s ts us = map (traced ts) (outer_rows K s us)
