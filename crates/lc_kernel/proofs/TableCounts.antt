-- How many heads and tables there are.
--   heads_above, heads_below   a support that has too many heads
--   all_tables, no_all_tables  a table for each set, and none
--   grids_all, grids_stopped, no_all_grids      the same over more than 2 elements, if there is room, and if there is none
use Rattle.std.proofs.Common.{◌≡◌, ◌≢◌, ℕ, suc, ◌+◌, ◌-◌, ◌*◌, ◌^◌, ◌<◌, ◌≤◌, List, [], length, inl, inr, sym, ap, ◌∙◌, ⊎_elim, arith}
use Rattle.std.proofs.Math.Nat.{pow-suc}
use Rattle.std.proofs.lemmas.Bool.{cases_lt}
use Rattle.lc_algebra.specs.Field.{size}
use Rattle.lc_algebra.specs.Matrix.{Matrix}
use Rattle.lc_algebra.proofs.EmbeddingTests.{size_two}
use Rattle.lc_algebra.proofs.FieldLaws.{one_inside}
use Rattle.lc_enumeration.specs.Search.{set_count}
use Rattle.lc_kernel.specs.declared.grid.Grid.{Grid}
use Rattle.lc_kernel.specs.declared.table.Table.{Table}
use Rattle.lc_kernel.specs.Grids.{HasRoom, LacksRoom, AreAllGrids}
use Rattle.lc_kernel.specs.Tables.{AreAllTables}
use Rattle.lc_kernel.specs.Sweeps.{list_count, TooManyHeads}
use Rattle.lc_kernel.proofs.TailCounts.{too_many}
use Rattle.lc_kernel.proofs.TableLaws.{tables_of_laws, no_grids}

pub heads_above : (C : Matrix) (level i many elements : ℕ) → elements ≡ size C.field - 1 → many ≡ (size C.field - 1) ^ (i - 3) → 3 ≤ i → i < level → 1024 < many * elements → TooManyHeads C level
heads_above C level i many elements e is l m big =
    let d = size C.field - 1 in
    let some : 0 < d = omega (arith, one_inside C.field) in
    let next : i + 1 - 3 ≡ suc (i - 3) = omega (arith, l) in
    let power : many * elements ≡ d ^ (i + 1 - 3) = ap (λ z. z * elements) is ∙ ap (λ z. d ^ (i - 3) * z) e ∙ sym (pow-suc d (i - 3)) ∙ ap (λ z. d ^ z) (sym next) in
    inl (too_many d (i + 1 - 3) (level - 2 - 1) (many * elements) some power (omega (arith, l, m)) big)

pub heads_below : (C : Matrix) (level many elements : ℕ) → elements ≡ size C.field - 1 → many ≡ list_count C (level - 2) → 4096 ≤ many * elements → TooManyHeads C level
heads_below C level many elements e is big =
    let same : many * elements ≡ list_count C (level - 2) * (size C.field - 1) = ap (λ z. z * elements) is ∙ ap (λ z. list_count C (level - 2) * z) e in
    inr (omega (arith, same, big))

pub no_all_tables : (C : Matrix) (ts : List Table) → size C.field ≢ 2 → AreAllTables C ts
no_all_tables C ts other e = absurd (other (ap size e ∙ size_two))

pub all_tables : (C : Matrix) (ts : List Table) → length ts ≡ set_count C → AreAllTables C ts
all_tables C ts all e = all

pub no_all_grids : (C : Matrix) (gs : List Grid) → size C.field ≡ 2 → gs ≡ [] → AreAllGrids C gs
no_all_grids C gs two e = record { all = λ other _. absurd (other two); none = λ _. ap length e }

pub grids_stopped : (C : Matrix) (gs : List Grid) (j : ℕ) → length gs ≡ j → (0 < j → HasRoom C) → LacksRoom C → AreAllGrids C gs
grids_stopped C gs j many room lacks = record {
  all = λ _ has. absurd (omega (arith, has, lacks));
  none = λ _. ⊎_elim (λ a. absurd (omega (arith, room a, lacks))) (λ a. omega (arith, many, a)) (cases_lt 0 j);
}

pub grids_all : (C : Matrix) (gs : List Grid) (j : ℕ) → length gs ≡ j → (0 < j → HasRoom C) → j ≡ set_count C → 0 < j → AreAllGrids C gs
grids_all C gs j many room e some = record { all = λ _ _. many ∙ e; none = λ lacks. absurd (omega (arith, room some, lacks)) }

pub ruleset all_tables_laws = (tables_of_laws, no_all_tables, all_tables)

pub ruleset grids_of_laws = (no_grids, no_all_grids)

pub ruleset push_grids_laws = (no_grids, grids_all, grids_stopped)
