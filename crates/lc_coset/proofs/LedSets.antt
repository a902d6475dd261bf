-- The information sets of the larger code, compared with those of the code.
--   set_is                     a set of the larger code, by its rows
use Rattle.std.proofs.Common.{◌≡◌, ℕ, zero, suc, ◌+◌, ◌<◌, List, [], ◌++◌, length, replicate, get_or, slice_index_or, sym, ap, ◌∙◌, arith}
use Rattle.std.proofs.lemmas.List.{length-map, ext_get_or, get_or-map}
use Rattle.lc_algebra.specs.Word.{zero_word}
use Rattle.lc_algebra.specs.Span.{AreIndependent}
use Rattle.lc_algebra.specs.Matrix.{Matrix, AreRows}
use Rattle.lc_enumeration.specs.Search.{set_count, generator_at}
use Rattle.lc_coset.specs.Led.{led_rows, HasRowsTo}
use Rattle.lc_coset.proofs.EntryLaws.{generates}

rows_same : (m : ℕ) (left : List ℕ) (gs hs : List (List ℕ)) → length gs ≡ suc (length hs) → slice_index_or gs 0 [] ≡ replicate m 1 ++ left → ((i : ℕ) → i < length hs → slice_index_or gs (i + 1) [] ≡ zero_word m ++ slice_index_or hs i []) → gs ≡ led_rows m left hs
rows_same m left gs hs many first rest =
    let front : List ℕ → List ℕ = λ r. zero_word m ++ r in
    ext_get_or [] gs (led_rows m left hs) (many ∙ ap suc (sym (length-map hs front))) (λ i l. at i (omega (arith, l, many)))
  where
    at : (i : ℕ) → i < suc (length hs) → get_or gs i [] ≡ get_or (led_rows m left hs) i []
    at zero l = first
    at (suc i) l =
        let front : List ℕ → List ℕ = λ r. zero_word m ++ r in
        let up : i + 1 ≡ suc i = omega arith in
        let here : i < length hs = omega (arith, l) in
        ap (λ a. get_or gs a []) (sym up) ∙ rest i here ∙ sym (get_or-map front hs i [] [] here)

pub set_is : (C D : Matrix) (left row : List ℕ) (j : ℕ) → AreRows C.field C.columns C.rows → AreIndependent C.field C.columns C.rows → AreRows D.field D.columns D.rows → AreIndependent D.field D.columns D.rows → j < set_count C → j < set_count D → length D.rows ≡ length C.rows + 1
    → row ≡ slice_index_or (generator_at D j) 0 [] → row ≡ replicate (set_count C) 1 ++ left → HasRowsTo D C j (length C.rows) → generator_at D j ≡ led_rows (set_count C) left (generator_at C j)
set_is C D left row j r free s loose l m many is ones rest =
    let c = (generates C j r free l).count in
    let d = (generates D j s loose m).count in
    rows_same (set_count C) left (generator_at D j) (generator_at C j) (omega (arith, c, d, many)) (sym is ∙ ones) (λ i a. rest i (omega (arith, a, c)))
