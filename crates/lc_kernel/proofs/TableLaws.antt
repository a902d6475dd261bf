-- The tables of the sets and their parts, as they are pushed.
--   no_tables, no_grids          none
--   all_pushed, one_of_all       what holds of each item of a list by its index holds of one more, and of an item that is read
--   one_part, one_grid_part      a part of a table that is read
--   kept_part                    the planes of its multiples
--   part_cut, cut_inside, parts_pushed      a part of the columns, as it is cut off, and the parts with one more
use Rattle.std.proofs.Common.{◌≡◌, ℕ, ◌+◌, ◌-◌, ◌*◌, ◌<◌, ◌≤◌, List, [], ◌∷◌, ◌++◌, min, length, take, drop, slice_index, slice_index_or, Some, sym, ap, subst, ◌∙◌, ⊎_elim, arith, length-append}
use Rattle.std.specs.Prelude.{slice_get}
use Rattle.std.proofs.lemmas.Bool.{cases_lt}
use Rattle.std.proofs.lemmas.List.{take_all, length-take, length-drop, get_or-take, get_or-drop}
use Rattle.std.proofs.lemmas.Option.{slice_get_within, slice_get-get_or, same_Some}
use Rattle.lc_algebra.specs.Matrix.{Matrix}
use Rattle.lc_algebra.proofs.EmbeddingTests.{two_elements}
use Rattle.lc_place.proofs.Products.{get-append_left, get-append_right}
use Rattle.lc_infoset.proofs.NextLaws.{filter_more, filter_same}
use Rattle.lc_kernel.specs.declared.grid.Grid.{Grid}
use Rattle.lc_kernel.specs.declared.table.Table.{Table}
use Rattle.lc_kernel.specs.declared.grid.GridPart.{GridPart}
use Rattle.lc_kernel.specs.Grids.{IsGridPart, AreGridParts, IsGrid, AreGrids}
use Rattle.lc_kernel.specs.Fronts.{IsKept}
use Rattle.lc_infoset.specs.Bound.{set_at}
use Rattle.lc_kernel.specs.declared.parts.Part.{Part}
use Rattle.lc_kernel.specs.Packed.{others, IsPart}
use Rattle.lc_planes.specs.Planes.{part_at}
use Rattle.lc_kernel.specs.Tables.{AreParts, AreTables}
use Rattle.lc_kernel.proofs.PackLaws.{outside_inside}

pub no_tables : (C : Matrix) (ts : List Table) → ts ≡ [] → AreTables C ts
no_tables C ts e = record { each = λ j t at. absurd (omega (arith, slice_get_within ts j t at, ap length e)) }

pub no_grids : (C : Matrix) (gs : List Grid) → gs ≡ [] → AreGrids C gs
no_grids C gs e = record { each = λ j g at. absurd (omega (arith, slice_get_within gs j g at, ap length e)) }

pub all_pushed : {X : Type 0} (P : ℕ → X → Type 0) (xs more : List X) (x : X) → ((i : ℕ) (y : X) → slice_get xs i ≡ Some y → P i y) → P (length xs) x → more ≡ xs ++ x ∷ [] → (i : ℕ) (y : X) → slice_get more i ≡ Some y → P i y
all_pushed P xs more x h is made i y at =
    let there : slice_get (xs ++ x ∷ []) i ≡ Some y = ap (λ z. slice_get z i) (sym made) ∙ at in
    ⊎_elim
    (λ l. h i y (sym (get-append_left xs (x ∷ []) i l) ∙ there))
    (λ l.
    let inside = slice_get_within (xs ++ x ∷ []) i y there in
    let last : i ≡ length xs = omega (arith, l, inside, length-append xs (x ∷ [])) in
    let place : i ≡ length xs + 0 = omega (arith, last) in
    let same : x ≡ y = same_Some x y (sym (get-append_right xs (x ∷ []) 0) ∙ ap (slice_get (xs ++ x ∷ [])) (sym place) ∙ there) in
    subst (λ n. P n y) (sym last) (subst (P (length xs)) same is))
    (cases_lt i (length xs))

pub one_of_all : {X : Type 0} (P : ℕ → X → Type 0) (xs : List X) (i : ℕ) (x : X) → ((j : ℕ) (y : X) → slice_get xs j ≡ Some y → P j y) → i < length xs → x ≡ slice_index_or xs i x → P i x
one_of_all P xs i x h l e = h i x (slice_get-get_or xs i x l ∙ ap Some (sym e))

pub one_part : (C : Matrix) (j t b : ℕ) (ps : List Part) (p : Part) → AreParts C j t ps → b < length ps → p ≡ slice_index_or ps b p → IsPart C j t (part_at (others C j) b) p.rows.items p.sums.items
one_part C j t b ps p h l e = one_of_all (λ i (x : Part). IsPart C j t (part_at (others C j) i) x.rows.items x.sums.items) ps b p h l e

pub one_grid_part : (C : Matrix) (j n b : ℕ) (ps : List GridPart) (p : GridPart) → AreGridParts C j n ps → b < length ps → p ≡ slice_index_or ps b p → IsGridPart C j (part_at (others C j) b) n p.rows.items p.bits.items
one_grid_part C j n b ps p h l e = one_of_all (λ i (x : GridPart). IsGridPart C j (part_at (others C j) i) n x.rows.items x.bits.items) ps b p h l e

pub kept_part : (C : Matrix) (j b : ℕ) (g : Grid) (p : GridPart) (rows : List (List ℕ)) → IsGrid C j g → b < length g.parts.items → p ≡ slice_index_or g.parts.items b p → rows ≡ p.rows.items → IsKept C j b g.planes rows
kept_part C j b g p rows h l e is = record { fits = h.planes; few = h.few; multiples = rw is (one_grid_part C j g.planes b g.parts.items p h.parts l e).multiples }

pub part_cut : (cols : List ℕ) (b start end : ℕ) → start ≡ 64 * b → start ≤ length cols → end ≡ min (length cols) (start + 64) → take (end - start) (drop start cols) ≡ part_at cols b
part_cut cols b start end e l which =
    let whole : drop start cols ≡ drop (64 * b) cols = ap (λ n. drop n cols) e in
    ⊎_elim
    (λ a.
    let rest : length (drop start cols) ≡ end - start = length-drop start cols ∙ omega (arith, which, a) in
    take_all (end - start) (drop start cols) (omega (arith, rest)) ∙ whole ∙ sym (take_all 64 (drop (64 * b) cols) (omega (arith, ap length whole, length-drop start cols, a))))
    (λ a. let n : end - start ≡ 64 = omega (arith, which, a) in ap (λ x. take x (drop start cols)) n ∙ ap (take 64) whole)
    (cases_lt (length cols) (start + 64))

pub cut_inside : (C : Matrix) (j start n : ℕ) (cols : List ℕ) → cols ≡ others C j → (t : ℕ) → t < length (take n (drop start cols)) → slice_index (take n (drop start cols)) t < C.columns
cut_inside C j start n cols e t l =
    let long = length-take n (drop start cols) in
    let here : slice_index (take n (drop start cols)) t ≡ slice_index cols (start + t) = get_or-take n (drop start cols) t 0 (omega (arith, l, long)) ∙ get_or-drop start cols t 0 in
    let inside : start + t < length (others C j) = omega (arith, l, long, length-drop start cols, ap length e) in
    omega (arith, here, ap (λ z. slice_index z (start + t)) e, outside_inside C.columns (start + t) (set_at C j).basis inside)

pub parts_pushed : (C : Matrix) (j t start end : ℕ) (cols : List ℕ) (ps more : List Part) (p : Part) → cols ≡ others C j → start ≡ 64 * length ps → start ≤ length cols → end ≡ min (length cols) (start + 64) → AreParts C j t ps → IsPart C j t (take (end - start) (drop start cols)) p.rows.items p.sums.items → more ≡ ps ++ p ∷ [] → AreParts C j t more
parts_pushed C j t start end cols ps more p e s l which h is made =
    all_pushed (λ b (x : Part). IsPart C j t (part_at (others C j) b) x.rows.items x.sums.items) ps more p h
    (subst (λ z. IsPart C j t z p.rows.items p.sums.items) (part_cut cols (length ps) start end s l which ∙ ap (λ z. part_at z (length ps)) e) is) made

pub ruleset tables_of_laws = (no_tables, two_elements)

pub ruleset outside_laws = (filter_more, filter_same)
