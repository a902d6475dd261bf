-- Numbers of a script as symbols of words.
--   clamped_each                     each row by itself
--   columns_same, lengths_same       the length of a matrix, and of its rows
--   clamped_refusals                 a matrix is refused by its numbers as by its symbols
--   elements_same, row_kept          the entries of a row
--   entries_same, rows_kept          those of a matrix
--   none_here                        the first refusal does not apply
--   fine_same, fine_rows             a matrix that isn't refused holds elements alone
use Rattle.std.proofs.Common.{◌≡◌, ℕ, ◌<◌, ◌≤◌, min, Bool, true, false, not, nat_lt, ◌==◌, List, [], ◌∷◌, length, map, Vec, Global, Option, None, is_none, slice_index_or, slice_index, refl, sym, ap, ⊎_elim, true≢false, arith}
use Rattle.std.specs.List.{list_all}
use Rattle.std.proofs.lemmas.List.{length-map}
use Rattle.std.proofs.lemmas.List.Sums.{AllPass-from_list_all}
use Rattle.std.proofs.lemmas.Bool.{cases_Bool, and_parts}
use Rattle.std.proofs.lemmas.Bool.Decides.{nat_tests, Decides-ltb, Decides-eqb}
use Rattle.lc_algebra.specs.declared.FieldName.{FieldName}
use Rattle.lc_algebra.specs.Field.{size, is_symbol}
use Rattle.lc_algebra.specs.Matrix.{AreRows}
use Rattle.lc_constructions.specs.declared.refusal.CodeRefusal.{CodeRefusal}
use Rattle.lc_constructions.specs.declared.refusal.CodeRefusal.TheVariants.{BadLength, BadArgument, LengthsDiffer, FieldTooLarge}
use Rattle.lc_constructions.specs.Code.{is_length}
use Rattle.lc_constructions.specs.Refusal.{refuse_if, first_refusal}
use Rattle.lc_constructions.specs.Refusals.{columns_of, are_elements, have_elements, are_equally_long, too_large, bad_length, bad_argument, matrix_refusals}
use Rattle.lc_formats.proofs.CertificateBack.{symbol_size}
use Rattle.lc_eval.specs.Rows.{clamped, clamped_rows}

pub clamped_each : (rows : List (Vec ℕ Global)) → map (λ row. clamped row.items) rows ≡ clamped_rows (map (λ row. row.items) rows)
clamped_each [] = refl
clamped_each (row ∷ rows) = ap (λ (rest : List (List ℕ)). clamped row.items ∷ rest) (clamped_each rows)

-- ---- lengths

pub columns_same : (rows : List (List ℕ)) → columns_of (clamped_rows rows) ≡ columns_of rows
unfolding columns_of
columns_same [] = refl
columns_same (row ∷ rows) = length-map row (λ a. min a 255)

pub lengths_same : (n : ℕ) (rows : List (List ℕ)) → list_all (λ row. length row == n) (clamped_rows rows) ≡ list_all (λ row. length row == n) rows
lengths_same n [] = refl
lengths_same n (row ∷ rows) = rw (length-map row (λ a. min a 255), lengths_same n rows) refl

even_same : (rows : List (List ℕ)) → are_equally_long (clamped_rows rows) ≡ are_equally_long rows
unfolding are_equally_long
even_same rows = rw (columns_same rows) (lengths_same (columns_of rows) rows)

-- ---- entries

symbol_same : (q a : ℕ) → q ≤ 16 → nat_lt (min a 255) q ≡ nat_lt a q
symbol_same q a h = grind (arith, nat_tests)

row_same : (q : ℕ) (u : List ℕ) → q ≤ 16 → list_all (λ a. nat_lt a q) (clamped u) ≡ list_all (λ a. nat_lt a q) u
row_same q [] h = refl
row_same q (a ∷ u) h = rw (symbol_same q a h, row_same q u h) refl

pub elements_same : (f : FieldName) (u : List ℕ) → size f ≤ 16 → are_elements f (clamped u) ≡ are_elements f u
unfolding are_elements
elements_same f u h = row_same (size f) u h

pub entries_same : (f : FieldName) (rows : List (List ℕ)) → size f ≤ 16 → have_elements f (clamped_rows rows) ≡ have_elements f rows
unfolding have_elements
entries_same f [] h = refl
entries_same f (row ∷ rows) h = let t : have_elements f (clamped_rows rows) ≡ have_elements f rows = entries_same f rows h in rw (elements_same f row h, t) refl

-- ---- the refusals of a matrix

refused_first : (f : FieldName) (rows others : List (List ℕ)) → is_symbol f ≡ false → first_refusal (matrix_refusals f rows) ≡ first_refusal (matrix_refusals f others)
unfolding first_refusal refuse_if too_large matrix_refusals
refused_first f rows others h = rw h refl

refused_later : (f : FieldName) (rows : List (List ℕ)) → is_symbol f ≡ true → first_refusal (matrix_refusals f (clamped_rows rows)) ≡ first_refusal (matrix_refusals f rows)
unfolding matrix_refusals
refused_later f rows h = rw (columns_same rows, even_same rows, entries_same f rows (symbol_size f h)) refl

pub clamped_refusals : (f : FieldName) (rows : List (List ℕ)) → first_refusal (matrix_refusals f (clamped_rows rows)) ≡ first_refusal (matrix_refusals f rows)
clamped_refusals f rows = ⊎_elim (λ t. refused_later f rows t) (λ t. refused_first f (clamped_rows rows) rows t) (cases_Bool (is_symbol f))

pub none_here : (b : Bool) (r : CodeRefusal) (rs : List (Option CodeRefusal)) → first_refusal (refuse_if (not b) r ∷ rs) ≡ None → (b ≡ true) × (first_refusal rs ≡ None)
unfolding first_refusal refuse_if
none_here true r rs h = (refl, h)
none_here false r rs h = absurd (true≢false (ap is_none (sym h)))

record IsFine (f : FieldName) (rows : List (List ℕ)) : Type 0 where
  symbol : is_symbol f ≡ true
  even : are_equally_long rows ≡ true
  elements : have_elements f rows ≡ true

fine : (f : FieldName) (rows : List (List ℕ)) → first_refusal (matrix_refusals f rows) ≡ None → IsFine f rows
unfolding matrix_refusals too_large bad_length bad_argument
fine f rows h =
    let a = none_here (is_symbol f) FieldTooLarge _ h in
    let b = none_here (is_length (columns_of rows)) BadLength _ a.1 in
    let c = none_here (are_equally_long rows) LengthsDiffer _ b.1 in
    let d = none_here (have_elements f rows) (BadArgument 1) [] c.1 in
    record { symbol = a.0; even = c.0; elements = d.0 }

pub row_kept : (q : ℕ) (u : List ℕ) → q ≤ 16 → list_all (λ a. nat_lt a q) (clamped u) ≡ true → clamped u ≡ u
row_kept q [] s h = refl
row_kept q (a ∷ u) s h =
    let p = and_parts (nat_lt (min a 255) q) (list_all (λ b. nat_lt b q) (clamped u)) h in
    let l : min a 255 < q = (Decides-ltb (min a 255) q).0 p.0 in
    let e : min a 255 ≡ a = omega (arith, l, s) in
    rw (e, row_kept q u s p.1) refl

pub rows_kept : (f : FieldName) (rows : List (List ℕ)) → size f ≤ 16 → have_elements f (clamped_rows rows) ≡ true → clamped_rows rows ≡ rows
unfolding have_elements are_elements
rows_kept f [] s h = refl
rows_kept f (row ∷ rows) s h =
    let p = and_parts (list_all (λ a. nat_lt a (size f)) (clamped row)) (have_elements f (clamped_rows rows)) h in
    rw (row_kept (size f) row s p.0, rows_kept f rows s p.1) refl

pub fine_same : (f : FieldName) (rows : List (List ℕ)) → first_refusal (matrix_refusals f (clamped_rows rows)) ≡ None → clamped_rows rows ≡ rows
fine_same f rows h = let p = fine f (clamped_rows rows) h in rows_kept f rows (symbol_size f p.symbol) p.elements

pub fine_rows : (f : FieldName) (rows : List (List ℕ)) → first_refusal (matrix_refusals f rows) ≡ None → AreRows f (columns_of rows) rows
unfolding have_elements are_elements are_equally_long
fine_rows f rows h k d l =
    let p = fine f rows h in
    record {
      long = (Decides-eqb (length (slice_index_or rows k d)) (columns_of rows)).0 (AllPass-from_list_all (λ row. length row == columns_of rows) rows p.even k d l);
      fits = λ i m. (Decides-ltb (slice_index (slice_index_or rows k d) i) (size f)).0 (AllPass-from_list_all (λ a. nat_lt a (size f)) (slice_index_or rows k d) (AllPass-from_list_all (list_all (λ a. nat_lt a (size f))) rows p.elements k d l) i 0 m);
    }
