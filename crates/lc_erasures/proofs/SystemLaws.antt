-- The equations that the known symbols of a word make for the messages of a code.
--   solves_more          one equation more
--   system_none          there are none before the first coordinate
--   system_erased, system_more      an erased coordinate adds none, another one adds one
--   system_pushed        the same of the lists that the code makes
--   solves_difference    two solutions differ by a word that is orthogonal to each equation
--   solves_sum           a solution and such a word add up to a solution
use Rattle.std.proofs.Common.{◌≡◌, ◌≢◌, ℕ, ◌+◌, ◌<◌, ◌≤◌, ◌↔◌, List, [], ◌∷◌, ◌++◌, length, slice_index, slice_index_or, Contains, sym, ap, subst, ◌∙◌, ⊎_elim, arith}
use Rattle.std.proofs.lemmas.List.{get_or_append_left, get_or_default, length-append}
use Rattle.std.proofs.lemmas.List.Elements.{All-push}
use Rattle.std.proofs.lemmas.Bool.{cases_eq, cases_lt}
use Rattle.std.proofs.Math.Seq.{get_or-append_seam}
use Rattle.lc_algebra.specs.declared.FieldName.{FieldName}
use Rattle.lc_algebra.specs.Field.{size, add, neg}
use Rattle.lc_algebra.specs.Word.{IsWord, word_sum, scale, difference, word_dot}
use Rattle.lc_algebra.specs.Span.{combine}
use Rattle.lc_algebra.specs.Matrix.{Matrix, AreRows, IsOrthogonal, column}
use Rattle.lc_algebra.proofs.FieldLaws.{zero_add, add_neg, neg_one_mul}
use Rattle.lc_algebra.proofs.WordLaws.{word_symbol, dot_sum, dot_scale, dot_comm, dot_inside, length_scale}
use Rattle.lc_algebra.proofs.ColumnLaws.{column_word}
use Rattle.lc_algebra.proofs.ReducedLaws.{index_combine}
use Rattle.lc_matrix.specs.Solve.{Solves}
use Rattle.lc_matrix.proofs.SolveLaws.{symbol_before, symbol_behind, word_behind}
use Rattle.lc_erasures.specs.System.{IsKnown, IsSystem}

row_before : (rows : List (List ℕ)) (g : List ℕ) (i : ℕ) → i < length rows → slice_index_or (rows ++ g ∷ []) i [] ≡ slice_index_or rows i []
row_before rows g i l = get_or_append_left rows (g ∷ []) [] i l

row_behind : (rows : List (List ℕ)) (g : List ℕ) → slice_index_or (rows ++ g ∷ []) (length rows) [] ≡ g
row_behind rows g = get_or-append_seam rows g [] []

count_behind : (rows : List (List ℕ)) (g : List ℕ) → length (rows ++ g ∷ []) ≡ length rows + 1
count_behind rows g = omega (arith, length-append rows (g ∷ []))

solves_first : (f : FieldName) (rows : List (List ℕ)) (g right : List ℕ) (b : ℕ) (u : List ℕ) → length right ≡ length rows → Solves f (rows ++ g ∷ []) (right ++ b ∷ []) u → Solves f rows right u
solves_first f rows g right b u e s i l = ap (λ r. word_dot f r u) (sym (row_before rows g i l)) ∙ s i (omega (arith, l, count_behind rows g)) ∙ symbol_before right b i (omega (arith, l, e))

solves_last : (f : FieldName) (rows : List (List ℕ)) (g right : List ℕ) (b : ℕ) (u : List ℕ) → length right ≡ length rows → Solves f (rows ++ g ∷ []) (right ++ b ∷ []) u → word_dot f g u ≡ b
solves_last f rows g right b u e s = ap (λ r. word_dot f r u) (sym (row_behind rows g)) ∙ s (length rows) (omega (arith, count_behind rows g)) ∙ symbol_behind (length rows) right b e

solves_both : (f : FieldName) (rows : List (List ℕ)) (g right : List ℕ) (b : ℕ) (u : List ℕ) → length right ≡ length rows → Solves f rows right u → word_dot f g u ≡ b → Solves f (rows ++ g ∷ []) (right ++ b ∷ []) u
solves_both f rows g right b u e s t i l =
    ⊎_elim
    (λ (k : i < length rows). ap (λ r. word_dot f r u) (row_before rows g i k) ∙ s i k ∙ sym (symbol_before right b i (omega (arith, k, e))))
    (λ (k : length rows ≤ i).
    let same : i ≡ length rows = omega (arith, l, k, count_behind rows g) in
    ap (λ j. word_dot f (slice_index_or (rows ++ g ∷ []) j []) u) same ∙ ap (λ r. word_dot f r u) (row_behind rows g) ∙ t ∙ sym (ap (slice_index (right ++ b ∷ [])) same ∙ symbol_behind (length rows) right b e))
    (cases_lt i (length rows))

pub solves_more : (f : FieldName) (rows : List (List ℕ)) (g right : List ℕ) (b : ℕ) (u : List ℕ) → length right ≡ length rows → Solves f (rows ++ g ∷ []) (right ++ b ∷ []) u ↔ (Solves f rows right u × (word_dot f g u ≡ b))
solves_more f rows g right b u e = ((λ s. (solves_first f rows g right b u e s, solves_last f rows g right b u e s)), (λ t. solves_both f rows g right b u e t.0 t.1))

-- ---- coordinate by coordinate

pub system_none : (C : Matrix) (x erased : List ℕ) (columns : List (List ℕ)) (symbols : List ℕ) → columns ≡ [] → symbols ≡ [] → IsSystem C x erased 0 columns symbols
system_none C x erased columns symbols e h =
    let none : length columns ≡ 0 = ap length e in
    record {
      rows = λ k d l. absurd (omega (arith, l, none));
      right = record { long = ap length h ∙ sym none; fits = λ i l. absurd (omega (arith, l, ap length h)) };
      solved = λ u w. ((λ s i l n. absurd (omega (arith, l))), (λ k i l. absurd (omega (arith, l, none))));
    }

known_erased : (x erased w : List ℕ) (c : ℕ) → Contains erased c → IsKnown x erased c w → IsKnown x erased (c + 1) w
known_erased x erased w c e h i l n =
    ⊎_elim
    (λ (k : i ≡ c). absurd (n (subst (Contains erased) (sym k) e)))
    (λ (k : i ≢ c). h i (omega (arith, l, k)) n)
    (cases_eq i c)

known_less : (x erased w : List ℕ) (c : ℕ) → IsKnown x erased (c + 1) w → IsKnown x erased c w
known_less x erased w c h i l n = h i (omega (arith, l)) n

known_more : (x erased w : List ℕ) (c : ℕ) → slice_index w c ≡ slice_index x c → IsKnown x erased c w → IsKnown x erased (c + 1) w
known_more x erased w c e h i l n =
    ⊎_elim
    (λ (k : i ≡ c). ap (slice_index w) k ∙ e ∙ ap (slice_index x) (sym k))
    (λ (k : i ≢ c). h i (omega (arith, l, k)) n)
    (cases_eq i c)

pub system_erased : (C : Matrix) (x erased : List ℕ) (c : ℕ) (columns : List (List ℕ)) (symbols : List ℕ) → Contains erased c → IsSystem C x erased c columns symbols → IsSystem C x erased (c + 1) columns symbols
system_erased C x erased c columns symbols e h = record {
  rows = h.rows;
  right = h.right;
  solved = λ u w.
      let v = combine C.field C.columns u C.rows in
      ((λ s. known_erased x erased v c e ((h.solved u w).0 s)), (λ k. (h.solved u w).1 (known_less x erased v c k)));
}

pub system_more : (C : Matrix) (x erased : List ℕ) (c : ℕ) (columns : List (List ℕ)) (symbols g : List ℕ) (b : ℕ)
    → AreRows C.field C.columns C.rows → IsWord C.field C.columns x → ¬ Contains erased c → g ≡ column C.rows c → b ≡ slice_index x c
    → IsSystem C x erased c columns symbols → IsSystem C x erased (c + 1) (columns ++ g ∷ []) (symbols ++ b ∷ [])
system_more C x erased c columns symbols g b r w n e o h =
    let f = C.field in
    let m = length columns in
    let col : IsWord f (length C.rows) g = subst (IsWord f (length C.rows)) (sym e) (column_word f C.columns C.rows c r) in
    let at : (u : List ℕ) → slice_index (combine f C.columns u C.rows) c ≡ word_dot f g u = λ u.
    index_combine f C.columns u C.rows c r ∙ ap (word_dot f u) (sym e) ∙ dot_comm f u g in
    record {
      rows = All-push (IsWord f (length C.rows)) columns g h.rows col;
      right = subst (λ k. IsWord f k (symbols ++ b ∷ [])) (sym (count_behind columns g)) (word_behind f m symbols b h.right (subst (λ a. a < size f) (sym o) (word_symbol f C.columns x w c)));
      solved = λ u word.
          let v = combine f C.columns u C.rows in
          let told = h.solved u word in
          let parts = solves_more f columns g symbols b u h.right.long in (
            (λ s. known_more x erased v c (at u ∙ (parts.0 s).1 ∙ o) (told.0 (parts.0 s).0)),
            (λ k. parts.1 (told.1 (known_less x erased v c k), sym (at u) ∙ k c (omega arith) n ∙ sym o)),
          );
    }

pub system_pushed : (C : Matrix) (x erased : List ℕ) (c : ℕ) (columns more : List (List ℕ)) (symbols longer g : List ℕ) (b : ℕ)
    → AreRows C.field C.columns C.rows → IsWord C.field C.columns x → ¬ Contains erased c → g ≡ column C.rows c → b ≡ slice_index x c
    → more ≡ columns ++ g ∷ [] → longer ≡ symbols ++ b ∷ [] → IsSystem C x erased c columns symbols → IsSystem C x erased (c + 1) more longer
system_pushed C x erased c columns more symbols longer g b r w n e o p q h = rw (p, q) (system_more C x erased c columns symbols g b r w n e o h)

-- ---- solutions

dot_difference : (f : FieldName) (g u v : List ℕ) → length u ≡ length v → word_dot f g u ≡ word_dot f g v → word_dot f g (difference f u v) ≡ 0
unfolding difference
dot_difference f g u v l e =
    dot_sum f g u (scale f (neg f 1) v) (l ∙ sym (length_scale f (neg f 1) v))
    ∙ ap (add f (word_dot f g u)) (dot_scale f (neg f 1) g v ∙ neg_one_mul f (word_dot f g v) ∙ ap (neg f) (sym e))
    ∙ add_neg f (word_dot f g u)

pub solves_difference : (f : FieldName) (rows : List (List ℕ)) (right u v : List ℕ) → length u ≡ length v → Solves f rows right u → Solves f rows right v → IsOrthogonal f rows (difference f u v)
solves_difference f rows right u v l s t k d m =
    subst (λ g. word_dot f g (difference f u v) ≡ 0) (get_or_default rows k [] d m) (dot_difference f (slice_index_or rows k []) u v l (s k m ∙ sym (t k m)))

pub solves_sum : (f : FieldName) (rows : List (List ℕ)) (right e u : List ℕ) → length e ≡ length u → IsOrthogonal f rows e → Solves f rows right u → Solves f rows right (word_sum f e u)
solves_sum f rows right e u l o s i m =
    let g = slice_index_or rows i [] in
    dot_sum f g e u l ∙ ap (λ a. add f a (word_dot f g u)) (o i [] m) ∙ zero_add f (word_dot f g u) (dot_inside f g u) ∙ s i m
