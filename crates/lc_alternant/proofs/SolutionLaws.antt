-- The one solution of the check equations, and the word that it is spread to.
--   pointed_chosen       points and multipliers at chosen coordinates are points and multipliers
--   solution_one         as many check equations as points have at most one solution
--   chosen_one           so its chosen entries tell a word that is 0 where the values aren't and has these sums
--   spread_back          and it is spread from them
--   spread_word          what is spread is a word
--   kernel_told          the kernel of a matrix with given parts
use Rattle.std.proofs.Common.{◌≡◌, ℕ, zero, suc, ◌<◌, ◌≤◌, ◌↔◌, Option, Some, None, List, [], ◌∷◌, length, slice_index, EachIndex, sym, ap, subst, ◌∙◌, arith}
use Rattle.std.specs.Prelude.{IfSome, IsSome}
use Rattle.std.proofs.lemmas.Bool.{false≢true}
use Rattle.lc_algebra.specs.declared.FieldName.{FieldName}
use Rattle.lc_algebra.specs.Word.{IsWord, word_dot}
use Rattle.lc_algebra.specs.Matrix.{Matrix, IsReducedGenerator, IsOrthogonal}
use Rattle.lc_algebra.proofs.WordLaws.{dot_comm}
use Rattle.lc_algebra.proofs.DimensionLaws.{distinct_from_pairs, pairs_from_distinct}
use Rattle.lc_constructions.specs.Alternant.{check_row}
use Rattle.lc_constructions.proofs.CheckLaws.{AreNonzero}
use Rattle.lc_constructions.proofs.AlternantLaws.{nonzero_each}
use Rattle.lc_matrix.specs.Solve.{Solves}
use Rattle.lc_alternant.specs.Checks.{AreCheckRows, IsPointed}
use Rattle.lc_alternant.specs.Chosen.{chosen, spread, HasSums, IsZeroBut}
use Rattle.lc_alternant.proofs.ChosenLaws.{length_chosen, fits_chosen, nonzero_chosen, distinct_chosen, chosen_sum, length_spread, fits_spread, spread_chosen}
use Rattle.lc_alternant.proofs.ErrorLaws.{sums_once}

nonzero_at : (y : ℕ) (ys : List ℕ) (i : ℕ) → 0 < y → EachIndex ys (λ i. 0 < slice_index ys i) → i < length (y ∷ ys) → 0 < slice_index (y ∷ ys) i
nonzero_at y ys zero p h l = p
nonzero_at y ys (suc i) p h l = h i (omega (arith, l))

each_nonzero : (K : FieldName) (ys : List ℕ) → AreNonzero K ys → EachIndex ys (λ i. 0 < slice_index ys i)
each_nonzero K [] h = λ i l. absurd (omega (arith, l))
each_nonzero K (y ∷ ys) h = λ i l. nonzero_at y ys i h.1 (each_nonzero K ys h.2) l

pub pointed_chosen : (K : FieldName) (xs ys vs : List ℕ) → IsPointed K xs ys → IsPointed K (chosen vs xs) (chosen vs ys)
pointed_chosen K xs ys vs h =
    record {
      points = fits_chosen K vs xs h.points;
      distinct = pairs_from_distinct (chosen vs xs) (distinct_chosen vs xs (distinct_from_pairs xs h.distinct));
      count = length_chosen vs xs ys h.count;
      multipliers = fits_chosen K vs ys h.multipliers;
      nonzero = each_nonzero K (chosen vs ys) (nonzero_chosen K vs ys (nonzero_each K ys h.multipliers h.nonzero));
    }

solved_sums : (K : FieldName) (xs ys s w : List ℕ) (rows : List (List ℕ)) → AreCheckRows K xs ys (length s) rows → Solves K rows s w ↔ HasSums K xs ys w s
solved_sums K xs ys s w rows h = (
  λ p j l. dot_comm K w (check_row K xs ys j) ∙ ap (λ r. word_dot K r w) (sym (h.each j l)) ∙ p j (omega (arith, l, h.count)),
  λ q j l.
      let m : j < length s = omega (arith, l, h.count) in
      ap (λ r. word_dot K r w) (h.each j m) ∙ dot_comm K (check_row K xs ys j) w ∙ q j m,
)

told_solution : (K : FieldName) (xs ys s z : List ℕ) (rows : List (List ℕ)) (o : Option (List ℕ)) → IsPointed K xs ys → length xs ≤ length s → AreCheckRows K xs ys (length s) rows → IfSome o (λ w. IsWord K (length xs) w) → IfSome o (λ w. Solves K rows s w) → (IsSome o ↔ ((w : List ℕ) × IsWord K (length xs) w × Solves K rows s w)) → IsWord K (length xs) z → HasSums K xs ys z s → o ≡ Some z
told_solution K xs ys s z rows None h l c w v e a q = absurd (false≢true (e.1 (z, a, (solved_sums K xs ys s z rows c).1 q)))
told_solution K xs ys s z rows (Some y) h l c w v e a q =
    ap Some (sums_once K xs ys y z s h.points (distinct_from_pairs xs h.distinct) (nonzero_each K ys h.multipliers h.nonzero) h.count w a l ((solved_sums K xs ys s y rows c).0 v) q)

pub solution_one : (K : FieldName) (xs ys s z : List ℕ) (m : Matrix) (n : ℕ) (o : Option (List ℕ)) → IsPointed K xs ys → length xs ≤ length s → m.field ≡ K → m.columns ≡ n → n ≡ length xs → AreCheckRows K xs ys (length s) m.rows → IfSome o (λ w. IsWord m.field m.columns w) → IfSome o (λ w. Solves m.field m.rows s w) → (IsSome o ↔ ((w : List ℕ) × IsWord m.field m.columns w × Solves m.field m.rows s w)) → IsWord K (length xs) z → HasSums K xs ys z s → o ≡ Some z
solution_one K xs ys s z m n o h l f c d r w v e a q =
    let k : m.columns ≡ length xs = c ∙ d in
    told_solution K xs ys s z m.rows o h l r
    (subst (λ g. IfSome o (λ w. IsWord g (length xs) w)) f (subst (λ i. IfSome o (λ w. IsWord m.field i w)) k w))
    (subst (λ g. IfSome o (λ w. Solves g m.rows s w)) f v)
    (subst (λ g. IsSome o ↔ ((w : List ℕ) × IsWord g (length xs) w × Solves g m.rows s w)) f (subst (λ i. IsSome o ↔ ((w : List ℕ) × IsWord m.field i w × Solves m.field m.rows s w)) k e))
    a q

pub chosen_one : (K : FieldName) (xs ys vs us ws s z : List ℕ) (o : Option (List ℕ)) → IsPointed K xs ys → length vs ≡ length xs → us ≡ chosen vs xs → ws ≡ chosen vs ys → ((y : List ℕ) → IsWord K (length us) y → HasSums K us ws y s → o ≡ Some y) → IsWord K (length xs) z → IsZeroBut vs z → HasSums K xs ys z s → o ≡ Some (chosen vs z)
chosen_one K xs ys vs us ws s z o h e c d q a b p =
    let y = chosen vs z in
    let word : IsWord K (length (chosen vs xs)) y = record { long = length_chosen vs xs z a.long; fits = fits_chosen K vs z a.fits } in
    let sums : HasSums K (chosen vs xs) (chosen vs ys) y s = λ j l. chosen_sum K vs xs ys z j e h.count a.long b ∙ p j l in
    q y (subst (λ u. IsWord K (length u) y) (sym c) word) (subst (λ u. HasSums K u ws y s) (sym c) (subst (λ v. HasSums K (chosen vs xs) v y s) (sym d) sums))

pub spread_back : (vs z errors word : List ℕ) (o : Option (List ℕ)) → length vs ≡ length z → IsZeroBut vs z → o ≡ Some errors → o ≡ Some (chosen vs z) → word ≡ spread vs errors → Some word ≡ Some z
spread_back vs z errors word o e b n t d =
    let k : errors ≡ chosen vs z = cc (n, t) in
    ap Some (d ∙ ap (spread vs) k ∙ spread_chosen vs z e b)

pub spread_word : (K : FieldName) (n m : ℕ) (vs errors word : List ℕ) (o : Option (List ℕ)) → o ≡ Some errors → IfSome o (λ w. IsWord K m w) → length vs ≡ n → word ≡ spread vs errors → IsWord K n word
spread_word K n m vs errors word o e h l d =
    let w : IsWord K m errors = subst (λ p. IfSome p (λ w. IsWord K m w)) e h in
    subst (IsWord K n) (sym d) (record { long = length_spread vs errors ∙ l; fits = fits_spread K vs errors w.fits })

pub kernel_told : (K : FieldName) (n : ℕ) (rows k : List (List ℕ)) (m : Matrix) → m.field ≡ K → m.columns ≡ n → m.rows ≡ rows → IsReducedGenerator m.field m.columns (IsOrthogonal m.field m.rows) k → IsReducedGenerator K n (IsOrthogonal K rows) k
kernel_told K n rows k m a b c h =
    subst (λ r. IsReducedGenerator K n (IsOrthogonal K r) k) c (subst (λ i. IsReducedGenerator K i (IsOrthogonal K m.rows) k) b (subst (λ g. IsReducedGenerator g m.columns (IsOrthogonal g m.rows) k) a h))
