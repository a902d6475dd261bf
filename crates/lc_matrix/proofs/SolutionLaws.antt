-- How a loop writes the solution of a linear system.
--   solution_begun, solution_step, solution_done      the solution, place by place
--   augmented_more, augmented_whole      the augmented rows, row by row
--   echelon_shaped, places_shaped, place_told      the echelon form of the augmented rows, and its places, in the shape of the call
--   unsolvable_made, inside_made, solution_made      the answers, in the shape of the call
use Rattle.std.proofs.Common.{◌≡◌, ℕ, ◌+◌, ◌<◌, ◌↔◌, List, [], ◌∷◌, ◌++◌, set, take, length, slice_index, slice_index_or, Contains, sym, ap, subst, ◌∙◌, ⊎_elim, arith}
use Rattle.std.proofs.lemmas.List.{get_or-set_same, get_or-set_other, length-set, take_more, take_all}
use Rattle.std.proofs.lemmas.Bool.{cases_lt, cases_eq}
use Rattle.lc_algebra.specs.declared.FieldName.{FieldName}
use Rattle.lc_algebra.specs.Field.{size}
use Rattle.lc_algebra.specs.Word.{IsWord, zero_word}
use Rattle.lc_algebra.specs.Matrix.{entry, AreRows, HasPivots, IsEchelon, Matrix}
use Rattle.lc_algebra.proofs.WordLaws.{index_zero_word, IsWord_zero, word_symbol}
use Rattle.lc_matrix.specs.Solve.{augmented, Solves, IsSolutionWord, IsSolutionTo}
use Rattle.lc_matrix.proofs.PlaceLaws.{at_place}
use Rattle.lc_matrix.proofs.SolveLaws.{length_augmented, row_of_augmented, inner_place, solution_of, no_solution}

pub solution_begun : (f : FieldName) (n : ℕ) (ps : List ℕ) (e : List (List ℕ)) (w : List ℕ) → w ≡ zero_word n → IsSolutionTo f n ps e 0 w
solution_begun f n ps e w q =
    subst (IsSolutionTo f n ps e 0) (sym q) (record {
      word = IsWord_zero f n;
      places = λ k m. absurd (omega (arith, m));
      others = λ c o. index_zero_word n c;
    })

pub solution_step : (f : FieldName) (n m i a : ℕ) (ps : List ℕ) (e : List (List ℕ)) (w new : List ℕ) → HasPivots m ps e → i < length ps → slice_index ps i < n → IsSolutionTo f n ps e i w → a ≡ entry e i n → a < size f → new ≡ set w (slice_index ps i) a → IsSolutionTo f n ps e (i + 1) new
solution_step f n m i a ps e w new h l b q s below t =
    let p = slice_index ps i in
    let room : p < length w = omega (arith, b, q.word.long) in
    subst (IsSolutionTo f n ps e (i + 1)) (sym t) (record {
      word = record {
        long = length-set w p a ∙ q.word.long;
        fits = λ c k. ⊎_elim
            (λ x. subst (λ y. slice_index (set w p a) y < size f) (sym x) (rw (get_or-set_same w p a 0 room) below))
            (λ x. rw (get_or-set_other w p c a 0 x) (word_symbol f n w q.word c))
            (cases_eq c p);
      };
      places = λ k r. ⊎_elim
          (λ x. get_or-set_other w p (slice_index ps k) a 0 (λ y. omega (arith, y, h.rises k i x l)) ∙ q.places k x)
          (λ x.
          let y : k ≡ i = omega (arith, r, x) in
          subst (λ z. slice_index (set w p a) (slice_index ps z) ≡ entry e z n) (sym y) (get_or-set_same w p a 0 room ∙ s))
          (cases_lt k i);
      others = λ c o. get_or-set_other w p c a 0 (λ x. o (at_place ps i c l (sym x))) ∙ q.others c o;
    })

pub solution_done : (f : FieldName) (n i : ℕ) (ps : List ℕ) (e : List (List ℕ)) (w out : List ℕ) → IsSolutionTo f n ps e i w → i ≡ length ps → out ≡ w → IsSolutionWord f n ps e out
solution_done f n i ps e w out q s t =
    subst (IsSolutionWord f n ps e) (sym t) (record {
      word = q.word;
      places = λ k l. q.places k (omega (arith, l, s));
      others = q.others;
    })

pub augmented_more : (rows : List (List ℕ)) (right : List ℕ) (i : ℕ) (xs new : List (List ℕ)) → length right ≡ length rows → i < length rows → xs ≡ take i (augmented rows right) → new ≡ xs ++ (slice_index_or rows i [] ++ slice_index right i ∷ []) ∷ [] → new ≡ take (i + 1) (augmented rows right)
augmented_more rows right i xs new e l q s =
    s ∙ ap (λ ys. ys ++ (slice_index_or rows i [] ++ slice_index right i ∷ []) ∷ []) q ∙ ap (λ y. take i (augmented rows right) ++ y ∷ []) (sym (row_of_augmented rows right i e l)) ∙ sym (take_more (augmented rows right) i [] (omega (arith, l, length_augmented rows right e)))

pub augmented_whole : (rows : List (List ℕ)) (right : List ℕ) (i : ℕ) (xs : List (List ℕ)) → length right ≡ length rows → i ≡ length rows → xs ≡ take i (augmented rows right) → xs ≡ augmented rows right
augmented_whole rows right i xs e l q =
    q ∙ take_all i (augmented rows right) (omega (arith, l, length_augmented rows right e))

pub echelon_shaped : (s a e : Matrix) (right : List ℕ) → a.field ≡ s.field → a.columns ≡ s.columns + 1 → a.rows ≡ augmented s.rows right → IsEchelon a.field a.columns a.rows e.rows → IsEchelon s.field (s.columns + 1) (augmented s.rows right) e.rows
echelon_shaped s a e right x y z h =
    subst (λ u. IsEchelon s.field (s.columns + 1) u e.rows) z (subst (λ u. IsEchelon s.field u a.rows e.rows) y (subst (λ u. IsEchelon u a.columns a.rows e.rows) x h))

pub places_shaped : (s a e : Matrix) (ps : List ℕ) → a.columns ≡ s.columns + 1 → HasPivots a.columns ps e.rows → HasPivots (s.columns + 1) ps e.rows
places_shaped s a e ps y h = subst (λ u. HasPivots u ps e.rows) y h

pub place_told : (ps ds : List ℕ) (n m : ℕ) → ds ≡ ps → n ≡ m → Contains ds n ↔ Contains ps m
place_told ps ds n m e k =
    (λ t. subst (Contains ps) k (subst (λ u. Contains u n) e t), λ t. subst (λ u. Contains u n) (sym e) (subst (Contains ps) (sym k) t))

pub unsolvable_made : (s a e : Matrix) (ps ds right : List ℕ) (n : ℕ) → AreRows s.field s.columns s.rows → IsWord s.field (length s.rows) right → a.field ≡ s.field → a.columns ≡ s.columns + 1 → a.rows ≡ augmented s.rows right → IsEchelon a.field a.columns a.rows e.rows → HasPivots a.columns ps e.rows → ds ≡ ps → n ≡ s.columns → Contains ds n → ((w : List ℕ) × IsWord s.field s.columns w × Solves s.field s.rows right w) → ⊥
unsolvable_made s a e ps ds right n r q x y z h p v u t k =
    no_solution s.field s.columns ps s.rows e.rows right k.0 r q (echelon_shaped s a e right x y z h) (places_shaped s a e ps y p) ((place_told ps ds n s.columns v u).0 t) k.1 k.2

pub inside_made : (s a e : Matrix) (ps ds dt : List ℕ) (n m : ℕ) → a.columns ≡ s.columns + 1 → HasPivots a.columns ps e.rows → ds ≡ ps → n ≡ s.columns → (Contains ds n → ⊥) → dt ≡ ps → m ≡ s.columns → (i : ℕ) → i < length dt → slice_index dt i < m
inside_made s a e ps ds dt n m y p v u o x z i l =
    let a1 : i < length ps = omega (arith, l, ap (length {A = ℕ}) x) in
    let a2 : slice_index ps i < s.columns = inner_place s.columns ps e.rows i (places_shaped s a e ps y p) (λ t. o ((place_told ps ds n s.columns v u).1 t)) a1 in
    omega (arith, a2, ap (λ k. slice_index k i) x, z)

pub solution_made : (s a e : Matrix) (ps ds dt right w : List ℕ) (n m : ℕ) → AreRows s.field s.columns s.rows → IsWord s.field (length s.rows) right → a.field ≡ s.field → a.columns ≡ s.columns + 1 → a.rows ≡ augmented s.rows right → e.field ≡ a.field → IsEchelon a.field a.columns a.rows e.rows → HasPivots a.columns ps e.rows → ds ≡ ps → n ≡ s.columns → (Contains ds n → ⊥) → dt ≡ ps → m ≡ s.columns → IsSolutionWord e.field m dt e.rows w → IsWord s.field s.columns w × Solves s.field s.rows right w
solution_made s a e ps ds dt right w n m r q x y z v h p b d o g j k =
    let k1 : IsSolutionWord s.field m dt e.rows w = subst (λ u. IsSolutionWord u m dt e.rows w) (v ∙ x) k in
    let k2 : IsSolutionWord s.field s.columns dt e.rows w = subst (λ u. IsSolutionWord s.field u dt e.rows w) j k1 in
    let k3 : IsSolutionWord s.field s.columns ps e.rows w = subst (λ u. IsSolutionWord s.field s.columns u e.rows w) g k2 in
    (k3.word, solution_of s.field s.columns ps s.rows e.rows right w r q (echelon_shaped s a e right x y z h) (places_shaped s a e ps y p) (λ t. o ((place_told ps ds n s.columns b d).1 t)) k3)

pub ruleset augment_laws = (augmented_more, augmented_whole)

pub ruleset solution_laws = (solution_begun, solution_step, solution_done)
