-- The certificate of a search has the shape.
--   below_rises, below_inside     the columns 0 to n - 1
--   IsWellMade                    the columns of a set rise and are below n, and so are its fresh ones, which are among them
--   next_made, after_made, sets_made      each information set is well made
--   IsSearched                    what a search knows of its code
--   set_shaped, claims_shaped, sets_shaped    so the sets of the certificate have their shape
--   has_shape, shaped_as          and the certificate has its
use Rattle.std.proofs.Common.{◌≡◌, ℕ, zero, suc, ◌+◌, ◌*◌, ◌^◌, ◌<◌, ◌≤◌, Bool, true, not, cond, nat_le, List, [], ◌∷◌, ◌++◌, length, filter, All, Contains, sym, subst, ⊎_elim, arith}
use Rattle.std.specs.List.Sorted.{IsStrictlyIncreasing}
use Rattle.std.proofs.lemmas.Bool.{cases_Bool}
use Rattle.std.proofs.lemmas.List.Kept.{IsStrictlyIncreasing-filter}
use Rattle.std.proofs.lemmas.List.Elements.{All-nil, All-cons, All-head, All-tail, All-weaker, All-filter}
use Rattle.lc_algebra.specs.declared.FieldName.{FieldName}
use Rattle.lc_algebra.specs.Field.{is_symbol}
use Rattle.lc_algebra.specs.Word.{IsWord}
use Rattle.lc_algebra.specs.Span.{below}
use Rattle.lc_algebra.specs.Matrix.{Matrix, AreRows, column}
use Rattle.lc_algebra.proofs.SpanLaws.{length_below, index_below as place_below}
use Rattle.lc_enumeration.specs.InformationSet.{InformationSet, is_member, greedy, first_basis, columns_in_order, with_fresh, next_set, sets_after, information_sets}
use Rattle.lc_enumeration.specs.Search.{sets_of, set_count, levels_below}
use Rattle.lc_matrix.proofs.PlaceLaws.{index_below}
use Rattle.lc_infoset.proofs.SetLaws.{next_is}
use Rattle.lc_search.proofs.LevelLaws.{levels_few}
use Rattle.lc_formats.specs.Certificate.{Certificate, code_length}
use Rattle.lc_formats.specs.Shape.{IsShapedSet, AreShapedSets, IsShaped}
use Rattle.lc_language.specs.Query.{QueryKind, distance, by_levels, by_scan, claims_at, proof_of, certificate_of}
use Rattle.lc_certify.proofs.ClaimLaws.{made_claim, claims_many}

pub below_rises : (n : ℕ) → IsStrictlyIncreasing (below n)
below_rises n k l =
    let a = index_below n k (omega (arith, l, length_below n)) in
    let b = index_below n (k + 1) (omega (arith, l, length_below n)) in
    omega (arith, a, b)

pub below_inside : (n : ℕ) → All (λ c. c < n) (below n)
below_inside n k d l =
    let e = place_below n k d (omega (arith, l, length_below n)) in
    omega (arith, e, l, length_below n)

pub record IsWellMade (n : ℕ) (s : InformationSet) : Type 0 where
  pub basis_rises : IsStrictlyIncreasing s.basis
  pub basis_inside : All (λ c. c < n) s.basis
  pub fresh_rises : IsStrictlyIncreasing s.fresh
  pub fresh_inside : All (λ c. c < n) s.fresh
  pub part : All (Contains s.basis) s.fresh

pub next_made : (f : FieldName) (n : ℕ) (rows : List (List ℕ)) (used : List ℕ) → IsWellMade n (next_set f n rows used)
unfolding next_set with_fresh first_basis
next_made f n rows used =
    let taken : ℕ → Bool = is_member (greedy f (length rows) (column rows) [] (columns_in_order n used)) in
    let unused : ℕ → Bool = λ c. not (is_member used c) in
    let basis = filter taken (below n) in
    let rises = IsStrictlyIncreasing-filter taken (below n) (below_rises n) in
    let inside = All-filter taken (λ c. c < n) (below n) (below_inside n) in
    record {
      basis_rises = rises;
      basis_inside = inside;
      fresh_rises = IsStrictlyIncreasing-filter unused basis rises;
      fresh_inside = All-filter unused (λ c. c < n) basis inside;
      part = (next_is f n rows used).part;
    }

pub after_made : (f : FieldName) (n : ℕ) (rows : List (List ℕ)) (most : ℕ) (used : List ℕ) → All (IsWellMade n) (sets_after f n rows used most)
unfolding sets_after
after_made f n rows zero used = All-nil (IsWellMade n)
after_made f n rows (suc most) used =
    let s = next_set f n rows used in
    let rest = sets_after f n rows (used ++ s.fresh) most in
    let goal = λ (b : Bool). All (IsWellMade n) (cond b (s ∷ rest) []) in
    ⊎_elim
    (λ t. subst goal (sym t) (All-cons (IsWellMade n) s rest (next_made f n rows used) (after_made f n rows most (used ++ s.fresh))))
    (λ t. subst goal (sym t) (All-nil (IsWellMade n)))
    (cases_Bool (nat_le (length rows) (2 * length s.fresh)))

pub sets_made : (C : Matrix) → All (IsWellMade C.columns) (sets_of C)
unfolding sets_of information_sets
sets_made C =
    let s = next_set C.field C.columns C.rows [] in
    All-cons (IsWellMade C.columns) s (sets_after C.field C.columns C.rows s.fresh C.columns) (next_made C.field C.columns C.rows []) (after_made C.field C.columns C.rows C.columns s.fresh)

pub set_shaped : (n w : ℕ) (s : InformationSet) → IsWellMade n s → w < 2 ^ 64 → IsShapedSet n (made_claim s w)
set_shaped n w s h l = record { basis_rises = h.basis_rises; basis_inside = h.basis_inside; fresh_rises = h.fresh_rises; fresh_inside = h.fresh_inside; level_fits = l; part = h.part }

pub claims_shaped : (n : ℕ) (sets : List InformationSet) (ws : List ℕ) → All (IsWellMade n) sets → All (λ w. w < 2 ^ 64) ws → All (IsShapedSet n) (claims_at sets ws)
unfolding claims_at
claims_shaped n [] ws a b = All-nil (IsShapedSet n)
claims_shaped n (s ∷ sets) [] a b = All-nil (IsShapedSet n)
claims_shaped n (s ∷ sets) (w ∷ ws) a b =
    All-cons (IsShapedSet n) (made_claim s w) (claims_at sets ws)
    (set_shaped n w s (All-head (IsWellMade n) s sets a) (All-head (λ w. w < 2 ^ 64) w ws b))
    (claims_shaped n sets ws (All-tail (IsWellMade n) s sets a) (All-tail (λ w. w < 2 ^ 64) w ws b))

-- what a search knows of its code
pub record IsSearched (C : Matrix) : Type 0 where
  pub symbol : is_symbol C.field ≡ true
  pub some_columns : 1 ≤ C.columns
  pub few_columns : C.columns ≤ 255
  pub some_rows : 1 ≤ length C.rows
  pub few_rows : length C.rows ≤ C.columns
  pub words : AreRows C.field C.columns C.rows
  pub some_sets : 1 ≤ set_count C
  pub few_sets : set_count C ≤ C.columns

pub sets_shaped : (kind : QueryKind) (C : Matrix) (l : ℕ) → IsSearched C → AreShapedSets C.columns (proof_of kind C l)
unfolding proof_of
sets_shaped distance C l h = tt
sets_shaped by_scan C l h = tt
sets_shaped by_levels C l h =
    let many = claims_many C l in (
      omega (arith, many, h.some_sets),
      omega (arith, many, h.few_sets, h.few_columns),
      claims_shaped C.columns (sets_of C) (levels_below C l) (sets_made C) (All-weaker (λ w. w ≤ length C.rows) (λ w. w < 2 ^ 64) (λ w m. omega (arith, m, h.few_rows, h.few_columns)) (levels_below C l) (levels_few C l)),
    )

pub has_shape : (kind : QueryKind) (C : Matrix) (w : List ℕ) (d l : ℕ) → IsSearched C → IsWord C.field C.columns w → 1 ≤ d → d < 2 ^ 64 → IsShaped (certificate_of kind C w d l)
unfolding certificate_of code_length
has_shape kind C w d l h word positive fits =
    let e = sym word.long in
    record {
      field_fits = h.symbol;
      has_rows = h.some_rows;
      few_rows = omega (arith, h.few_rows, h.few_columns);
      has_columns = omega (arith, e, h.some_columns);
      few_columns = omega (arith, e, h.few_columns);
      rows_fit = subst (λ n. AreRows C.field n C.rows) e h.words;
      word_fits = subst (λ n. IsWord C.field n w) e word;
      positive = positive;
      distance_fits = fits;
      sets_fit = subst (λ n. AreShapedSets n (proof_of kind C l)) e (sets_shaped kind C l h);
    }

pub shaped_as : (c : Certificate) (kind : QueryKind) (C : Matrix) (w : List ℕ) (d l : ℕ) → c ≡ certificate_of kind C w d l → IsSearched C → IsWord C.field C.columns w → 1 ≤ d → d < 2 ^ 64 → IsShaped c
shaped_as c kind C w d l is h word positive fits = subst IsShaped (sym is) (has_shape kind C w d l h word positive fits)
