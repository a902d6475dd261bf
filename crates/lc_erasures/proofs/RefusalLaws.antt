-- The first refusal of each function.
--   erased_sinking, erased_outside, erased_fine      the coordinates of erased symbols
use Rattle.std.proofs.Common.{◌≡◌, ℕ, true, false, nat_le, Some, None, List, refl, subst}
use Rattle.std.specs.List.{list_any}
use Rattle.lc_algebra.specs.Matrix.{Matrix}
use Rattle.lc_constructions.specs.declared.refusal.CodeRefusal.TheVariants.{BadPositions}
use Rattle.lc_constructions.specs.Refusal.{refuse_if, first_refusal}
use Rattle.lc_constructions.specs.Refusals.{is_rising}
use Rattle.lc_language.specs.Erasures.{erased_refusals}

pub erased_sinking : (C : Matrix) (erased : List ℕ) → is_rising erased ≡ false → first_refusal (erased_refusals C erased) ≡ Some BadPositions
unfolding first_refusal refuse_if erased_refusals
erased_sinking C erased e = rw e refl

pub erased_outside : (C : Matrix) (erased : List ℕ) (n : ℕ) → is_rising erased ≡ true → n ≡ C.columns → list_any (nat_le n) erased ≡ true → first_refusal (erased_refusals C erased) ≡ Some BadPositions
unfolding first_refusal refuse_if erased_refusals
erased_outside C erased n e l o = let t : list_any (nat_le C.columns) erased ≡ true = subst (λ m. list_any (nat_le m) erased ≡ true) l o in rw (e, t) refl

pub erased_fine : (C : Matrix) (erased : List ℕ) (n : ℕ) → is_rising erased ≡ true → n ≡ C.columns → list_any (nat_le n) erased ≡ false → first_refusal (erased_refusals C erased) ≡ None
unfolding first_refusal refuse_if erased_refusals
erased_fine C erased n e l o = let t : list_any (nat_le C.columns) erased ≡ false = subst (λ m. list_any (nat_le m) erased ≡ false) l o in rw (e, t) refl

pub ruleset check_erased_laws = (erased_sinking, erased_outside, erased_fine)
