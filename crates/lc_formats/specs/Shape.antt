-- The shape of a certificate: what the rules of its format and the limits say of it, each fact by itself. A certificate that was
-- read has it, and so must one that is written or checked.
--   IsShapedSet n claim      an information set as it stands in a certificate of a code of length n
--   AreShapedSets n proof    at least one and at most 255 such sets; a scan has none
--   IsShaped c               the certificate's field, rows, word, distance and sets are as the format wants them
--   Sound                    the law of a checker: a valid certificate of this shape proves its distance
use Rattle.std.specs.Prelude.{◌≡◌, ℕ, ◌^◌, ◌<◌, ◌≤◌, true, length, All, Contains, ⊤}
use Rattle.std.specs.List.Sorted.{IsStrictlyIncreasing}
use Rattle.lc_algebra.specs.Field.{is_symbol}
use Rattle.lc_algebra.specs.Word.{IsWord}
use Rattle.lc_algebra.specs.Matrix.{AreRows}
use Rattle.lc_constructions.specs.Code.{longest}
use Rattle.lc_algebra.specs.Span.{IsDistance}
use Rattle.lc_formats.specs.Certificate.{IsValid, Certificate, SetClaim, Proof, scan, levels, code_length}

pub record IsShapedSet (n : ℕ) (claim : SetClaim) : Type 0 where
  pub basis_rises : IsStrictlyIncreasing claim.basis
  pub basis_inside : All (λ place. place < n) claim.basis
  pub fresh_rises : IsStrictlyIncreasing claim.fresh
  pub fresh_inside : All (λ place. place < n) claim.fresh
  pub level_fits : claim.level < 2 ^ 64
  pub part : All (Contains claim.basis) claim.fresh

abbrev pub AreShapedSets : ℕ → Proof → Type 0
AreShapedSets n scan = ⊤
AreShapedSets n (levels claims) = (1 ≤ length claims) × (length claims ≤ longest) × All (IsShapedSet n) claims

pub record IsShaped (c : Certificate) : Type 0 where
  pub field_fits : is_symbol c.field ≡ true
  pub has_rows : 1 ≤ length c.rows
  pub few_rows : length c.rows ≤ longest
  pub has_columns : 1 ≤ code_length c
  pub few_columns : code_length c ≤ longest
  pub rows_fit : AreRows c.field (code_length c) c.rows
  pub word_fits : IsWord c.field (code_length c) c.word
  pub positive : 1 ≤ c.distance
  pub distance_fits : c.distance < 2 ^ 64
  pub sets_fit : AreShapedSets (code_length c) c.proof

abbrev pub Sound : Type 0
Sound = (c : Certificate) → IsShaped c → IsValid c → IsDistance c.field (code_length c) c.rows c.distance
