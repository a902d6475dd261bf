-- What an accepted document of either version proves, as the contract of a session says it too. `lc_trees` proves the laws.
--   IsVerdict read v         what a checker says of what was read: the reason for which it is no document; the verdict on a certificate;
--                            that on a certificate by construction
--   IsProvenTree b           the claim of a certificate by construction defines a code, and its distance is that code's
--   Proves d                 the distance that the document states is that of its rows, or of the code that its claim defines
--   SoundClaims              the law of claims: a claim of the stated shape that defines a code defines one that has its bound
--   SoundTrees               the law of a checker: a certificate by construction of the stated shape that is valid proves its distance
use Rattle.std.specs.Prelude.{◌≡◌, ℕ}
use Rattle.lc_algebra.specs.declared.FieldName.{FieldName}
use Rattle.lc_algebra.specs.Span.{IsDistance, IsWeightBound}
use Rattle.lc_algebra.specs.Matrix.{Matrix}
use Rattle.lc_formats.specs.Certificate.{Verdict, rejected, verdict, code_length}
use Rattle.lc_formats.specs.Claim.{Claim, Built, Document, plain, tree}
use Rattle.lc_formats.specs.ClaimMeaning.{Denotes, IsValidTree, IsTreeVerdict}
use Rattle.lc_formats.specs.Document.{DocumentRead, document, no_document, IsShapedClaim, IsShapedTree}

abbrev pub IsVerdict : DocumentRead → Verdict → Type 0
IsVerdict (no_document r) v = v ≡ rejected r
IsVerdict (document (plain c)) v = v ≡ verdict c
IsVerdict (document (tree b)) v = IsTreeVerdict b v

pub record IsProvenTree (b : Built) : Type 0 where
  pub code : Matrix
  pub bound : ℕ
  pub denotes : Denotes b.field b.claim code bound
  pub proves : IsDistance code.field code.columns code.rows b.distance

abbrev pub Proves : Document → Type 0
Proves (plain c) = IsDistance c.field (code_length c) c.rows c.distance
Proves (tree b) = IsProvenTree b

abbrev pub SoundClaims : Type 0
SoundClaims = (f : FieldName) (claim : Claim) (C : Matrix) (b : ℕ) → IsShapedClaim f claim → Denotes f claim C b → IsWeightBound C.field C.columns C.rows b

abbrev pub SoundTrees : Type 0
SoundTrees = (b : Built) → IsShapedTree b → (v : IsValidTree b) → IsDistance v.code.field v.code.columns v.code.rows b.distance
