-- What is said of bytes as a certificate of either version.
--   judgment reason          the verdict: accepted, or rejected for the reason if there is one
--   IsAcceptedRead read      the bytes are a document that proves its distance
--   IsSaid read text reason  the text is what `check` prints of bytes that read so, the verdict is right, and what is accepted is proved
use Rattle.std.specs.Prelude.{◌≡◌, ℕ, List, Option, Some, None}
use Rattle.lc_formats.specs.Certificate as formats
use Rattle.lc_formats.specs.Claim.{Document}
use Rattle.lc_formats.specs.Document.{DocumentRead, document, IsCheckLine}
use Rattle.lc_formats.specs.Proven.{IsVerdict, Proves}
use Rattle.lc_checker.specs.Verdict.{reason_of}
use Rattle.lc_checker.specs.declared.verdict.Reason.{Reason}

abbrev pub judgment : Option Reason → formats.Verdict
judgment None = formats.accepted
judgment (Some r) = formats.rejected (reason_of r)

pub record IsAcceptedRead (read : DocumentRead) : Type 0 where
  pub read_as : Document
  pub reads : read ≡ document read_as
  pub proves : Proves read_as

pub record IsSaid (read : DocumentRead) (text : List ℕ) (reason : Option Reason) : Type 0 where
  pub line : IsCheckLine read text
  pub verdict : IsVerdict read (judgment reason)
  pub proof : reason ≡ None → IsAcceptedRead read
