-- What the answers of a reader of certificates of either version mean.
--   IsUnreadAs e read        the bytes are refused for this reason; nothing is said for want of memory
--   IsShapedDocument d       the certificate has the shape of its version
use Rattle.std.specs.Prelude.{◌≡◌, ⊤}
use Rattle.lc_certificate.specs.declared.refusal.CertRefusal.{CertRefusal}
use Rattle.lc_certificate.specs.declared.refusal.CertRefusal.TheVariants.{NotJson, Shape, Limit, NoMemory}
use Rattle.lc_formats.specs.Certificate.{not_json, shape, limit}
use Rattle.lc_formats.specs.Claim.{Document, plain, tree}
use Rattle.lc_formats.specs.Shape.{IsShaped}
use Rattle.lc_formats.specs.Document.{DocumentRead, no_document, IsShapedTree}

abbrev pub IsUnreadAs : CertRefusal → DocumentRead → Type 0
IsUnreadAs NotJson read = read ≡ no_document not_json
IsUnreadAs (Shape rule) read = read ≡ no_document (shape rule)
IsUnreadAs Limit read = read ≡ no_document limit
IsUnreadAs NoMemory read = ⊤

abbrev pub IsShapedDocument : Document → Type 0
IsShapedDocument (plain c) = IsShaped c
IsShapedDocument (tree b) = IsShapedTree b
