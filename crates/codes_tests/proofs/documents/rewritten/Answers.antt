use Rattle.lc_certificate.specs.Trees.{document_of}
use Rattle.codes_tests.proofs.documents.rewritten.Goals as goal

pub write_built-requires : goal.write_built-requires
unfolding document_of
write_built-requires c = record { shaped = rw c.in-Ok-Tree.field-0-is at c.in-Ok-Tree.ensures.shaped }
