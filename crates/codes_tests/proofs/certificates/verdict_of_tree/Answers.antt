use Rattle.lc_certificate.specs.Trees.{document_of}
use Rattle.codes_tests.proofs.certificates.verdict_of_tree.Goals as goal

pub check_built-requires : goal.check_built-requires
unfolding document_of
check_built-requires c = record { shaped = rw c.in-Tree.is at c.requires.shaped }
