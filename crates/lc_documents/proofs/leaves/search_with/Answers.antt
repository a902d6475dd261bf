use Rattle.std.proofs.Common.{arith}
use Rattle.lc_certificate.specs.Seen.{proof_of}
use Rattle.lc_documents.proofs.LeafLaws.{some_keys}
use Rattle.lc_documents.proofs.leaves.search_with.Goals as goal

pub overflow_sub-key_count : goal.overflow_sub-key_count
overflow_sub-key_count c = omega (arith, c.key_count.ensures.is, some_keys (proof_of c.args.cert.basis_of))
