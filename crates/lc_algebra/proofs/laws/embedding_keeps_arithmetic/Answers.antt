use Rattle.lc_algebra.proofs.FieldRecords.{is_embedding}
use Rattle.lc_algebra.proofs.laws.embedding_keeps_arithmetic.Goals as goal

pub returns-clause-embedding : goal.returns-clause-embedding
returns-clause-embedding c = is_embedding c.args.small c.args.large
