use Rattle.lc_relations.proofs.CosetLaws.{zero_syndrome, same_syndrome}
use Rattle.lc_relations.proofs.laws.syndromes_tell_cosets.Goals as goal

pub returns : goal.returns
returns c = record { zero = zero_syndrome; same = same_syndrome }
