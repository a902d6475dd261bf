use Rattle.lc_parts.proofs.CoverLaws.{covered_best, joined_best, part_begun, part_longer}
use Rattle.lc_parts.proofs.laws.parts_have_the_best_word.Goals as goal

pub returns-clause-covered : goal.returns-clause-covered
returns-clause-covered _ = covered_best

pub returns-clause-joined : goal.returns-clause-joined
returns-clause-joined _ = joined_best

pub returns-clause-begun : goal.returns-clause-begun
returns-clause-begun _ = part_begun

pub returns-clause-longer : goal.returns-clause-longer
returns-clause-longer _ = part_longer
