use Rattle.lc_infoset.proofs.ExistLaws.{systematic_from_square}
use Rattle.lc_infoset.proofs.SearchTruth.{search_generator, search_dimension, set_part, set_once, sets_apart}
use Rattle.lc_infoset.proofs.laws.information_sets_have_generators.Goals as goal

pub returns-clause-systematic : goal.returns-clause-systematic
returns-clause-systematic c = systematic_from_square c.args.field

pub returns-clause-generator : goal.returns-clause-generator
returns-clause-generator _ = search_generator

pub returns-clause-dimension : goal.returns-clause-dimension
returns-clause-dimension _ = search_dimension

pub returns-clause-part : goal.returns-clause-part
returns-clause-part _ = set_part

pub returns-clause-once : goal.returns-clause-once
returns-clause-once _ = set_once

pub returns-clause-apart : goal.returns-clause-apart
returns-clause-apart _ = sets_apart
