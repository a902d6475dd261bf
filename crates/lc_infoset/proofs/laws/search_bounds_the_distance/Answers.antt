use Rattle.lc_infoset.proofs.SearchTruth.{heavy_word, no_word_left, seen_weight, least_weight}
use Rattle.lc_infoset.proofs.laws.search_bounds_the_distance.Goals as goal

pub returns-clause-heavy : goal.returns-clause-heavy
returns-clause-heavy _ = heavy_word

pub returns-clause-none : goal.returns-clause-none
returns-clause-none _ = no_word_left

pub returns-clause-seen : goal.returns-clause-seen
returns-clause-seen _ = seen_weight

pub returns-clause-least : goal.returns-clause-least
returns-clause-least _ = least_weight
