use Rattle.lc_coset_laws.proofs.PatternLaws.{pattern_reaches, length-patterns}
use Rattle.lc_coset_laws.proofs.laws.patterns_reach_each_word.Goals as goal

pub returns-clause-reached : goal.returns-clause-reached
returns-clause-reached c = pattern_reaches c.args.field

pub returns-clause-count : goal.returns-clause-count
returns-clause-count _ = length-patterns
