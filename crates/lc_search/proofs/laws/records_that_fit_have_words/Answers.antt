use Rattle.lc_search.proofs.FitLaws.{fitting_word, fits_after}
use Rattle.lc_search.proofs.laws.records_that_fit_have_words.Goals as goal

pub returns-clause-word : goal.returns-clause-word
returns-clause-word _ = fitting_word

pub returns-clause-after : goal.returns-clause-after
returns-clause-after _ = fits_after
