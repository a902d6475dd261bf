-- The parts of the certificate of a search.
--   kind_of way              how the certificate proves its distance, as the definitions of queries name it
--   claim_at C l j           information set j of the code C, with its last level whose messages are all done after l blocks
use Rattle.std.specs.Prelude.{ℕ}
use Rattle.lc_algebra.specs.Matrix.{Matrix}
use Rattle.lc_enumeration.specs.Search.{level_below}
use Rattle.lc_infoset.specs.Bound.{set_at}
use Rattle.lc_formats.specs.Certificate.{SetClaim}
use Rattle.lc_language.specs.Query.{QueryKind, by_levels, by_scan}
use Rattle.lc_certify.specs.declared.way.Way.{Way}
use Rattle.lc_certify.specs.declared.way.Way.TheVariants.{Levels, Scan}

unfoldable pub kind_of : Way → QueryKind
kind_of Levels = by_levels
kind_of Scan = by_scan

abbrev pub claim_at : Matrix → ℕ → ℕ → SetClaim
claim_at C l j = record { basis = (set_at C j).basis; fresh = (set_at C j).fresh; level = level_below C l j }
