-- The filling that an answer stands for.
--   filling_of a      the filling
use Rattle.lc_language.specs.Erasures as language
use Rattle.lc_erasures.specs.declared.erasures.Filling.{Filling}
use Rattle.lc_erasures.specs.declared.erasures.Filling.TheVariants.{Filled, Unfilled, Ambiguous}

abbrev pub filling_of : Filling → language.Filling
filling_of (Filled w) = language.filled w
filling_of Unfilled = language.unfilled
filling_of Ambiguous = language.ambiguous
