-- Definitions that a proof opens together, under one name.
--   facts                    what the plan and the bound of a search are made of
use Rattle.std.specs.Prelude.{⊤}
use Rattle.lc_parts.specs.Part.{facts_of}

unfoldable pub facts : ⊤
unfolding facts_of
facts = tt
