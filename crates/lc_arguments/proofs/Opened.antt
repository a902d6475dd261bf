-- Definitions that a proof opens together, under one name.
--   keys_and_numbers      what an argument puts into the settings, and the widest number of a script
use Rattle.std.specs.Prelude.{⊤}
use Rattle.lc_grammar.specs.Token.{widest}
use Rattle.lc_session_rules.specs.Options.{put_key}

unfoldable pub keys_and_numbers : ⊤
unfolding put_key widest
keys_and_numbers = tt
