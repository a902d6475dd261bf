-- Definitions that a proof opens together, under one name.
--   certificates      the certificate of a search, as the program and as the definitions of queries see it
use Rattle.std.specs.Prelude.{⊤}
use Rattle.lc_language.specs.Query.{certificate_of}
use Rattle.lc_certificate.specs.Seen.{certificate_of as seen_certificate}

unfoldable pub certificates : ⊤
unfolding seen_certificate certificate_of
certificates = tt
