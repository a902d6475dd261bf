-- Definitions that a proof opens together, under one name.
--   lines_of_values        the line of a value, a decoder's answer among them
--   certificates_of_forms  the certificate by construction of a form, and what the program's own stands for
--   lines_of_nearest_words      the line of a nearest word
--   lines_of_fillings           the line of a word with erasures
use Rattle.std.specs.Prelude.{⊤}
use Rattle.lc_formats.specs.Claim.{form_certificate}
use Rattle.lc_certificate.specs.Trees.{claim_of, built_of}
use Rattle.lc_language.specs.Meaning.{decoded}
use Rattle.lc_language.specs.Print.{value_line, value_text, filling_line}
use Rattle.lc_formats.specs.Text.{line}
use Rattle.lc_language.specs.Query.{near_text}

unfoldable pub lines_of_values : ⊤
unfolding decoded value_line value_text
lines_of_values = tt

unfoldable pub certificates_of_forms : ⊤
unfolding claim_of built_of form_certificate
certificates_of_forms = tt

unfoldable pub lines_of_nearest_words : ⊤
unfolding line near_text
lines_of_nearest_words = tt

unfoldable pub lines_of_fillings : ⊤
unfolding value_line value_text filling_line
lines_of_fillings = tt
