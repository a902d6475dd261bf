use Rattle.std.proofs.Common.{◌∙◌}
use Rattle.lc_grammar.specs.Token.{text_of}
use Rattle.lc_parse.proofs.Parsing.{number_found}
use Rattle.lc_parse.proofs.reading.number_of.Goals as goal

pub returns : goal.returns
unfolding text_of
returns c = c.unwrap_or.ensures ∙ number_found c.value_of.result (text_of c.args.source.now.bytes.now c.args.token.now) c.value_of.ensures (c.requires.within.fits c.requires.number)
