use Rattle.lc_grammar.specs.Token.{text_of}
use Rattle.lc_parse.proofs.Parsing.{name_ascii}
use Rattle.lc_parse.proofs.reading.name_of.Goals as goal

pub returns-clause-text : goal.returns-clause-text
unfolding text_of
returns-clause-text c = c.in_ok-from_utf8_lossy.ensures.ok (name_ascii c.args.source.now.bytes.now c.args.token.now c.requires.within c.requires.name)
