use Rattle.std.proofs.Common.{Some, sym, ap, ◌∙◌}
use Rattle.lc_grammar.specs.Grammar.{deepest}
use Rattle.lc_grammar.proofs.Course.{want, statement, course}
use Rattle.lc_parse.specs.Reading.{ending_of}
use Rattle.lc_parse.proofs.Parsing.{step_target, step_no_target}
use Rattle.lc_parse.proofs.reading.target.Goals as goal

pub returns-in-None-clause-read : goal.returns-in-None-clause-read
returns-in-None-clause-read c = λ ss. step_no_target c.args.source.now.bytes.now c.args.source.now.ending ss c.args.tokens.now c.requires.some c.in-None.ensures

pub returns-in_ok-name_of-in-Some-clause-read : goal.returns-in_ok-name_of-in-Some-clause-read
returns-in_ok-name_of-in-Some-clause-read c =
    let rest = c.in-Some.rest.now in
    λ ss. step_target c.args.source.now.bytes.now c.args.source.now.ending ss c.args.tokens.now c.in-Some.first.now rest c.in-Some.ensures
    ∙ ap (λ x. course c.args.source.now.bytes.now deepest (want (statement ss (Some x))) rest (ending_of c.args.source.now.ending)) (sym c.in_ok-name_of-in-Some.ensures.text)
