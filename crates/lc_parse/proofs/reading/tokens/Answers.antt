use Rattle.std.proofs.Common.{length, Vec, Global}
use Rattle.lc_grammar.specs.Token.{scan}
use Rattle.lc_grammar.specs.declared.Token.{Token}
use Rattle.lc_parse.proofs.Outcomes.{whole_tokens, whole_unrefused, token_fault, token_readable, token_faulty, no_token_fault, nothing_scanned}
use Rattle.lc_parse.proofs.reading.tokens.Goals as goal

pub returns-in-None-clause-read : goal.returns-in-None-clause-read
returns-in-None-clause-read c = (whole_tokens c.args.bytes.now c.in_ok-tokens.ending c.in_ok-tokens.ensures.ending c.in-None.ensures, c.in_ok-tokens.ensures.tokens)

pub returns-in-None-clause-faulty : goal.returns-in-None-clause-faulty
returns-in-None-clause-faulty c = λ f is. no_token_fault c.in_ok-tokens.ending (scan c.args.bytes.now).ending f c.in_ok-tokens.ensures.ending c.in-None.ensures is

pub returns-in-Some-clause-readable : goal.returns-in-Some-clause-readable
returns-in-Some-clause-readable c = λ whole. token_readable c.in_ok-tokens.ending (scan c.args.bytes.now).ending c.in-Some.refusal (length c.args.bytes.now) _ c.in_ok-tokens.ensures.ending c.in-Some.ensures whole

pub returns-in-Some-clause-fault : goal.returns-in-Some-clause-fault
returns-in-Some-clause-fault c = token_fault c.in_ok-tokens.ending (scan c.args.bytes.now).ending c.in-Some.refusal c.in_ok-tokens.ensures.ending c.in-Some.ensures

pub returns-in-Some-clause-faulty : goal.returns-in-Some-clause-faulty
returns-in-Some-clause-faulty c = λ f is. token_faulty (Vec Token Global) c.in_ok-tokens.ending (scan c.args.bytes.now).ending c.in-Some.refusal f c.in_ok-tokens.ensures.ending c.in-Some.ensures is

pub returns-in-Some-clause-nothing : goal.returns-in-Some-clause-nothing
returns-in-Some-clause-nothing c = λ none. absurd (whole_unrefused c.in_ok-tokens.ending (scan c.args.bytes.now).ending c.in-Some.refusal 0 c.in_ok-tokens.ensures.ending c.in-Some.ensures (nothing_scanned c.args.bytes.now none).1)
