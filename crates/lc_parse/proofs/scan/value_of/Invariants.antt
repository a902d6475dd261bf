use Rattle.std.proofs.Common.{◌≡◌, drop}
use Rattle.lc_grammar.specs.Token.{number_from, number_of}
use Rattle.lc_parse.proofs.scan.value_of.Given as goal

abbrev pub invariant-loop-b : goal.invariant-loop-b
invariant-loop-b l = number_from l.n (drop l.b-index l.text) ≡ number_of l.text
