use Rattle.std.proofs.Common.{ap, ◌∙◌, arith, codes, string_bytes}
use Rattle.std.proofs.lemmas.List.{length-map}
use Rattle.lc_arguments.specs.Asked.{words_of}
use Rattle.lc_share.specs.Asked.{value_in}
use Rattle.lc_share.proofs.WordLaws.{one_worker, more_workers}
use Rattle.lc_share.proofs.arguments.workers_in.Goals as goal

pub returns-then-arguments-le3-clause-is : goal.returns-then-arguments-le3-clause-is
returns-then-arguments-le3-clause-is c = one_worker (words_of c.args.arguments.now) (omega (arith, length-map c.args.arguments.now string_bytes, c.if-arguments-le3.true))

pub returns-clause-is : goal.returns-clause-is
returns-clause-is c =
    c.value_in.ensures.is ∙ ap (value_in (codes "workers") 1 256) c.word.ensures
    ∙ more_workers (words_of c.args.arguments.now) (omega (arith, length-map c.args.arguments.now string_bytes, c.if-arguments-le3.false))
