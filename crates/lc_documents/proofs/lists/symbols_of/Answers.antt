use Rattle.std.proofs.Common.{Some, sym, ap, ◌∙◌, arith}
use Rattle.std.proofs.lemmas.List.{take_all}
use Rattle.lc_documents.proofs.ListLaws.{symbols_whole}
use Rattle.lc_documents.proofs.lists.symbols_of.Goals as goal

pub returns : goal.returns
returns c =
    let numbers = c.args.numbers.now in
    let i = c.loop-number.number-index in
    let made = c.from_vec.ensures.is ∙ c.loop-number.invariant.1 ∙ take_all i numbers (omega (arith, c.loop-number-test.false)) in
    record { is = ap Some made ∙ sym (symbols_whole c.args.limit numbers i (omega (arith, c.loop-number-test.false)) c.loop-number.invariant.0) }
