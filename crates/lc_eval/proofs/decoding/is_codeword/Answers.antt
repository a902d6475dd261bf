use Rattle.std.proofs.lemmas.Result.{err_from_is_err_and}
use Rattle.lc_eval.proofs.DecodeLaws.{codeword_fault, codeword_told}
use Rattle.lc_eval.proofs.decoding.is_codeword.Goals as goal

pub returns-in_err-word : goal.returns-in_err-word
returns-in_err-word c =
    let p = err_from_is_err_and c.from_residual.result c.from_residual.ensures.1 in
    rw (p.1, p.2) (codeword_fault c.args.offset c.args.code.now c.args.list.now c.in_err-word.field-0.0 c.in_err-word.ensures)

pub returns : goal.returns
returns c = codeword_told c.args.offset c.args.code.now c.args.list.now c.symbols-2.result.now c.contains.result (rw (← c.symbols-2.ensures.are) at c.in_ok-word.ensures) c.contains.ensures.is
