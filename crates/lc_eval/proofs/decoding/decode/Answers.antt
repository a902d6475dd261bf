use Rattle.std.proofs.Common.{ap}
use Rattle.std.proofs.Common.{Err}
use Rattle.lc_calls.specs.Value.{value_of}
use Rattle.std.proofs.lemmas.Result.{err_from_is_err_and}
use Rattle.lc_eval.proofs.DecodeLaws.{decode_fault, decode_many, decode_told}
use Rattle.lc_eval.proofs.decoding.decode.Goals as goal

pub returns-in_err-word : goal.returns-in_err-word
returns-in_err-word c =
    let p = err_from_is_err_and c.from_residual.result c.from_residual.ensures.1 in
    rw (p.1, p.2) (decode_fault c.args.offset c.args.code.now c.args.list.now c.in_err-word.field-0.0 c.in_err-word.ensures)

pub returns-in-Ok : goal.returns-in-Ok
returns-in-Ok c =
    decode_told c.args.offset c.args.code.now c.args.list.now c.symbols.result.now c.in-Ok.near.items c.deref.result.now (value_of c.in_ok-word_value-in-Ok.field-0) (rw (← c.symbols.ensures.are) at c.in_ok-word.ensures) c.in-Ok.ensures.few c.in-Ok.ensures.nearest c.deref.ensures.value c.in_ok-word_value-in-Ok.ensures

pub returns-in-Err-TooManyCosets : goal.returns-in-Err-TooManyCosets
returns-in-Err-TooManyCosets c =
    decode_many c.args.offset c.args.code.now c.args.list.now c.in_ok-word.word c.in-Err-TooManyCosets.n c.in_ok-too_many_cosets-in-Err-TooManyCosets.field-0 c.in_ok-word.ensures (c.in-Err-TooManyCosets.ensures.refused c.in-Err-TooManyCosets.n (ap Err c.in-Err-TooManyCosets.field-0-is)) c.in_ok-too_many_cosets-in-Err-TooManyCosets.ensures
