use Rattle.lc_calls.specs.Value.{value_of}
use Rattle.lc_eval.proofs.ResidueCalls.{residue_fault, residue_none, residue_made}
use Rattle.lc_eval.proofs.cyclic.qr_code.Goals as goal

pub returns-in_ok-code_value-in-Ok-Some : goal.returns-in_ok-code_value-in-Ok-Some
returns-in_ok-code_value-in-Ok-Some c =
    residue_made c.args.offset c.args.n c.args.field.now c.in-Ok-Some.field-0 c.in-Ok-Some.code (value_of c.in_ok-code_value-in-Ok-Some.field-0) c.in-Ok-Some.ensures.refused c.in-Ok-Some.ensures.code c.in-Ok-Some.ensures.exact c.in-Ok-Some.field-0-is c.in_ok-code_value-in-Ok-Some.ensures

pub returns-in-Ok-None : goal.returns-in-Ok-None
returns-in-Ok-None c =
    residue_none c.args.offset c.args.n c.args.field.now c.in-Ok-None.field-0 c.fault.result c.in-Ok-None.ensures.refused c.in-Ok-None.ensures.exact c.in-Ok-None.field-0-is c.fault.ensures

pub returns-in-Err : goal.returns-in-Err
returns-in-Err c =
    residue_fault c.args.offset c.args.n c.args.field.now c.in-Err.refusal c.refused_as.result c.in-Err.ensures.refused c.refused_as.ensures.is
