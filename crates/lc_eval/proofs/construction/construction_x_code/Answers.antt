use Rattle.lc_calls.specs.Value.{value_of}
use Rattle.lc_eval.proofs.ConstructionCalls.{x_made}
use Rattle.lc_eval.proofs.construction.construction_x_code.Goals as goal

pub returns-in_ok-code_value-in-Ok : goal.returns-in_ok-code_value-in-Ok
returns-in_ok-code_value-in-Ok c =
    x_made c.args.offset c.args.c.now c.args.d.now c.args.e.now c.in-Ok.code (value_of c.in_ok-code_value-in-Ok.field-0) c.in-Ok.ensures.code c.in-Ok.ensures.refused c.in_ok-code_value-in-Ok.ensures
