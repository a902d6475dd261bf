use Rattle.std.proofs.Common.{◌+◌, arith}
use Rattle.lc_trees.proofs.OutcomeLaws.{form_made, no_locator}
use Rattle.lc_trees.proofs.leaves.formed.Goals as goal

pub returns-in-Ok-clause-is : goal.returns-in-Ok-clause-is
returns-in-Ok-clause-is c =
    form_made c.args.field.now c.in-Ok.large c.args.number (c.min.result + 1) c.args.form.now.locator c.args.form.now.points.now c.args.form.now.multipliers.now c.args.form.now.r c.subfield_subcode-code.result c.own.result c.in-Ok.ensures.size (omega (arith, c.min.ensures)) c.subfield_subcode-code.ensures.code c.subfield_subcode-code.ensures.refused c.own.ensures.is

pub returns-in-Err-NotAField-clause-is : goal.returns-in-Err-NotAField-clause-is
returns-in-Err-NotAField-clause-is c =
    no_locator c.args.field.now c.args.number c.args.form.now.locator c.args.form.now.points.now c.args.form.now.multipliers.now c.args.form.now.r (c.in-Err-NotAField.ensures.refused.0 (cc c.in-Err-NotAField.field-0-is))
