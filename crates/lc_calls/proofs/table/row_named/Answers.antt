use Rattle.lc_calls.proofs.TableLaws.{row_found}
use Rattle.lc_calls.proofs.table.row_named.Goals as goal

pub returns : goal.returns
returns c = row_found c.args.name.now c.table.result.now c.row_with.result c.table.ensures.calls c.table.ensures.names c.table.ensures.forms c.row_with.ensures
