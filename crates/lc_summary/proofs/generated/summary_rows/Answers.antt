use Rattle.std.proofs.Common.{arith}
use Rattle.lc_summary.proofs.RowLaws.{rows_first, rows_more, rows_whole}
use Rattle.lc_summary.proofs.generated.summary_rows.Goals as goal

pub loop-i-init : goal.loop-i-init
loop-i-init c = rows_first c.args.seed c.in_ok-rows.rows.items c.seed_from_u64-generator.result c.in_ok-rows.ensures.items c.seed_from_u64-generator.ensures

pub loop-i-preserved : goal.loop-i-preserved
loop-i-preserved c =
    rw c.in_ok-push.ensures.items
    (rows_more _ c.loop-i.rows.items c.loop-i.i c.next_word.result c.loop-i.generator c.next_word.new.self c.in_ok-summary_row.field-0 (omega arith) c.loop-i.invariant c.next_word.ensures c.in_ok-summary_row.ensures)

pub returns : goal.returns
returns c = rows_whole _ c.loop-i.rows.items c.loop-i.i c.loop-i.generator (omega arith) c.loop-i.invariant
