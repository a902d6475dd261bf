use Rattle.lc_place.proofs.Counting.{table_none, table_more, start_first, start_next}
use Rattle.lc_place.proofs.table.Size.starts.Goals as goal

pub loop-level-init : goal.loop-level-init
loop-level-init c = record {
  entries = table_none _ _ c.new-table.ensures.items;
  next = start_first _ _ _;
}

pub loop-level-preserved : goal.loop-level-preserved
loop-level-preserved c = record {
  entries = table_more _ _ _ _ _ c.loop-level.invariant.entries c.in_ok-push.ensures.items c.loop-level.invariant.next;
  next = rw (c.min-start.ensures, c.saturating_add.ensures, c.saturating_mul.ensures) (start_next c.args.self.now.k c.args.self.now.q c.args.self.now.m c.loop-level.level _ _ c.args.self.now.sets.0 (c.requires.entry c.loop-level.level c.loop-level-test.true) c.loop-level.invariant.next);
}
