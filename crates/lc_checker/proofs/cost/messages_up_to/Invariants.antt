use Rattle.std.proofs.Common.{◌≡◌, ◌-◌, ◌^◌}
use Rattle.lc_formats.specs.Certificate.{messages_through}
use Rattle.lc_checker.specs.Cost.{capped, IsThrough}
use Rattle.lc_checker.proofs.cost.messages_up_to.Given as goal

abbrev pub invariant-loop-level : goal.invariant-loop-level
invariant-loop-level l = record {
  total : l.total ≡ capped (messages_through l.k l.q (l.level - 1));
  power : l.power ≡ capped ((l.q - 1) ^ (l.level - 1));
  table : IsThrough l.k l.q l.level l.table.items;
}
