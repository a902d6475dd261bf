use Rattle.std.proofs.Common.{◌<◌, All}
use Rattle.lc_matrix.specs.Elimination.{IsInOrder}
use Rattle.lc_matrix.proofs.forms.columns.Given as goal

abbrev pub invariant-loop-c : goal.invariant-loop-c
invariant-loop-c l = record {
  are : IsInOrder l.c l.order.items;
  inside : All (λ x. x < l.n) l.order.items;
}
