use Rattle.lc_circulant.proofs.RowLaws.{one_circulant}
use Rattle.lc_circulant.proofs.PartLaws.{circulants_closed, circulants_contain, circulants_smallest, circulant_cyclic, circulant_smallest}
use Rattle.lc_circulant.proofs.laws.circulants_shift.Goals as goal

pub returns : goal.returns
returns c = record {
  closed = circulants_closed;
  contains = circulants_contain;
  smallest = circulants_smallest;
  one = one_circulant;
  cyclic = circulant_cyclic;
  smallest_cyclic = circulant_smallest;
}
