use Rattle.lc_poly.proofs.RootLaws.{minimal_zeros, cyclotomic_roots}
use Rattle.lc_poly.proofs.laws.zeros_of_minimal_polynomials.Goals as goal

pub returns : goal.returns
returns c = record {
  conjugates = λ s a u b l m lb. minimal_zeros c.args.small c.args.large s a u b l m lb;
  cyclotomic = λ s a n i xs u b o h m lb. cyclotomic_roots c.args.small c.args.large s a n i xs u b o h m lb;
}
