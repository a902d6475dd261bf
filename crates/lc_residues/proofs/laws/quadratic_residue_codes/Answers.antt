use Rattle.lc_residues.proofs.PeriodLaws.{least_period, none_before}
use Rattle.lc_residues.proofs.PrimeFieldLaws.{periods_apart}
use Rattle.lc_residues.proofs.ExchangeLaws.{other_inside}
use Rattle.lc_residues.proofs.DimensionLaws.{residue_dimension, common_constant, is_quadratic_residue}
use Rattle.lc_residues.proofs.laws.quadratic_residue_codes.Goals as goal

pub returns : goal.returns
returns c = record {
  least = least_period c.args.field;
  first = none_before c.args.field;
  other = λ n t y l a m e. let p = periods_apart c.args.field n t y l a m e in (other_inside c.args.field t, p.0, p.1);
  dimension = residue_dimension c.args.field;
  common = common_constant c.args.field;
  code = is_quadratic_residue c.args.field;
}
