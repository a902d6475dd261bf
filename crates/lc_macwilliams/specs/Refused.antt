-- The sizes with which a weight distribution is refused.
--   refused_sizes r            the dimension of a code and of its dual, as the refusal says them
use Rattle.lc_enumeration.specs.Distribution.{NoDistribution}
use Rattle.lc_macwilliams.specs.declared.refusals.DistributionRefusal.{DistributionRefusal}

abbrev pub refused_sizes : DistributionRefusal → NoDistribution
refused_sizes r = record { dimension = r.dimension; codimension = r.codimension }
