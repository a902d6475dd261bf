-- The part and the facts that a `Part` and a `Facts` stand for.
--   part_of p                the part
--   facts_seen f             the facts
use Rattle.lc_parts.specs.Part as meant
use Rattle.lc_parts.specs.declared.part.Part.{Part}
use Rattle.lc_parts.specs.declared.part.Facts.{Facts}

abbrev pub part_of : Part → meant.Part
part_of p = record { start = p.start; count = p.count; weight = p.weight; place = p.place }

abbrev pub facts_seen : Facts → meant.Facts
facts_seen f = record { k = f.k; q = f.q; ranks = f.ranks.items; divisor = f.divisor; first = f.first }
