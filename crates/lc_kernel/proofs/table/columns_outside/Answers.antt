use Rattle.std.proofs.Common.{not, [], ◌∙◌}
use Rattle.lc_enumeration.specs.InformationSet.{is_member}
use Rattle.lc_infoset.proofs.NextLaws.{filter_none}
use Rattle.lc_kernel.proofs.table.columns_outside.Goals as goal

pub loop-c-init : goal.loop-c-init
loop-c-init c = c.new-columns.ensures.items ∙ filter_none (λ x. not (is_member c.args.set.now x)) []
