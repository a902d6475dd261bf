use Rattle.lc_slots.proofs.ChoiceLaws.{slots_chosen}
use Rattle.lc_slots.proofs.choosing.chosen_by.Goals as goal

pub returns-clause-is : goal.returns-clause-is
returns-clause-is g c =
    slots_chosen (g.V.Vault.contents c.args.vault.now) (g.V.Vault.contents c.held_by.new.vault) _ _ c.later_of.result c.later_of.ensures c.in_ok-zero.ensures.same c.in_ok-zero.ensures.is c.in_ok-one.ensures.is
