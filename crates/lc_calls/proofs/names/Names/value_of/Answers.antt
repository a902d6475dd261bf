use Rattle.lc_calls.proofs.NameLaws.{named_value}
use Rattle.lc_calls.proofs.names.Names.value_of.Goals as goal

pub returns : goal.returns
returns c = rw (← c.self.view_is) (named_value c.args.name.now c.self.inside.values c.get.result c.get.ensures.value)
