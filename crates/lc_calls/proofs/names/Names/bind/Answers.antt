use Rattle.lc_calls.proofs.NameLaws.{bound_anew}
use Rattle.lc_calls.proofs.names.Names.bind.Goals as goal

pub returns-clause-bound : goal.returns-clause-bound
returns-clause-bound c = rw (← c.self.view_is) (bound_anew c.self.inside.values c.insert.new.self c.args.name c.args.value c.in_ok-insert.ensures.updates)
