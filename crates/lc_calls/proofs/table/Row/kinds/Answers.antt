use Rattle.std.proofs.Common.{◌==◌, length, option_map, ap, ◌∙◌}
use Rattle.lc_calls.proofs.TableLaws.{find_now}
use Rattle.lc_calls.proofs.table.Row.kinds.Goals as goal

pub returns-in-Some : goal.returns-in-Some
returns-in-Some c = ap (option_map (λ kinds. kinds.now)) c.in-Some.ensures ∙ find_now (λ kinds. length kinds == c.args.count) c.args.self.now.forms.now

pub returns-in-None : goal.returns-in-None
returns-in-None c = ap (option_map (λ kinds. kinds.now)) c.in-None.ensures ∙ find_now (λ kinds. length kinds == c.args.count) c.args.self.now.forms.now
