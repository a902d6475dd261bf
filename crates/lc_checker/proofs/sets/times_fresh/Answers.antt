use Rattle.std.proofs.Common.{◌∙◌, cond, sym, ap}
use Rattle.lc_enumeration.proofs.MemberLaws.{told_member}
use Rattle.lc_checker.proofs.sets.times_fresh.Goals as goal

pub returns-then-contains : goal.returns-then-contains
returns-then-contains c = record { is = ap (λ b. cond b 1 0) (sym c.if-contains.true ∙ told_member c.contains.result c.args.fresh.now c.args.place c.contains.ensures.value) }

pub returns-else-contains : goal.returns-else-contains
returns-else-contains c = record { is = ap (λ b. cond b 1 0) (sym c.if-contains.false ∙ told_member c.contains.result c.args.fresh.now c.args.place c.contains.ensures.value) }
