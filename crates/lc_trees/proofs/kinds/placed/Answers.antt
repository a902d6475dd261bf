use Rattle.std.proofs.Common.{refl}
use Rattle.lc_trees.proofs.KindLaws.{puncture_outcome, shorten_outcome}
use Rattle.lc_trees.proofs.kinds.placed.Goals as goal

pub returns-in-Puncture : goal.returns-in-Puncture
returns-in-Puncture c =
    let of = c.args.of.now in
    record { is = puncture_outcome c.args.number c.bound_without.result c.args.kind c.args.places.now of.code of.bound c.punctured-code.result c.own.result c.in-Puncture.is c.bound_without.ensures.is c.punctured-code.ensures.code c.punctured-code.ensures.refused c.own.ensures.is }

pub returns-in-Shorten : goal.returns-in-Shorten
returns-in-Shorten c =
    let of = c.args.of.now in
    record { is = shorten_outcome c.args.number of.bound c.args.kind c.args.places.now of.code of.bound c.shortened-code.result c.own-in-Shorten.result c.in-Shorten.is refl c.shortened-code.ensures.code c.shortened-code.ensures.refused c.own-in-Shorten.ensures.is }
