use Rattle.std.proofs.Common.{◌+◌, sym, subst}
use Rattle.lc_matrix.specs.Kernel.{IsFree}
use Rattle.lc_matrix.proofs.KernelLaws.{free_held, free_pushed}
use Rattle.lc_matrix.proofs.kernel.read_free.Goals as goal

pub returns-then-holds : goal.returns-then-holds
returns-then-holds c =
    let k = c.if-holds.ensures.yes in
    record { state = free_held c.args.places.now c.args.free.now.items c.args.j k.0 c.requires.state k.1 k.2 }

pub returns : goal.returns
returns c =
    record { state = subst (IsFree c.args.places.now (c.args.j + 1)) (sym c.in_ok-push.ensures.items) (free_pushed c.args.places.now c.args.free.now.items c.args.j c.requires.state c.if-holds.ensures.no) }
