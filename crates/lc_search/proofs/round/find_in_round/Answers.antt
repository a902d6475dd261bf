use Rattle.std.proofs.Common.{◌/◌, ◌%◌, ap, refl}
use Rattle.lc_search.proofs.StepLaws.{found_made}
use Rattle.lc_search.proofs.round.find_in_round.Goals as goal

pub returns-clause-found : goal.returns-clause-found
returns-clause-found g c =
    let e = c.in_ok-closed.ensures in
    found_made c.args.blocks.now.sets.now c.args.blocks.now.plan.now c.args.start c.args.count _ c.args.best.weight c.args.best.place _ _ c.in_ok-closed.closed c.requires.plan c.requires.blocks c.requires.word.1 refl
    e.count e.claimed e.best (ap (λ n. n / 4503599627370496) c.best.ensures) (ap (λ n. n % 4503599627370496) c.best-2.ensures)
