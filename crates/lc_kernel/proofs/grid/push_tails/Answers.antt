use Rattle.std.proofs.Common.{◌≡◌, ◌*◌, ◌<◌, ap, arith}
use Rattle.lc_kernel.specs.Grid.{tail_count}
use Rattle.lc_kernel.proofs.GridLaws.{tails_more}
use Rattle.lc_kernel.proofs.grid.push_tails.Goals as goal

pub loop-t-preserved : goal.loop-t-preserved
loop-t-preserved c =
    let C = c.args.rows.now.sets.now in
    let same : c.nonzero-elements.result * c.nonzero-elements.result ≡ tail_count C = ap (λ z. z * z) c.nonzero-elements.ensures.is in
    let few : c.loop-t.t < tail_count C = omega (arith, c.loop-t-test.true, c.loop-t.auto.t-end, same) in
    tails_more C c.args.rows.now.set c.args.pair c.loop-t.t c.args.a c.args.b c.loop-t.words.items c.push.new.self.items c.in_ok-tail.field-0 c.loop-t.invariant few c.requires.pair c.in_ok-tail.ensures.is c.in_ok-tail.ensures.word c.in_ok-push.ensures.items
