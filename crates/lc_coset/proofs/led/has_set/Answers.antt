use Rattle.std.proofs.Common.{◌≡◌, ◌++◌, replicate, IsTrue, ap₂, ◌∙◌}
use Rattle.lc_enumeration.specs.Search.{set_count}
use Rattle.lc_coset.proofs.LedSets.{set_is}
use Rattle.lc_coset.proofs.led.has_set.Goals as goal

pub returns : goal.returns
returns c = record {
  so = λ t.
      let so : IsTrue c.in_ok-is_fronted.field-0 = search in
      let ones : c.row.result.now ≡ replicate (set_count c.args.sets.now) 1 ++ c.args.left.now = c.in_ok-is_fronted.ensures.so so ∙ ap₂ (λ a b. replicate a 1 ++ b) c.count.ensures.is c.symbols.ensures.are in
      set_is c.args.sets.now c.args.led.now c.args.left.now c.row.result.now c.args.j c.dimension-code.ensures.rows c.dimension-code.ensures.independent c.dimension-larger.ensures.rows c.dimension-larger.ensures.independent c.requires.set c.requires.led_set c.requires.larger c.row.ensures.is ones (c.in_ok-same.ensures.so t);
}
