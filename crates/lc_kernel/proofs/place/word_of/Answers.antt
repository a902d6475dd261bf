use Rattle.std.proofs.Common.{◌≡◌, length, ◌∙◌, arith}
use Rattle.std.proofs.lemmas.List.{ext_get_or}
use Rattle.lc_kernel.specs.Kernel.{top_sum}
use Rattle.lc_kernel.proofs.place.word_of.Goals as goal

pub returns : goal.returns
returns c =
    let long : length (top_sum c.args.stack.now) ≡ c.length-n.result = c.length-n.ensures.word c.requires.at in
    let all : c.loop-i.i ≡ c.length-n.result = omega (arith, c.loop-i-test.false, c.loop-i.auto.i-end) in
    record { is = c.from_vec.ensures.is ∙ ext_get_or 0 c.loop-i.symbols.items (top_sum c.args.stack.now) (omega (arith, c.loop-i.invariant.many, all, long)) (λ t l. c.loop-i.invariant.are t (omega (arith, l, c.loop-i.invariant.many))) }
