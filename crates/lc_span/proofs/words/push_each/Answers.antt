use Rattle.std.proofs.Common.{ap, ◌∙◌, []}
use Rattle.std.proofs.lemmas.List.{get_or_default}
use Rattle.lc_algebra.specs.Word.{word_sum}
use Rattle.lc_span.proofs.WordLaws.{sums_more}
use Rattle.lc_span.proofs.words.push_each.Goals as goal

pub loop-i-preserved : goal.loop-i-preserved
loop-i-preserved c =
    let f = c.args.field.now in
    let at = c.symbols.ensures.are ∙ c.index-list-i.is ∙ get_or_default c.args.list.now c.loop-i.i c.index-list-i.result [] c.loop-i-test.true in
    sums_more f c.loop-i.i c.args.word.now c.put_added.new.self c.args.list.now c.args.sums.now.items c.loop-i.sums.items c.push.new.self.items c.loop-i-test.true c.loop-i.invariant (c.put_added.ensures.is ∙ ap (λ w. word_sum f w c.args.word.now) at) c.in_ok-push.ensures.items
