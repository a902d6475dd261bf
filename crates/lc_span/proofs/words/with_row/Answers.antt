use Rattle.std.proofs.Common.{◌∙◌, arith}
use Rattle.lc_span.proofs.WordLaws.{multiples_none, multiples_more, sums_fit}
use Rattle.lc_span.proofs.words.with_row.Goals as goal

pub loop-c-init : goal.loop-c-init
loop-c-init c = record {
  some = omega arith;
  are = multiples_none c.args.field.now c.args.row.now c.args.list.items c.new-sums.result.items c.requires.words c.new-sums.ensures.items;
}

pub push_sums-requires-clause-words : goal.push_sums-requires-clause-words
push_sums-requires-clause-words c = sums_fit c.args.field.now c.loop-c.c c.args.row.now c.symbols.result.now c.args.list.items c.as_slice.result.now c.requires.words (c.symbols.ensures.are ∙ c.in_ok-multiple.ensures.is) c.as_slice.ensures.value

pub loop-c-preserved : goal.loop-c-preserved
loop-c-preserved c = record {
  some = omega arith;
  are = multiples_more c.args.field.now c.loop-c.c c.args.row.now c.symbols.result.now c.args.list.items c.as_slice.result.now c.loop-c.sums.items c.push_sums.new.sums.items c.loop-c.invariant.are (c.symbols.ensures.are ∙ c.in_ok-multiple.ensures.is) c.as_slice.ensures.value c.in_ok-push_sums.ensures.are;
}
