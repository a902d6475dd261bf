use Rattle.std.proofs.Common.{◌∙◌, sym, arith}
use Rattle.std.proofs.lemmas.Bool.{false≢true}
use Rattle.lc_join.proofs.DisagreeLaws.{agreed_first, agreed_more, agreed_end, agreed_all, other_search, other_word}
use Rattle.lc_join.proofs.disagreement.disagreement.Goals as goal

pub loop-i-init : goal.loop-i-init
loop-i-init c = agreed_first c.args.joined.now c.args.lines.now

pub returns-then-not-is_of-clause-is : goal.returns-then-not-is_of-clause-is
returns-then-not-is_of-clause-is c =
    other_search c.args.joined.now c.args.lines.now c.loop-i.i c.index-lines-i.result c.index-lines-0.result c.index-lines-i-then-not-is_of.result c.loop-i-test.true c.requires.first
    (λ is. false≢true (sym c.if-not-is_of.true ∙ c.is_of.ensures.is.1 is)) c.loop-i.invariant

pub returns-in-Some-clause-is : goal.returns-in-Some-clause-is
returns-in-Some-clause-is c =
    other_word c.args.joined.now c.args.lines.now c.split_at.result.0.now c.loop-i.i c.in-Some.k c.index-lines-i.result c.index-lines-k.result c.index-lines-i-in-Some.result c.loop-i-test.true
    (c.is_of.ensures.is.0 c.if-not-is_of.false) c.split_at.ensures.front (sym c.in-Some.is ∙ c.first_other.ensures.is) c.loop-i.invariant

pub loop-i-preserved : goal.loop-i-preserved
loop-i-preserved c =
    agreed_more c.args.joined.now c.args.lines.now c.split_at.result.0.now c.loop-i.i c.index-lines-i.result c.loop-i-test.true
    (c.is_of.ensures.is.0 c.if-not-is_of.false) c.split_at.ensures.front (sym c.in_default.is ∙ c.first_other.ensures.is) c.loop-i.invariant

pub returns-clause-is : goal.returns-clause-is
returns-clause-is c = agreed_end c.args.joined.now c.args.lines.now c.loop-i.i (omega (arith, c.loop-i-test.false)) c.loop-i.invariant

pub returns-clause-one : goal.returns-clause-one
returns-clause-one c none = agreed_all c.args.joined.now c.args.lines.now c.loop-i.i (omega (arith, c.loop-i-test.false)) c.loop-i.invariant
