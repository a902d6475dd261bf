use Rattle.std.proofs.Common.{◌∙◌, sym}
use Rattle.lc_join.proofs.JoinLaws.{first_ranged, first_is_of, first_begun, few_now, lacks, has_text, ranged_now}
use Rattle.lc_join.proofs.joining.made.Goals as goal

pub begun-requires-clause-ranged : goal.begun-requires-clause-ranged
begun-requires-clause-ranged c = first_ranged c.args.lines.now c.index-lines-0.result c.requires.some c.requires.ranged

pub disagreement-requires-clause-first : goal.disagreement-requires-clause-first
disagreement-requires-clause-first c = first_is_of c.args.budget c.args.lines.now c.index-lines-0.result c.in_ok-joined.joined c.requires.some c.in_ok-joined.ensures.is

pub walk-requires : goal.walk-requires
walk-requires c = record { begun = first_begun c.args.budget c.args.lines.now c.index-lines-0.result c.in_ok-joined.joined c.requires.some c.in_ok-joined.ensures.is }

pub returns-then-not-is_answered : goal.returns-then-not-is_answered
returns-then-not-is_answered c =
    record {
      is = lacks c.args.budget c.args.lines.now c.index-lines-0.result c.in_ok-joined.joined c.requires.some c.in_ok-joined.ensures.is c.walk.new.joined c.in_default.ensures.is c.walk.ensures.joined c.walk.ensures.script c.walk.ensures.facts c.walk.ensures.budget
          c.blocks-then-not-is_answered.result c.last_missing-last.result (sym c.is_answered.ensures.is ∙ c.if-not-is_answered.true) c.blocks-then-not-is_answered.ensures.is c.last_missing-last.ensures.is;
    }

pub text_of-requires-clause-ranged : goal.text_of-requires-clause-ranged
text_of-requires-clause-ranged c =
    ranged_now c.args.budget c.args.lines.now c.index-lines-0.result c.in_ok-joined.joined c.requires.some c.in_ok-joined.ensures.is c.walk.new.joined c.in_default.ensures.is c.walk.ensures.joined c.walk.ensures.script c.walk.ensures.facts c.walk.ensures.budget
    c.requires.ranged (few_now _ c.walk.new.joined c.joined-2.view_is c.joined-2.invariant.few)

pub returns : goal.returns
returns c =
    record {
      is = has_text c.args.budget c.args.lines.now c.index-lines-0.result c.in_ok-joined.joined c.requires.some c.in_ok-joined.ensures.is c.walk.new.joined c.in_default.ensures.is c.walk.ensures.joined c.walk.ensures.script c.walk.ensures.facts c.walk.ensures.budget
          c.in_ok-text.text.items (sym c.is_answered.ensures.is ∙ c.if-not-is_answered.false) c.in_ok-text.ensures.is;
    }
