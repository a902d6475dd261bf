use Rattle.std.proofs.Common.{sym, ap, rules, arith, option_map, ◌∙◌, ◌+◌}
use Rattle.serde_json.specs.View.{view}
use Rattle.lc_formats.specs.Checkpoint.{settled_in}
use Rattle.lc_checkpoint.specs.Seen.{settled_of}
use Rattle.lc_checkpoint.proofs.SettledLaws.{list_more, list_whole}
use Rattle.lc_checkpoint.proofs.reading.settled_list.Goals as goal

pub loop-item-preserved : goal.loop-item-preserved
loop-item-preserved c =
    let seen = ap (option_map settled_of) (sym c.in-Some.is) ∙ c.settled_in.ensures.is ∙ ap (λ v. settled_in c.args.budget (view v)) c.item-item.is in
    list_more settled_of c.args.budget c.args.items.now c.loop-item.item-index (c.loop-item.item-index + 1) c.item-item.result c.loop-item.settled.items c.push.new.self.items c.in-Some.one c.loop-item-test.true c.loop-item.invariant seen (omega arith) (search rules)

pub returns : goal.returns
returns c = record { is = sym (list_whole c.args.budget c.args.items.now c.loop-item.item-index _ (omega (arith, c.loop-item-test.false)) c.loop-item.invariant) }
