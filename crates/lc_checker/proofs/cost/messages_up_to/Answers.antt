use Rattle.lc_place.proofs.Counting.{table_none, table_more}
use Rattle.std.proofs.Common.{◌≡◌, ◌+◌, ◌-◌, ◌^◌, ◌∙◌, min, ap, sym, arith}
use Rattle.std.proofs.lemmas.List.{get_or_default}
use Rattle.lc_checker.specs.Cost.{capped, through_entry}
use Rattle.lc_checker.proofs.CostLaws.{through_none, through_next, power_none, power_next}
use Rattle.lc_checker.proofs.cost.messages_up_to.Goals as goal

pub loop-level-init : goal.loop-level-init
loop-level-init c = record {
  total = through_none c.args.k c.args.q;
  power = power_none c.args.q;
  table = table_more (through_entry c.args.k c.args.q) 0 c.in_ok-table.table.items c.push.new.self.items 0 (table_none (through_entry c.args.k c.args.q) c.in_ok-table.table.items c.in_ok-table.ensures.items) c.in_ok-push.ensures.items (through_none c.args.k c.args.q);
}

pub loop-level-preserved : goal.loop-level-preserved
loop-level-preserved c =
    let k = c.args.k in
    let q = c.args.q in
    let w = c.loop-level.level in
    let same : w + 1 - 1 ≡ w = omega arith in
    let less : w - 1 + 1 ≡ w = omega (arith, c.loop-level.auto.level) in
    let next = through_next k q w _ c.index.result.now _ (omega (arith, c.loop-level.auto.level)) c.loop-level.invariant.total (c.index.ensures ∙ get_or_default c.in_ok-chooses.chooses.items w c.index.result.now 0 (omega (arith, c.in_ok-chooses.ensures.are.many, c.loop-level-test.true)) ∙ c.in_ok-chooses.ensures.are.entry w c.loop-level-test.true) c.loop-level.invariant.power in
    let total = c.saturating_add-total.ensures ∙ ap (λ x. min (c.loop-level.total + x) 18446744073709551615) c.saturating_mul.ensures ∙ next in
    record {
      total = total ∙ ap (through_entry k q) (sym same);
      power = c.saturating_mul-power.ensures ∙ power_next q (w - 1) c.loop-level.power c.requires.field.1 c.loop-level.invariant.power ∙ ap (λ m. capped ((q - 1) ^ m)) (less ∙ sym same);
      table = table_more (through_entry k q) w c.loop-level.table.items c.push-in-loop-level.new.self.items c.saturating_add-total.result c.loop-level.invariant.table c.in_ok-push-2.ensures.items total;
    }
