use Rattle.std.proofs.Common.{sym, ap, rules, arith, ◌∙◌, ◌+◌, nat_lt}
use Rattle.serde_json.specs.View.{view}
use Rattle.lc_algebra.specs.Field.{size}
use Rattle.lc_formats.specs.Json.{plain_number, provided}
use Rattle.lc_json.proofs.EachLaws.{each_more}
use Rattle.lc_certificate.proofs.RowLaws.{word_missing, word_done}
use Rattle.lc_certificate.proofs.rows.word_of.Goals as goal

pub returns-in-None-clause-is : goal.returns-in-None-clause-is
returns-in-None-clause-is c =
    let seen = ap (λ v. provided (λ a. nat_lt a (size c.args.field)) (plain_number (view v))) (sym c.item-item.is) ∙ sym c.symbol_of.ensures.is ∙ c.in-None.is in
    sym (word_missing c.args.field c.args.n c.deref-item-items.result.now (view c.args.value.now) c.loop-item.item-index c.item-item.result (search rules) (search rules) c.loop-item-test.true seen)

pub loop-item-preserved : goal.loop-item-preserved
loop-item-preserved c =
    let seen = ap (λ v. provided (λ a. nat_lt a (size c.args.field)) (plain_number (view v))) (sym c.item-item.is) ∙ sym c.symbol_of.ensures.is ∙ c.in-Some-symbol_of.is in
    each_more (λ v. provided (λ a. nat_lt a (size c.args.field)) (plain_number (view v))) c.deref-item-items.result.now c.loop-item.item-index (c.loop-item.item-index + 1) c.item-item.result c.loop-item.symbols.items c.push.new.self.items c.in-Some-symbol_of.symbol c.loop-item-test.true c.loop-item.invariant seen (omega arith) (search rules)

pub returns-clause-is : goal.returns-clause-is
returns-clause-is c =
    sym (word_done c.args.field c.args.n c.deref-item-items.result.now (view c.args.value.now) c.loop-item.item-index c.from_vec.result (search rules) (search rules) (omega (arith, c.loop-item-test.false)) (search rules))
