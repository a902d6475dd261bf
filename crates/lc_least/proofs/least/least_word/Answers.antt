use Rattle.std.proofs.Common.{◌≡◌, ◌<◌, ◌∙◌, sym, arith}
use Rattle.lc_algebra.specs.Word.{weight, zero_word}
use Rattle.lc_least.proofs.ScanLaws.{zeros_fit, scan_whole, least_found, least_none}
use Rattle.lc_least.proofs.least.least_word.Goals as goal

pub scan-requires-clause-sum : goal.scan-requires-clause-sum
scan-requires-clause-sum c =
    let zeros : c.deref_mut.result.now ≡ zero_word c.args.n = c.deref_mut.ensures.value ∙ c.in_ok-sum.ensures in
    zeros_fit c.args.field.now c.args.n c.deref_mut.result.now zeros

pub returns-then-best-eq0 : goal.returns-then-best-eq0
returns-then-best-eq0 c =
    let zeros : c.deref_mut.result.now ≡ zero_word c.args.n = c.deref_mut.ensures.value ∙ c.in_ok-sum.ensures in
    let whole = scan_whole c.args.field.now c.args.n c.args.rows.now c.deref_mut.result.now c.in_ok-best.best.symbols.items c.scan.new.best.symbols.items zeros c.in_ok-best.ensures c.scan.ensures.first in
    let none : weight c.scan.new.best.symbols.items ≡ 0 = sym c.scan.new.best.weighed ∙ c.if-best-eq0.true in
    least_none c.args.field.now c.args.n c.args.rows.now c.scan.new.best.symbols.items c.requires whole none

pub returns : goal.returns
returns c =
    let zeros : c.deref_mut.result.now ≡ zero_word c.args.n = c.deref_mut.ensures.value ∙ c.in_ok-sum.ensures in
    let whole = scan_whole c.args.field.now c.args.n c.args.rows.now c.deref_mut.result.now c.in_ok-best.best.symbols.items c.scan.new.best.symbols.items zeros c.in_ok-best.ensures c.scan.ensures.first in
    let some : 0 < weight c.scan.new.best.symbols.items = omega (arith, c.scan.new.best.weighed, c.if-best-eq0.false) in
    let same : c.in_ok-from_slice.field-0 ≡ c.scan.new.best.symbols.items = c.in_ok-from_slice.ensures.is ∙ c.deref.ensures.value in
    rw same (least_found c.args.field.now c.args.n c.args.rows.now c.scan.new.best.symbols.items c.requires whole some)
