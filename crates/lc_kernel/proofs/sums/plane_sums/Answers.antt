use Rattle.std.proofs.Common.{◌≡◌, ◌∙◌, ap, arith}
use Rattle.lc_algebra.specs.Word.{zero_word}
use Rattle.lc_algebra.proofs.WordLaws.{IsWord_zero}
use Rattle.lc_kernel.proofs.PlaneSumLaws.{over_pushed, symbols_pushed}
use Rattle.lc_kernel.proofs.sums.plane_sums.Goals as goal

pub from_symbols-requires-clause-fits : goal.from_symbols-requires-clause-fits
from_symbols-requires-clause-fits c = rw (c.symbols.ensures.are ∙ c.in_ok-zero.ensures.is) (IsWord_zero c.field.result.now c.cols.result).fits

pub loop-i-preserved : goal.loop-i-preserved
loop-i-preserved c =
    let ps = c.loop-i.words.items in
    let v = c.in_ok-from_symbols.field-0 in
    let is : v.symbols ≡ zero_word c.args.code.now.columns = c.in_ok-from_symbols.ensures.symbols ∙ c.symbols.ensures.are ∙ c.in_ok-zero.ensures.is ∙ ap zero_word c.cols.ensures.is in
    record {
      many = omega (arith, c.in_ok-push.ensures.len, c.loop-i.invariant.many);
      over = over_pushed c.args.code.now ps c.push.new.self.items v c.in_ok-push.ensures.items (c.in_ok-from_symbols.ensures.field ∙ c.field.ensures.is) c.loop-i.invariant.over;
      zero = symbols_pushed (λ t. zero_word c.args.code.now.columns) ps c.push.new.self.items c.loop-i._i v c.in_ok-push.ensures.items c.loop-i.invariant.many is c.loop-i.invariant.zero;
    }
