use Rattle.std.proofs.Common.{◌≡◌, ◌<◌, [], ◌∷◌, length, slice_index, refl, sym, ap, ◌∙◌, arith, Some}
use Rattle.std.proofs.lemmas.List.{length-append}
use Rattle.lc_algebra.specs.Field.{size}
use Rattle.lc_alternant.proofs.StepLaws.{symbol_pushed}
use Rattle.lc_alternant.proofs.SubtractLaws.{no_error, symbol_back, word_back}
use Rattle.lc_alternant.proofs.decoder.subtracted.Goals as goal

pub returns-in-None-clause-one : goal.returns-in-None-clause-one
returns-in-None-clause-one c = λ u w e.
    absurd (no_error c.args.field.now c.args.locator.now c.args.word.now u c.args.errors.now c.loop-i.i w e (omega arith) (c.in-None.ensures.none.0 refl))

pub loop-i-preserved : goal.loop-i-preserved
loop-i-preserved c =
    let f = c.args.field.now in
    let i = c.loop-i.i in
    let n : i < length c.args.word.now = omega arith in
    let old = c.loop-i.invariant in
    let pushed = c.in_ok-push-in-Some.ensures.items in
    record {
      count = omega (arith, ap length pushed, length-append c.loop-i.symbols.items (c.subtract.result ∷ []), old.count);
      fits = λ k l. symbol_pushed (λ j a. a < size f) c.loop-i.symbols.items c.push.new.self.items c.subtract.result i old.count (λ j m. old.fits j (omega (arith, m, old.count))) c.subtract.ensures.below pushed k (omega (arith, l, ap length pushed, length-append c.loop-i.symbols.items (c.subtract.result ∷ []), old.count));
      one = λ u w e.
          symbol_pushed (λ j a. a ≡ slice_index u j) c.loop-i.symbols.items c.push.new.self.items c.subtract.result i old.count (old.one u w e)
          (c.subtract.ensures.is ∙ symbol_back f c.args.locator.now c.args.word.now u c.args.errors.now i c.in-Some.error c.requires.subfield c.requires.word w e n c.in-Some.ensures.some.0 c.in-Some.ensures.some.1)
          pushed;
    }

pub returns-clause-one : goal.returns-clause-one
returns-clause-one c = λ u w e.
    let n : c.loop-i.i ≡ length c.args.word.now = omega arith in
    ap Some (c.from_vec.ensures.is ∙ word_back c.loop-i.i c.loop-i.symbols.items u c.loop-i.invariant.count (w.long ∙ sym n) (c.loop-i.invariant.one u w e))
