use Rattle.std.proofs.Common.{ap, sym, subst, ◌∙◌, length, slice_index_or, [], arith}
use Rattle.lc_algebra.specs.Word.{IsWord, scale}
use Rattle.lc_linear_laws.proofs.PowerSpan.{written, power_made, power_word}
use Rattle.lc_trace.proofs.RowLaws.{multiples_more}
use Rattle.lc_trace.proofs.trace.push_multiples.Goals as goal

pub loop-t-preserved : goal.loop-t-preserved
loop-t-preserved c =
    let K = c.args.code.now.field in
    let u = slice_index_or c.args.code.now.rows c.args.i [] in
    let now = written c.loop-t.word.len c.scale.new.to c.loop-t.word.items (omega (arith, c.deref_mut.ensures.len, ap length c.deref_mut.ensures.value)) (omega (arith, c.scale.auto.to, ap length c.deref_mut.ensures.value)) in
    let made = c.scale.ensures.is ∙ ap (scale c.field-field.result.now c.primitive.result) c.deref_mut.ensures.value in
    record {
      word = now ∙ power_made K c.field-field.result.now c.loop-t._t c.primitive.result u c.loop-t.word.items c.scale.new.to c.field-field.ensures.is c.primitive.ensures.is c.loop-t.invariant.word made;
      fits = subst (IsWord K c.args.code.now.columns) (sym now) (power_word K c.field-field.result.now c.args.code.now.columns c.primitive.result c.loop-t.word.items c.scale.new.to c.field-field.ensures.is c.loop-t.invariant.fits made);
      rows = multiples_more K c.loop-t._t c.args.traces.now u c.deref.result.now c.in_ok-traced_word.field-0 c.args.rows.now.items c.loop-t.rows.items c.push.new.self.items c.loop-t.invariant.rows (c.deref.ensures.value ∙ c.loop-t.invariant.word) c.in_ok-traced_word.ensures.is c.in_ok-push.ensures.items;
    }
