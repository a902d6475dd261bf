use Rattle.std.proofs.Common.{length, slice_index, sym, subst, ◌∙◌}
use Rattle.lc_matrix.specs.Kernel.{IsKernelWord}
use Rattle.lc_matrix.proofs.KernelLaws.{words_more}
use Rattle.lc_matrix.proofs.matrix.Matrix.push_words.Goals as goal

pub loop-i-preserved : goal.loop-i-preserved
loop-i-preserved c =
    let s = c.args.self.now in
    let i = c.loop-i.i in
    let word = subst (IsKernelWord s.field s.columns c.args.places.now s.rows (slice_index c.args.free.now i) (length c.args.places.now)) (sym c.deref.ensures.value) c.in_ok-word.ensures.is in
    record {
      same_field = c.push.ensures.field ∙ c.loop-i.invariant.same_field;
      same_columns = c.push.ensures.columns ∙ c.loop-i.invariant.same_columns;
      words = words_more s.field s.columns i c.args.places.now s.rows c.args.free.now c.loop-i.kernel.rows c.push.new.self.rows c.deref.result.now c.loop-i.invariant.words word c.in_ok-push.ensures.rows;
    }
