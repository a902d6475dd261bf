use Rattle.std.proofs.Common.{set, ap, ◌∙◌}
use Rattle.lc_algebra.specs.Word.{zero_word}
use Rattle.lc_matrix.proofs.KernelLaws.{kernel_word_none}
use Rattle.lc_matrix.proofs.matrix.Matrix.kernel_word.Goals as goal

pub loop-i-init : goal.loop-i-init
loop-i-init c =
    let s = c.args.self.now in
    kernel_word_none s.field s.columns c.args.j c.args.places.now s.rows _ c.requires.column (ap (λ x. set x c.args.j 1) (c.in_ok-word.ensures ∙ ap zero_word c.cols.ensures.is))
