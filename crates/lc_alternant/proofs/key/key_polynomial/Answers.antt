use Rattle.std.proofs.Common.{◌+◌, ◌∙◌, ap}
use Rattle.lc_algebra.specs.Polynomial.{trimmed}
use Rattle.lc_algebra.specs.Matrix.{IsReducedGenerator, IsOrthogonal}
use Rattle.lc_alternant.proofs.KernelFound.{kernel_found}
use Rattle.lc_alternant.proofs.KeyPolynomials.{words_of_keys, key_made}
use Rattle.lc_alternant.proofs.SolutionLaws.{kernel_told}
use Rattle.lc_alternant.proofs.key.key_polynomial.Goals as goal

pub row-requires : goal.row-requires
row-requires c =
    let K = c.args.locator.now in
    let t = c.args.t in
    let rows = c.in_ok-rows.rows.items in
    let m = c.in_ok-matrix.matrix in
    let k = c.in_ok-kernel.kernel.rows in
    let keys = c.in_ok-rows.ensures.are in
    record {
      row = kernel_found K t rows k (words_of_keys K t c.args.syndromes.now rows c.requires.syndromes keys) keys.count
          (kernel_told K (t + 1) rows k m c.in_ok-matrix.ensures.field c.in_ok-matrix.ensures.columns (c.in_ok-matrix.ensures.rows ∙ c.deref.ensures.value) c.in_ok-kernel.ensures.kernel);
    }

pub returns-clause-key : goal.returns-clause-key
returns-clause-key c =
    let K = c.args.locator.now in
    let t = c.args.t in
    let rows = c.in_ok-rows.rows.items in
    let m = c.in_ok-matrix.matrix in
    let k = c.in_ok-kernel.kernel.rows in
    let keys = c.in_ok-rows.ensures.are in
    let g : IsReducedGenerator K (t + 1) (IsOrthogonal K rows) k = kernel_told K (t + 1) rows k m c.in_ok-matrix.ensures.field c.in_ok-matrix.ensures.columns (c.in_ok-matrix.ensures.rows ∙ c.deref.ensures.value) c.in_ok-kernel.ensures.kernel in
    key_made K t c.args.syndromes.now c.in_ok-key.key.coefficients rows k keys g (kernel_found K t rows k (words_of_keys K t c.args.syndromes.now rows c.requires.syndromes keys) keys.count g) (c.in_ok-key.ensures.coefficients ∙ ap trimmed c.row.ensures.is)
