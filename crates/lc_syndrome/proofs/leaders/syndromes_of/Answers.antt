use Rattle.std.proofs.Common.{subst, sym, ap, ◌∙◌, IsTrue, arith}
use Rattle.lc_algebra.specs.Field.{is_symbol}
use Rattle.lc_syndrome.specs.Leading.{HasLeaders}
use Rattle.lc_syndrome.specs.Checks.{IsChecked}
use Rattle.lc_syndrome.proofs.CosetLaws.{IsKernel, checked_by, few_syndromes, leaders_of_checks}
use Rattle.lc_syndrome.proofs.leaders.syndromes_of.Goals as goal

pub build-requires-clause-symbol : goal.build-requires-clause-symbol
build-requires-clause-symbol c = subst (λ f. IsTrue (is_symbol f)) (sym (c.in_ok-checks.ensures.field ∙ ap (λ M. M.field) c.matrix-matrix.ensures.is)) c.field-symbols.ensures.symbol

pub build-requires-clause-most : goal.build-requires-clause-most
build-requires-clause-most c = omega (arith, c.in_ok-checks.ensures.columns, ap (λ M. M.columns) c.matrix-matrix.ensures.is, c.length-most.ensures.is, c.length-most.ensures.most)

pub build-requires-clause-few : goal.build-requires-clause-few
build-requires-clause-few c =
    let k : IsKernel c.args.code.now c.matrix-matrix.result.now c.in_ok-checks.checks = record { is = c.matrix-matrix.ensures.is; rows = c.matrix-matrix.ensures.rows; reduced = c.matrix-matrix.ensures.reduced; field = c.in_ok-checks.ensures.field; columns = c.in_ok-checks.ensures.columns; kernel = c.in_ok-checks.ensures.kernel } in
    few_syndromes c.args.code.now c.matrix-matrix.result.now c.in_ok-checks.checks c.requires.few k

pub returns-clause-checked : goal.returns-clause-checked
returns-clause-checked c =
    let k : IsKernel c.args.code.now c.matrix-matrix.result.now c.in_ok-checks.checks = record { is = c.matrix-matrix.ensures.is; rows = c.matrix-matrix.ensures.rows; reduced = c.matrix-matrix.ensures.reduced; field = c.in_ok-checks.ensures.field; columns = c.in_ok-checks.ensures.columns; kernel = c.in_ok-checks.ensures.kernel } in
    subst (IsChecked c.args.code.now) (sym c.in_ok-build.ensures.is) (checked_by c.args.code.now c.matrix-matrix.result.now c.in_ok-checks.checks k)

pub returns-clause-leaders : goal.returns-clause-leaders
returns-clause-leaders c =
    let k : IsKernel c.args.code.now c.matrix-matrix.result.now c.in_ok-checks.checks = record { is = c.matrix-matrix.ensures.is; rows = c.matrix-matrix.ensures.rows; reduced = c.matrix-matrix.ensures.reduced; field = c.in_ok-checks.ensures.field; columns = c.in_ok-checks.ensures.columns; kernel = c.in_ok-checks.ensures.kernel } in
    subst HasLeaders (sym c.in_ok-build.ensures.is) (leaders_of_checks c.args.code.now c.in_ok-checks.checks c.matrix-matrix.ensures.rows (checked_by c.args.code.now c.matrix-matrix.result.now c.in_ok-checks.checks k))
