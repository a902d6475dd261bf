use Rattle.std.proofs.Common.{sym, ◌∙◌}
use Rattle.std.proofs.lemmas.Result.{err_from_is_err_and}
use Rattle.lc_extend.proofs.RefusalLaws.{subcode_told, refused_subcode, refused_tail, refused_nothing}
use Rattle.lc_extend.proofs.construction.construction_x.Goals as goal

pub returns-then-not-branch-clause-refused : goal.returns-then-not-branch-clause-refused
returns-then-not-branch-clause-refused c =
    let C = c.args.c.now in
    let D = c.args.d.now in
    let known = subcode_told C D c.in_ok-lies_in.field-0 c.in_ok-check_alike.ensures.field c.in_ok-check_alike.ensures.columns c.matrix-whole.ensures.rows c.matrix-part.ensures.rows c.in_ok-lies_in.ensures.is in
    λ n. refused_subcode C D c.args.e.now c.in_ok-check_alike.ensures.is (sym known ∙ c.if-not-branch.true)

pub returns-in_err-check_tail-clause-refused : goal.returns-in_err-check_tail-clause-refused
returns-in_err-check_tail-clause-refused c =
    let C = c.args.c.now in
    let D = c.args.d.now in
    let known = subcode_told C D c.in_ok-lies_in.field-0 c.in_ok-check_alike.ensures.field c.in_ok-check_alike.ensures.columns c.matrix-whole.ensures.rows c.matrix-part.ensures.rows c.in_ok-lies_in.ensures.is in
    let p = err_from_is_err_and c.from_residual-in_err-check_tail.result c.from_residual-in_err-check_tail.ensures.1 in
    rw (p.1, p.2) (λ n. refused_tail C D c.args.e.now c.in_err-check_tail.field-0.0 c.in_ok-check_alike.ensures.is (sym known ∙ c.if-not-branch.false) c.in_err-check_tail.ensures.is)

pub returns-clause-refused : goal.returns-clause-refused
returns-clause-refused c =
    let C = c.args.c.now in
    let D = c.args.d.now in
    let known = subcode_told C D c.in_ok-lies_in.field-0 c.in_ok-check_alike.ensures.field c.in_ok-check_alike.ensures.columns c.matrix-whole.ensures.rows c.matrix-part.ensures.rows c.in_ok-lies_in.ensures.is in
    refused_nothing C D c.args.e.now c.in_ok-check_alike.ensures.is (sym known ∙ c.if-not-branch.false) c.in_ok-check_tail.ensures.is
