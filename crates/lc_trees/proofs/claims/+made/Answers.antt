use Rattle.std.proofs.Common.{◌+◌, ◌≤◌, suc, slice_index_or, sym, subst, arith}
use Rattle.std.proofs.lemmas.Result.{err_from_is_err_and}
use Rattle.lc_algebra.specs.Word.{Fits}
use Rattle.lc_formats.specs.Claim.{claim_total}
use Rattle.lc_certificate.specs.Trees.{pair_of, place_of, claim_of}
use Rattle.lc_trees.proofs.OutcomeLaws.{code_over, outer_shaped, inner_shaped, pair_first, pair_second, pair_whole, concat_first, concat_second, concat_whole, subcode_first, subcode_whole, places_first, places_whole, extend_first, extend_whole}
use Rattle.lc_trees.proofs.claims.+made.Goals as goal

pub pair-returns-in_err-one : goal.pair-returns-in_err-one
pair-returns-in_err-one t c =
    let p = err_from_is_err_and c.from_residual.result c.from_residual.ensures.1 in
    record { is = rw (p.1, p.2) (pair_first c.args.field.now c.args.number (c.args.number + 1) (pair_of c.args.kind) (claim_of c.args.left.now) (claim_of c.args.right.now) _ (omega arith) c.in_err-one.ensures.is) }

pub pair-returns-in_err-two : goal.pair-returns-in_err-two
pair-returns-in_err-two t c =
    let p = err_from_is_err_and c.from_residual-in_err-two.result c.from_residual-in_err-two.ensures.1 in
    record { is = rw (p.1, p.2) (pair_second c.args.field.now c.args.number (c.args.number + 1) (c.args.number + 1 + c.total.result) (pair_of c.args.kind) (claim_of c.args.left.now) (claim_of c.args.right.now) c.in_ok-one.one.code c.in_ok-one.one.bound _ (omega arith) (omega (arith, c.total.ensures.is)) c.in_ok-one.ensures.is c.in_err-two.ensures.is) }

pub pair-returns : goal.pair-returns
pair-returns t c =
    record { is = pair_whole c.args.field.now c.args.number (c.args.number + 1) (c.args.number + 1 + c.total.result) (pair_of c.args.kind) (claim_of c.args.left.now) (claim_of c.args.right.now) c.in_ok-one.one.code c.in_ok-one.one.bound c.in_ok-two.two.code c.in_ok-two.two.bound c.combined.result (omega arith) (omega (arith, c.total.ensures.is)) c.in_ok-one.ensures.is c.in_ok-two.ensures.is c.combined.ensures.is }

pub subcode-returns-in_err-one : goal.subcode-returns-in_err-one
subcode-returns-in_err-one t c =
    let p = err_from_is_err_and c.from_residual.result c.from_residual.ensures.1 in
    record { is = rw (p.1, p.2) (subcode_first c.args.field.now c.args.number (c.args.number + 1) (claim_of c.args.of.now) c.args.rows.now _ (omega arith) c.in_err-one.ensures.is) }

pub subcode-returns : goal.subcode-returns
subcode-returns t c =
    record { is = subcode_whole c.args.field.now c.args.number (c.args.number + 1) (claim_of c.args.of.now) c.args.rows.now c.in_ok-one.one.code c.in_ok-one.one.bound c.spanned.result (omega arith) c.in_ok-one.ensures.is c.spanned.ensures.is }

pub at_places-returns-in_err-one : goal.at_places-returns-in_err-one
at_places-returns-in_err-one t c =
    let p = err_from_is_err_and c.from_residual.result c.from_residual.ensures.1 in
    record { is = rw (p.1, p.2) (places_first c.args.field.now c.args.number (c.args.number + 1) (place_of c.args.kind) (claim_of c.args.of.now) c.args.places.now _ (omega arith) c.in_err-one.ensures.is) }

pub at_places-returns : goal.at_places-returns
at_places-returns t c =
    record { is = places_whole c.args.field.now c.args.number (c.args.number + 1) (place_of c.args.kind) (claim_of c.args.of.now) c.args.places.now c.in_ok-one.one.code c.in_ok-one.one.bound c.placed.result (omega arith) c.in_ok-one.ensures.is c.placed.ensures.is }

pub extend-returns-in_err-one : goal.extend-returns-in_err-one
extend-returns-in_err-one t c =
    let p = err_from_is_err_and c.from_residual.result c.from_residual.ensures.1 in
    record { is = rw (p.1, p.2) (extend_first c.args.field.now c.args.number (c.args.number + 1) (claim_of c.args.of.now) _ (omega arith) c.in_err-one.ensures.is) }

pub extend-returns : goal.extend-returns
extend-returns t c =
    record { is = extend_whole c.args.field.now c.args.number (c.args.number + 1) (claim_of c.args.of.now) c.in_ok-one.one.code c.in_ok-one.one.bound c.lengthened.result (omega arith) c.in_ok-one.ensures.is c.lengthened.ensures.is }

pub concat-returns-in_err-one : goal.concat-returns-in_err-one
concat-returns-in_err-one t c =
    let p = err_from_is_err_and c.from_residual.result c.from_residual.ensures.1 in
    record { is = rw (p.1, p.2) (concat_first c.args.field.now c.in-Ok.larger c.args.number (c.args.number + 1) c.args.large (claim_of c.args.outer.now) (claim_of c.args.inner.now) _ c.in-Ok.ensures.size (omega arith) c.in_err-one.ensures.is) }

pub concat-returns-in_err-two : goal.concat-returns-in_err-two
concat-returns-in_err-two t c =
    let p = err_from_is_err_and c.from_residual-in_err-two.result c.from_residual-in_err-two.ensures.1 in
    record { is = rw (p.1, p.2) (concat_second c.args.field.now c.in-Ok.larger c.args.number (c.args.number + 1) (c.args.number + 1 + c.total.result) c.args.large (claim_of c.args.outer.now) (claim_of c.args.inner.now) c.in_ok-one.one.code c.in_ok-one.one.bound _ c.in-Ok.ensures.size (omega arith) (omega (arith, c.total.ensures.is)) c.in_ok-one.ensures.is c.in_err-two.ensures.is) }

pub concat-returns : goal.concat-returns
concat-returns t c =
    record { is = concat_whole c.args.field.now c.in-Ok.larger c.args.number (c.args.number + 1) (c.args.number + 1 + c.total.result) c.args.large (claim_of c.args.outer.now) (claim_of c.args.inner.now) c.in_ok-one.one.code c.in_ok-one.one.bound c.in_ok-two.two.code c.in_ok-two.two.bound c.nested.result c.in-Ok.ensures.size (omega arith) (omega (arith, c.total.ensures.is)) c.in_ok-one.ensures.is c.in_ok-two.ensures.is c.nested.ensures.is }

pub pair-made-requires : goal.pair-made-requires
unfolding claim_total
pair-made-requires t c =
    let few : c.args.number + suc (claim_total (claim_of c.args.left.now) + claim_total (claim_of c.args.right.now)) ≤ 1024 = c.requires.few in
    (omega (arith, c.decreases), (c.requires.symbol, (c.requires.shaped.0, omega (arith, few))))

pub pair-total-requires : goal.pair-total-requires
unfolding claim_total
pair-total-requires t c =
    let few : c.args.number + suc (claim_total (claim_of c.args.left.now) + claim_total (claim_of c.args.right.now)) ≤ 1024 = c.requires.few in
    record { few = omega (arith, few) }

pub pair-overflow_add-number-3 : goal.pair-overflow_add-number-3
unfolding claim_total
pair-overflow_add-number-3 t c =
    let few : c.args.number + suc (claim_total (claim_of c.args.left.now) + claim_total (claim_of c.args.right.now)) ≤ 1024 = c.requires.few in
    omega (arith, few, c.total.ensures.is)

pub pair-made-requires-2 : goal.pair-made-requires-2
unfolding claim_total
pair-made-requires-2 t c =
    let few : c.args.number + suc (claim_total (claim_of c.args.left.now) + claim_total (claim_of c.args.right.now)) ≤ 1024 = c.requires.few in
    (omega (arith, c.decreases), (c.requires.symbol, (c.requires.shaped.1, omega (arith, few, c.total.ensures.is))))

pub concat-made-requires : goal.concat-made-requires
unfolding claim_total
concat-made-requires t c =
    let few : c.args.number + suc (claim_total (claim_of c.args.outer.now) + claim_total (claim_of c.args.inner.now)) ≤ 1024 = c.requires.few in
    let outer = outer_shaped c.args.field.now c.in-Ok.larger c.args.large (claim_of c.args.outer.now) (claim_of c.args.inner.now) c.in-Ok.ensures.size c.requires.shaped in
    (omega (arith, c.decreases), (outer.0, (outer.1, omega (arith, few))))

pub concat-total-requires : goal.concat-total-requires
unfolding claim_total
concat-total-requires t c =
    let few : c.args.number + suc (claim_total (claim_of c.args.outer.now) + claim_total (claim_of c.args.inner.now)) ≤ 1024 = c.requires.few in
    record { few = omega (arith, few) }

pub concat-overflow_add-number-3 : goal.concat-overflow_add-number-3
unfolding claim_total
concat-overflow_add-number-3 t c =
    let few : c.args.number + suc (claim_total (claim_of c.args.outer.now) + claim_total (claim_of c.args.inner.now)) ≤ 1024 = c.requires.few in
    omega (arith, few, c.total.ensures.is)

pub concat-made-requires-2 : goal.concat-made-requires-2
unfolding claim_total
concat-made-requires-2 t c =
    let few : c.args.number + suc (claim_total (claim_of c.args.outer.now) + claim_total (claim_of c.args.inner.now)) ≤ 1024 = c.requires.few in
    let inner = inner_shaped c.args.field.now c.args.large (claim_of c.args.outer.now) (claim_of c.args.inner.now) c.requires.shaped in
    (omega (arith, c.decreases), (c.requires.symbol, (inner, omega (arith, few, c.total.ensures.is))))

pub subcode-made-requires : goal.subcode-made-requires
unfolding claim_total
subcode-made-requires t c =
    let few : c.args.number + suc (claim_total (claim_of c.args.of.now)) ≤ 1024 = c.requires.few in
    (omega (arith, c.decreases), (c.requires.symbol, (c.requires.shaped.0, omega (arith, few))))

pub subcode-spanned-requires : goal.subcode-spanned-requires
subcode-spanned-requires t c =
    let over = code_over c.args.field.now (c.args.number + 1) (claim_of c.args.of.now) c.in_ok-one.one.code c.in_ok-one.one.bound c.in_ok-one.ensures.is in
    record { rows = λ k d l. subst (λ g. Fits g (slice_index_or c.args.rows.now k d)) (sym over) (c.requires.shaped.2 k d l).1 }

pub at_places-made-requires : goal.at_places-made-requires
unfolding claim_total
at_places-made-requires t c =
    let few : c.args.number + suc (claim_total (claim_of c.args.of.now)) ≤ 1024 = c.requires.few in
    (omega (arith, c.decreases), (c.requires.symbol, (c.requires.shaped.0, omega (arith, few))))

pub extend-made-requires : goal.extend-made-requires
unfolding claim_total
extend-made-requires t c =
    let few : c.args.number + suc (claim_total (claim_of c.args.of.now)) ≤ 1024 = c.requires.few in
    (omega (arith, c.decreases), (c.requires.symbol, (c.requires.shaped, omega (arith, few))))
