use Rattle.std.proofs.Common.{option_map, sym, ap, ◌∙◌}
use Rattle.std.proofs.lemmas.Result.{err_from_is_err_and}
use Rattle.serde_json.specs.View.{view}
use Rattle.lc_json.specs.Inside.{members_in}
use Rattle.lc_certificate.specs.Trees.{claim_of, built_of}
use Rattle.lc_documents.proofs.DocumentLaws.{closed_next, still_unread}
use Rattle.lc_documents.proofs.reading.built_from.Goals as goal

pub returns-in_err-check_closed-clause-refused : goal.returns-in_err-check_closed-clause-refused
unfolding built_of
returns-in_err-check_closed-clause-refused c =
    let ms = members_in (view c.args.value.now) in
    let claim = ap (option_map claim_of) (sym c.in-Some-2.is) ∙ c.in_ok-claim.ensures.is in
    let word = sym c.in-Some-3.is ∙ c.in_ok-word.ensures.is in
    let same = closed_next ms c.in-Some.field (claim_of c.in-Some-2.claim) c.in-Some-3.word c.in-Some-distance_at.distance c.in-Some.ensures.is claim word c.in-Some-distance_at.ensures.is in
    let p = err_from_is_err_and c.from_residual-in_err-check_closed.result c.from_residual-in_err-check_closed.ensures.1 in
    rw (p.1, p.2) (still_unread ms _ c.in_err-check_closed.field-0.0 same c.in_err-check_closed.ensures.refused)

pub returns-clause-is : goal.returns-clause-is
unfolding built_of
returns-clause-is c =
    let ms = members_in (view c.args.value.now) in
    let claim = ap (option_map claim_of) (sym c.in-Some-2.is) ∙ c.in_ok-claim.ensures.is in
    let word = sym c.in-Some-3.is ∙ c.in_ok-word.ensures.is in
    closed_next ms c.in-Some.field (claim_of c.in-Some-2.claim) c.in-Some-3.word c.in-Some-distance_at.distance c.in-Some.ensures.is claim word c.in-Some-distance_at.ensures.is ∙ c.in_ok-check_closed.ensures.is
