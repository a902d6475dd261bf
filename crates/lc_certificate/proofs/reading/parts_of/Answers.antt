use Rattle.std.proofs.Common.{◌≡◌, codes, rules, Some}
use Rattle.std.proofs.lemmas.Result.{err_from_is_err_and}
use Rattle.serde_json.specs.View.{view}
use Rattle.lc_constructions.specs.Refusals.{columns_of}
use Rattle.lc_formats.specs.Json.{list_at, provided}
use Rattle.lc_formats.specs.Check.{fit, are_rows, rows_at}
use Rattle.lc_json.specs.Inside.{members_in}
use Rattle.lc_certificate.specs.Reading.{distance_at}
use Rattle.lc_certificate.specs.Seen.{proof_of, certificate_of}
use Rattle.lc_certificate.proofs.PartLaws.{parts_refused, parts_read}
use Rattle.lc_certificate.proofs.reading.parts_of.Goals as goal

pub returns-in_err-basis_of-clause-refused : goal.returns-in_err-basis_of-clause-refused
returns-in_err-basis_of-clause-refused c =
    let f = c.args.field in
    let rows : Some c.in-Some.rows.items ≡ provided (are_rows f) (rows_at (members_in (view c.args.object.now))) = search rules in
    let word : Some c.in-Some-2.word ≡ provided (fit f (columns_of c.in-Some.rows.items)) (list_at (codes "word") (members_in (view c.args.object.now))) = search rules in
    let distance : Some c.in-Some-distance_at.distance ≡ distance_at (members_in (view c.args.object.now)) = search rules in
    let p = err_from_is_err_and c.from_residual-in_err-basis_of.result c.from_residual-in_err-basis_of.ensures.1 in
    rw (p.1, p.2) (parts_refused _ f c.in-Some.rows.items c.in-Some-2.word c.in-Some-distance_at.distance c.len.result c.in_err-basis_of.field-0.0 rows word distance c.len.ensures.is c.in_err-basis_of.ensures.refused)

pub returns-clause-is : goal.returns-clause-is
unfolding certificate_of
returns-clause-is c =
    let f = c.args.field in
    let rows : Some c.in-Some.rows.items ≡ provided (are_rows f) (rows_at (members_in (view c.args.object.now))) = search rules in
    let word : Some c.in-Some-2.word ≡ provided (fit f (columns_of c.in-Some.rows.items)) (list_at (codes "word") (members_in (view c.args.object.now))) = search rules in
    let distance : Some c.in-Some-distance_at.distance ≡ distance_at (members_in (view c.args.object.now)) = search rules in
    parts_read _ f c.in-Some.rows.items c.in-Some-2.word c.in-Some-distance_at.distance c.len.result (proof_of c.in_ok-basis_of.basis_of) rows word distance c.len.ensures.is c.in_ok-basis_of.ensures.is
