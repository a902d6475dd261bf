use Rattle.std.proofs.Common.{refl}
use Rattle.lc_formats.specs.Certificate.{not_json, shape, limit}
use Rattle.lc_formats.specs.Document.{document_in}
use Rattle.lc_checker.specs.Verdict.{reason_of}
use Rattle.lc_checker.specs.declared.verdict.Reason.TheVariants as reason
use Rattle.lc_judge.proofs.JudgeLaws.{unread_said}
use Rattle.lc_judge.proofs.judging.said_in.Goals as goal

pub returns-in_ok-rejected-in-Err-NotJson : goal.returns-in_ok-rejected-in-Err-NotJson
unfolding reason_of
returns-in_ok-rejected-in-Err-NotJson c =
    let e = c.in-Err-NotJson in
    let r = c.in_ok-rejected-in-Err-NotJson in
    unread_said (document_in c.args.bytes.now) not_json reason.NotJson _ _ (rw e.field-0-is at e.ensures.refused) refl r.ensures.text r.ensures.reason

pub returns-in_ok-rejected-in-Err-Shape : goal.returns-in_ok-rejected-in-Err-Shape
unfolding reason_of
returns-in_ok-rejected-in-Err-Shape c =
    let e = c.in-Err-Shape in
    let r = c.in_ok-rejected-in-Err-Shape in
    unread_said (document_in c.args.bytes.now) (shape e.rule) (reason.Shape e.rule) _ _ (rw e.field-0-is at e.ensures.refused) refl r.ensures.text r.ensures.reason

pub returns-in_ok-rejected-in-Err-Limit : goal.returns-in_ok-rejected-in-Err-Limit
unfolding reason_of
returns-in_ok-rejected-in-Err-Limit c =
    let e = c.in-Err-Limit in
    let r = c.in_ok-rejected-in-Err-Limit in
    unread_said (document_in c.args.bytes.now) limit reason.Limit _ _ (rw e.field-0-is at e.ensures.refused) refl r.ensures.text r.ensures.reason
