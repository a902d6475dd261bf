use Rattle.std.proofs.Common.{◌∙◌, min, map, sum, sym, ap, arith}
use Rattle.lc_algebra.proofs.FieldLaws.{one_inside}
use Rattle.lc_field.proofs.RowLaws.{size_most}
use Rattle.lc_formats.specs.Certificate.{messages_through}
use Rattle.lc_checker.specs.Cost.{capped}
use Rattle.lc_certificate.specs.Seen.{certificate_of, proof_of, claim_of}
use Rattle.lc_checker.proofs.CheckLaws.{code_dimension_is, dimension_few, scan_cost, levels_cost}
use Rattle.lc_checker.proofs.reasons.cost.Goals as goal

pub words_of-requires : goal.words_of-requires
words_of-requires c = record { field = omega (arith, c.field_size-q.ensures.is, size_most c.args.cert.now.field) }

pub messages_of-requires-clause-dimension : goal.messages_of-requires-clause-dimension
messages_of-requires-clause-dimension c = omega (arith, c.rows-k.ensures.is, dimension_few (certificate_of c.args.cert.now) c.args.code.now c.requires.shaped c.requires.code)

pub messages_of-requires-clause-field : goal.messages_of-requires-clause-field
messages_of-requires-clause-field c = (omega (arith, c.field_size-q.ensures.is, one_inside c.args.cert.now.field), omega (arith, c.field_size-q.ensures.is, size_most c.args.cert.now.field))

pub returns-in-Scan-clause-is : goal.returns-in-Scan-clause-is
unfolding certificate_of proof_of
returns-in-Scan-clause-is c =
    let cert = certificate_of c.args.cert.now in
    scan_cost cert c.rows-k.result c.field_size-q.result c.words_of.result (ap proof_of c.in-Scan.is) (c.rows-k.ensures.is ∙ sym (code_dimension_is cert c.args.code.now c.requires.code)) c.field_size-q.ensures.is c.words_of.ensures.is

pub returns-in_err-words-in-Levels-clause-scan : goal.returns-in_err-words-in-Levels-clause-scan
unfolding certificate_of proof_of
returns-in_err-words-in-Levels-clause-scan c = λ is_scan. let is_levels = ap proof_of c.in-Levels.is in absurd (cc)

pub returns-in_ok-words-in-Levels-clause-is : goal.returns-in_ok-words-in-Levels-clause-is
unfolding certificate_of proof_of
returns-in_ok-words-in-Levels-clause-is c =
    let cert = certificate_of c.args.cert.now in
    levels_cost cert (map claim_of c.in-Levels.claims.items) c.rows-k.result c.field_size-q.result c.in_ok-words-in-Levels.words (ap proof_of c.in-Levels.is) (c.rows-k.ensures.is ∙ sym (code_dimension_is cert c.args.code.now c.requires.code)) c.field_size-q.ensures.is
    (c.in_ok-words-in-Levels.ensures.is ∙ ap (λ xs. capped (sum (map (λ claim. messages_through c.rows-k.result c.field_size-q.result (min claim.level c.rows-k.result)) (map claim_of xs)))) c.deref.ensures.value)
