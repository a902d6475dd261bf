use Rattle.std.proofs.Common.{◌∙◌, map, length, refl, sym, ap, arith}
use Rattle.std.proofs.lemmas.List.{length-map}
use Rattle.lc_formats.specs.Certificate.{levels, set_reasons}
use Rattle.lc_certificate.specs.Seen.{certificate_of, proof_of, claim_of}
use Rattle.lc_checker.specs.Verdict.{reasons_of}
use Rattle.lc_checker.proofs.CheckLaws.{dimension_few, levels_shaped, scan_reasons, levels_reasons}
use Rattle.lc_checker.proofs.reasons.set_reason.Goals as goal

pub levels_reason-requires-clause-few : goal.levels_reason-requires-clause-few
unfolding certificate_of proof_of
levels_reason-requires-clause-few c =
    let t = levels_shaped (certificate_of c.args.cert.now) (map claim_of c.in-Levels.claims.items) c.requires.shaped (ap proof_of c.in-Levels.is) in
    omega (arith, t.few, length-map c.in-Levels.claims.items claim_of, ap length c.deref.ensures.value)

pub levels_reason-requires-clause-dimension : goal.levels_reason-requires-clause-dimension
levels_reason-requires-clause-dimension c = dimension_few (certificate_of c.args.cert.now) c.args.code.now c.requires.shaped c.requires.code

pub levels_reason-requires-clause-shaped : goal.levels_reason-requires-clause-shaped
unfolding certificate_of proof_of
levels_reason-requires-clause-shaped c =
    let t = levels_shaped (certificate_of c.args.cert.now) (map claim_of c.in-Levels.claims.items) c.requires.shaped (ap proof_of c.in-Levels.is) in
    rw (c.deref.ensures.value, c.requires.code.columns) t.each

pub returns-in-Scan-clause-is : goal.returns-in-Scan-clause-is
unfolding certificate_of proof_of reasons_of
returns-in-Scan-clause-is c = scan_reasons (certificate_of c.args.cert.now) (ap proof_of c.in-Scan.is)

pub returns-in_err-reason-in-Levels-clause-scan : goal.returns-in_err-reason-in-Levels-clause-scan
unfolding certificate_of proof_of
returns-in_err-reason-in-Levels-clause-scan c = λ is_scan. let is_levels = ap proof_of c.in-Levels.is in absurd (cc)

pub returns-in_ok-reason-in-Levels-clause-is : goal.returns-in_ok-reason-in-Levels-clause-is
unfolding certificate_of proof_of
returns-in_ok-reason-in-Levels-clause-is c =
    let cert = certificate_of c.args.cert.now in
    levels_reasons cert (map claim_of c.in-Levels.claims.items) (reasons_of c.in_ok-reason-in-Levels.reason) (ap proof_of c.in-Levels.is) (λ later.
    ap (λ xs. set_reasons cert (levels (map claim_of xs)) later) (sym c.deref.ensures.value) ∙ c.in_ok-reason-in-Levels.ensures.is cert c.requires.rows c.requires.code refl later)
