use Rattle.std.proofs.Common.{◌∙◌, map, find, sym, ap}
use Rattle.lc_formats.specs.Certificate.{levels, set_reasons, is_lighter, seen_by}
use Rattle.lc_certificate.specs.Seen.{certificate_of, proof_of, claim_of}
use Rattle.lc_checker.proofs.CheckLaws.{dimension_few, levels_shaped, sets_are, scan_seen, levels_seen}
use Rattle.lc_checker.proofs.seen.seen_lighter.Goals as goal

pub first_lighter-requires-clause-rows : goal.first_lighter-requires-clause-rows
first_lighter-requires-clause-rows c = dimension_few (certificate_of c.args.cert.now) c.args.code.now c.requires.shaped c.requires.code

pub sets_lighter-requires-clause-dimension : goal.sets_lighter-requires-clause-dimension
sets_lighter-requires-clause-dimension c = dimension_few (certificate_of c.args.cert.now) c.args.code.now c.requires.shaped c.requires.code

pub sets_lighter-requires-clause-shaped : goal.sets_lighter-requires-clause-shaped
unfolding certificate_of proof_of
sets_lighter-requires-clause-shaped c =
    let t = levels_shaped (certificate_of c.args.cert.now) (map claim_of c.in-Levels.claims.items) c.requires.shaped (ap proof_of c.in-Levels.is) in
    rw (c.deref.ensures.value, c.requires.code.columns) t.each

pub sets_lighter-requires-clause-sets : goal.sets_lighter-requires-clause-sets
unfolding certificate_of proof_of
sets_lighter-requires-clause-sets c =
    let cert = certificate_of c.args.cert.now in
    let t = sets_are cert c.args.code.now (map claim_of c.in-Levels.claims.items) c.requires.code (λ later. ap (λ p. set_reasons cert p later) (sym (ap proof_of c.in-Levels.is)) ∙ c.requires.sets later) in
    rw c.deref.ensures.value t

pub returns-in_ok-word-in-Scan : goal.returns-in_ok-word-in-Scan
unfolding certificate_of proof_of
returns-in_ok-word-in-Scan c =
    let cert = certificate_of c.args.cert.now in
    record { is = c.in_ok-word-in-Scan.ensures.is ∙ scan_seen cert c.args.code.now c.rows.result c.requires.code c.rows.ensures.is (ap proof_of c.in-Scan.is) }

pub returns-in_ok-word-in-Levels : goal.returns-in_ok-word-in-Levels
unfolding certificate_of proof_of
returns-in_ok-word-in-Levels c =
    let cert = certificate_of c.args.cert.now in
    record { is = c.in_ok-word-in-Levels.ensures.is cert c.requires.code ∙ ap (λ xs. find (is_lighter cert.distance) (seen_by cert (levels (map claim_of xs)))) c.deref.ensures.value ∙ levels_seen cert (map claim_of c.in-Levels.claims.items) (ap proof_of c.in-Levels.is) }
