use Rattle.std.proofs.Common.{◌∙◌, ap}
use Rattle.lc_algebra.specs.Word.{weight}
use Rattle.lc_formats.specs.Certificate.{code_length}
use Rattle.lc_certificate.specs.Seen.{certificate_of}
use Rattle.lc_checker.specs.Verdict.{reason_of, reasons_of}
use Rattle.lc_checker.proofs.CheckLaws.{word_costly, span_told, word_outside, word_heavy, word_right}
use Rattle.lc_checker.proofs.reasons.word_reason.Goals as goal

pub returns-then-words-gt-MOST_WORDS : goal.returns-then-words-gt-MOST_WORDS
unfolding reasons_of reason_of
returns-then-words-gt-MOST_WORDS c = record { is = word_costly (certificate_of c.args.cert.now) c.in_ok-words.words c.in_ok-words.ensures.is c.if-words-gt-MOST_WORDS.true }

pub in_span-requires : goal.in_span-requires
unfolding certificate_of code_length
in_span-requires c = record { word = rw (c.symbols.ensures.are, c.requires.rows.field, c.requires.rows.columns) c.requires.shaped.word_fits }

pub returns-then-not-branch : goal.returns-then-not-branch
unfolding reasons_of reason_of certificate_of
returns-then-not-branch c =
    let cert = certificate_of c.args.cert.now in
    record { is = word_outside cert c.in_ok-words.words c.in_ok-in_span.field-0 c.in_ok-words.ensures.is c.if-words-gt-MOST_WORDS.false (span_told cert c.args.rows.now c.in_ok-in_span.field-0 c.requires.rows (rw (← c.symbols.ensures.are) c.in_ok-in_span.ensures.is)) c.if-not-branch.true }

pub returns-then-w-cert : goal.returns-then-w-cert
unfolding reasons_of reason_of certificate_of
returns-then-w-cert c =
    let cert = certificate_of c.args.cert.now in
    record { is = word_heavy cert c.in_ok-words.words c.weight-w.result c.in_ok-in_span.field-0 c.in_ok-words.ensures.is c.if-words-gt-MOST_WORDS.false (span_told cert c.args.rows.now c.in_ok-in_span.field-0 c.requires.rows (rw (← c.symbols.ensures.are) c.in_ok-in_span.ensures.is)) c.if-not-branch.false (c.weight-w.ensures.is ∙ ap weight c.symbols-2.ensures.are) c.if-w-cert.true }

pub returns : goal.returns
unfolding reasons_of reason_of certificate_of
returns c =
    let cert = certificate_of c.args.cert.now in
    record { is = word_right cert c.in_ok-words.words c.weight-w.result c.in_ok-in_span.field-0 c.in_ok-words.ensures.is c.if-words-gt-MOST_WORDS.false (span_told cert c.args.rows.now c.in_ok-in_span.field-0 c.requires.rows (rw (← c.symbols.ensures.are) c.in_ok-in_span.ensures.is)) c.if-not-branch.false (c.weight-w.ensures.is ∙ ap weight c.symbols-2.ensures.are) c.if-w-cert.false }
