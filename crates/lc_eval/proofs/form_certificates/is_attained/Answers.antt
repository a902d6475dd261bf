use Rattle.lc_eval.proofs.FormCertificateLaws.{word_outside}
use Rattle.lc_eval.proofs.form_certificates.is_attained.Goals as goal

pub returns-then-not-contains : goal.returns-then-not-contains
returns-then-not-contains c = word_outside c.args.code.now c.args.word.now c.args.distance c.contains.result c.contains.ensures.is c.if-not-contains.true
