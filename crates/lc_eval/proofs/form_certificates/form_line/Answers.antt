use Rattle.lc_certificate.specs.Trees.{built_of}
use Rattle.lc_eval.proofs.FormCertificateLaws.{form_shaped}
use Rattle.lc_eval.proofs.form_certificates.form_line.Goals as goal

pub write_built-requires : goal.write_built-requires
write_built-requires c =
    record { shaped = form_shaped c.args.code.now c.field.result.now c.args.form.now c.args.word (built_of c.in_ok-built.built) c.requires.form c.requires.few c.requires.word c.field.ensures.is c.in_ok-built.ensures }
