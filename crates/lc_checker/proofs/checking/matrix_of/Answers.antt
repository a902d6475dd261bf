use Rattle.std.proofs.Common.{◌∙◌}
use Rattle.lc_algebra.proofs.EmbeddingTests.{told_by_size}
use Rattle.lc_formats.specs.Certificate.{code_length}
use Rattle.lc_certificate.specs.Seen.{certificate_of}
use Rattle.lc_checker.proofs.checking.matrix_of.Goals as goal

pub from_rows-requires : goal.from_rows-requires
unfolding certificate_of code_length
from_rows-requires c =
    let field = told_by_size c.in-Ok.field c.args.cert.now.field (c.in-Ok.ensures.size ∙ c.field_size.ensures.is) in
    record { words = rw (c.deref.ensures.value, field, c.len.ensures.is) c.requires.shaped.rows_fit }

pub returns : goal.returns
unfolding certificate_of code_length
returns c =
    let field = told_by_size c.in-Ok.field c.args.cert.now.field (c.in-Ok.ensures.size ∙ c.field_size.ensures.is) in
    let e = c.in_ok-rows.ensures in
    record { is = record { field = e.field ∙ field; columns = e.columns ∙ c.len.ensures.is; rows = e.rows ∙ c.deref.ensures.value } }
