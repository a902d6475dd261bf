use Rattle.std.proofs.Common.{subst}
use Rattle.lc_algebra.specs.Matrix.{Matrix, AreRows}
use Rattle.lc_certify.specs.Claims.{kind_of}
use Rattle.lc_certify.proofs.AnswerLaws.{fits, line_by}
use Rattle.lc_certify.proofs.answered.exact_line.Goals as goal

pub certificate_of-requires-clause-word : goal.certificate_of-requires-clause-word
certificate_of-requires-clause-word c =
    let rows = subst (λ (C : Matrix). AreRows C.field C.columns C.rows) c.sets.ensures.is c.dimension-rows.ensures.rows in
    fits c.args.search.now.code (record { weight = c.args.weight; place = c.args.place }) c.in_ok-word.word rows c.requires.word c.in_ok-word.ensures.at

pub returns : goal.returns
returns c =
    let s = c.args.search.now in
    record {
      is = line_by (kind_of c.args.way) s.code (record { weight = c.args.weight; place = c.args.place }) s.progress.blocks c.in_ok-word.word c.in_ok-line.line.items _ c.in_ok-word.ensures.at c.in_ok-certificate.ensures.is c.in_ok-line.ensures.is;
    }
