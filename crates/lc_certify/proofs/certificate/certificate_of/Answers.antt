use Rattle.std.proofs.Common.{rules, subst, arith}
use Rattle.lc_certificate.specs.Seen.{certificate_of as seen_certificate}
use Rattle.lc_language.specs.Query.{certificate_of}
use Rattle.lc_certify.specs.Claims.{kind_of}
use Rattle.lc_certify.specs.Accepted.{IsSearchable}
use Rattle.lc_certify.proofs.ShapeLaws.{IsSearched, shaped_as}
use Rattle.lc_certify.proofs.ValidLaws.{valid_as}
use Rattle.lc_certify.proofs.certificate.certificate_of.Goals as goal

pub returns-clause-shaped : goal.returns-clause-shaped
unfolding seen_certificate certificate_of
returns-clause-shaped c =
    let s = c.args.search.now in
    let k = c.dimension-some.ensures in
    let n = c.length-least.ensures in
    let m = c.count-few.ensures in
    let searched : IsSearched c.sets-sets.result.now = record {
      symbol = c.field.ensures.symbol;
      some_columns = omega (arith, n.is, n.least);
      few_columns = omega (arith, n.is, n.most);
      some_rows = omega (arith, k.is, k.least);
      few_rows = omega (arith, k.is, k.most);
      words = k.rows;
      some_sets = omega (arith, m.is, m.least);
      few_sets = omega (arith, m.is, m.most);
    } in
    shaped_as _ (kind_of c.args.way) s.code c.args.word c.args.weight s.progress.blocks (search rules) (subst IsSearched c.sets-sets.ensures.is searched) c.requires.word c.requires.positive (omega (arith, c.ranges.weight.fits))

pub returns-clause-valid : goal.returns-clause-valid
unfolding seen_certificate certificate_of
returns-clause-valid c = λ x few.
    let s = c.args.search.now in
    let k = c.dimension-some.ensures in
    let n = c.length-least.ensures in
    let searchable : IsSearchable c.sets-sets.result.now = record {
      symbol = c.field.ensures.symbol;
      some_columns = omega (arith, n.is, n.least);
      few_columns = omega (arith, n.is, n.most);
      some_rows = omega (arith, k.is, k.least);
      words = k.rows;
      independent = k.independent;
    } in
    valid_as _ (kind_of c.args.way) s.code c.args.word c.args.weight s.progress.blocks (search rules) (subst IsSearchable c.sets-sets.ensures.is searchable) c.requires.word x few
