use Rattle.std.proofs.Common.{◌-◌, length, ap, ◌∙◌}
use Rattle.lc_combine.proofs.DeletedLaws.{shortened_code}
use Rattle.lc_combine.proofs.deleted.shortened_words.Goals as goal

pub returns : goal.returns
returns c = record {
  code = shortened_code c.args.code.now c.in_ok-dual.dual c.in_ok-from_checks.field-0 c.args.coordinates.now c.field.result.now (c.length.result - length c.args.coordinates.now) c.deref.result.now c.matrix-matrix.ensures.rows c.matrix-matrix.ensures.reduced c.in_ok-dual.ensures.code c.requires.fine c.field.ensures.is
      (ap (λ x. x - length c.args.coordinates.now) c.length.ensures.is)
      (c.deref.ensures.value ∙ c.in_ok-checks.ensures.are)
      c.in_ok-from_checks.ensures.code;
}
