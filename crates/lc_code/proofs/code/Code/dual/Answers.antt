use Rattle.std.proofs.Common.{subst}
use Rattle.lc_constructions.specs.Code.{IsCode}
use Rattle.lc_constructions.specs.Combined.{InDual}
use Rattle.lc_code.proofs.CodeLaws.{dual_code}
use Rattle.lc_code.proofs.code.Code.dual.Goals as goal

pub returns : goal.returns
returns c = record {
  code = subst (λ C. IsCode C.field C.columns (InDual C) c.in_ok-kernel.field-0) c.self.view_is
      (dual_code c.self.inside.matrix c.in_ok-kernel.field-0 c.self.invariant c.in_ok-kernel.ensures.field c.in_ok-kernel.ensures.columns (assumption c.in_ok-kernel.ensures));
}
