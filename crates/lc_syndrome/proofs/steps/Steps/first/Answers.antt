use Rattle.std.proofs.Common.{ap, ap₂, ◌∙◌, replicate, set}
use Rattle.lc_syndrome.specs.Growth.{unknown}
use Rattle.lc_syndrome.proofs.LevelLaws.{first_table}
use Rattle.lc_syndrome.proofs.steps.Steps.first.Goals as goal

pub returns : goal.returns
returns c = record {
  table = first_table c.args.syndromes.now _ _
      (ap₂ (λ u n. set u 0 n) (c.in_ok-coordinates.ensures.are ∙ ap (λ n. replicate n 0) c.cosets-cosets.ensures.is) c.length.ensures.is)
      (ap (λ u. set u 0 0) (c.in_ok-symbols.ensures.are ∙ ap (λ n. replicate n unknown) c.cosets-cosets.ensures.is));
}
