use Rattle.lc_syndrome.proofs.CosetLaws.{more_counted, counted}
use Rattle.lc_syndrome.proofs.leaders.too_many_cosets.Goals as goal

pub returns-then-cosets-gt1048576 : goal.returns-then-cosets-gt1048576
returns-then-cosets-gt1048576 c = record {
  is = more_counted c.args.code.now c.field.result.now c.size.result c.length.result c.dimension.result c.saturating_pow-cosets.result c.field.ensures.is c.size.ensures.is c.length.ensures.is c.dimension.ensures.is c.saturating_pow-cosets.ensures c.if-cosets-gt1048576.true;
}

pub returns : goal.returns
returns c = record {
  is = counted c.args.code.now c.field.result.now c.size.result c.length.result c.dimension.result c.saturating_pow-cosets.result c.field.ensures.is c.size.ensures.is c.length.ensures.is c.dimension.ensures.is c.saturating_pow-cosets.ensures c.if-cosets-gt1048576.false;
}
