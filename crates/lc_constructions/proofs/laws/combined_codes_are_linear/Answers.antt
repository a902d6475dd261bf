use Rattle.lc_constructions.proofs.ClosedLaws.{dual_closed, extended_closed, even_weight_closed, direct_sum_closed, uuv_closed, direct_product_closed, intersection_closed, concatenated_closed}
use Rattle.lc_constructions.proofs.WithoutLaws.{punctured_linear, shortened_linear}
use Rattle.lc_constructions.proofs.laws.combined_codes_are_linear.Goals as goal

pub returns-clause-dual : goal.returns-clause-dual
returns-clause-dual c = dual_closed

pub returns-clause-extended : goal.returns-clause-extended
returns-clause-extended c = extended_closed

pub returns-clause-punctured : goal.returns-clause-punctured
returns-clause-punctured c = punctured_linear

pub returns-clause-shortened : goal.returns-clause-shortened
returns-clause-shortened c = shortened_linear

pub returns-clause-even_weight : goal.returns-clause-even_weight
returns-clause-even_weight c = even_weight_closed

pub returns-clause-direct_sum : goal.returns-clause-direct_sum
returns-clause-direct_sum c = direct_sum_closed

pub returns-clause-uuv : goal.returns-clause-uuv
returns-clause-uuv c = uuv_closed

pub returns-clause-direct_product : goal.returns-clause-direct_product
returns-clause-direct_product c = direct_product_closed

pub returns-clause-intersection : goal.returns-clause-intersection
returns-clause-intersection c = intersection_closed

pub returns-clause-concatenated : goal.returns-clause-concatenated
returns-clause-concatenated c = concatenated_closed
