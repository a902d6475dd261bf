use Rattle.lc_algebra.proofs.WordLaws.{IsWord_scale, IsWord_sum, sum_comm, sum_assoc, zero_sum, sum_negative, scale_sum, sum_scale, scale_scale, one_scale, zero_scale}
use Rattle.lc_algebra.proofs.span_laws.words_are_a_vector_space.Goals as goal

pub returns-clause-sum_inside : goal.returns-clause-sum_inside
returns-clause-sum_inside c = λ n u v p q. IsWord_sum c.args.field n u v p.long q.long

pub returns-clause-multiple_inside : goal.returns-clause-multiple_inside
returns-clause-multiple_inside c = λ n a u p. IsWord_scale c.args.field n a u p.long

pub returns-clause-commutes : goal.returns-clause-commutes
returns-clause-commutes c = sum_comm c.args.field

pub returns-clause-associates : goal.returns-clause-associates
returns-clause-associates c = sum_assoc c.args.field

pub returns-clause-zero_added : goal.returns-clause-zero_added
returns-clause-zero_added c = zero_sum c.args.field

pub returns-clause-negative_added : goal.returns-clause-negative_added
returns-clause-negative_added c = sum_negative c.args.field

pub returns-clause-multiple_of_sum : goal.returns-clause-multiple_of_sum
returns-clause-multiple_of_sum c = scale_sum c.args.field

pub returns-clause-sum_of_multiples : goal.returns-clause-sum_of_multiples
returns-clause-sum_of_multiples c = sum_scale c.args.field

pub returns-clause-multiple_twice : goal.returns-clause-multiple_twice
returns-clause-multiple_twice c = scale_scale c.args.field

pub returns-clause-multiple_by_one : goal.returns-clause-multiple_by_one
returns-clause-multiple_by_one c = one_scale c.args.field

pub returns-clause-multiple_by_zero : goal.returns-clause-multiple_by_zero
returns-clause-multiple_by_zero c = zero_scale c.args.field
