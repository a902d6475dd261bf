use Rattle.lc_enumeration.proofs.MemberLaws.{member_true, true_member, same_from_test, test_from_same, in_span_true, true_in_span}
use Rattle.lc_enumeration.proofs.DistributionLaws.{zero_on_from_test, test_from_zero_on, zero_outside_from_test, test_from_zero_outside}
use Rattle.lc_enumeration.proofs.laws.tests_are_exact.Goals as goal

pub returns-clause-member : goal.returns-clause-member
returns-clause-member _ = λ set c. (true_member set c, member_true set c)

pub returns-clause-same : goal.returns-clause-same
returns-clause-same _ = λ u v. (same_from_test u v, test_from_same u v)

pub returns-clause-span : goal.returns-clause-span
returns-clause-span c = λ n rows w. (in_span_true c.args.field n rows w, true_in_span c.args.field n rows w)

pub returns-clause-zero_on : goal.returns-clause-zero_on
returns-clause-zero_on _ = λ set w. (zero_on_from_test set w, test_from_zero_on set w)

pub returns-clause-zero_outside : goal.returns-clause-zero_outside
returns-clause-zero_outside _ = λ set w. (zero_outside_from_test set w, test_from_zero_outside set w)
