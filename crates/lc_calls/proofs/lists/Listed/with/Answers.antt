use Rattle.std.proofs.Common.{◌≡◌, rules}
use Rattle.lc_calls.specs.Value.{value_of}
use Rattle.lc_calls.specs.Listed.{listed_of}
use Rattle.lc_calls.proofs.ListLaws.{number_fits, list_fits, misfit_refused}
use Rattle.lc_calls.proofs.lists.Listed.with.Goals as goal

pub returns-in-Some-clause-is : goal.returns-in-Some-clause-is
returns-in-Some-clause-is c = number_fits (listed_of c.args.self) (value_of c.args.value.now) c.in-Some.number c.with_number.result c.args.offset c.in-Some.ensures c.with_number.ensures.is

pub returns-in-Some-numbers-clause-is : goal.returns-in-Some-numbers-clause-is
returns-in-Some-numbers-clause-is c =
    let same : c.in_ok-to_vec.field-0.items ≡ c.in-Some-numbers.list.now = search rules in
    list_fits (listed_of c.args.self) (value_of c.args.value.now) c.in-Some-numbers.list.now c.in_ok-to_vec.field-0.items c.with_list.result c.args.offset c.in-Some-numbers.ensures same c.with_list.ensures.is

pub returns-clause-is : goal.returns-clause-is
returns-clause-is c = misfit_refused (listed_of c.args.self) (value_of c.args.value.now) _ c.args.offset c.in_default.ensures c.in_default-numbers.ensures c.fault.ensures
