use Rattle.std.proofs.Common.{refl}
use Rattle.lc_language.specs.Calls.{value_name, query_name, name_of, signatures, value_forms, query_forms, value_calls}
use Rattle.lc_calls.specs.Built.{built_calls}
use Rattle.lc_calls.proofs.table.table.Goals as goal

pub returns-clause-calls : goal.returns-clause-calls
unfolding built_calls value_calls
returns-clause-calls c = refl

pub returns-clause-names : goal.returns-clause-names
unfolding built_calls value_calls value_name query_name name_of
returns-clause-names c = refl

pub returns-clause-forms : goal.returns-clause-forms
unfolding built_calls value_calls signatures value_forms query_forms
returns-clause-forms c = refl
