-- Definitions that a proof opens together, under one name.
--   refusals_of_calls               a refusal as the outcome of a call
--   bound_calls, bound_queries      the forms of calls, and what they make of values
--   bound_values                    the same, and what a value stands for
use Rattle.std.specs.Prelude.{⊤}
use Rattle.lc_language.specs.Calls.{value_forms, query_forms, bind, bind_query}
use Rattle.lc_language.specs.Value.{number_in, field_in, numbers_in, lists_in, code_in}
use Rattle.lc_language.specs.Refusal.{refusal_from, refuse}
use Rattle.lc_language.specs.Evaluation.{refuse_call}

unfoldable pub refusals_of_calls : ⊤
unfolding refusal_from refuse refuse_call
refusals_of_calls = tt

unfoldable pub bound_calls : ⊤
unfolding value_forms bind
bound_calls = tt

unfoldable pub bound_queries : ⊤
unfolding query_forms bind_query
bound_queries = tt

unfoldable pub bound_values : ⊤
unfolding value_forms bind number_in field_in numbers_in lists_in code_in
bound_values = tt
