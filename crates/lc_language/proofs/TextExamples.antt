-- Worked statements and checkpoints, as proofs of the relations that define them.
--   text_of_nothing            the empty script prints nothing, and no fault ends it
--   unassigned, unknown, misplaced, miscounted      an expression that is refused at its name
--   first_fault                the arguments are evaluated from the left, up to the first fault
--   printed_weight             a statement prints the value of its call
--   misfit_element             Weight([1,[2]]); is refused at the second element
--   misfit_before_unknown      [F,Foo]; is refused at its first element, the field F, which stands before the unknown name
use Rattle.std.proofs.Common.{ℕ, inl, inr, refl, arith}
use Rattle.std.specs.Prelude.{[], ◌∷◌, ◌++◌, codes, None, false}
use Rattle.std.specs.Fmt.{digits as decimal_digits}
use Rattle.lc_algebra.specs.declared.FieldName.TheVariants.{Gf2}
use Rattle.lc_grammar.specs.Token.{ended, scan_within, scan}
use Rattle.lc_grammar.specs.Tree.{Exprs, number, name, call, list, none, more, Statement, offset_of as offset_of_expr, count_of}
use Rattle.lc_language.specs.Value as value
use Rattle.lc_language.specs.Value.{number_in, field_in, numbers_in, lists_in, code_in, is_kind, value_named}
use Rattle.lc_formats.specs.Text.{same_bytes, line}
use Rattle.lc_language.specs.Calls.{value_name, query_name, name_of, value_forms, query_forms, signatures, all_calls, value_calls, query_calls, call_named, signature_for, bind, refusals_of, refusal_of}
use Rattle.lc_language.specs.Refusal.{first_of}
use Rattle.lc_language.specs.Print.{value_text, value_line}
use Rattle.lc_language.specs.Evaluation.{gives, all_give, one_refused, refuse_at, first_misfit, listed_with, list_value, Evaluates, EvaluatesAll, prints, fails, fail_with, Steps, IsText}

pub text_of_nothing : (budget : ℕ) → IsText all_calls budget [] [] false
unfolding scan scan_within ended
text_of_nothing budget = inl ([], record { whole = refl; script = refl; shallow = λ k d h. absurd (omega (arith, h)) }, (refl, refl))

pub unassigned : Evaluates all_calls [] (name 5 (codes "y")) (refuse_at 44 5)
unfolding value_named
unassigned = refl

pub unknown : Evaluates all_calls [] (call 0 (codes "Foo") none) (refuse_at 44 0)
unfolding same_bytes value_name query_name name_of all_calls value_calls query_calls call_named
unknown = refl

-- where a query stands is looked at before the count of its arguments
pub misplaced : Evaluates all_calls [] (call 5 (codes "LeastWord") none) (refuse_at 45 5)
unfolding same_bytes value_name query_name name_of all_calls value_calls query_calls call_named
misplaced = refl

pub miscounted : Evaluates all_calls [] (call 0 (codes "Weight") none) (refuse_at 46 0)
unfolding same_bytes value_name query_name name_of value_forms query_forms signatures all_calls value_calls query_calls call_named signature_for count_of
miscounted = refl

-- Weight(GF(6,y));  and  Weight(y, z) .. the first fault from the left
pub first_fault : EvaluatesAll all_calls [] (more (number 1 7) (more (name 3 (codes "y")) (more (name 5 (codes "z")) none))) (one_refused (record { number = 44; offset = 3; values = [] }))
unfolding value_named refuse_at
first_fault = (gives (value.number 7), refl, (one_refused (record { number = 44; offset = 3; values = [] }), (refuse_at 44 3, refl, refl), refl))

abbrev pub weight_of : Exprs → Statement
weight_of elements = record { target = None; expr = call 0 (codes "Weight") (more (list 7 elements) none) }

-- Weight([0,5]);
pub printed_weight : Steps all_calls [] (weight_of (more (number 8 0) (more (number 10 5) none))) (prints (codes "1" ++ 10 ∷ []))
unfolding decimal_digits same_bytes value_name query_name name_of value_forms query_forms signatures all_calls value_calls query_calls call_named signature_for count_of is_kind first_misfit listed_with list_value refuse_at first_of refusals_of refusal_of bind value_text line value_line fail_with number_in field_in numbers_in lists_in code_in
printed_weight =
    let list_gives : Evaluates all_calls [] (list 7 (more (number 8 0) (more (number 10 5) none))) (gives (value.numbers (0 ∷ 5 ∷ []))) =
    (gives (value.number 0), refl, (gives (value.number 5), refl, refl)) in
    (gives (value.number 1), (all_give (value.numbers (0 ∷ 5 ∷ []) ∷ []), (gives (value.numbers (0 ∷ 5 ∷ [])), list_gives, (all_give [], refl, refl)), inr (λ e. e, (value.number 1, refl, refl))), refl)

-- Weight([1,[2]]);
pub misfit_element : Steps all_calls [] (weight_of (more (number 8 1) (more (list 10 (more (number 11 2) none)) none))) (fails (record { number = 45; offset = 10; values = [] }))
unfolding same_bytes value_name query_name name_of value_forms query_forms signatures all_calls value_calls query_calls call_named signature_for count_of offset_of_expr listed_with list_value refuse_at fail_with
misfit_element =
    let two_gives : Evaluates all_calls [] (list 10 (more (number 11 2) none)) (gives (value.numbers (2 ∷ []))) = (gives (value.number 2), refl, refl) in
    let list_gives : Evaluates all_calls [] (list 7 (more (number 8 1) (more (list 10 (more (number 11 2) none)) none))) (refuse_at 45 10) =
    (gives (value.number 1), refl, (gives (value.numbers (2 ∷ [])), two_gives, refl)) in
    (refuse_at 45 10, (one_refused (record { number = 45; offset = 10; values = [] }), (refuse_at 45 10, list_gives, refl), refl), refl)

-- [F,Foo]; where F is a field
pub misfit_before_unknown : Evaluates all_calls ((record { name = codes "F"; value = value.field Gf2 }) ∷ []) (list 0 (more (name 1 (codes "F")) (more (name 3 (codes "Foo")) none))) (refuse_at 45 1)
unfolding same_bytes value_named refuse_at listed_with offset_of_expr
misfit_before_unknown = (gives (value.field Gf2), refl, refl)
