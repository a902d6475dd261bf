use Rattle.std.proofs.Common.{◌≡◌, ◌≤◌, ◌+◌, suc, true, false, ◌∷◌, length, drop, Some, None, sym, ap, ◌∙◌, arith, length-drop}
use Rattle.std.proofs.lemmas.List.{take_rest, nil_from_length}
use Rattle.lc_grammar.specs.Token.{is_blank, token_at}
use Rattle.lc_parse.specs.Reading.{cuts_of, cut_of}
use Rattle.lc_parse.proofs.Scanning.{cut_within, step_end, step_blank, step_comment, step_bad, step_wide, step_token, not_35}
use Rattle.lc_parse.proofs.scan.lexeme_at.Goals as goal
use Rattle.lc_parse.proofs.scan.lexeme_at.Goals.{In-Some}

here : (c : In-Some) → drop c.args.at c.args.bytes.now ≡ c.in-Some.first.now ∷ c.in-Some.rest.now
here c = sym (take_rest c.args.bytes.now c.args.at) ∙ c.in-Some.ensures.cases.0

pub returns-in_default : goal.returns-in_default
returns-in_default c =
    step_end c.args.bytes.now c.args.at (nil_from_length _ (ap length (sym (take_rest c.args.bytes.now c.args.at)) ∙ c.in_default.ensures.cases))

pub returns-then-is_blank : goal.returns-then-is_blank
returns-then-is_blank c =
    let blank : is_blank c.in-Some.first.now ≡ true = cc in
    step_blank c.args.bytes.now c.args.at c.in-Some.first.now c.in-Some.rest.now (here (goal.at.returns-then-is_blank c).In-Some) blank

pub returns-then-first-eq35 : goal.returns-then-first-eq35
returns-then-first-eq35 c =
    let blank : is_blank c.in-Some.first.now ≡ false = cc in
    step_comment c.args.bytes.now c.args.at c.in-Some.first.now c.in-Some.rest.now (here (goal.at.returns-then-first-eq35 c).In-Some) blank c.if-first-eq35.true c.line_len.result (rw take_rest at c.line_len.ensures)

pub returns-in_default-token_at : goal.returns-in_default-token_at
returns-in_default-token_at c =
    let blank : is_blank c.in-Some.first.now ≡ false = cc in
    let none : token_at c.in-Some.first.now c.in-Some.rest.now ≡ None = sym c.token_at.ensures ∙ ap cuts_of c.in_default-token_at.is in
    step_bad c.args.bytes.now c.args.at c.in-Some.first.now c.in-Some.rest.now (here (goal.at.returns-in_default-token_at c).In-Some) blank (not_35 _ c.if-first-eq35.false) none

pub is_wide-requires : goal.is_wide-requires
is_wide-requires c =
    let cut : token_at c.in-Some.first.now c.in-Some.rest.now ≡ Some (cut_of c.in-Some-token_at.cut) = sym c.token_at.ensures ∙ ap cuts_of c.in-Some-token_at.is in
    omega (arith, ap length c.in-Some.ensures.cases.0, (cut_within c.in-Some.first.now c.in-Some.rest.now (cut_of c.in-Some-token_at.cut) cut).1)

pub returns-then-is_wide : goal.returns-then-is_wide
returns-then-is_wide c =
    let blank : is_blank c.in-Some.first.now ≡ false = cc in
    let cut : token_at c.in-Some.first.now c.in-Some.rest.now ≡ Some (cut_of c.in-Some-token_at.cut) = sym c.token_at.ensures ∙ ap cuts_of c.in-Some-token_at.is in
    let wide = rw take_rest at (sym c.is_wide.ensures ∙ c.if-is_wide.true) in
    step_wide c.args.bytes.now c.args.at c.in-Some.first.now c.in-Some.rest.now (here (goal.at.returns-then-is_wide c).In-Some) blank (not_35 _ c.if-first-eq35.false) (cut_of c.in-Some-token_at.cut) cut wide

pub overflow_add-result : goal.overflow_add-result
overflow_add-result c =
    let cut : token_at c.in-Some.first.now c.in-Some.rest.now ≡ Some (cut_of c.in-Some-token_at.cut) = sym c.token_at.ensures ∙ ap cuts_of c.in-Some-token_at.is in
    let within = (cut_within c.in-Some.first.now c.in-Some.rest.now (cut_of c.in-Some-token_at.cut) cut).1 in
    let len : c.args.at + suc (length c.in-Some.rest.now) ≤ length c.args.bytes.now = omega (arith, ap length (here (goal.at.overflow_add-result c).In-Some), length-drop c.args.at c.args.bytes.now) in
    omega (arith, within, len)

pub returns : goal.returns
returns c =
    let blank : is_blank c.in-Some.first.now ≡ false = cc in
    let cut : token_at c.in-Some.first.now c.in-Some.rest.now ≡ Some (cut_of c.in-Some-token_at.cut) = sym c.token_at.ensures ∙ ap cuts_of c.in-Some-token_at.is in
    let narrow = rw take_rest at (sym c.is_wide.ensures ∙ c.if-is_wide.false) in
    step_token c.args.bytes.now c.args.at c.in-Some.first.now c.in-Some.rest.now (here (goal.at.returns c).In-Some) blank (not_35 _ c.if-first-eq35.false) (cut_of c.in-Some-token_at.cut) cut narrow
