use Rattle.std.proofs.Common.{◌≡◌, map, Ok, Err, sym, ◌∙◌, subst}
use Rattle.std.proofs.lemmas.Result.{err_from_is_err_and}
use Rattle.lc_parse.specs.Reading.{IsOutcome}
use Rattle.lc_grammar.proofs.Course.{read}
use Rattle.lc_parse.specs.Views.{script_of, statement_of}
use Rattle.lc_parse.proofs.ScanLaws.{tokens_within}
use Rattle.lc_parse.proofs.Outcomes.{outcome, outcome_is, reads_of, refused_of, answer_reads, answer_faults, nothing_scanned}
use Rattle.lc_parse.proofs.reading.parse.Goals as goal
use Rattle.lc_parse.proofs.reading.parse.Goals.{In_err-statements, In_ok-statements}

pub statements-requires : goal.statements-requires
statements-requires c = rw (c.deref.ensures.value, c.in_ok-tokens.ensures.tokens) (tokens_within c.args.bytes.now)

refused : (c : In_err-statements) → IsOutcome c.in_err-statements.field-0.0 (outcome c.args.bytes.now)
refused c = subst (IsOutcome c.in_err-statements.field-0.0) (outcome_is c.args.bytes.now c.deref.result.now c.in_ok-tokens.ending (c.deref.ensures.value ∙ c.in_ok-tokens.ensures.tokens) c.in_ok-tokens.ensures.ending) c.in_err-statements.ensures.refused

pub returns-in_err-statements-clause-readable : goal.returns-in_err-statements-clause-readable
returns-in_err-statements-clause-readable c =
    let p = err_from_is_err_and c.from_residual-in_err-statements.result c.from_residual-in_err-statements.ensures.1 in
    let h = refused (goal.at.returns-in_err-statements-clause-readable c).In_err-statements in
    rw (p.1, p.2) (λ ss reads. answer_reads script_of c.args.bytes.now (Err c.in_err-statements.field-0.0) h ss reads)

pub returns-in_err-statements-clause-fault : goal.returns-in_err-statements-clause-fault
returns-in_err-statements-clause-fault c =
    let p = err_from_is_err_and c.from_residual-in_err-statements.result c.from_residual-in_err-statements.ensures.1 in
    let h = refused (goal.at.returns-in_err-statements-clause-fault c).In_err-statements in
    rw (p.1, p.2) (refused_of c.args.bytes.now c.in_err-statements.field-0.0 h)

pub returns-in_err-statements-clause-faulty : goal.returns-in_err-statements-clause-faulty
returns-in_err-statements-clause-faulty c =
    let p = err_from_is_err_and c.from_residual-in_err-statements.result c.from_residual-in_err-statements.ensures.1 in
    let h = refused (goal.at.returns-in_err-statements-clause-faulty c).In_err-statements in
    rw (p.1, p.2) (λ f is. answer_faults script_of c.args.bytes.now (Err c.in_err-statements.field-0.0) h f is)

pub returns-in_err-statements-clause-nothing : goal.returns-in_err-statements-clause-nothing
returns-in_err-statements-clause-nothing c = λ none.
    let p = err_from_is_err_and c.from_residual-in_err-statements.result c.from_residual-in_err-statements.ensures.1 in
    let n = nothing_scanned c.args.bytes.now none in
    rw p.1 (c.in_err-statements.ensures.nothing 0 (c.in_ok-tokens.ensures.ending ∙ n.1) (c.deref.ensures.value ∙ c.in_ok-tokens.ensures.tokens ∙ n.0))

whole : (c : In_ok-statements) → outcome c.args.bytes.now ≡ read (map statement_of c.in_ok-statements.statements.items)
whole c = sym (outcome_is c.args.bytes.now c.deref.result.now c.in_ok-tokens.ending (c.deref.ensures.value ∙ c.in_ok-tokens.ensures.tokens) c.in_ok-tokens.ensures.ending) ∙ c.in_ok-statements.ensures.read

pub returns-clause-read : goal.returns-clause-read
returns-clause-read c = reads_of c.args.bytes.now _ (whole (goal.at.returns-clause-read c).In_ok-statements)

pub returns-clause-readable : goal.returns-clause-readable
returns-clause-readable c = λ ss reads. answer_reads script_of c.args.bytes.now (Ok (record { statements = c.in_ok-statements.statements })) (whole (goal.at.returns-clause-readable c).In_ok-statements) ss reads

pub returns-clause-faulty : goal.returns-clause-faulty
returns-clause-faulty c = λ f is. answer_faults script_of c.args.bytes.now (Ok (record { statements = c.in_ok-statements.statements })) (whole (goal.at.returns-clause-faulty c).In_ok-statements) f is
