use Rattle.std.proofs.Common.{refl, ◌∙◌, option_map, string_bytes}
use Rattle.lc_grammar.proofs.Course.{statement}
use Rattle.lc_parse.specs.Views.{tree_of}
use Rattle.lc_parse.proofs.Parsing.{step_end}
use Rattle.lc_parse.proofs.reading.statement_first.Goals as goal

pub returns-in-Some-clause-read : goal.returns-in-Some-clause-read
returns-in-Some-clause-read c =
    let bytes = c.args.source.now.bytes.now in
    let target = option_map string_bytes c.in_ok-target.target in
    λ ss. c.in_ok-target.ensures.read ss ∙ c.in_ok-expr.ensures.read (statement ss target) refl
    ∙ step_end bytes c.args.source.now.ending ss target (tree_of c.in_ok-expr.expr) c.in_ok-expr.after.now c.in-Some.rest.now c.in-Some.ensures
