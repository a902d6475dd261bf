use Rattle.std.proofs.Common.{◌≡◌, [], length, map, ◌∙◌}
use Rattle.lc_grammar.proofs.Course.{start}
use Rattle.lc_parse.specs.Views.{statement_of}
use Rattle.lc_parse.proofs.Parsing.{refuses_from}
use Rattle.lc_parse.proofs.Outcomes.{read_end, refuse_token, empty_of}
use Rattle.lc_parse.proofs.reading.statements.Goals as goal

pub returns-in-None-clause-read : goal.returns-in-None-clause-read
returns-in-None-clause-read c =
    let l = c.loop-left in
    let none : length l.left.now ≡ 0 = empty_of (length l.left.now) c.is_empty.result c.is_empty.ensures c.loop-left-test.false in
    l.invariant.so_far ∙ read_end c.args.source.now.bytes.now c.args.source.now.ending l.left.now (map statement_of l.found.items) none c.in-None.ensures

pub returns-in-Some-clause-refused : goal.returns-in-Some-clause-refused
returns-in-Some-clause-refused c =
    let l = c.loop-left in
    let none : length l.left.now ≡ 0 = empty_of (length l.left.now) c.is_empty.result c.is_empty.ensures c.loop-left-test.false in
    refuses_from c.args.source.now.bytes.now c.args.source.now.ending (start []) c.args.tokens.now (start (map statement_of l.found.items)) l.left.now _ l.invariant.so_far
    (refuse_token c.args.source.now.bytes.now c.args.source.now.ending l.left.now (map statement_of l.found.items) _ none c.in-Some.ensures)
