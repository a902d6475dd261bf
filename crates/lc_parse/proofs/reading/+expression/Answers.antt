use Rattle.std.proofs.Common.{length, refl, sym, ap, ◌∙◌, subst, arith}
use Rattle.std.proofs.lemmas.Result.{err_from_is_err_and}
use Rattle.lc_grammar.specs.Token.{text_of}
use Rattle.lc_grammar.specs.Tree as tree
use Rattle.lc_grammar.specs.Grammar.{deepest, opens}
use Rattle.lc_grammar.proofs.Course.{of_call, of_list, filled, inside, want, opened, named, done, course}
use Rattle.lc_parse.specs.Views.{tree_of, trees_of}
use Rattle.lc_parse.specs.Reading.{ending_of, IsNotFirst, IsBehind}
use Rattle.lc_parse.proofs.Views.{tree_of-Number, tree_of-Name, tree_of-Call, tree_of-List, trees_of-push}
use Rattle.lc_parse.proofs.Parsing.{within_rest, too_deep, step_number, step_list, step_call, step_alone, step_opened, step_empty, step_closed, step_comma, refuses_from, deep_first, name_reads, name_refuses}
use Rattle.lc_parse.proofs.reading.+expression.Goals as goal

pub expression-returns-then-depth-ge-DEEPEST-clause-refused : goal.expression-returns-then-depth-ge-DEEPEST-clause-refused
expression-returns-then-depth-ge-DEEPEST-clause-refused t c = λ a d.
    too_deep c.args.source.now.bytes.now c.args.source.now.ending (want a) c.args.tokens.now c.in-Some.first.now c.in-Some.rest.now c.in-Some.ensures.cases.0 (ap opens c.in-OpenList.is) (omega arith)

pub expression-returns-in_err-elements-in-OpenList-clause-refused : goal.expression-returns-in_err-elements-in-OpenList-clause-refused
expression-returns-in_err-elements-in-OpenList-clause-refused t c =
    let p = err_from_is_err_and c.from_residual.result c.from_residual.ensures.1 in
    rw (p.1, p.2) (λ a d.
    refuses_from c.args.source.now.bytes.now c.args.source.now.ending (want a) c.args.tokens.now (opened (of_list c.in-Some.first.now.start) a) c.in-Some.rest.now _
    (step_list c.args.source.now.bytes.now c.args.source.now.ending a c.args.tokens.now c.in-Some.first.now c.in-Some.rest.now c.in-Some.ensures.cases.0 c.in-OpenList.is (omega arith))
    (c.in_err-elements-in-OpenList.ensures.refused (of_list c.in-Some.first.now.start) a refl (omega arith)))

pub expression-returns-in-Name-clause-read : goal.expression-returns-in-Name-clause-read
expression-returns-in-Name-clause-read t c =
    name_reads tree_of (λ x. x.now) c.args.source.now.bytes.now c.args.source.now.ending c.args.depth c.args.tokens.now c.in-Some.first.now c.in-Some.rest.now c.in-Some.ensures.cases.0 c.in-Name.is c.named_expression.result c.named_expression.ensures.read

pub expression-returns-in-Name-clause-refused : goal.expression-returns-in-Name-clause-refused
expression-returns-in-Name-clause-refused t c =
    name_refuses c.args.source.now.bytes.now c.args.source.now.ending c.args.depth c.args.tokens.now c.in-Some.first.now c.in-Some.rest.now c.in-Some.ensures.cases.0 c.in-Name.is c.named_expression.result c.named_expression.ensures.refused

pub expression-returns-in-Number-clause-read : goal.expression-returns-in-Number-clause-read
expression-returns-in-Number-clause-read t c = λ a d.
    step_number c.args.source.now.bytes.now c.args.source.now.ending a c.args.tokens.now c.in-Some.first.now c.in-Some.rest.now c.number_of-n.result _ c.in-Some.ensures.cases.0 c.in-Number.is c.number_of-n.ensures (tree_of-Number c.in-Some.first.now.start c.number_of-n.result)

pub expression-returns-in_ok-elements-in-OpenList-clause-read : goal.expression-returns-in_ok-elements-in-OpenList-clause-read
expression-returns-in_ok-elements-in-OpenList-clause-read t c = λ a d.
    let bytes = c.args.source.now.bytes.now in
    let offset = c.in-Some.first.now.start in
    let found = c.in_ok-elements-in-OpenList in
    step_list bytes c.args.source.now.ending a c.args.tokens.now c.in-Some.first.now c.in-Some.rest.now c.in-Some.ensures.cases.0 c.in-OpenList.is (omega arith)
    ∙ found.ensures.read (of_list offset) a refl (omega arith)
    ∙ ap (λ e. course bytes deepest (done a e) found.rest.now (ending_of c.args.source.now.ending)) (sym (tree_of-List offset found.elements))

pub expressions-returns-in-Some-clause-read : goal.expressions-returns-in-Some-clause-read
expressions-returns-in-Some-clause-read t c = λ b a k d.
    let bytes = c.args.source.now.bytes.now in
    step_empty bytes c.args.source.now.ending b a c.args.tokens.now c.in-Some.rest.now (subst (λ kind. IsBehind kind c.args.tokens.now c.in-Some.rest.now) (sym k) c.in-Some.ensures)
    ∙ ap (λ es. course bytes deepest (done a (filled b (trees_of es))) c.in-Some.rest.now (ending_of c.args.source.now.ending)) (sym c.new-found.ensures.items)

pub expressions-loop-found-init : goal.expressions-loop-found-init
expressions-loop-found-init t c =
    let bytes = c.args.source.now.bytes.now in
    let ts = c.args.tokens.now in
    record {
      within = c.requires;
      shorter = omega arith;
      so_far = λ b a k d.
          step_opened bytes c.args.source.now.ending b a ts (subst (λ kind. IsNotFirst kind ts) (sym k) c.in_default.ensures)
          ∙ ap (λ es. course bytes deepest (want (inside b (trees_of es) a)) ts (ending_of c.args.source.now.ending)) (sym c.new-found.ensures.items);
    }

pub expressions-returns-in-Some-behind-clause-read : goal.expressions-returns-in-Some-behind-clause-read
expressions-returns-in-Some-behind-clause-read t c = λ b a k d.
    let bytes = c.args.source.now.bytes.now in
    let l = c.loop-found in
    let so_far = trees_of l.found.items in
    let item = c.in_ok-item in
    let rest = c.in-Some-behind.rest.now in
    l.invariant.so_far b a k d
    ∙ item.ensures.read (inside b so_far a) (omega arith)
    ∙ step_closed bytes c.args.source.now.ending b so_far a (tree_of item.item) item.after.now rest (subst (λ kind. IsBehind kind item.after.now rest) (sym k) c.in-Some-behind.ensures)
    ∙ ap (λ es. course bytes deepest (done a (filled b es)) rest (ending_of c.args.source.now.ending)) (sym (ap trees_of c.in_ok-push.ensures.items ∙ trees_of-push l.found.items item.item))

pub expressions-loop-found-preserved : goal.expressions-loop-found-preserved
expressions-loop-found-preserved t c =
    let bytes = c.args.source.now.bytes.now in
    let l = c.loop-found in
    let so_far = trees_of l.found.items in
    let item = c.in_ok-item in
    let rest = c.in-Some-behind-2.rest.now in
    let behind = c.in-Some-behind-2.ensures in
    record {
      within = within_rest bytes item.after.now behind.0 rest behind.2 item.ensures.rest;
      shorter = omega (arith, l.invariant.shorter, item.ensures.shorter, ap length behind.2);
      so_far = λ b a k d.
          l.invariant.so_far b a k d
          ∙ item.ensures.read (inside b so_far a) (omega arith)
          ∙ step_comma bytes c.args.source.now.ending b so_far a (tree_of item.item) item.after.now rest behind
          ∙ ap (λ es. course bytes deepest (want (inside b es a)) rest (ending_of c.args.source.now.ending)) (sym (ap trees_of c.in_ok-push.ensures.items ∙ trees_of-push l.found.items item.item));
    }

pub named_expression-returns-in_err-opening-clause-refused : goal.named_expression-returns-in_err-opening-clause-refused
named_expression-returns-in_err-opening-clause-refused t c =
    let p = err_from_is_err_and c.from_residual-in_err-opening.result c.from_residual-in_err-opening.ensures.1 in
    rw (p.1, p.2) (λ a d. deep_first c.args.source.now.bytes.now c.args.source.now.ending (named a c.args.first.now.start (text_of c.args.source.now.bytes.now c.args.first.now)) c.args.tokens.now c.args.depth _ c.in_err-opening.ensures.refused d)

pub named_expression-returns-in_err-arguments-in-Some-clause-refused : goal.named_expression-returns-in_err-arguments-in-Some-clause-refused
named_expression-returns-in_err-arguments-in-Some-clause-refused t c =
    let bytes = c.args.source.now.bytes.now in
    let offset = c.args.first.now.start in
    let x = text_of bytes c.args.first.now in
    let open_first = rw c.in-Some.is at c.in_ok-opening.ensures.read in
    let p = err_from_is_err_and c.from_residual-in_err-arguments-in-Some.result c.from_residual-in_err-arguments-in-Some.ensures.1 in
    rw (p.1, p.2) (λ a d.
    refuses_from bytes c.args.source.now.ending (named a offset x) c.args.tokens.now (opened (of_call offset x) a) c.in-Some.rest.now _
    (step_call bytes c.args.source.now.ending a offset x c.args.tokens.now c.in-Some.rest.now open_first.0 (omega (arith, open_first.1)))
    (c.in_err-arguments-in-Some.ensures.refused (of_call offset x) a refl (omega arith)))

pub named_expression-returns-in-None-clause-read : goal.named_expression-returns-in-None-clause-read
named_expression-returns-in-None-clause-read t c = λ a d.
    let bytes = c.args.source.now.bytes.now in
    let offset = c.args.first.now.start in
    let x = text_of bytes c.args.first.now in
    let alone = rw c.in-None.is at c.in_ok-opening.ensures.read in
    step_alone bytes c.args.source.now.ending a offset x c.args.tokens.now alone
    ∙ ap (λ e. course bytes deepest (done a e) c.args.tokens.now (ending_of c.args.source.now.ending)) (sym (tree_of-Name offset c.in_ok-name.name ∙ ap (tree.name offset) c.in_ok-name.ensures.text))

pub named_expression-returns-in_ok-arguments-in-Some-clause-read : goal.named_expression-returns-in_ok-arguments-in-Some-clause-read
named_expression-returns-in_ok-arguments-in-Some-clause-read t c = λ a d.
    let bytes = c.args.source.now.bytes.now in
    let offset = c.args.first.now.start in
    let x = text_of bytes c.args.first.now in
    let open_first = rw c.in-Some.is at c.in_ok-opening.ensures.read in
    let found = c.in_ok-arguments-in-Some in
    step_call bytes c.args.source.now.ending a offset x c.args.tokens.now c.in-Some.rest.now open_first.0 (omega (arith, open_first.1))
    ∙ found.ensures.read (of_call offset x) a refl (omega arith)
    ∙ ap (λ e. course bytes deepest (done a e) found.rest.now (ending_of c.args.source.now.ending)) (sym (tree_of-Call offset c.in_ok-name.name found.arguments ∙ ap (λ y. tree.call offset y (trees_of found.arguments.items)) c.in_ok-name.ensures.text))
