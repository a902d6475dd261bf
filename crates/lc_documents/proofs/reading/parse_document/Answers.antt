use Rattle.std.proofs.Common.{option_map, sym, ap, ◌∙◌}
use Rattle.std.proofs.lemmas.Result.{err_from_is_err_and}
use Rattle.serde_json.specs.View.{view}
use Rattle.lc_formats.specs.Claim.{plain, tree}
use Rattle.lc_certificate.specs.Seen.{certificate_of}
use Rattle.lc_certificate.specs.Trees.{built_of, document_of}
use Rattle.lc_documents.proofs.DocumentLaws.{tree_unread, tree_document, plain_unread, plain_document, read_shaped}
use Rattle.lc_documents.proofs.reading.parse_document.Goals as goal

pub returns-in_err-built-clause-refused : goal.returns-in_err-built-clause-refused
returns-in_err-built-clause-refused c =
    let seen = ap (option_map view) (sym c.in-Some.is) ∙ c.in_ok-value.ensures.is in
    let p = err_from_is_err_and c.from_residual-in_err-built.result c.from_residual-in_err-built.ensures.1 in
    rw (p.1, p.2) (tree_unread c.args.bytes.now (view c.in-Some.value) c.in_err-built.field-0.0 seen (sym c.if-is_tree.ensures.is) c.in_err-built.ensures.refused)

pub returns-then-is_tree-clause-is : goal.returns-then-is_tree-clause-is
unfolding document_of
returns-then-is_tree-clause-is c =
    let seen = ap (option_map view) (sym c.in-Some.is) ∙ c.in_ok-value.ensures.is in
    tree_document c.args.bytes.now (view c.in-Some.value) (built_of c.in_ok-built.built) seen (sym c.if-is_tree.ensures.is) c.in_ok-built.ensures.is

pub returns-then-is_tree-clause-shaped : goal.returns-then-is_tree-clause-shaped
unfolding document_of
returns-then-is_tree-clause-shaped c =
    let seen = ap (option_map view) (sym c.in-Some.is) ∙ c.in_ok-value.ensures.is in
    read_shaped c.args.bytes.now (tree (built_of c.in_ok-built.built)) (tree_document c.args.bytes.now (view c.in-Some.value) (built_of c.in_ok-built.built) seen (sym c.if-is_tree.ensures.is) c.in_ok-built.ensures.is)

pub returns-in_err-cert-clause-refused : goal.returns-in_err-cert-clause-refused
returns-in_err-cert-clause-refused c =
    let seen = ap (option_map view) (sym c.in-Some.is) ∙ c.in_ok-value.ensures.is in
    let p = err_from_is_err_and c.from_residual-in_err-cert.result c.from_residual-in_err-cert.ensures.1 in
    rw (p.1, p.2) (plain_unread c.args.bytes.now (view c.in-Some.value) c.in_err-cert.field-0.0 seen (sym c.if-is_tree.ensures.is) c.in_err-cert.ensures.refused)

pub returns-clause-is : goal.returns-clause-is
unfolding document_of
returns-clause-is c =
    let seen = ap (option_map view) (sym c.in-Some.is) ∙ c.in_ok-value.ensures.is in
    plain_document c.args.bytes.now (view c.in-Some.value) (certificate_of c.in_ok-cert.cert) seen (sym c.if-is_tree.ensures.is) c.in_ok-cert.ensures.is

pub returns-clause-shaped : goal.returns-clause-shaped
unfolding document_of
returns-clause-shaped c =
    let seen = ap (option_map view) (sym c.in-Some.is) ∙ c.in_ok-value.ensures.is in
    read_shaped c.args.bytes.now (plain (certificate_of c.in_ok-cert.cert)) (plain_document c.args.bytes.now (view c.in-Some.value) (certificate_of c.in_ok-cert.cert) seen (sym c.if-is_tree.ensures.is) c.in_ok-cert.ensures.is)
