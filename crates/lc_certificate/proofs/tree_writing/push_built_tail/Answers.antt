use Rattle.std.proofs.Common.{◌++◌, codes, decimal, ap, ◌∙◌}
use Rattle.lc_algebra.specs.Field.{size}
use Rattle.lc_formats.specs.Text.{numbers_text}
use Rattle.lc_certificate.specs.Trees.{built_of}
use Rattle.lc_certificate.specs.TreePieces.{built_tail}
use Rattle.lc_certificate.proofs.TreeTexts.{seven}
use Rattle.lc_certificate.proofs.tree_writing.push_built_tail.Goals as goal

pub returns : goal.returns
unfolding built_of built_tail
returns c =
    let b = c.args.built.now in
    seven c.args.text.now.items _ _ _ _ _ _ _ (codes ",\"distance\":") (decimal b.distance) (codes ",\"field\":") (decimal (size b.field)) (codes ",\"version\":2,\"word\":") (numbers_text b.word) (codes "}") c.in_ok-push_text.ensures.is c.in_ok-push_number.ensures.is c.in_ok-push_text-2.ensures.is (c.in_ok-push_number-2.ensures.is ∙ ap (λ n. c.push_text-2.new.text.items ++ decimal n) c.field_size.ensures.is) c.in_ok-push_text-3.ensures.is (c.in_ok-push_symbols.ensures.is ∙ ap (λ w. c.push_text-3.new.text.items ++ numbers_text w) c.symbols.ensures.are) c.in_ok-push_text-4.ensures.is
