use Rattle.std.proofs.Common.{rules, append_assoc}
use Rattle.lc_certificate.specs.Trees.{built_of}
use Rattle.lc_certificate.proofs.TreeTexts.{built_pieces}
use Rattle.lc_certificate.proofs.tree_writing.write_built.Goals as goal

pub returns : goal.returns
unfolding built_of
returns c =
    let whole = built_pieces (built_of c.args.built.now) in
    search (rules, append_assoc)
