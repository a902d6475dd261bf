use Rattle.lc_formats.specs.Claim.{plain, tree}
use Rattle.lc_formats.proofs.DocumentBack.{document_back}
use Rattle.lc_formats.proofs.DocumentShaped.{document_shaped}
use Rattle.lc_formats.proofs.laws.documents_are_read_back.Goals as goal

pub returns-clause-plain : goal.returns-clause-plain
returns-clause-plain _ = λ bytes c e. document_shaped bytes (plain c) e

pub returns-clause-tree : goal.returns-clause-tree
returns-clause-tree _ = λ bytes b e. document_shaped bytes (tree b) e

pub returns-clause-back : goal.returns-clause-back
returns-clause-back _ = document_back
