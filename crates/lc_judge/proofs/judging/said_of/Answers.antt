use Rattle.lc_certificate.specs.Seen.{certificate_of}
use Rattle.lc_certificate.specs.Trees.{built_of, document_of}
use Rattle.lc_checker.specs.Verdict.{verdict_of}
use Rattle.lc_judge.proofs.JudgeLaws.{plain_said, tree_said}
use Rattle.lc_judge.proofs.judging.said_of.Goals as goal

pub check-requires : goal.check-requires
unfolding document_of
check-requires c = record { shaped = rw c.in-Plain.is at c.requires.shaped }

pub check_built-requires : goal.check_built-requires
unfolding document_of
check_built-requires c = record { shaped = rw c.in-Tree.is at c.requires.shaped }

pub returns-in_ok-said-in-Plain : goal.returns-in_ok-said-in-Plain
unfolding document_of certificate_of
returns-in_ok-said-in-Plain c =
    let v = c.in_ok-verdict-in-Plain in
    rw c.in-Plain.is (plain_said (certificate_of c.in-Plain.certificate) (verdict_of v.verdict) _ _ (rw c.in-Plain.is at c.requires.shaped) v.ensures.is c.in_ok-said-in-Plain.ensures.text c.in_ok-said-in-Plain.ensures.verdict)

pub returns-in_ok-said-in-Tree : goal.returns-in_ok-said-in-Tree
unfolding document_of built_of
returns-in_ok-said-in-Tree c =
    let v = c.in_ok-verdict-in-Tree in
    rw c.in-Tree.is (tree_said (built_of c.in-Tree.built) (verdict_of v.verdict) _ _ v.ensures.is v.ensures.proves c.in_ok-said-in-Tree.ensures.text c.in_ok-said-in-Tree.ensures.verdict)
