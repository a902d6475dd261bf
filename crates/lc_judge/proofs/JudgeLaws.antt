-- What is said of bytes as a certificate of either version.
--   line_accepted, line_rejected      the line of a verdict
--   plain_said, tree_said             of a certificate of version 1, and of one by construction
--   unread_said                       of bytes that are none
use Rattle.std.proofs.Common.{◌≡◌, ◌++◌, ℕ, List, Option, Some, None, codes, decimal, refl, sym, ap, subst, ◌∙◌}
use Rattle.lc_algebra.specs.Span.{IsDistance}
use Rattle.lc_formats.specs.Certificate.{Certificate, Reason as Why, Verdict as Judgment, verdict, accepted, rejected, code_length}
use Rattle.lc_formats.specs.Check.{verdict_line, line_of_verdict, reason_line}
use Rattle.lc_formats.specs.Claim.{Built, plain, tree}
use Rattle.lc_formats.specs.ClaimMeaning.{IsTreeVerdict}
use Rattle.lc_formats.specs.Document.{DocumentRead, document, no_document}
use Rattle.lc_formats.specs.Proven.{IsProvenTree}
use Rattle.lc_formats.specs.Shape.{IsShaped}
use Rattle.lc_formats.specs.Text.{line}
use Rattle.lc_formats.proofs.VerdictLaws.{accepted_is_valid}
use Rattle.lc_validity.proofs.ValidityLaws.{certificates_are_sound}
use Rattle.lc_checker.specs.Verdict.{reason_of, verdict_of}
use Rattle.lc_checker.specs.declared.verdict.Reason.{Reason}
use Rattle.lc_checker.specs.declared.verdict.Verdict.TheVariants.{Accepted, Rejected}
use Rattle.lc_judge.specs.Judged.{judgment, IsSaid}

pub line_accepted : (d : ℕ) (text : List ℕ) → text ≡ line (codes "accepted distance " ++ decimal d) → text ≡ line_of_verdict d (verdict_of Accepted)
unfolding line_of_verdict verdict_of
line_accepted d text e = e

pub line_rejected : (d : ℕ) (r : Reason) (text : List ℕ) → text ≡ reason_line (reason_of r) → text ≡ line_of_verdict d (verdict_of (Rejected r))
unfolding line_of_verdict verdict_of
line_rejected d r text e = e

pub same_accepted : judgment None ≡ verdict_of Accepted
unfolding verdict_of
same_accepted = refl

pub same_rejected : (r : Reason) (o : Option Reason) → o ≡ Some r → judgment o ≡ verdict_of (Rejected r)
unfolding verdict_of
same_rejected r o e = ap judgment e

proves_distance : (c : Certificate) → IsShaped c → verdict c ≡ accepted → IsDistance c.field (code_length c) c.rows c.distance
proves_distance c h v = certificates_are_sound c h (accepted_is_valid c h v)

pub plain_said : (c : Certificate) (v : Judgment) (text : List ℕ) (r : Option Reason) → IsShaped c → v ≡ verdict c → text ≡ line_of_verdict c.distance v → judgment r ≡ v → IsSaid (document (plain c)) text r
unfolding verdict_line
plain_said c v text r h is t j = record {
  line = t ∙ ap (line_of_verdict c.distance) is;
  verdict = j ∙ is;
  proof = λ n. record { read_as = plain c; reads = refl; proves = proves_distance c h (sym (ap judgment (sym n) ∙ j ∙ is)) };
}

pub tree_said : (b : Built) (v : Judgment) (text : List ℕ) (r : Option Reason) → IsTreeVerdict b v → (v ≡ accepted → IsProvenTree b) → text ≡ line_of_verdict b.distance v → judgment r ≡ v → IsSaid (document (tree b)) text r
tree_said b v text r is p t j = record {
  line = (v, is, t);
  verdict = subst (IsTreeVerdict b) (sym j) is;
  proof = λ n. record { read_as = tree b; reads = refl; proves = p (sym (ap judgment (sym n) ∙ j)) };
}

pub unread_said : (read : DocumentRead) (w : Why) (w_of : Reason) (text : List ℕ) (r : Option Reason) → read ≡ no_document w → reason_of w_of ≡ w → text ≡ reason_line (reason_of w_of) → r ≡ Some w_of → IsSaid read text r
unread_said read w w_of text r e is t n =
    subst (λ d. IsSaid d text r) (sym e) (record {
      line = t ∙ ap reason_line is;
      verdict = ap judgment n ∙ ap rejected is;
      proof = λ z. absurd (let x = sym n ∙ z in cc);
    })

pub ruleset verdict_laws = (line_accepted, line_rejected, same_accepted, same_rejected)
