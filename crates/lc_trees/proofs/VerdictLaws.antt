-- What the checker says of a certificate by construction.
--   tree_refused            a claim that is refused is the reason
--   tree_made               else the reasons are those of the code and the bound
--   verdict_accepted        it is accepted exactly if it is valid
--   verdict_proves          and then it proves its distance
--   outside, inside_told    a word of another length is no word of the code; whether one of this length is
--   word_fits_code          the word fits the field of the code that the claim defines
--   not_inside, other_weight, short_claim, all_right      the reasons, in their order
use Rattle.std.proofs.Common.{◌≡◌, ◌≢◌, ℕ, ◌<◌, ◌≤◌, ◌↔◌, Bool, true, false, ◌==◌, IsTrue, List, length, sym, subst, ◌∙◌, refl}
use Rattle.std.proofs.lemmas.Bool.{eq-eqb, ne_eqb, lt-ltb, le-ltb, false_from_ne_true}
use Rattle.lc_algebra.specs.declared.FieldName.{FieldName}
use Rattle.lc_algebra.specs.Word.{Fits, weight}
use Rattle.lc_algebra.specs.Matrix.{Matrix, AreRows}
use Rattle.lc_algebra.proofs.SpanLaws.{span_word}
use Rattle.lc_constructions.specs.Code.{InCode}
use Rattle.lc_constructions.proofs.RefusalLaws.{decided}
use Rattle.lc_enumeration.proofs.MemberLaws.{in_span_true, true_in_span}
use Rattle.lc_formats.specs.Certificate.{Verdict, accepted, rejected, or_else, when, word_not_in_code, word_weight, claim_short, part_refused}
use Rattle.lc_formats.specs.Claim.{Built}
use Rattle.lc_formats.specs.ClaimMeaning.{code_with, refused_at, in_code, HasOutcome, IsValidTree, tree_reasons, verdict_after, IsTreeVerdict}
use Rattle.lc_formats.specs.Document.{IsShapedTree}
use Rattle.lc_formats.proofs.ClaimLaws.{accepted_tree, valid_tree_accepted, verdict_one}
use Rattle.lc_formats.specs.Proven.{IsProvenTree}
use Rattle.lc_trees.proofs.OutcomeLaws.{code_over}
use Rattle.lc_trees.proofs.TreeLaws.{accepted_proves}

pub tree_refused : (b : Built) (number refusal : ℕ) (v : Verdict) → HasOutcome b.field 0 b.claim (refused_at number refusal) → v ≡ rejected (part_refused number refusal) → IsTreeVerdict b v
unfolding verdict_after
tree_refused b number refusal v h e = (refused_at number refusal, h, e)

pub tree_made : (b : Built) (C : Matrix) (bound : ℕ) (v : Verdict) → HasOutcome b.field 0 b.claim (code_with C bound) → v ≡ tree_reasons b C bound → IsTreeVerdict b v
unfolding verdict_after
tree_made b C bound v h e = (code_with C bound, h, e)

pub verdict_accepted : (b : Built) (v : Verdict) → IsTreeVerdict b v → (v ≡ accepted) ↔ IsValidTree b
verdict_accepted b v h = ((λ e. accepted_tree b (subst (IsTreeVerdict b) e h)), (λ t. verdict_one b v accepted h (valid_tree_accepted b t)))

pub verdict_proves : (b : Built) (v : Verdict) → IsShapedTree b → IsTreeVerdict b v → v ≡ accepted → IsProvenTree b
verdict_proves b v s h e = accepted_proves b s (subst (IsTreeVerdict b) e h)

pub outside : (C : Matrix) (w : List ℕ) → AreRows C.field C.columns C.rows → length w ≢ C.columns → in_code C w ≡ false
unfolding in_code
outside C w r n = false_from_ne_true (in_code C w) (λ t. n (span_word C.field C.columns C.rows w r (in_span_true C.field C.columns C.rows w t)).long)

pub word_fits_code : (b : Built) (f : FieldName) (number : ℕ) (C : Matrix) (bound : ℕ) → f ≡ b.field → IsShapedTree b → HasOutcome f number b.claim (code_with C bound) → Fits C.field b.word
word_fits_code b f number C bound e s h = subst (λ g. Fits g b.word) (sym (code_over f number b.claim C bound h ∙ e)) s.word_fits

pub not_inside : (b : Built) (C : Matrix) (bound : ℕ) → in_code C b.word ≡ false → rejected word_not_in_code ≡ tree_reasons b C bound
unfolding tree_reasons or_else when
not_inside b C bound e = rw e refl

pub other_weight : (b : Built) (C : Matrix) (bound : ℕ) → in_code C b.word ≡ true → weight b.word ≢ b.distance → rejected (word_weight (weight b.word)) ≡ tree_reasons b C bound
unfolding tree_reasons or_else when
other_weight b C bound e n = let t : (weight b.word == b.distance) ≡ false = ne_eqb (weight b.word) b.distance n in rw (e, t) refl

pub short_claim : (b : Built) (C : Matrix) (bound : ℕ) → in_code C b.word ≡ true → weight b.word ≡ b.distance → bound < b.distance → rejected (claim_short bound) ≡ tree_reasons b C bound
unfolding tree_reasons or_else when
short_claim b C bound e n l = let t : (weight b.word == b.distance) ≡ true = eq-eqb (weight b.word) b.distance n in rw (e, t, lt-ltb bound b.distance l) refl

pub all_right : (b : Built) (C : Matrix) (bound : ℕ) → in_code C b.word ≡ true → weight b.word ≡ b.distance → b.distance ≤ bound → accepted ≡ tree_reasons b C bound
unfolding tree_reasons or_else when
all_right b C bound e n l = let t : (weight b.word == b.distance) ≡ true = eq-eqb (weight b.word) b.distance n in rw (e, t, le-ltb bound b.distance l) refl

pub inside_told : (C : Matrix) (w : List ℕ) (b : Bool) → IsTrue b ↔ InCode C w → b ≡ in_code C w
unfolding in_code
inside_told C w b h = decided b (in_code C w) (InCode C w) h (in_span_true C.field C.columns C.rows w) (true_in_span C.field C.columns C.rows w)

pub ruleset stopped = tree_refused

pub ruleset is_inside_laws = (outside, inside_told)

pub ruleset judged = (not_inside, other_weight, short_claim, all_right)
