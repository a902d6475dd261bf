-- A claim has one outcome, and a certificate by construction one verdict, which accepts exactly the valid ones.
--   one_code                   one code has the words of a length that meet a condition
--   own_one, follows_one       of a claim tried after its parts, and after a part, there is one outcome
--   outcome_one                a claim has one outcome
--   verdict_one                a certificate by construction has one verdict
--   accepted_tree, valid_tree_accepted      it is accepted exactly if it is valid
use Rattle.std.proofs.Common.{◌≡◌, ℕ, suc, ◌+◌, ◌*◌, ◌-◌, not, nat_lt, ◌==◌, List, length, Option, Some, None, unwrap_or, refl, sym, ap, ap₂, subst, ◌∙◌}
use Rattle.std.proofs.lemmas.Bool.{eqb-true, eq-eqb, ltb-false, le-ltb, not_from_true}
use Rattle.lc_algebra.specs.declared.FieldName.{FieldName}
use Rattle.lc_algebra.specs.Word.{weight}
use Rattle.lc_algebra.specs.Span.{InSpan}
use Rattle.lc_algebra.specs.Matrix.{Matrix}
use Rattle.lc_algebra.proofs.ReducedLaws.{generator_unique}
use Rattle.lc_constructions.specs.Code.{IsCode}
use Rattle.lc_constructions.specs.Alternant.{IsAlternantWord}
use Rattle.lc_constructions.specs.Combined.{InExtended}
use Rattle.lc_constructions.specs.Concatenated.{InConcatenated}
use Rattle.lc_constructions.specs.Refusals.{concatenated_refusals, deleted_refusals, extended_refusals}
use Rattle.lc_constructions.proofs.WithoutLaws.{not_not}
use Rattle.lc_enumeration.proofs.MemberLaws.{in_span_true, true_in_span}
use Rattle.lc_formats.specs.Certificate.{Verdict, accepted, rejected, code_length, when, word_not_in_code, word_weight, part_refused, claim_short}
use Rattle.lc_formats.specs.Claim.{Claim, search, alternant, pair, concat, subcode, at_places, extend, Built, claim_total}
use Rattle.lc_formats.specs.ClaimMeaning.{capped, Outcome, code_with, refused_at, HasOwn, Follows, search_refusal, first_number, field_of_size, form_refusal, form_of, in_code, subcode_refusal, pair_refusals, pair_length, InPair, pair_bound, InPlaced, place_bound, extended_bound, HasOutcome, IsValidTree, tree_reasons, verdict_after, IsTreeVerdict}
use Rattle.lc_formats.proofs.VerdictLaws.{else_accepted, accepted_else, when_not, not_when}

same_rows : (f : FieldName) (n : ℕ) (P : List ℕ → Type 0) (C D : Matrix) → IsCode f n P C → IsCode f n P D → C.rows ≡ D.rows
same_rows f n P C D h k = generator_unique f n P C.rows D.rows h.generator k.generator

abbrev made : FieldName → ℕ → List (List ℕ) → Matrix
made f n rows = record { field = f; columns = n; rows = rows }

pub one_code : (f : FieldName) (n : ℕ) (P : List ℕ → Type 0) (C D : Matrix) → IsCode f n P C → IsCode f n P D → C ≡ D
one_code f n P C D h k =
    ap₂ (λ g m. made g m C.rows) (h.over ∙ sym k.over) (h.length_is ∙ sym k.length_is) ∙ ap (made D.field D.columns) (same_rows f n P C D h k)

pub own_one : (number : ℕ) (refusal : Option ℕ) (f : FieldName) (n : ℕ) (P : List ℕ → Type 0) (b : ℕ) (o p : Outcome) → HasOwn number refusal f n P b o → HasOwn number refusal f n P b p → o ≡ p
own_one number None f n P b o p h k = h.2 ∙ ap (λ C. code_with C (capped b)) (one_code f n P h.0 k.0 h.1 k.1) ∙ sym k.2
own_one number (Some r) f n P b o p h k = h ∙ sym k

pub follows_one : (part : Outcome) (next : Matrix → ℕ → Outcome → Type 0) (o p : Outcome) → ((C : Matrix) (b : ℕ) → next C b o → next C b p → o ≡ p) → Follows part next o → Follows part next p → o ≡ p
follows_one (code_with C b) next o p one h k = one C b h k
follows_one (refused_at number refusal) next o p one h k = h ∙ sym k

pub outcome_one : (f : FieldName) (number : ℕ) (claim : Claim) (o p : Outcome) → HasOutcome f number claim o → HasOutcome f number claim p → o ≡ p
outcome_one f number (search c) o p h k = own_one number (search_refusal c) f (code_length c) (InSpan f (code_length c) c.rows) c.distance o p h k
outcome_one f number (alternant locator points multipliers r) o p h k = own_one number (form_refusal f locator points multipliers r) f (length points) (IsAlternantWord f (form_of f locator points multipliers r)) (r + 1) o p h k
outcome_one f number (pair kind left right) o p h k =
    let next = λ (C : Matrix) (a : ℕ) (later : Outcome). (two : Outcome) × HasOutcome f (suc number + claim_total left) right two × Follows two (λ D b last. HasOwn number (first_number (pair_refusals kind C D)) f (pair_length kind C D) (InPair kind C D) (pair_bound kind a b) last) later in
    follows_one h.0 next o p (λ C a s t.
    let last = λ (D : Matrix) (b : ℕ) (q : Outcome). HasOwn number (first_number (pair_refusals kind C D)) f (pair_length kind C D) (InPair kind C D) (pair_bound kind a b) q in
    follows_one s.0 last o p (λ D b u v. own_one number (first_number (pair_refusals kind C D)) f (pair_length kind C D) (InPair kind C D) (pair_bound kind a b) o p u v) s.2
    (subst (λ part. Follows part last p) (outcome_one f (suc number + claim_total left) right t.0 s.0 t.1 s.1) t.2)) h.2
    (subst (λ part. Follows part next p) (outcome_one f (suc number) left k.0 h.0 k.1 h.1) k.2)
outcome_one f number (concat large outer inner) o p h k =
    let K = unwrap_or (field_of_size large) f in
    let next = λ (C : Matrix) (a : ℕ) (later : Outcome). (two : Outcome) × HasOutcome f (suc number + claim_total outer) inner two × Follows two (λ D b last. HasOwn number (first_number (concatenated_refusals C D)) f (C.columns * D.columns) (InConcatenated C D) (a * b) last) later in
    follows_one h.0 next o p (λ C a s t.
    let last = λ (D : Matrix) (b : ℕ) (q : Outcome). HasOwn number (first_number (concatenated_refusals C D)) f (C.columns * D.columns) (InConcatenated C D) (a * b) q in
    follows_one s.0 last o p (λ D b u v. own_one number (first_number (concatenated_refusals C D)) f (C.columns * D.columns) (InConcatenated C D) (a * b) o p u v) s.2
    (subst (λ part. Follows part last p) (outcome_one f (suc number + claim_total outer) inner t.0 s.0 t.1 s.1) t.2)) h.2
    (subst (λ part. Follows part next p) (outcome_one K (suc number) outer k.0 h.0 k.1 h.1) k.2)
outcome_one f number (subcode of rows) o p h k =
    let last = λ (C : Matrix) (a : ℕ) (q : Outcome). HasOwn number (subcode_refusal C rows) f C.columns (InSpan f C.columns rows) a q in
    follows_one h.0 last o p (λ C a u v. own_one number (subcode_refusal C rows) f C.columns (InSpan f C.columns rows) a o p u v) h.2
    (subst (λ part. Follows part last p) (outcome_one f (suc number) of k.0 h.0 k.1 h.1) k.2)
outcome_one f number (at_places kind of places) o p h k =
    let last = λ (C : Matrix) (a : ℕ) (q : Outcome). HasOwn number (first_number (deleted_refusals C places)) f (C.columns - length places) (InPlaced kind C places) (place_bound kind a (length places)) q in
    follows_one h.0 last o p (λ C a u v. own_one number (first_number (deleted_refusals C places)) f (C.columns - length places) (InPlaced kind C places) (place_bound kind a (length places)) o p u v) h.2
    (subst (λ part. Follows part last p) (outcome_one f (suc number) of k.0 h.0 k.1 h.1) k.2)
outcome_one f number (extend of) o p h k =
    let last = λ (C : Matrix) (a : ℕ) (q : Outcome). HasOwn number (first_number (extended_refusals C)) f (C.columns + 1) (InExtended C) (extended_bound f a) q in
    follows_one h.0 last o p (λ C a u v. own_one number (first_number (extended_refusals C)) f (C.columns + 1) (InExtended C) (extended_bound f a) o p u v) h.2
    (subst (λ part. Follows part last p) (outcome_one f (suc number) of k.0 h.0 k.1 h.1) k.2)

pub verdict_one : (b : Built) (v w : Verdict) → IsTreeVerdict b v → IsTreeVerdict b w → v ≡ w
verdict_one b v w h k = h.2 ∙ ap (verdict_after b) (outcome_one b.field 0 b.claim h.0 k.0 h.1 k.1) ∙ sym k.2

accepted_after : (b : Built) (o : Outcome) → HasOutcome b.field 0 b.claim o → verdict_after b o ≡ accepted → IsValidTree b
unfolding verdict_after tree_reasons in_code
accepted_after b (code_with C bound) h e =
    let one = else_accepted (when (not (in_code C b.word)) word_not_in_code) _ e in
    let two = else_accepted (when (not (weight b.word == b.distance)) (word_weight (weight b.word))) _ one.1 in
    let three = else_accepted (when (nat_lt bound b.distance) (claim_short bound)) accepted two.1 in
    record {
      code = C;
      bound = bound;
      denotes = h;
      inside = in_span_true C.field C.columns C.rows b.word (not_not _ (when_not _ _ one.0));
      attains = eqb-true (weight b.word) b.distance (not_not _ (when_not _ _ two.0));
      reaches = ltb-false bound b.distance (when_not _ _ three.0);
    }
accepted_after b (refused_at number refusal) h e = absurd (apart e)
  where
    apart : rejected (part_refused number refusal) ≡ accepted → ⊥
    apart e = cc

pub accepted_tree : (b : Built) → IsTreeVerdict b accepted → IsValidTree b
accepted_tree b h = accepted_after b h.0 h.1 (sym h.2)

pub valid_tree_accepted : (b : Built) → IsValidTree b → IsTreeVerdict b accepted
unfolding verdict_after tree_reasons in_code
valid_tree_accepted b t = (
  code_with t.code t.bound,
  t.denotes,
  sym
      (accepted_else (when (not (in_code t.code b.word)) word_not_in_code) _ (not_when _ _ (not_from_true _ (true_in_span t.code.field t.code.columns t.code.rows b.word t.inside)))
      (accepted_else (when (not (weight b.word == b.distance)) (word_weight (weight b.word))) _ (not_when _ _ (not_from_true _ (eq-eqb (weight b.word) b.distance t.attains)))
      (accepted_else (when (nat_lt t.bound b.distance) (claim_short t.bound)) accepted (not_when _ _ (le-ltb t.bound b.distance t.reaches)) refl))),
)
