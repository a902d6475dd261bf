-- Each claim bounds the weights of its code, by induction over claims, and a valid certificate by construction proves its distance.
--   IsHeavy f C b          C is a code over f, with reduced rows, and b bounds the weights of its nonzero words
--   made_heavy             what comes of a claim after its parts, from its bound
--   pair_heavy, concat_heavy, subcode_heavy, placed_heavy, extended_heavy      the kinds of claims with parts
--   claim_heavy            what a claim of the right shape defines
--   claims_sound, trees_sound, accepted_proves, checked_proves      the laws
use Rattle.std.proofs.Common.{◌≡◌, ℕ, suc, ◌+◌, ◌-◌, ◌*◌, min, max, Bool, true, false, ◌==◌, if◌then◌else◌, IsTrue, List, length, Option, unwrap_or, refl, sym, subst, ◌∙◌, arith}
use Rattle.std.proofs.lemmas.Bool.{eqb-true}
use Rattle.lc_algebra.specs.declared.FieldName.{FieldName}
use Rattle.lc_algebra.specs.Field.{size, is_symbol}
use Rattle.lc_algebra.specs.Span.{InSpan, IsWeightBound}
use Rattle.lc_algebra.specs.Matrix.{Matrix, AreRows, IsReduced}
use Rattle.lc_algebra.specs.Divisor.{rounded}
use Rattle.lc_algebra.proofs.EmbeddingTests.{two_elements}
use Rattle.lc_constructions.specs.Code.{IsCode}
use Rattle.lc_constructions.specs.Alternant.{IsAlternantWord}
use Rattle.lc_constructions.specs.Combined.{InUuv, InDirectSum, InDirectProduct, InPunctured, InShortened, InExtended}
use Rattle.lc_constructions.specs.Concatenated.{InConcatenated}
use Rattle.lc_constructions.specs.Refusals.{uuv_refusals, direct_sum_refusals, direct_product_refusals, concatenated_refusals, deleted_refusals, extended_refusals}
use Rattle.lc_constructions.proofs.AlternantLaws.{form_weight_bound, form_of_code}
use Rattle.lc_formats.specs.Certificate.{Certificate, accepted, code_length}
use Rattle.lc_formats.specs.Claim.{PairKind, uuv, direct_sum, product, PlaceKind, puncture, shorten, Claim, search, alternant, pair, concat, subcode, at_places, extend, Built, Document, plain, tree, claim_total}
use Rattle.lc_formats.specs.ClaimMeaning.{capped, code_with, search_refusal, first_number, field_of_size, form_refusal, form_of, subcode_refusal, pair_refusals, pair_length, InPair, pair_bound, InPlaced, place_bound, extended_bound, HasOutcome, IsTreeVerdict}
use Rattle.lc_formats.specs.Document.{IsShapedClaim, IsShapedTree, document_in, document}
use Rattle.lc_formats.proofs.ClaimLaws.{accepted_tree}
use Rattle.lc_formats.proofs.DocumentShaped.{document_shaped}
use Rattle.lc_formats.proofs.VerdictLaws.{accepted_is_valid}
use Rattle.lc_validity.proofs.ValidityLaws.{certificates_are_sound}
use Rattle.lc_combine.proofs.BoundLaws.{sum_bound, uuv_bound, shortened_bound, extended_bound as extended_weights}
use Rattle.lc_combine.proofs.ProductBounds.{product_bound}
use Rattle.lc_combine.proofs.NestedBounds.{concatenated_bound}
use Rattle.lc_combine.proofs.ChangedBounds.{bound_of_word, punctured_bound, extended_even_bound}
use Rattle.lc_formats.specs.Proven.{SoundClaims, SoundTrees, IsVerdict, IsProvenTree, Proves}
use Rattle.lc_trees.proofs.PartLaws.{IsOwn, own_code, part_code, none_numbered, outer_field, accepted_search, same_fields, same_lengths, form_told, rows_inside, subcode_bound}

pub record IsHeavy (f : FieldName) (C : Matrix) (b : ℕ) : Type 0 where
  pub over : C.field ≡ f
  pub rows : AreRows C.field C.columns C.rows
  pub reduced : IsReduced C.columns C.rows
  pub heavy : IsWeightBound C.field C.columns C.rows b

pub made_heavy : (refusal : Option ℕ) (f : FieldName) (n : ℕ) (P : List ℕ → Type 0) (b : ℕ) (C : Matrix) (c : ℕ) → IsOwn refusal f n P b C c → IsWeightBound C.field C.columns C.rows b → IsHeavy f C c
unfolding capped
made_heavy refusal f n P b C c own heavy = record {
  over = own.code.over;
  rows = subst (λ k. AreRows C.field k C.rows) (sym own.code.length_is) (subst (λ g. AreRows g n C.rows) (sym own.code.over) own.code.generator.words);
  reduced = subst (λ k. IsReduced k C.rows) (sym own.code.length_is) own.code.generator.reduced;
  heavy = λ v s l. omega (arith, own.bound, heavy v s l);
}

over_part : (f g : FieldName) (n : ℕ) (P : List ℕ → Type 0) (E : Matrix) → g ≡ f → IsCode f n P E → IsCode g n P E
over_part f g n P E e c = subst (λ k. IsCode k n P E) (sym e) c

search_heavy : (f : FieldName) (number : ℕ) (c : Certificate) (C : Matrix) (b : ℕ) → IsShapedClaim f (search c) → HasOutcome f number (search c) (code_with C b) → IsHeavy f C b
unfolding search_refusal
search_heavy f number c C b (over, shaped) h =
    let n = code_length c in
    let own = own_code number (search_refusal c) f n (InSpan f n c.rows) c.distance C b h in
    let proven = certificates_are_sound c shaped (accepted_is_valid c shaped (accepted_search _ own.fine)) in
    made_heavy _ f n (InSpan f n c.rows) c.distance C b own
    (bound_of_word C f n c.distance (InSpan f n c.rows) own.code (λ w word t l. proven.least w (subst (λ g. InSpan g n c.rows w) (sym over) t) l))

alternant_heavy : (f : FieldName) (number locator : ℕ) (points multipliers : List ℕ) (r : ℕ) (C : Matrix) (b : ℕ) → HasOutcome f number (alternant locator points multipliers r) (code_with C b) → IsHeavy f C b
unfolding form_of
alternant_heavy f number locator points multipliers r C b h =
    let form = form_of f locator points multipliers r in
    let own = own_code number (form_refusal f locator points multipliers r) f (length points) (IsAlternantWord f form) (r + 1) C b h in
    made_heavy _ f (length points) (IsAlternantWord f form) (r + 1) C b own
    (form_weight_bound C form (form_of_code f form C (form_told f locator points multipliers r own.fine) own.code))

pub pair_heavy : (kind : PairKind) (f : FieldName) (C D E : Matrix) (a b c : ℕ) → IsHeavy f C a → IsHeavy f D b → IsOwn (first_number (pair_refusals kind C D)) f (pair_length kind C D) (InPair kind C D) (pair_bound kind a b) E c → IsHeavy f E c
unfolding pair_refusals pair_length pair_bound uuv_refusals direct_sum_refusals direct_product_refusals
pair_heavy uuv f C D E a b c one two own =
    let fine = none_numbered _ own.fine in
    made_heavy _ f (C.columns + D.columns) (InUuv C D) (min (2 * a) b) E c own
    (uuv_bound C D E (C.columns + D.columns) a b (min (2 * a) b) (same_fields C D _ fine) (same_lengths C D _ fine) one.rows two.rows (over_part f C.field _ (InUuv C D) E one.over own.code) one.heavy two.heavy (omega arith) (omega arith))
pair_heavy direct_sum f C D E a b c one two own =
    made_heavy _ f (C.columns + D.columns) (InDirectSum C D) (min a b) E c own
    (sum_bound C D E (C.columns + D.columns) a b (min a b) (over_part f C.field _ (InDirectSum C D) E one.over own.code) one.heavy two.heavy (omega arith) (omega arith))
pair_heavy product f C D E a b c one two own =
    let fine = none_numbered _ own.fine in
    made_heavy _ f (C.columns * D.columns) (InDirectProduct C D) (a * b) E c own
    (product_bound C D E (C.columns * D.columns) a b (same_fields C D _ fine) one.rows two.rows (over_part f C.field _ (InDirectProduct C D) E one.over own.code) one.heavy two.heavy)

pub concat_heavy : (f K : FieldName) (C D E : Matrix) (a b c : ℕ) → is_symbol K ≡ true → IsHeavy K C a → IsHeavy f D b → IsOwn (first_number (concatenated_refusals C D)) f (C.columns * D.columns) (InConcatenated C D) (a * b) E c → IsHeavy f E c
concat_heavy f K C D E a b c symbol one two own =
    made_heavy _ f (C.columns * D.columns) (InConcatenated C D) (a * b) E c own
    (concatenated_bound C D E (C.columns * D.columns) a b (subst (λ g. IsTrue (is_symbol g)) (sym one.over) symbol) one.rows two.rows two.reduced (none_numbered _ own.fine) (over_part f D.field _ (InConcatenated C D) E two.over own.code) one.heavy two.heavy)

pub subcode_heavy : (f : FieldName) (C E : Matrix) (rows : List (List ℕ)) (a c : ℕ) → IsHeavy f C a → IsOwn (subcode_refusal C rows) f C.columns (InSpan f C.columns rows) a E c → IsHeavy f E c
subcode_heavy f C E rows a c one own =
    made_heavy _ f C.columns (InSpan f C.columns rows) a E c own
    (subcode_bound C E rows a one.rows (rows_inside C rows own.fine) (subst (λ g. IsCode g C.columns (InSpan g C.columns rows) E) (sym one.over) own.code) one.heavy)

pub placed_heavy : (kind : PlaceKind) (f : FieldName) (C E : Matrix) (places : List ℕ) (a c : ℕ) → IsHeavy f C a → IsOwn (first_number (deleted_refusals C places)) f (C.columns - length places) (InPlaced kind C places) (place_bound kind a (length places)) E c → IsHeavy f E c
unfolding place_bound
placed_heavy puncture f C E places a c one own =
    made_heavy _ f (C.columns - length places) (InPunctured C places) (max 1 (a - length places)) E c own
    (punctured_bound C E places (C.columns - length places) a one.rows (none_numbered _ own.fine) (over_part f C.field _ (InPunctured C places) E one.over own.code) one.heavy)
placed_heavy shorten f C E places a c one own =
    made_heavy _ f (C.columns - length places) (InShortened C places) a E c own
    (shortened_bound C E places (C.columns - length places) a (over_part f C.field _ (InShortened C places) E one.over own.code) one.heavy)

even_bound : (t : Bool) (f : FieldName) (C E : Matrix) (a : ℕ) → (size f == 2) ≡ t → IsHeavy f C a → IsCode C.field (C.columns + 1) (InExtended C) E → IsWeightBound E.field E.columns E.rows (if t then rounded 2 a else a)
even_bound true f C E a e one code =
    extended_even_bound C E (C.columns + 1) a (one.over ∙ two_elements f (eqb-true (size f) 2 e)) one.rows code (extended_weights C E (C.columns + 1) a one.rows code one.heavy)
even_bound false f C E a e one code = extended_weights C E (C.columns + 1) a one.rows code one.heavy

pub extended_heavy : (f : FieldName) (C E : Matrix) (a c : ℕ) → IsHeavy f C a → IsOwn (first_number (extended_refusals C)) f (C.columns + 1) (InExtended C) (extended_bound f a) E c → IsHeavy f E c
unfolding extended_bound
extended_heavy f C E a c one own =
    made_heavy _ f (C.columns + 1) (InExtended C) (extended_bound f a) E c own
    (even_bound (size f == 2) f C E a refl one (over_part f C.field _ (InExtended C) E one.over own.code))

pub claim_heavy : (f : FieldName) (number : ℕ) (claim : Claim) (C : Matrix) (b : ℕ) → IsShapedClaim f claim → HasOutcome f number claim (code_with C b) → IsHeavy f C b
claim_heavy f number (search c) C b shaped h = search_heavy f number c C b shaped h
claim_heavy f number (alternant locator points multipliers r) C b shaped h = alternant_heavy f number locator points multipliers r C b h
claim_heavy f number (pair kind left right) E c shaped h =
    let (C, (a, e, later)) = part_code h.0 _ E c h.2 in
    let (D, (b, k, last)) = part_code later.0 _ E c later.2 in
    let one = claim_heavy f (suc number) left C a shaped.0 (subst (HasOutcome f (suc number) left) e h.1) in
    let two = claim_heavy f (suc number + claim_total left) right D b shaped.1 (subst (HasOutcome f (suc number + claim_total left) right) k later.1) in
    pair_heavy kind f C D E a b c one two (own_code number _ f (pair_length kind C D) (InPair kind C D) (pair_bound kind a b) E c last)
claim_heavy f number (concat large outer inner) E c (K, same, symbol, outside, inside) h =
    let (C, (a, e, later)) = part_code h.0 _ E c h.2 in
    let (D, (b, k, last)) = part_code later.0 _ E c later.2 in
    let one = claim_heavy K (suc number) outer C a outside (subst (λ g. HasOutcome g (suc number) outer (code_with C a)) (outer_field f K large same) (subst (HasOutcome (unwrap_or (field_of_size large) f) (suc number) outer) e h.1)) in
    let two = claim_heavy f (suc number + claim_total outer) inner D b inside (subst (HasOutcome f (suc number + claim_total outer) inner) k later.1) in
    concat_heavy f K C D E a b c symbol one two (own_code number _ f (C.columns * D.columns) (InConcatenated C D) (a * b) E c last)
claim_heavy f number (subcode of rows) E c shaped h =
    let (C, (a, e, last)) = part_code h.0 _ E c h.2 in
    subcode_heavy f C E rows a c (claim_heavy f (suc number) of C a shaped.0 (subst (HasOutcome f (suc number) of) e h.1)) (own_code number _ f C.columns (InSpan f C.columns rows) a E c last)
claim_heavy f number (at_places kind of places) E c shaped h =
    let (C, (a, e, last)) = part_code h.0 _ E c h.2 in
    placed_heavy kind f C E places a c (claim_heavy f (suc number) of C a shaped.0 (subst (HasOutcome f (suc number) of) e h.1)) (own_code number _ f (C.columns - length places) (InPlaced kind C places) (place_bound kind a (length places)) E c last)
claim_heavy f number (extend of) E c shaped h =
    let (C, (a, e, last)) = part_code h.0 _ E c h.2 in
    extended_heavy f C E a c (claim_heavy f (suc number) of C a shaped (subst (HasOutcome f (suc number) of) e h.1)) (own_code number _ f (C.columns + 1) (InExtended C) (extended_bound f a) E c last)

pub claims_sound : SoundClaims
claims_sound = λ f claim C b shaped h. (claim_heavy f 0 claim C b shaped h).heavy

pub trees_sound : SoundTrees
trees_sound = λ b shaped t. record {
  attained = (b.word, t.inside, omega (arith, t.attains, shaped.positive), t.attains);
  least = λ v s l. omega (arith, claims_sound b.field b.claim t.code t.bound shaped.claims_fit t.denotes v s l, t.reaches);
}

pub accepted_proves : (b : Built) → IsShapedTree b → IsTreeVerdict b accepted → IsProvenTree b
accepted_proves b shaped v =
    let t = accepted_tree b v in
    record { code = t.code; bound = t.bound; denotes = t.denotes; proves = trees_sound b shaped t }

pub checked_proves : (bytes : List ℕ) (d : Document) → document_in bytes ≡ document d → IsVerdict (document d) accepted → Proves d
checked_proves bytes (plain c) e v = let h = document_shaped bytes (plain c) e in certificates_are_sound c h (accepted_is_valid c h (sym v))
checked_proves bytes (tree b) e v = accepted_proves b (document_shaped bytes (tree b) e) v
