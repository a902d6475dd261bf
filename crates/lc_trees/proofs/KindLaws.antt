-- What comes of claims of each kind, from the codes of their parts.
--   uuv_outcome, sum_outcome, product_outcome      two codes combined
--   puncture_outcome, shorten_outcome              codes punctured and shortened
--   extend_outcome                                 extended codes
--   other_length, outside_code, span_outcome       spans of rows: of another length, outside the code, and of words of it
--   row_words                                      rows of the length are words
--   inside_next, inside_whole, inside_fails        rows that are words of the code, one after another
--   kept_length                                    a buffer keeps its length
use Rattle.std.proofs.Common.{◌≡◌, ℕ, suc, ◌+◌, ◌-◌, ◌*◌, ◌<◌, ◌≤◌, ◌↔◌, min, Bool, true, false, ◌==◌, if◌then◌else◌, IsTrue, List, [], ◌++◌, length, take, drop, get_or, slice_index_or, All, Result, Ok, refl, sym, ap, subst, ◌∙◌, arith}
use Rattle.std.specs.Prelude.{IfOk}
use Rattle.std.specs.List.{list_all}
use Rattle.std.proofs.lemmas.Bool.{eqb-true, false_from_ne_true, false≢true}
use Rattle.std.proofs.lemmas.List.Sums.{AllPass-from_list_all}
use Rattle.std.proofs.lemmas.List.{take_all, append-nil}
use Rattle.lc_algebra.specs.declared.FieldName.{FieldName}
use Rattle.lc_algebra.specs.Field.{size}
use Rattle.lc_algebra.specs.Word.{Fits, IsWord}
use Rattle.lc_algebra.specs.Span.{InSpan}
use Rattle.lc_algebra.specs.Matrix.{Matrix}
use Rattle.lc_algebra.specs.Divisor.{rounded}
use Rattle.lc_algebra.proofs.CommonLaws.{drop_whole}
use Rattle.lc_constructions.specs.declared.refusal.CodeRefusal.{CodeRefusal}
use Rattle.lc_constructions.specs.Code.{InCode, IsCode}
use Rattle.lc_constructions.specs.Combined.{InUuv, InDirectSum, InDirectProduct, InPunctured, InShortened, InExtended}
use Rattle.lc_constructions.specs.Refusal.{first_refusal, IsRefusedAs}
use Rattle.lc_constructions.specs.Refusals.{uuv_refusals, direct_sum_refusals, direct_product_refusals, deleted_refusals, extended_refusals}
use Rattle.lc_enumeration.proofs.MemberLaws.{in_span_true, true_in_span}
use Rattle.lc_formats.specs.Claim.{puncture}
use Rattle.lc_formats.specs.ClaimMeaning.{capped, refused_at, in_code, subcode_refusal, pair_refusals, pair_length, pair_bound, place_bound, extended_bound}
use Rattle.lc_certificate.specs.declared.claims.PairKind.{PairKind}
use Rattle.lc_certificate.specs.declared.claims.PairKind.TheVariants.{Uuv, Sum, Product}
use Rattle.lc_certificate.specs.declared.claims.PlaceKind.{PlaceKind}
use Rattle.lc_certificate.specs.declared.claims.PlaceKind.TheVariants.{Puncture, Shorten}
use Rattle.lc_certificate.specs.Trees.{pair_of, place_of}
use Rattle.lc_certificate.proofs.ListLaws.{all_next, all_whole, all_fails}
use Rattle.lc_trees.specs.declared.outcome.Made.{Made}
use Rattle.lc_trees.specs.declared.outcome.Stop.{Stop}
use Rattle.lc_trees.specs.Outcome.{IsOutcomeOf, own_of, PairOutcome, SpanOutcome, PlaceOutcome, ExtendOutcome}
use Rattle.lc_trees.proofs.OutcomeLaws.{has_code, has_refusal, own_result}

pub uuv_outcome : (number bound : ℕ) (kind : PairKind) (C D : Matrix) (a b : ℕ) (code : Result Matrix CodeRefusal) (result : Result Made Stop) → kind ≡ Uuv → bound ≡ min (2 * a) b → IfOk code (IsCode C.field (C.columns + D.columns) (InUuv C D)) → IsRefusedAs code (first_refusal (uuv_refusals C D)) → result ≡ own_of number bound code → IsOutcomeOf result (PairOutcome number (pair_of kind) C a D b)
unfolding pair_of pair_refusals pair_length pair_bound
uuv_outcome number bound kind C D a b code result s t k h e =
    subst (λ x. IsOutcomeOf result (PairOutcome number (pair_of x) C a D b)) (sym s)
    (own_result number bound (min (2 * a) b) code result (uuv_refusals C D) C.field (C.columns + D.columns) (InUuv C D) (ap capped t) k h e)

pub sum_outcome : (number bound : ℕ) (kind : PairKind) (C D : Matrix) (a b : ℕ) (code : Result Matrix CodeRefusal) (result : Result Made Stop) → kind ≡ Sum → bound ≡ min a b → IfOk code (IsCode C.field (C.columns + D.columns) (InDirectSum C D)) → IsRefusedAs code (first_refusal (direct_sum_refusals C D)) → result ≡ own_of number bound code → IsOutcomeOf result (PairOutcome number (pair_of kind) C a D b)
unfolding pair_of pair_refusals pair_length pair_bound
sum_outcome number bound kind C D a b code result s t k h e =
    subst (λ x. IsOutcomeOf result (PairOutcome number (pair_of x) C a D b)) (sym s)
    (own_result number bound (min a b) code result (direct_sum_refusals C D) C.field (C.columns + D.columns) (InDirectSum C D) (ap capped t) k h e)

pub product_outcome : (number bound : ℕ) (kind : PairKind) (C D : Matrix) (a b : ℕ) (code : Result Matrix CodeRefusal) (result : Result Made Stop) → kind ≡ Product → bound ≡ a * b → IfOk code (IsCode C.field (C.columns * D.columns) (InDirectProduct C D)) → IsRefusedAs code (first_refusal (direct_product_refusals C D)) → result ≡ own_of number bound code → IsOutcomeOf result (PairOutcome number (pair_of kind) C a D b)
unfolding pair_of pair_refusals pair_length pair_bound
product_outcome number bound kind C D a b code result s t k h e =
    subst (λ x. IsOutcomeOf result (PairOutcome number (pair_of x) C a D b)) (sym s)
    (own_result number bound (a * b) code result (direct_product_refusals C D) C.field (C.columns * D.columns) (InDirectProduct C D) (ap capped t) k h e)

pub puncture_outcome : (number bound : ℕ) (kind : PlaceKind) (places : List ℕ) (C : Matrix) (a : ℕ) (code : Result Matrix CodeRefusal) (result : Result Made Stop) → kind ≡ Puncture → bound ≡ place_bound puncture a (length places) → IfOk code (IsCode C.field (C.columns - length places) (InPunctured C places)) → IsRefusedAs code (first_refusal (deleted_refusals C places)) → result ≡ own_of number bound code → IsOutcomeOf result (PlaceOutcome number (place_of kind) places C a)
unfolding place_of
puncture_outcome number bound kind places C a code result s t k h e =
    subst (λ x. IsOutcomeOf result (PlaceOutcome number (place_of x) places C a)) (sym s)
    (own_result number bound (place_bound puncture a (length places)) code result (deleted_refusals C places) C.field (C.columns - length places) (InPunctured C places) (ap capped t) k h e)

pub shorten_outcome : (number bound : ℕ) (kind : PlaceKind) (places : List ℕ) (C : Matrix) (a : ℕ) (code : Result Matrix CodeRefusal) (result : Result Made Stop) → kind ≡ Shorten → bound ≡ a → IfOk code (IsCode C.field (C.columns - length places) (InShortened C places)) → IsRefusedAs code (first_refusal (deleted_refusals C places)) → result ≡ own_of number bound code → IsOutcomeOf result (PlaceOutcome number (place_of kind) places C a)
unfolding place_of place_bound
shorten_outcome number bound kind places C a code result s t k h e =
    subst (λ x. IsOutcomeOf result (PlaceOutcome number (place_of x) places C a)) (sym s)
    (own_result number bound a code result (deleted_refusals C places) C.field (C.columns - length places) (InShortened C places) (ap capped t) k h e)

pub extend_outcome : (number bound q : ℕ) (C : Matrix) (a : ℕ) (code : Result Matrix CodeRefusal) (result : Result Made Stop) → q ≡ size C.field → bound ≡ (if q == 2 then rounded 2 a else a) → IfOk code (IsCode C.field (C.columns + 1) (InExtended C)) → IsRefusedAs code (first_refusal (extended_refusals C)) → result ≡ own_of number bound code → IsOutcomeOf result (ExtendOutcome number C a)
unfolding extended_bound
extend_outcome number bound q C a code result s t k h e =
    own_result number bound (extended_bound C.field a) code result (extended_refusals C) C.field (C.columns + 1) (InExtended C) (ap capped (t ∙ ap (λ p. if p == 2 then rounded 2 a else a) s)) k h e

-- ---- spans of words of a code

pub other_length : (number : ℕ) (rows : List (List ℕ)) (C : Matrix) (a : ℕ) → list_all (λ row. length row == C.columns) rows ≡ false → SpanOutcome number rows C a (refused_at number 12)
unfolding subcode_refusal
other_length number rows C a e = has_refusal number (subcode_refusal C rows) C.field C.columns (InSpan C.field C.columns rows) a 12 (rw e refl)

pub outside_code : (number : ℕ) (rows : List (List ℕ)) (C : Matrix) (a : ℕ) → list_all (λ row. length row == C.columns) rows ≡ true → list_all (in_code C) rows ≡ false → SpanOutcome number rows C a (refused_at number 33)
unfolding subcode_refusal
outside_code number rows C a e i = has_refusal number (subcode_refusal C rows) C.field C.columns (InSpan C.field C.columns rows) a 33 (rw (e, i) refl)

pub span_outcome : (number bound : ℕ) (rows : List (List ℕ)) (C E : Matrix) (a : ℕ) (result : Result Made Stop) → list_all (λ row. length row == C.columns) rows ≡ true → list_all (in_code C) rows ≡ true → IsCode C.field C.columns (InSpan C.field C.columns rows) E → bound ≡ a → result ≡ own_of number bound (Ok E) → IsOutcomeOf result (SpanOutcome number rows C a)
unfolding subcode_refusal own_of capped
span_outcome number bound rows C E a result e i k s o =
    subst (λ r. IsOutcomeOf r (SpanOutcome number rows C a)) (sym o)
    (has_code number (subcode_refusal C rows) C.field C.columns (InSpan C.field C.columns rows) a E (min bound 256) (rw (e, i) refl) k (ap capped s))

pub row_words : (f : FieldName) (n m : ℕ) (rows : List (List ℕ)) → m ≡ n → All (Fits f) rows → list_all (λ row. length row == m) rows ≡ true → All (IsWord f n) rows
row_words f n m rows s fit e = λ k d l. record {
  long = eqb-true (length (slice_index_or rows k d)) m (AllPass-from_list_all (λ row. length row == m) rows e k d l) ∙ s;
  fits = fit k d l;
}

pub inside_next : (C : Matrix) (rows : List (List ℕ)) (i j : ℕ) (d : List ℕ) (b : Bool) → i < length rows → list_all (in_code C) (take i rows) ≡ true → IsTrue b ↔ InCode C (get_or rows i d) → b ≡ true → j ≡ suc i → list_all (in_code C) (take j rows) ≡ true
unfolding in_code
inside_next C rows i j d b l e h t s = all_next (in_code C) rows i j d l e (true_in_span C.field C.columns C.rows (get_or rows i d) (h.0 t)) s

pub inside_whole : (C : Matrix) (rows : List (List ℕ)) (i : ℕ) → length rows ≤ i → list_all (in_code C) (take i rows) ≡ true → list_all (in_code C) rows ≡ true
inside_whole C rows i l e = all_whole (in_code C) rows i l e

pub inside_fails : (C : Matrix) (rows : List (List ℕ)) (i : ℕ) (d : List ℕ) (b : Bool) → i < length rows → IsTrue b ↔ InCode C (get_or rows i d) → b ≡ false → list_all (in_code C) rows ≡ false
unfolding in_code
inside_fails C rows i d b l h t = all_fails (in_code C) rows i d l (false_from_ne_true (in_code C (get_or rows i d)) (λ e. false≢true (sym t ∙ h.1 (in_span_true C.field C.columns C.rows (get_or rows i d) e))))

pub ruleset are_inside_laws = (inside_next, inside_whole, inside_fails)

pub ruleset spanned_laws = (other_length, outside_code, span_outcome, row_words)

-- a buffer of the length of what is written to it
pub kept_length : (m n : ℕ) (new items : List ℕ) → length new ≡ n → length items ≡ n → m ≡ n → length (take m (new ++ drop (length new) items)) ≡ n
kept_length m n new items e k s =
    let none : drop (length new) items ≡ [] = drop_whole items (length new) (omega (arith, e, k)) in
    ap (λ u. length (take m (new ++ u))) none ∙ ap (λ u. length (take m u)) (append-nil new) ∙ ap (λ u. length u) (take_all m new (omega (arith, e, s))) ∙ e
