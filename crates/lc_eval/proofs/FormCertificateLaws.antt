-- What the query for the certificate of an alternant form answers is what the definitions say.
--   bch_few, reed_solomon_few, goppa_few, alternant_few      the forms of constructors have at most 255 checks
--   word_outside, word_weighed      whether a word is one of the code of a weight
--   form_shaped            the certificate of a form has the shape
--   form_line_told         its line
--   certificate_none, certificate_fault, certificate_missed, certificate_told      the refusals of the query, and what it prints
--   of_value               what holds of a code and its form holds of their value
use Rattle.std.proofs.Common.{◌≡◌, ℕ, ◌+◌, ◌-◌, ◌%◌, ◌≤◌, ◌↔◌, Bool, true, false, nat_le, nat_lt, ◌==◌, ◌&&◌, List, [], ◌∷◌, ◌++◌, length, Option, Some, None, MatchOption, Result, Ok, Err, IfOk, IsTrue, refl, sym, ap, subst, ◌∙◌, arith}
use Rattle.std.proofs.lemmas.List.{get_or_default}
use Rattle.std.proofs.lemmas.Bool.{and_parts, or_parts, leb-true, ltb-false}
use Rattle.lc_algebra.specs.declared.FieldName.{FieldName}
use Rattle.lc_algebra.specs.Field.{size, is_symbol}
use Rattle.lc_algebra.specs.Polynomial.{trimmed}
use Rattle.lc_algebra.specs.Word.{Fits, IsWord, weight}
use Rattle.lc_algebra.specs.Matrix.{Matrix}
use Rattle.lc_field.proofs.RowLaws.{size_most}
use Rattle.lc_enumeration.specs.InformationSet.{in_span}
use Rattle.lc_enumeration.proofs.MemberLaws.{in_span_true, true_in_span}
use Rattle.lc_constructions.specs.declared.refusal.CodeRefusal.{CodeRefusal}
use Rattle.lc_constructions.specs.Code.{longest, is_length, InCode}
use Rattle.lc_constructions.specs.Alternant.{AlternantForm, IsFormOf, goppa_form, bch_form}
use Rattle.lc_constructions.specs.Refusal.{first_refusal, IsRefusedAs}
use Rattle.lc_constructions.specs.Refusals.{is_goppa_polynomial, are_elements, bad_length, bad_argument, bch_refusals, reed_solomon_refusals, goppa_refusals, form_refusals, alternant_refusals}
use Rattle.lc_constructions.proofs.RefusalLaws.{decided}
use Rattle.lc_constructions.proofs.WithoutLaws.{not_not}
use Rattle.lc_code.specs.declared.alternant.FormedCode.{FormedCode}
use Rattle.lc_goppa.specs.Form.{alternant_form}
use Rattle.lc_goppa.proofs.FormLaws.{none_before, passes}
use Rattle.lc_formats.specs.Claim.{Built, claim_total, claim_depth, built_text, form_certificate}
use Rattle.lc_formats.specs.Document.{AreBytes, IsShapedTree}
use Rattle.lc_formats.specs.Text.{line}
use Rattle.lc_language.specs.Calls.{alternant_certificate, query_refusals_of, query_refusal_of}
use Rattle.lc_language.specs.Query.{form_line}
use Rattle.lc_language.specs.Refusal.{Refusal, refuse, when, first_of, from_codes, word_refusals, no_form, not_attained}
use Rattle.lc_language.specs.Value.{CodeValue}
use Rattle.lc_language.specs.Evaluation.{refused, refuse_at, refuse_call, Step, prints, fails, fail_with, QueriesTo}
use Rattle.lc_calls.specs.declared.refusals.Refused.{Refused}
use Rattle.lc_calls.specs.declared.refusals.Stop.{Stop}
use Rattle.lc_calls.specs.declared.refusals.Stop.TheVariants as stop
use Rattle.lc_calls.specs.Value.{refused_of}
use Rattle.lc_eval.specs.Checked.{IsRight, IsChecked}
use Rattle.lc_eval.specs.Evaluated.{AffectsOrFails}
use Rattle.lc_eval.proofs.QueryLaws.{first_stays, first_behind, fails_so}

-- ---- forms have few checks

short : (n : ℕ) → bad_length n ≡ None → n ≤ 255
unfolding bad_length is_length
short n e = leb-true n 255 (and_parts (nat_le 1 n) (nat_le n longest) (not_not (is_length n) (passes _ _ e))).1

abbrev Few : Result FormedCode CodeRefusal → Type 0
Few made = IfOk made (λ c. c.form.r ≤ 255)

bch_checks : (f : FieldName) (n d : ℕ) → first_refusal (bch_refusals f n d) ≡ None → d - 1 ≤ 255
unfolding bch_refusals
bch_checks f n d e =
    let one = none_before _ _ e in
    let two = none_before _ _ one.1 in
    let three = none_before _ _ two.1 in
    let four = none_before _ _ three.1 in
    let delta : d ≤ n = ltb-false n d (or_parts (nat_lt n d) (nat_lt d 2) (passes _ _ four.0)).0 in
    omega (arith, short n two.0, delta)

pub bch_few : (f : FieldName) (n b d : ℕ) (made : Result FormedCode CodeRefusal) → IsRefusedAs made (first_refusal (bch_refusals f n d)) → IfOk made (λ c. c.form ≡ bch_form c.form.locator n (b % n) d) → Few made
unfolding bch_form
bch_few f n b d (Ok c) h e = omega (arith, ap (λ (form : AlternantForm). form.r) e, bch_checks f n d h)
bch_few f n b d (Err r) h e = tt

solomon_checks : (n d : ℕ) → first_refusal (reed_solomon_refusals n d) ≡ None → d ≤ n
unfolding reed_solomon_refusals
solomon_checks n d e =
    let one = none_before _ _ e in
    let two = none_before _ _ one.1 in
    ltb-false n d (or_parts (nat_lt n d) (nat_lt d 1) (passes _ _ two.0)).0

pub reed_solomon_few : (n d : ℕ) (made : Result FormedCode CodeRefusal) → IsRefusedAs made (first_refusal (reed_solomon_refusals n d)) → IfOk made (λ c. size c.code.field ≡ n + 1) → IfOk made (λ c. c.form ≡ bch_form c.code.field n 1 d) → Few made
unfolding bch_form
reed_solomon_few n d (Ok c) h z e = omega (arith, ap (λ (form : AlternantForm). form.r) e, solomon_checks n d h, z, size_most c.code.field)
reed_solomon_few n d (Err r) h z e = tt

goppa_checks : (f K : FieldName) (g xs : List ℕ) → first_refusal (goppa_refusals f K g xs) ≡ None → length (trimmed g) - 1 ≤ 255
unfolding goppa_refusals bad_argument is_goppa_polynomial
goppa_checks f K g xs e =
    let one = none_before _ _ e in
    let two = none_before _ _ one.1 in
    let three = none_before _ _ two.1 in
    let four = none_before _ _ three.1 in
    let fine = and_parts (are_elements K g) (nat_le 2 (length (trimmed g)) && nat_le (length (trimmed g)) 256) (not_not _ (passes _ _ four.0)) in
    omega (arith, leb-true (length (trimmed g)) 256 (and_parts (nat_le 2 (length (trimmed g))) (nat_le (length (trimmed g)) 256) fine.1).1)

pub goppa_few : (f K : FieldName) (g xs : List ℕ) (made : Result FormedCode CodeRefusal) → IsRefusedAs made (first_refusal (goppa_refusals f K g xs)) → IfOk made (λ c. c.form ≡ goppa_form K (trimmed g) xs) → Few made
unfolding goppa_form
goppa_few f K g xs (Ok c) h e = omega (arith, ap (λ (form : AlternantForm). form.r) e, goppa_checks f K g xs h)
goppa_few f K g xs (Err r) h e = tt

alternant_checks : (f K : FieldName) (r : ℕ) (xs ys : List ℕ) → first_refusal (alternant_refusals f K r xs ys) ≡ None → r ≤ 255
unfolding alternant_refusals form_refusals bad_argument
alternant_checks f K r xs ys e =
    let one = none_before _ _ e in
    let two = none_before _ _ one.1 in
    let three = none_before _ _ two.1 in
    let four = none_before _ _ three.1 in
    let five = none_before _ _ four.1 in
    omega (arith, short (length xs) three.0, ltb-false (length xs) r (or_parts (r == 0) (nat_lt (length xs) r) (passes _ _ five.0)).1)

pub alternant_few : (f K : FieldName) (r : ℕ) (xs ys : List ℕ) (made : Result FormedCode CodeRefusal) → IsRefusedAs made (first_refusal (alternant_refusals f K r xs ys)) → IfOk made (λ c. c.form ≡ alternant_form K xs ys r) → Few made
alternant_few f K r xs ys (Ok c) h e = omega (arith, ap (λ (form : AlternantForm). form.r) e, alternant_checks f K r xs ys h)
alternant_few f K r xs ys (Err s) h e = tt

-- ---- the word

pub word_outside : (C : Matrix) (w : List ℕ) (d : ℕ) (b : Bool) → IsTrue b ↔ InCode C w → b ≡ false → false ≡ (in_span C.field C.columns C.rows w && (weight w == d))
word_outside C w d b h e =
    let outside = decided b (in_span C.field C.columns C.rows w) (InCode C w) h (in_span_true C.field C.columns C.rows w) (true_in_span C.field C.columns C.rows w) in
    sym (ap (λ t. t && (weight w == d)) (sym outside ∙ e))

pub word_weighed : (C : Matrix) (w : List ℕ) (n d : ℕ) (b : Bool) → IsTrue b ↔ InCode C w → b ≡ true → n ≡ weight w → (n == d) ≡ (in_span C.field C.columns C.rows w && (weight w == d))
word_weighed C w n d b h e m =
    let inside = true_in_span C.field C.columns C.rows w (h.0 e) in
    ap (λ k. k == d) m ∙ sym (ap (λ t. t && (weight w == d)) inside)

-- ---- the line

bytes_fit : (K : FieldName) (xs : List ℕ) → length xs ≤ longest → Fits K xs → AreBytes xs
bytes_fit K xs l h = (l, λ k d m. omega (arith, get_or_default xs k d 0 m, h k m, size_most K))

pub form_shaped : (C : Matrix) (f : FieldName) (form : AlternantForm) (w : List ℕ) (b : Built) → IsFormOf C form → form.r ≤ 255 → IsWord C.field C.columns w → f ≡ C.field → b ≡ form_certificate f form w → IsShapedTree b
unfolding form_certificate claim_total claim_depth is_length
form_shaped C f form w b h few word e is =
    let n = length form.points in
    let long = and_parts (nat_le 1 n) (nat_le n longest) h.form_is.length_is in
    let some : 1 ≤ n = leb-true 1 n long.0 in
    let most : n ≤ longest = leb-true n longest long.1 in
    let symbol : is_symbol C.field ≡ true = h.form_is.symbol in
    let shaped : IsShapedTree (form_certificate C.field form w) = record {
      field_fits = symbol;
      claims_fit = (omega (arith, size_most form.locator), bytes_fit form.locator form.points most h.form_is.points, bytes_fit form.locator form.multipliers (omega (arith, most, h.form_is.count)) h.form_is.multipliers, omega (arith, few));
      few_claims = omega arith;
      shallow = omega arith;
      has_columns = omega (arith, some, h.length_is, word.long);
      few_columns = omega (arith, most, h.length_is, word.long);
      word_fits = word.fits;
      positive = omega arith;
      distance_fits = omega (arith, few);
    } in
    subst IsShapedTree (sym (is ∙ ap (λ g. form_certificate g form w) e)) shaped

pub form_line_told : (C : Matrix) (f : FieldName) (form : AlternantForm) (w text : List ℕ) (b : Built) → f ≡ C.field → b ≡ form_certificate f form w → text ≡ built_text b → text ++ 10 ∷ [] ≡ form_line C form w
unfolding form_line line
form_line_told C f form w text b e is t = ap (λ u. u ++ 10 ∷ []) (t ∙ ap built_text (is ∙ ap (λ g. form_certificate g form w) e))

-- ---- the query

pub certificate_none : (offset : ℕ) (C : Matrix) (x : List ℕ) (r : Refused) → refused (refused_of r) ≡ refuse_at 18 offset → QueriesTo offset (alternant_certificate C None x) (fails (refused_of r))
unfolding query_refusal_of query_refusals_of first_of no_form when fail_with refuse_call refuse refuse_at
certificate_none offset C x r m = ap fail_with m

abbrev Certifying : ℕ → Matrix → AlternantForm → List ℕ → Option Refusal → Step → Type 0
Certifying offset C form x r step = MatchOption r (step ≡ prints (form_line C form x)) (λ r. step ≡ fail_with (refuse_call offset r))

certifying : (offset : ℕ) (C : Matrix) (form : AlternantForm) (x : List ℕ) (r : Option Refusal) (step : Step) → first_of (from_codes (word_refusals C x) ++ not_attained C (Some form) x ∷ []) ≡ r → Certifying offset C form x r step → QueriesTo offset (alternant_certificate C (Some form) x) step
unfolding query_refusal_of query_refusals_of first_of no_form when
certifying offset C form x r step e h = subst (λ t. Certifying offset C form x t step) (sym e) h

pub certificate_fault : (offset : ℕ) (C : Matrix) (form : AlternantForm) (x : List ℕ) (s : Stop) → IsChecked C x offset (Err s) → AffectsOrFails (Err s) (QueriesTo offset (alternant_certificate C (Some form) x))
certificate_fault offset C form x (stop.Refused r) (e, h, m) = certifying offset C form x (Some e) (fails (refused_of r)) (first_stays (from_codes (word_refusals C x)) _ e h) (fails_so offset r e m)
certificate_fault offset C form x stop.NoMemory h = tt

abbrev is_attained : Matrix → AlternantForm → List ℕ → Bool
is_attained C form x = in_span C.field C.columns C.rows x && (weight x == form.r + 1)

missed_last : (C : Matrix) (form : AlternantForm) (x : List ℕ) → is_attained C form x ≡ false → first_of (not_attained C (Some form) x ∷ []) ≡ Some (refuse 19 (weight x ∷ (form.r + 1) ∷ []))
unfolding not_attained when first_of
missed_last C form x e = rw e refl

attained_last : (C : Matrix) (form : AlternantForm) (x : List ℕ) → is_attained C form x ≡ true → first_of (not_attained C (Some form) x ∷ []) ≡ None
unfolding not_attained when first_of
attained_last C form x e = rw e refl

pub certificate_missed : (offset : ℕ) (C : Matrix) (form : AlternantForm) (x w : List ℕ) (d : ℕ) (b : Bool) (r : Refused) → IsRight C x w → d ≡ form.r + 1 → b ≡ (in_span C.field C.columns C.rows w && (weight w == d)) → b ≡ false → refused (refused_of r) ≡ refuse_call offset (refuse 19 (weight w ∷ d ∷ [])) → QueriesTo offset (alternant_certificate C (Some form) x) (fails (refused_of r))
certificate_missed offset C form x w d b r h k is e m =
    let missed : is_attained C form x ≡ false = subst (λ u. is_attained C form u ≡ false) h.same (ap (λ n. in_span C.field C.columns C.rows w && (weight w == n)) (sym k) ∙ sym is ∙ e) in
    let told : refused (refused_of r) ≡ refuse_call offset (refuse 19 (weight x ∷ (form.r + 1) ∷ [])) = subst (λ u. refused (refused_of r) ≡ refuse_call offset (refuse 19 (weight u ∷ (form.r + 1) ∷ []))) h.same (subst (λ n. refused (refused_of r) ≡ refuse_call offset (refuse 19 (weight w ∷ n ∷ []))) k m) in
    certifying offset C form x (Some (refuse 19 (weight x ∷ (form.r + 1) ∷ []))) (fails (refused_of r)) (first_behind (from_codes (word_refusals C x)) _ h.unrefused ∙ missed_last C form x missed) (fails_so offset r _ told)

pub certificate_told : (offset : ℕ) (C : Matrix) (form : AlternantForm) (x w text : List ℕ) (d : ℕ) (b : Bool) → IsRight C x w → d ≡ form.r + 1 → b ≡ (in_span C.field C.columns C.rows w && (weight w == d)) → b ≡ true → text ≡ form_line C form w → QueriesTo offset (alternant_certificate C (Some form) x) (prints text)
certificate_told offset C form x w text d b h k is e t =
    let attained : is_attained C form x ≡ true = subst (λ u. is_attained C form u ≡ true) h.same (ap (λ n. in_span C.field C.columns C.rows w && (weight w == n)) (sym k) ∙ sym is ∙ e) in
    certifying offset C form x None (prints text) (first_behind (from_codes (word_refusals C x)) _ h.unrefused ∙ attained_last C form x attained) (ap (λ (l : List ℕ). prints l) (t ∙ ap (form_line C form) h.same))

-- of a code's value, which is seen as a record
pub of_value : (offset : ℕ) (C : Matrix) (form : AlternantForm) (V : CodeValue) (p : Option AlternantForm) (x : List ℕ) (step : Step) → record { code = C; form = p } ≡ V → p ≡ Some form → QueriesTo offset (alternant_certificate C (Some form) x) step → QueriesTo offset (alternant_certificate V.code V.form x) step
of_value offset C form V p x step v e h =
    let told : QueriesTo offset (alternant_certificate C p x) step = subst (λ q. QueriesTo offset (alternant_certificate C q x) step) (sym e) h in
    subst (λ (U : CodeValue). QueriesTo offset (alternant_certificate U.code U.form x) step) v told
