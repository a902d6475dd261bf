-- Codes with their alternant forms are what the definitions say.
--   bch_applies, reed_solomon_applies      BCH and Reed-Solomon codes
--   goppa_wide, alternant_wide             lists with a number that is an element of no field
--   goppa_applies, alternant_applies       Goppa and alternant codes by other lists
use Rattle.std.proofs.Common.{◌≡◌, ℕ, ◌+◌, ◌-◌, ◌%◌, ◌≤◌, false, nat_le, List, length, Option, Some, None, Result, Err, IfOk, refl, sym, ap, ◌∙◌}
use Rattle.std.proofs.lemmas.Bool.{and_parts, leb-true}
use Rattle.lc_algebra.specs.declared.FieldName.{FieldName}
use Rattle.lc_algebra.specs.Field.{size, is_symbol}
use Rattle.lc_algebra.specs.Polynomial.{trimmed}
use Rattle.lc_algebra.proofs.OrderLaws.{order_of_element}
use Rattle.lc_constructions.specs.Code.{longest, is_length, IsCode}
use Rattle.lc_constructions.specs.Cyclic.{IsLocatorField, IsBchWord, IsReedSolomonWord}
use Rattle.lc_constructions.specs.Alternant.{AlternantForm, IsFormOf, IsAlternantWord, IsGoppaWord, goppa_form, bch_form}
use Rattle.lc_constructions.specs.declared.refusal.CodeRefusal.{CodeRefusal}
use Rattle.lc_constructions.specs.declared.refusal.CodeRefusal.TheVariants.{BadLength, FieldTooLarge}
use Rattle.lc_constructions.specs.Refusal.{first_refusal, IsRefusedAs}
use Rattle.lc_constructions.specs.Refusals.{too_large, bad_length, bch_refusals, reed_solomon_refusals, goppa_refusals, alternant_refusals}
use Rattle.lc_constructions.proofs.LocatorLaws.{locator_is}
use Rattle.lc_code.specs.declared.alternant.FormedCode.{FormedCode}
use Rattle.lc_code.proofs.CodeLaws.{same_code}
use Rattle.lc_cyclic.proofs.BchLaws.{zeros_modulo}
use Rattle.lc_goppa.specs.Form.{alternant_form}
use Rattle.lc_language.specs.Calls.{BoundCall, bch_code, reed_solomon_code, goppa_code, alternant_code, refusals_of, Gives}
use Rattle.lc_language.specs.Value.{code}
use Rattle.lc_language.specs.Refusal.{from_codes}
use Rattle.lc_language.specs.Evaluation.{AppliesTo}
use Rattle.lc_calls.specs.declared.values.Value.{Value}
use Rattle.lc_calls.specs.declared.refusals.Stop.{Stop}
use Rattle.lc_calls.specs.Applied.{Answers}
use Rattle.lc_calls.specs.Made.{IsMade, IsFormed, formed_value}
use Rattle.lc_eval.specs.Rows.{clamped, has_wide}
use Rattle.lc_eval.proofs.AnswerLaws.{applied, first_as, refused_by}
use Rattle.lc_eval.proofs.RowLaws.{none_here}
use Rattle.lc_eval.proofs.WideLaws.{narrow_kept}

-- ---- BCH and Reed-Solomon codes

bch_length : (f : FieldName) (n d : ℕ) → first_refusal (bch_refusals f n d) ≡ None → 1 ≤ n
unfolding bch_refusals too_large bad_length is_length
bch_length f n d h =
    let a = none_here (is_symbol f) FieldTooLarge _ h in
    let b = none_here (is_length n) BadLength _ a.1 in
    leb-true 1 n (and_parts (nat_le 1 n) (nat_le n longest) b.0).0

bch_gives : (n b d : ℕ) (f : FieldName) (c : FormedCode) → 1 ≤ n → IsCode f n (IsBchWord f c.form.locator n b d) c.code → IsLocatorField f n c.form.locator → c.form ≡ bch_form c.form.locator n (b % n) d → Gives (bch_code n b d f) (formed_value c)
bch_gives n b d f c l h k e =
    let K = c.form.locator in
    let o : (size K - 1) % n ≡ 0 = order_of_element K k.order.0 n k.order.1 in
    let is : IsCode f n (IsBchWord f K n (b % n) d) c.code = same_code f n (IsBchWord f K n b d) (IsBchWord f K n (b % n) d) c.code (λ w m. let z = zeros_modulo f K n b d w l o m.long in (z.1, z.0)) h in
    (K, (locator_is f n K l).1 k, record { code_is = (c.code, is, ap (λ (form : AlternantForm). code c.code (Some form)) e) })

pub bch_applies : (offset n b d : ℕ) (f : FieldName) (made : Result FormedCode CodeRefusal) (result : Result Value Stop)
    → IfOk made (λ c. IsCode f n (IsBchWord f c.form.locator n b d) c.code) → IfOk made (λ c. IsLocatorField f n c.form.locator) → IfOk made (λ c. c.form ≡ bch_form c.form.locator n (b % n) d)
    → IsRefusedAs made (first_refusal (bch_refusals f n d)) → IsFormed made offset result → Answers result (AppliesTo offset (bch_code n b d f))
unfolding refusals_of
bch_applies offset n b d f made result h k e r s =
    applied offset (bch_code n b d f) (bch_refusals f n d) formed_value made result refl (λ n. n)
    (λ c m o.
    let is : IsCode f n (IsBchWord f c.form.locator n b d) c.code = rw m at h in
    let field : IsLocatorField f n c.form.locator = rw m at k in
    let form : c.form ≡ bch_form c.form.locator n (b % n) d = rw m at e in
    bch_gives n b d f c (bch_length f n d o) is field form)
    r s

pub reed_solomon_applies : (offset n d : ℕ) (made : Result FormedCode CodeRefusal) (result : Result Value Stop)
    → IfOk made (λ c. size c.code.field ≡ n + 1) → IfOk made (λ c. IsCode c.code.field n (IsReedSolomonWord c.code.field d) c.code)
    → IfOk made (λ c. c.form ≡ bch_form c.code.field n 1 d) → IfOk made (λ c. IsFormOf c.code c.form)
    → IsRefusedAs made (first_refusal (reed_solomon_refusals n d)) → IsFormed made offset result → Answers result (AppliesTo offset (reed_solomon_code n d))
unfolding refusals_of
reed_solomon_applies offset n d made result z h e k r s =
    applied offset (reed_solomon_code n d) (reed_solomon_refusals n d) formed_value made result refl (λ n. n)
    (λ c m o.
    let large : size c.code.field ≡ n + 1 = rw m at z in
    let is : IsCode c.code.field n (IsReedSolomonWord c.code.field d) c.code = rw m at h in
    let form : c.form ≡ bch_form c.code.field n 1 d = rw m at e in
    let told : IsFormOf c.code c.form = rw m at k in
    (c.code.field, large, told.form_is.symbol, record { code_is = (c.code, is, ap (λ (v : AlternantForm). code c.code (Some v)) form) }))
    r s

-- ---- Goppa and alternant codes

refused_with : (offset : ℕ) (b : BoundCall) (rs : List (Option CodeRefusal)) (e : CodeRefusal) (s : Stop) → refusals_of b ≡ from_codes rs → first_refusal rs ≡ Some e → IsMade (Err e) offset (Err s) → Answers (Err s) (AppliesTo offset b)
refused_with offset b rs e s h k m = refused_by offset b e s (first_as b rs (Some e) h k) m

pub goppa_wide : (offset : ℕ) (g xs : List ℕ) (K f : FieldName) (e : CodeRefusal) (s : Stop) → first_refusal (goppa_refusals f K g xs) ≡ Some e → IsMade (Err e) offset (Err s) → Answers (Err s) (AppliesTo offset (goppa_code g xs K f))
unfolding refusals_of
goppa_wide offset g xs K f e s h m = refused_with offset (goppa_code g xs K f) (goppa_refusals f K g xs) e s refl h m

pub alternant_wide : (offset r : ℕ) (xs ys : List ℕ) (K f : FieldName) (e : CodeRefusal) (s : Stop) → first_refusal (alternant_refusals f K r xs ys) ≡ Some e → IsMade (Err e) offset (Err s) → Answers (Err s) (AppliesTo offset (alternant_code r xs ys K f))
unfolding refusals_of
alternant_wide offset r xs ys K f e s h m = refused_with offset (alternant_code r xs ys K f) (alternant_refusals f K r xs ys) e s refl h m

goppa_made : (offset : ℕ) (g xs : List ℕ) (K f : FieldName) (made : Result FormedCode CodeRefusal) (result : Result Value Stop)
    → IfOk made (λ c. IsCode f (length xs) (IsGoppaWord f K (trimmed g) xs) c.code) → IfOk made (λ c. c.form ≡ goppa_form K (trimmed g) xs)
    → IsRefusedAs made (first_refusal (goppa_refusals f K g xs)) → IsFormed made offset result → Answers result (AppliesTo offset (goppa_code g xs K f))
unfolding refusals_of
goppa_made offset g xs K f made result h e r s =
    applied offset (goppa_code g xs K f) (goppa_refusals f K g xs) formed_value made result refl (λ n. n)
    (λ c m o.
    let is : IsCode f (length xs) (IsGoppaWord f K (trimmed g) xs) c.code = rw m at h in
    let form : c.form ≡ goppa_form K (trimmed g) xs = rw m at e in
    record { code_is = (c.code, is, ap (λ (v : AlternantForm). code c.code (Some v)) form) })
    r s

pub goppa_applies : (offset : ℕ) (g xs u v : List ℕ) (K f : FieldName) (made : Result FormedCode CodeRefusal) (result : Result Value Stop)
    → has_wide g ≡ false → has_wide xs ≡ false → u ≡ clamped g → v ≡ clamped xs
    → IfOk made (λ c. IsCode f (length v) (IsGoppaWord f K (trimmed u) v) c.code) → IfOk made (λ c. c.form ≡ goppa_form K (trimmed u) v)
    → IsRefusedAs made (first_refusal (goppa_refusals f K u v)) → IsFormed made offset result → Answers result (AppliesTo offset (goppa_code g xs K f))
goppa_applies offset g xs u v K f made result w z a b h e r s =
    let p : g ≡ u = sym (a ∙ narrow_kept g w) in
    let q : xs ≡ v = sym (b ∙ narrow_kept xs z) in
    rw (p, q) (goppa_made offset u v K f made result h e r s)

alternant_made : (offset r : ℕ) (xs ys : List ℕ) (K f : FieldName) (made : Result FormedCode CodeRefusal) (result : Result Value Stop)
    → IfOk made (λ c. IsCode f (length xs) (IsAlternantWord f (alternant_form K xs ys r)) c.code) → IfOk made (λ c. c.form ≡ alternant_form K xs ys r)
    → IsRefusedAs made (first_refusal (alternant_refusals f K r xs ys)) → IsFormed made offset result → Answers result (AppliesTo offset (alternant_code r xs ys K f))
unfolding refusals_of
alternant_made offset r xs ys K f made result h e t s =
    applied offset (alternant_code r xs ys K f) (alternant_refusals f K r xs ys) formed_value made result refl (λ n. n)
    (λ c m o.
    let is : IsCode f (length xs) (IsAlternantWord f (alternant_form K xs ys r)) c.code = rw m at h in
    let form : c.form ≡ alternant_form K xs ys r = rw m at e in
    record { code_is = (c.code, is, ap (λ (v : AlternantForm). code c.code (Some v)) form) })
    t s

pub alternant_applies : (offset r : ℕ) (xs ys u v : List ℕ) (K f : FieldName) (made : Result FormedCode CodeRefusal) (result : Result Value Stop)
    → has_wide xs ≡ false → has_wide ys ≡ false → u ≡ clamped xs → v ≡ clamped ys
    → IfOk made (λ c. IsCode f (length u) (IsAlternantWord f (alternant_form K u v r)) c.code) → IfOk made (λ c. c.form ≡ alternant_form K u v r)
    → IsRefusedAs made (first_refusal (alternant_refusals f K r u v)) → IsFormed made offset result → Answers result (AppliesTo offset (alternant_code r xs ys K f))
alternant_applies offset r xs ys u v K f made result w z a b h e t s =
    let p : xs ≡ u = sym (a ∙ narrow_kept xs w) in
    let q : ys ≡ v = sym (b ∙ narrow_kept ys z) in
    rw (p, q) (alternant_made offset r u v K f made result h e t s)
