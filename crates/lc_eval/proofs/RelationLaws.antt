-- What calls on words, on a code and a word, and on two codes give is what the definitions say.
--   word_fault                       the refusal of a word
--   syndrome_told                    the syndrome
--   elements_kept, long_same         a list of numbers and the symbols that stand for them
--   truth_applies, subcode_applies, same_applies      truth values of two codes
--   add_applies, scale_applies, distance_applies      words
--   encode_applies                   codewords
--   left_out                         a word that isn't in the code
--   information_fault, information_none, information_told      messages
--   augmented_applies                codes with further rows
use Rattle.std.proofs.Common.{◌≡◌, ℕ, ◌<◌, ◌≤◌, ◌↔◌, min, Bool, true, false, not, nat_lt, ◌==◌, List, [], ◌∷◌, length, map, Vec, Global, Option, Some, None, Result, Err, IfOk, IfSome, IsSome, is_some, IsTrue, refl, sym, ap, ap₂, subst, ◌∙◌, ⊎_elim, arith, true≢false}
use Rattle.std.specs.List.{list_all}
use Rattle.std.proofs.lemmas.List.{length-map}
use Rattle.std.proofs.lemmas.Bool.{cases_Bool}
use Rattle.std.proofs.lemmas.Bool.Decides.{nat_tests, Decides-ltb}
use Rattle.lc_algebra.specs.declared.FieldName.{FieldName}
use Rattle.lc_algebra.specs.Field.{size, is_symbol}
use Rattle.lc_algebra.specs.Word.{word_sum, scale}
use Rattle.lc_algebra.specs.Span.{combine}
use Rattle.lc_algebra.specs.Matrix.{Matrix}
use Rattle.lc_constructions.specs.Code.{InCode, IsCode}
use Rattle.lc_constructions.specs.Combined.{InDual}
use Rattle.lc_constructions.specs.Coset.{syndrome}
use Rattle.lc_constructions.specs.declared.refusal.CodeRefusal.{CodeRefusal}
use Rattle.lc_constructions.specs.declared.refusal.CodeRefusal.TheVariants.{LengthsDiffer, BadArgument, FieldTooLarge}
use Rattle.lc_constructions.specs.Refusal.{refuse_if, first_refusal, IsRefusedAs}
use Rattle.lc_constructions.specs.Refusals.{are_elements, have_elements, too_large, bad_argument, intersection_refusals}
use Rattle.lc_enumeration.specs.InformationSet.{in_span}
use Rattle.lc_enumeration.proofs.MemberLaws.{in_span_true, true_in_span}
use Rattle.lc_language.specs.Calls.{BoundCall, syndrome_of, is_subcode, is_same_code, add_words, scale_word, distance_codeword, encode, information_word, augmented_code, refusals_of, refusal_of, Gives, IsNotDivisor}
use Rattle.lc_language.specs.Value.{Value as Value_, number, numbers, truth}
use Rattle.lc_language.specs.Refusal.{refuse, when, first_of, from_codes, word_refusals}
use Rattle.lc_language.specs.Evaluation.{gives, refused, refuse_at, refuse_call, AppliesTo}
use Rattle.lc_language.specs.Relations.{IsSubcode, IsSameCode, IsMessageOf, hamming_distance, InAugmented, add_refusals, scale_refusals, distance_refusals, message_refusals, augmented_refusals, not_codeword}
use Rattle.lc_formats.proofs.CertificateBack.{symbol_size}
use Rattle.lc_calls.specs.declared.values.Value.{Value}
use Rattle.lc_calls.specs.declared.refusals.Refused.{Refused}
use Rattle.lc_calls.specs.declared.refusals.Stop.{Stop}
use Rattle.lc_calls.specs.declared.refusals.Stop.TheVariants as stop
use Rattle.lc_calls.specs.Value.{rows_of, refused_of}
use Rattle.lc_calls.specs.Applied.{Answers}
use Rattle.lc_calls.specs.Made.{IsMade, IsMadeAs, plain_value}
use Rattle.lc_eval.specs.Checked.{IsRight, IsChecked}
use Rattle.lc_eval.specs.Rows.{clamped, clamped_rows}
use Rattle.lc_eval.proofs.AnswerLaws.{applying, applied, given_by}
use Rattle.lc_eval.proofs.RowLaws.{clamped_each, elements_same, row_kept, none_here, lengths_same, entries_same, rows_kept}
use Rattle.lc_eval.proofs.QueryLaws.{first_stays, first_behind}

-- ---- a code and a word

pub word_fault : (offset : ℕ) (b : BoundCall) (C : Matrix) (x : List ℕ) (s : Stop) → refusals_of b ≡ from_codes (word_refusals C x) → IsChecked C x offset (Err s) → Answers (Err s) (AppliesTo offset b)
unfolding refusal_of
word_fault offset b C x (stop.Refused r) q (e, h, m) = applying offset b (Some e) (Err (stop.Refused r)) (ap first_of q ∙ h) m
word_fault offset b C x stop.NoMemory q h = tt

pub syndrome_fault : (offset : ℕ) (C : Matrix) (x : List ℕ) (s : Stop) → IsChecked C x offset (Err s) → Answers (Err s) (AppliesTo offset (syndrome_of C x))
unfolding refusals_of
syndrome_fault offset C x s h = word_fault offset (syndrome_of C x) C x s refl h

pub syndrome_told : (offset : ℕ) (C : Matrix) (x w u : List ℕ) (v : Value_) → IsRight C x w → (H : Matrix) × IsCode C.field C.columns (InDual C) H × (u ≡ syndrome C.field H.rows w) → v ≡ numbers u → AppliesTo offset (syndrome_of C x) (gives v)
unfolding refusal_of refusals_of
syndrome_told offset C x w u v h (H, d, e) t =
    given_by offset (syndrome_of C x) v h.unrefused (λ n. n) (H, d, t ∙ ap (λ (y : List ℕ). numbers y) (e ∙ ap (syndrome C.field H.rows) h.same))

-- ---- two codes

pub truth_applies : (offset : ℕ) (b : BoundCall) (rs : List (Option CodeRefusal)) (P : Type 0) (made : Result Bool CodeRefusal) (result : Result Value Stop)
    → refusals_of b ≡ from_codes rs → ¬ IsNotDivisor b → ((t : Bool) → IsTrue t ↔ P → Gives b (truth t))
    → IfOk made (λ t. IsTrue t ↔ P) → IsRefusedAs made (first_refusal rs) → IsMadeAs truth made offset result → Answers result (AppliesTo offset b)
truth_applies offset b rs P made result e fine g c h s =
    applied offset b rs truth made result e fine (λ t m o. let is : IsTrue t ↔ P = rw m at c in g t is) h s

pub subcode_applies : (offset : ℕ) (C D : Matrix) (made : Result Bool CodeRefusal) (result : Result Value Stop) → IfOk made (λ t. IsTrue t ↔ IsSubcode C D) → IsRefusedAs made (first_refusal (intersection_refusals C D)) → IsMadeAs truth made offset result → Answers result (AppliesTo offset (is_subcode C D))
unfolding refusals_of
subcode_applies offset C D made result c h s = truth_applies offset (is_subcode C D) (intersection_refusals C D) (IsSubcode C D) made result refl (λ n. n) (λ t is. (t, refl, is)) c h s

pub same_applies : (offset : ℕ) (C D : Matrix) (made : Result Bool CodeRefusal) (result : Result Value Stop) → IfOk made (λ t. IsTrue t ↔ IsSameCode C D) → IsRefusedAs made (first_refusal (intersection_refusals C D)) → IsMadeAs truth made offset result → Answers result (AppliesTo offset (is_same_code C D))
unfolding refusals_of
same_applies offset C D made result c h s = truth_applies offset (is_same_code C D) (intersection_refusals C D) (IsSameCode C D) made result refl (λ n. n) (λ t is. (t, refl, is)) c h s

-- ---- words

pub elements_kept : (f : FieldName) (x : List ℕ) → size f ≤ 16 → are_elements f x ≡ true → clamped x ≡ x
unfolding are_elements
elements_kept f x l e = row_kept (size f) x l (elements_same f x l ∙ e)

pub long_same : (x : List ℕ) → length (clamped x) ≡ length x
long_same x = length-map x (λ a. min a 255)

add_large : (f : FieldName) (x y u v : List ℕ) → is_symbol f ≡ false → first_refusal (add_refusals f x y) ≡ first_refusal (add_refusals f u v)
unfolding first_refusal refuse_if too_large add_refusals
add_large f x y u v h = rw h refl

add_small : (f : FieldName) (x y : List ℕ) → is_symbol f ≡ true → first_refusal (add_refusals f (clamped x) (clamped y)) ≡ first_refusal (add_refusals f x y)
unfolding add_refusals
add_small f x y h = rw (long_same x, long_same y, elements_same f x (symbol_size f h), elements_same f y (symbol_size f h)) refl

add_same : (f : FieldName) (x y : List ℕ) → first_refusal (add_refusals f (clamped x) (clamped y)) ≡ first_refusal (add_refusals f x y)
add_same f x y = ⊎_elim (λ t. add_small f x y t) (λ t. add_large f (clamped x) (clamped y) x y t) (cases_Bool (is_symbol f))

add_kept : (f : FieldName) (x y : List ℕ) → first_refusal (add_refusals f x y) ≡ None → (clamped x ≡ x) × (clamped y ≡ y)
unfolding add_refusals too_large bad_argument
add_kept f x y h =
    let a = none_here (is_symbol f) FieldTooLarge _ h in
    let b = none_here (length x == length y) LengthsDiffer _ a.1 in
    let c = none_here (are_elements f x) (BadArgument 1) _ b.1 in
    let d = none_here (are_elements f y) (BadArgument 2) [] c.1 in
    let l = symbol_size f a.0 in
    (elements_kept f x l c.0, elements_kept f y l d.0)

pub add_applies : (offset : ℕ) (x y : List ℕ) (f : FieldName) (u v : List ℕ) (made : Result (List ℕ) CodeRefusal) (result : Result Value Stop) → u ≡ clamped x → v ≡ clamped y → IfOk made (λ w. w ≡ word_sum f u v) → IsRefusedAs made (first_refusal (add_refusals f u v)) → IsMadeAs numbers made offset result → Answers result (AppliesTo offset (add_words x y f))
unfolding refusals_of
add_applies offset x y f u v made result a b c h s =
    let refused : IsRefusedAs made (first_refusal (add_refusals f x y)) = subst (IsRefusedAs made) (ap₂ (λ (p q : List ℕ). first_refusal (add_refusals f p q)) a b ∙ add_same f x y) h in
    applied offset (add_words x y f) (add_refusals f x y) numbers made result refl (λ n. n)
    (λ w m o.
    let kept = add_kept f x y o in
    let is : w ≡ word_sum f u v = rw m at c in
    ap (λ (z : List ℕ). numbers z) (is ∙ ap₂ (word_sum f) (a ∙ kept.0) (b ∙ kept.1)))
    refused s

element_same : (q c : ℕ) → q ≤ 16 → nat_lt (min c 255) q ≡ nat_lt c q
element_same q c h = grind (arith, nat_tests)

scale_large : (f : FieldName) (c d : ℕ) (x u : List ℕ) → is_symbol f ≡ false → first_refusal (scale_refusals f c x) ≡ first_refusal (scale_refusals f d u)
unfolding first_refusal refuse_if too_large scale_refusals
scale_large f c d x u h = rw h refl

scale_small : (f : FieldName) (c : ℕ) (x : List ℕ) → is_symbol f ≡ true → first_refusal (scale_refusals f (min c 255) (clamped x)) ≡ first_refusal (scale_refusals f c x)
unfolding scale_refusals
scale_small f c x h = rw (element_same (size f) c (symbol_size f h), elements_same f x (symbol_size f h)) refl

scale_same : (f : FieldName) (c : ℕ) (x : List ℕ) → first_refusal (scale_refusals f (min c 255) (clamped x)) ≡ first_refusal (scale_refusals f c x)
scale_same f c x = ⊎_elim (λ t. scale_small f c x t) (λ t. scale_large f (min c 255) c (clamped x) x t) (cases_Bool (is_symbol f))

scale_kept : (f : FieldName) (c : ℕ) (x : List ℕ) → first_refusal (scale_refusals f c x) ≡ None → (min c 255 ≡ c) × (clamped x ≡ x)
unfolding scale_refusals too_large bad_argument
scale_kept f c x h =
    let a = none_here (is_symbol f) FieldTooLarge _ h in
    let b = none_here (nat_lt c (size f)) (BadArgument 1) _ a.1 in
    let d = none_here (are_elements f x) (BadArgument 2) [] b.1 in
    let l = symbol_size f a.0 in
    let less : c < size f = (Decides-ltb c (size f)).0 b.0 in
    (omega (arith, l, less), elements_kept f x l d.0)

pub scale_applies : (offset c : ℕ) (x : List ℕ) (f : FieldName) (e : ℕ) (u : List ℕ) (made : Result (List ℕ) CodeRefusal) (result : Result Value Stop) → e ≡ min c 255 → u ≡ clamped x → IfOk made (λ w. w ≡ scale f e u) → IsRefusedAs made (first_refusal (scale_refusals f e u)) → IsMadeAs numbers made offset result → Answers result (AppliesTo offset (scale_word c x f))
unfolding refusals_of
scale_applies offset c x f e u made result a b t h s =
    let refused : IsRefusedAs made (first_refusal (scale_refusals f c x)) = subst (IsRefusedAs made) (ap₂ (λ (p : ℕ) (q : List ℕ). first_refusal (scale_refusals f p q)) a b ∙ scale_same f c x) h in
    applied offset (scale_word c x f) (scale_refusals f c x) numbers made result refl (λ n. n)
    (λ w m o.
    let kept = scale_kept f c x o in
    let is : w ≡ scale f e u = rw m at t in
    ap (λ (z : List ℕ). numbers z) (is ∙ ap₂ (scale f) (a ∙ kept.0) (b ∙ kept.1)))
    refused s

pub distance_applies : (offset : ℕ) (x y : List ℕ) (made : Result ℕ CodeRefusal) (result : Result Value Stop) → IfOk made (λ d. d ≡ hamming_distance x y) → IsRefusedAs made (first_refusal (distance_refusals x y)) → IsMadeAs number made offset result → Answers result (AppliesTo offset (distance_codeword x y))
unfolding refusals_of
distance_applies offset x y made result c h s =
    applied offset (distance_codeword x y) (distance_refusals x y) number made result refl (λ n. n)
    (λ d m o. let is : d ≡ hamming_distance x y = rw m at c in ap (λ (n : ℕ). number n) is)
    h s

-- ---- messages and codewords

message_same : (C : Matrix) (x : List ℕ) → is_symbol C.field ≡ true → first_refusal (message_refusals C (clamped x)) ≡ first_refusal (message_refusals C x)
unfolding message_refusals
message_same C x h = rw (long_same x, elements_same C.field x (symbol_size C.field h)) refl

message_kept : (C : Matrix) (x : List ℕ) → is_symbol C.field ≡ true → first_refusal (message_refusals C x) ≡ None → clamped x ≡ x
unfolding message_refusals bad_argument
message_kept C x s h =
    let a = none_here (length x == length C.rows) LengthsDiffer _ h in
    let b = none_here (are_elements C.field x) (BadArgument 2) [] a.1 in
    elements_kept C.field x (symbol_size C.field s) b.0

pub encode_applies : (offset : ℕ) (C : Matrix) (x u : List ℕ) (made : Result (List ℕ) CodeRefusal) (result : Result Value Stop) → IsTrue (is_symbol C.field) → u ≡ clamped x → IfOk made (λ w. w ≡ combine C.field C.columns u C.rows) → IsRefusedAs made (first_refusal (message_refusals C u)) → IsMadeAs numbers made offset result → Answers result (AppliesTo offset (encode C x))
unfolding refusals_of
encode_applies offset C x u made result y a c h s =
    let refused : IsRefusedAs made (first_refusal (message_refusals C x)) = subst (IsRefusedAs made) (ap (λ (p : List ℕ). first_refusal (message_refusals C p)) a ∙ message_same C x y) h in
    applied offset (encode C x) (message_refusals C x) numbers made result refl (λ n. n)
    (λ w m o.
    let is : w ≡ combine C.field C.columns u C.rows = rw m at c in
    ap (λ (z : List ℕ). numbers z) (is ∙ ap (λ (p : List ℕ). combine C.field C.columns p C.rows) (a ∙ message_kept C x y o)))
    refused s

pub information_fault : (offset : ℕ) (C : Matrix) (x : List ℕ) (s : Stop) → IsChecked C x offset (Err s) → Answers (Err s) (AppliesTo offset (information_word C x))
unfolding refusal_of refusals_of
information_fault offset C x (stop.Refused r) (e, h, m) = applying offset (information_word C x) (Some e) (Err (stop.Refused r)) (first_stays (from_codes (word_refusals C x)) _ e h) m
information_fault offset C x stop.NoMemory h = tt

inside_first : (C : Matrix) (x : List ℕ) → first_of (from_codes (word_refusals C x)) ≡ None → in_span C.field C.columns C.rows x ≡ true → refusal_of (information_word C x) ≡ None
unfolding refusal_of refusals_of not_codeword when first_of
inside_first C x h e = first_behind (from_codes (word_refusals C x)) _ h ∙ ap (λ t. first_of (when (not t) (refuse 50 []) ∷ [])) e

outside_first : (C : Matrix) (x : List ℕ) → first_of (from_codes (word_refusals C x)) ≡ None → in_span C.field C.columns C.rows x ≡ false → refusal_of (information_word C x) ≡ Some (refuse 50 [])
unfolding refusal_of refusals_of not_codeword when first_of
outside_first C x h e = first_behind (from_codes (word_refusals C x)) _ h ∙ ap (λ t. first_of (when (not t) (refuse 50 []) ∷ [])) e

pub left_out : (C : Matrix) (x w : List ℕ) → IsRight C x w → (InCode C w → ⊥) → in_span C.field C.columns C.rows x ≡ false
left_out C x w h out =
    ⊎_elim
    (λ (t : in_span C.field C.columns C.rows x ≡ true). absurd (out (subst (InCode C) (sym h.same) (in_span_true C.field C.columns C.rows x t))))
    (λ (t : in_span C.field C.columns C.rows x ≡ false). t)
    (cases_Bool (in_span C.field C.columns C.rows x))

pub information_none : (offset : ℕ) (C : Matrix) (x w : List ℕ) (r : Refused) (o : Option (List ℕ)) → IsRight C x w → IsSome o ↔ InCode C w → o ≡ None → refused (refused_of r) ≡ refuse_at 50 offset → AppliesTo offset (information_word C x) (refused (refused_of r))
unfolding refuse_call refuse refuse_at
information_none offset C x w r (Some u) h t e m = absurd (true≢false (ap is_some e))
information_none offset C x w r None h t e m =
    applying offset (information_word C x) (Some (refuse 50 [])) (Err (stop.Refused r)) (outside_first C x h.unrefused (left_out C x w h (λ i. true≢false (sym (t.1 i))))) m

pub information_told : (offset : ℕ) (C : Matrix) (x w u t : List ℕ) (v : Value_) (o : Option (List ℕ)) → IsRight C x w → IfSome o (λ a. IsMessageOf C w a) → IsSome o ↔ InCode C w → o ≡ Some u → t ≡ u → v ≡ numbers t → AppliesTo offset (information_word C x) (gives v)
information_told offset C x w u t v None h is exact e same told = absurd (true≢false (sym (ap is_some e)))
information_told offset C x w u t v (Some a) h is exact e same told =
    let inside : in_span C.field C.columns C.rows x ≡ true = true_in_span C.field C.columns C.rows x (subst (InCode C) h.same (exact.0 refl)) in
    let message : IsMessageOf C x a = subst (λ (y : List ℕ). IsMessageOf C y a) h.same is in
    let one : a ≡ u = cc e in
    given_by offset (information_word C x) v (inside_first C x h.unrefused inside) (λ n. n) (a, message, told ∙ ap (λ (z : List ℕ). numbers z) (same ∙ sym one))

-- ---- codes with further rows

augmented_same : (C : Matrix) (rows : List (List ℕ)) → is_symbol C.field ≡ true → first_refusal (augmented_refusals C (clamped_rows rows)) ≡ first_refusal (augmented_refusals C rows)
unfolding augmented_refusals
augmented_same C rows h = rw (lengths_same C.columns rows, entries_same C.field rows (symbol_size C.field h)) refl

augmented_kept : (C : Matrix) (rows : List (List ℕ)) → is_symbol C.field ≡ true → first_refusal (augmented_refusals C rows) ≡ None → clamped_rows rows ≡ rows
unfolding augmented_refusals bad_argument
augmented_kept C rows s h =
    let a = none_here (list_all (λ row. length row == C.columns) rows) LengthsDiffer _ h in
    let b = none_here (have_elements C.field rows) (BadArgument 2) [] a.1 in
    let l = symbol_size C.field s in
    rows_kept C.field rows l (entries_same C.field rows l ∙ b.0)

pub augmented_applies : (offset : ℕ) (C : Matrix) (rows : List (Vec ℕ Global)) (words : List (List ℕ)) (made : Result Matrix CodeRefusal) (result : Result Value Stop)
    → IsTrue (is_symbol C.field) → words ≡ map (λ row. clamped row.items) rows → IfOk made (λ E. IsCode C.field C.columns (InAugmented C words) E)
    → IsRefusedAs made (first_refusal (augmented_refusals C words)) → IsMade made offset result → Answers result (AppliesTo offset (augmented_code C (rows_of rows)))
unfolding refusals_of
augmented_applies offset C rows words made result y w c h s =
    let given : List (List ℕ) = rows_of rows in
    let a : words ≡ clamped_rows given = w ∙ clamped_each rows in
    let refused : IsRefusedAs made (first_refusal (augmented_refusals C given)) = subst (IsRefusedAs made) (ap (λ (p : List (List ℕ)). first_refusal (augmented_refusals C p)) a ∙ augmented_same C given y) h in
    applied offset (augmented_code C given) (augmented_refusals C given) plain_value made result refl (λ n. n)
    (λ E m o.
    let is : IsCode C.field C.columns (InAugmented C words) E = rw m at c in
    record { code_is = (E, subst (λ (p : List (List ℕ)). IsCode C.field C.columns (InAugmented C p) E) (a ∙ augmented_kept C given y o) is, refl) })
    refused s
