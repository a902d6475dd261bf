-- What calls on a code and a list of numbers give is what the definitions say.
--   list_long, list_high, list_right      a list of another length, one with a number that is no symbol, and a word
--   codeword_fault, codeword_told         whether a list is a word of a code
--   decode_fault, decode_many, decode_told      the nearest word
--   form_none, form_fault, form_told      the word that the alternant form determines
use Rattle.std.proofs.Common.{◌≡◌, ◌≢◌, ℕ, ◌<◌, ◌↔◌, Bool, true, false, nat_lt, slice_index, slice_index_or, ◌==◌, List, [], ◌∷◌, length, Option, Some, None, Err, IsTrue, refl, sym, ap, subst, ◌∙◌, ⊎_elim, true≢false, option_map, inr, arith}
use Rattle.std.specs.List.{list_all}
use Rattle.std.proofs.lemmas.List.{get_or_default}
use Rattle.std.proofs.lemmas.List.Sums.{AllPass-from_list_all, list_all-from_AllPass}
use Rattle.std.proofs.lemmas.Bool.{cases_Bool}
use Rattle.std.proofs.lemmas.Bool.Decides.{nat_tests, Decides-ltb}
use Rattle.lc_algebra.specs.declared.FieldName.{FieldName}
use Rattle.lc_algebra.specs.Field.{size, is_symbol}
use Rattle.lc_algebra.specs.Word.{Fits}
use Rattle.lc_algebra.specs.Matrix.{Matrix}
use Rattle.lc_constructions.specs.Code.{InCode}
use Rattle.lc_constructions.specs.Coset.{too_many_cosets}
use Rattle.lc_constructions.specs.Nearest.{IsNearest, IsDecoded}
use Rattle.lc_constructions.specs.Alternant.{AlternantForm}
use Rattle.lc_constructions.specs.declared.refusal.CodeRefusal.TheVariants.{LengthsDiffer, BadArgument}
use Rattle.lc_constructions.specs.Refusal.{refuse_if}
use Rattle.lc_constructions.specs.Refusals.{are_elements}
use Rattle.lc_language.specs.Calls.{is_codeword, decode, algebraic_decode, refusals_of, refusal_of, query_refusals_of, query_refusal_of}
use Rattle.lc_language.specs.Value.{Value, CodeValue, numbers, truth}
use Rattle.lc_language.specs.Print.{value_line}
use Rattle.lc_language.specs.Refusal.{refuse, when, first_of, refusal_from, from_codes, word_refusals, coset_refusal, no_form}
use Rattle.lc_language.specs.Meaning.{decoded}
use Rattle.lc_language.specs.Evaluation.{gives, refused, refuse_at, refuse_call, AppliesTo, prints, fails, fail_with, QueriesTo}
use Rattle.lc_code.proofs.CoordinateSteps.{small_size}
use Rattle.lc_calls.specs.declared.refusals.Refused.{Refused}
use Rattle.lc_calls.specs.declared.refusals.Stop.{Stop}
use Rattle.lc_calls.specs.declared.refusals.Stop.TheVariants as stop
use Rattle.lc_calls.specs.Value.{refused_of}
use Rattle.lc_calls.specs.Applied.{Answers}
use Rattle.lc_calls.specs.Made.{IsMade}
use Rattle.lc_eval.specs.Evaluated.{AffectsOrFails}
use Rattle.lc_eval.specs.Checked.{IsRight, IsChecked}
use Rattle.lc_eval.specs.Rows.{clamped}
use Rattle.lc_eval.proofs.AnswerLaws.{Applying, applying}
use Rattle.lc_eval.proofs.RowLaws.{elements_same, row_kept}
use Rattle.lc_eval.proofs.QueryLaws.{first_stays, first_behind, fails_so}

-- ---- the list

uneven : (C : Matrix) (x : List ℕ) → length x ≢ C.columns → first_of (from_codes (word_refusals C x)) ≡ Some (refusal_from LengthsDiffer)
unfolding word_refusals from_codes first_of refuse_if
uneven C x h = let t : (length x == C.columns) ≡ false = grind (arith, nat_tests) in rw t refl

high : (C : Matrix) (x : List ℕ) → length x ≡ C.columns → are_elements C.field x ≡ false → first_of (from_codes (word_refusals C x)) ≡ Some (refusal_from (BadArgument 2))
unfolding word_refusals from_codes first_of refuse_if
high C x h k = let t : (length x == C.columns) ≡ true = grind (arith, nat_tests) in rw (t, k) refl

fine : (C : Matrix) (x : List ℕ) → length x ≡ C.columns → are_elements C.field x ≡ true → first_of (from_codes (word_refusals C x)) ≡ None
unfolding word_refusals from_codes first_of refuse_if
fine C x h k = let t : (length x == C.columns) ≡ true = grind (arith, nat_tests) in rw (t, k) refl

fits_told : (f : FieldName) (w : List ℕ) (b : Bool) → IsTrue b ↔ Fits f w → are_elements f w ≡ b
unfolding are_elements
fits_told f w true h = list_all-from_AllPass (λ a. nat_lt a (size f)) w (λ k d l. (Decides-ltb (slice_index_or w k d) (size f)).1 (subst (λ a. a < size f) (get_or_default w k 0 d l) (h.0 refl k l)))
fits_told f w false h =
    ⊎_elim
    (λ (t : list_all (λ a. nat_lt a (size f)) w ≡ true). absurd (true≢false (sym (h.1 (λ k l. (Decides-ltb (slice_index w k) (size f)).0 (AllPass-from_list_all (λ a. nat_lt a (size f)) w t k 0 l))))))
    (λ (t : list_all (λ a. nat_lt a (size f)) w ≡ false). t)
    (cases_Bool (list_all (λ a. nat_lt a (size f)) w))

entries_told : (f : FieldName) (x w : List ℕ) (b : Bool) → IsTrue (is_symbol f) → w ≡ clamped x → IsTrue b ↔ Fits f w → are_elements f x ≡ b
entries_told f x w b s e h = sym (elements_same f x (small_size f s)) ∙ subst (λ u. are_elements f u ≡ b) e (fits_told f w b h)

kept_told : (f : FieldName) (x : List ℕ) → IsTrue (is_symbol f) → are_elements f (clamped x) ≡ true → clamped x ≡ x
unfolding are_elements
kept_told f x s h = row_kept (size f) x (small_size f s) h

pub list_long : (offset : ℕ) (C : Matrix) (x : List ℕ) (s : Stop) → length x ≢ C.columns → s ≢ stop.NoMemory → IsMade (Err LengthsDiffer) offset (Err s) → IsChecked C x offset (Err s)
list_long offset C x (stop.Refused r) h n m = (refusal_from LengthsDiffer, uneven C x h, m.1)
list_long offset C x stop.NoMemory h n m = absurd (n refl)

pub list_high : (offset : ℕ) (C : Matrix) (f : FieldName) (x w : List ℕ) (b : Bool) (s : Stop) → length x ≡ C.columns → IsTrue (is_symbol C.field) → f ≡ C.field → w ≡ clamped x → IsTrue b ↔ Fits f w → b ≡ false → IsMade (Err (BadArgument 2)) offset (Err s) → IsChecked C x offset (Err s)
list_high offset C f x w b (stop.Refused r) l y o c h k m =
    let above : are_elements C.field x ≡ false = entries_told C.field x w b y c (subst (λ g. IsTrue b ↔ Fits g w) o h) ∙ k in
    (refusal_from (BadArgument 2), high C x l above, m.1)
list_high offset C f x w b stop.NoMemory l y o c h k m = l

pub list_right : (C : Matrix) (f : FieldName) (x w : List ℕ) (b : Bool) → length x ≡ C.columns → IsTrue (is_symbol C.field) → f ≡ C.field → w ≡ clamped x → IsTrue b ↔ Fits f w → b ≡ true → IsRight C x w
list_right C f x w b l y o c h k =
    let g : IsTrue b ↔ Fits C.field w = subst (λ g. IsTrue b ↔ Fits g w) o h in
    let same : w ≡ x = c ∙ kept_told C.field x y (subst (λ v. are_elements C.field v ≡ true) c (fits_told C.field w b g ∙ k)) in
    record {
      same = same;
      word = record { long = ap length same ∙ l; fits = g.0 k };
      unrefused = fine C x l (entries_told C.field x w b y c g ∙ k);
    }

-- ---- whether it is in the code

pub codeword_fault : (offset : ℕ) (C : Matrix) (x : List ℕ) (s : Stop) → IsChecked C x offset (Err s) → Answers (Err s) (AppliesTo offset (is_codeword C x))
unfolding refusal_of refusals_of
codeword_fault offset C x (stop.Refused r) (e, h, m) = applying offset (is_codeword C x) (Some e) (Err (stop.Refused r)) h m
codeword_fault offset C x stop.NoMemory h = tt

pub codeword_told : (offset : ℕ) (C : Matrix) (x w : List ℕ) (r : Bool) → IsRight C x w → IsTrue r ↔ InCode C w → AppliesTo offset (is_codeword C x) (gives (truth r))
unfolding refusal_of refusals_of
codeword_told offset C x w r h t =
    let told : IsTrue r ↔ InCode C x = subst (λ v. IsTrue r ↔ InCode C v) h.same t in
    let holds : Applying offset (is_codeword C x) None (gives (truth r)) = inr ((λ n. n), (truth r, (r, refl, told), refl)) in
    (subst (λ o. Applying offset (is_codeword C x) o (gives (truth r))) (sym h.unrefused) holds)

-- ---- the nearest word

pub decode_fault : (offset : ℕ) (C : Matrix) (x : List ℕ) (s : Stop) → IsChecked C x offset (Err s) → Answers (Err s) (AppliesTo offset (decode C x))
unfolding refusal_of refusals_of
decode_fault offset C x (stop.Refused r) (e, h, m) = applying offset (decode C x) (Some e) (Err (stop.Refused r)) (first_stays (from_codes (word_refusals C x)) _ e h) m
decode_fault offset C x stop.NoMemory h = tt

cosets_first : (C : Matrix) (x : List ℕ) (r : Option ℕ) → first_of (from_codes (word_refusals C x)) ≡ None → too_many_cosets C ≡ r → refusal_of (decode C x) ≡ option_map (λ n. refuse 15 (n ∷ [])) r
unfolding refusal_of refusals_of coset_refusal first_of
cosets_first C x None h e = first_behind (from_codes (word_refusals C x)) _ h ∙ ap (λ o. first_of (option_map (λ n. refuse 15 (n ∷ [])) o ∷ [])) e
cosets_first C x (Some n) h e = first_behind (from_codes (word_refusals C x)) _ h ∙ ap (λ o. first_of (option_map (λ n. refuse 15 (n ∷ [])) o ∷ [])) e

pub decode_many : (offset : ℕ) (C : Matrix) (x w : List ℕ) (n : ℕ) (r : Refused) → IsRight C x w → too_many_cosets C ≡ Some n → refused (refused_of r) ≡ refuse_call offset (refuse 15 (n ∷ [])) → AppliesTo offset (decode C x) (refused (refused_of r))
decode_many offset C x w n r h e m = applying offset (decode C x) (Some (refuse 15 (n ∷ []))) (Err (stop.Refused r)) (cosets_first C x (Some n) h.unrefused e) m

pub decode_told : (offset : ℕ) (C : Matrix) (x w u t : List ℕ) (v : Value) → IsRight C x w → too_many_cosets C ≡ None → IsNearest C w u → t ≡ u → v ≡ numbers t → AppliesTo offset (decode C x) (gives v)
decode_told offset C x w u t v h e d same told =
    let near : IsNearest C x t = rw same (subst (λ y. IsNearest C y u) h.same d) in
    let holds : Applying offset (decode C x) None (gives v) = inr ((λ n. n), (v, (t, near, told), refl)) in
    (subst (λ o. Applying offset (decode C x) o (gives v)) (sym (cosets_first C x None h.unrefused e)) holds)

-- ---- the word that the form determines

pub form_none : (offset : ℕ) (C : Matrix) (x : List ℕ) (r : Refused) → refused (refused_of r) ≡ refuse_at 18 offset → QueriesTo offset (algebraic_decode C None x) (fails (refused_of r))
unfolding query_refusal_of query_refusals_of first_of no_form when fail_with refuse_call refuse refuse_at
form_none offset C x r m = ap fail_with m

pub form_fault : (offset : ℕ) (C : Matrix) (form : AlternantForm) (x : List ℕ) (s : Stop) → IsChecked C x offset (Err s) → AffectsOrFails (Err s) (QueriesTo offset (algebraic_decode C (Some form) x))
unfolding query_refusal_of query_refusals_of first_of no_form when
form_fault offset C form x (stop.Refused r) (e, h, m) = rw h (fails_so offset r e m)
form_fault offset C form x stop.NoMemory h = tt

form_read : (offset : ℕ) (C : Matrix) (form : AlternantForm) (x w text : List ℕ) (o : Option (List ℕ)) → IsRight C x w → IsDecoded C form w o → text ≡ value_line (decoded o) → QueriesTo offset (algebraic_decode C (Some form) x) (prints text)
unfolding query_refusal_of query_refusals_of first_of no_form when
form_read offset C form x w text o h d t = rw h.unrefused (o, subst (λ v. IsDecoded C form v o) h.same d, ap (λ (l : List ℕ). prints l) t)

pub form_told : (offset : ℕ) (C : Matrix) (form : AlternantForm) (V : CodeValue) (p : Option AlternantForm) (x w text : List ℕ) (o : Option (List ℕ)) → record { code = C; form = p } ≡ V → p ≡ Some form → IsRight C x w → IsDecoded C form w o → text ≡ value_line (decoded o) → QueriesTo offset (algebraic_decode V.code V.form x) (prints text)
form_told offset C form V p x w text o v e h d t =
    let read : QueriesTo offset (algebraic_decode C p x) (prints text) = rw e (form_read offset C form x w text o h d t) in
    (subst (λ (U : CodeValue). QueriesTo offset (algebraic_decode U.code U.form x) (prints text)) v read)
