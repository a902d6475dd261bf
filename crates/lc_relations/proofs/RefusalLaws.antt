-- The first refusal of each function.
--   add_large, add_uneven, add_first, add_second, add_fine      sums of words
--   scale_large, scale_first, scale_second, scale_fine          multiples of a word
--   distance_uneven, distance_fine      the distance of two lists
--   message_uneven, message_no_elements, message_fine           messages
--   augmented_uneven, augmented_no_elements, augmented_fine     rows that are added to a code
--   augmented_rows                      rows that aren't refused are words
use Rattle.std.proofs.Common.{◌≡◌, ◌≢◌, ℕ, ◌<◌, ◌≤◌, ◌↔◌, true, false, Bool, ◌==◌, IsTrue, Some, None, List, length, slice_index_or, All, refl, sym, ◌∙◌}
use Rattle.std.specs.List.{list_all}
use Rattle.std.proofs.lemmas.List.Sums.{AllPass-from_list_all}
use Rattle.std.proofs.lemmas.Bool.{eq-eqb, ne_eqb, lt-ltb, le-ltb}
use Rattle.std.proofs.lemmas.Bool.Decides.{Decides-eqb}
use Rattle.lc_algebra.specs.declared.FieldName.{FieldName}
use Rattle.lc_algebra.specs.Field.{size, is_symbol}
use Rattle.lc_algebra.specs.Word.{Fits}
use Rattle.lc_algebra.specs.Matrix.{Matrix, AreRows}
use Rattle.lc_constructions.specs.declared.refusal.CodeRefusal.TheVariants.{BadArgument, LengthsDiffer, FieldTooLarge}
use Rattle.lc_constructions.specs.Refusal.{refuse_if, first_refusal}
use Rattle.lc_constructions.specs.Refusals.{are_elements, have_elements, too_large, bad_argument}
use Rattle.lc_constructions.proofs.RefusalLaws.{elements_told, rows_told}
use Rattle.lc_language.specs.Relations.{add_refusals, scale_refusals, distance_refusals, message_refusals, augmented_refusals}

-- ---- sums of words

pub add_large : (f : FieldName) (x y : List ℕ) → is_symbol f ≡ false → first_refusal (add_refusals f x y) ≡ Some FieldTooLarge
unfolding first_refusal refuse_if too_large bad_argument add_refusals
add_large f x y a = rw a refl

pub add_uneven : (f : FieldName) (x y : List ℕ) → is_symbol f ≡ true → length x ≢ length y → first_refusal (add_refusals f x y) ≡ Some LengthsDiffer
unfolding first_refusal refuse_if too_large bad_argument add_refusals
add_uneven f x y a l = rw (a, ne_eqb (length x) (length y) l) refl

pub add_first : (f : FieldName) (x y : List ℕ) (b : Bool) → is_symbol f ≡ true → length x ≡ length y → IsTrue b ↔ Fits f x → b ≡ false → first_refusal (add_refusals f x y) ≡ Some (BadArgument 1)
unfolding first_refusal refuse_if too_large bad_argument add_refusals
add_first f x y b a l h e = let t : are_elements f x ≡ false = sym (elements_told f x b h) ∙ e in rw (a, eq-eqb (length x) (length y) l, t) refl

pub add_second : (f : FieldName) (x y : List ℕ) (b d : Bool) → is_symbol f ≡ true → length x ≡ length y → IsTrue b ↔ Fits f x → b ≡ true → IsTrue d ↔ Fits f y → d ≡ false → first_refusal (add_refusals f x y) ≡ Some (BadArgument 2)
unfolding first_refusal refuse_if too_large bad_argument add_refusals
add_second f x y b d a l h e k o =
    let t : are_elements f x ≡ true = sym (elements_told f x b h) ∙ e in
    let s : are_elements f y ≡ false = sym (elements_told f y d k) ∙ o in
    rw (a, eq-eqb (length x) (length y) l, t, s) refl

pub add_fine : (f : FieldName) (x y : List ℕ) (b d : Bool) → is_symbol f ≡ true → length x ≡ length y → IsTrue b ↔ Fits f x → b ≡ true → IsTrue d ↔ Fits f y → d ≡ true → first_refusal (add_refusals f x y) ≡ None
unfolding first_refusal refuse_if too_large bad_argument add_refusals
add_fine f x y b d a l h e k o =
    let t : are_elements f x ≡ true = sym (elements_told f x b h) ∙ e in
    let s : are_elements f y ≡ true = sym (elements_told f y d k) ∙ o in
    rw (a, eq-eqb (length x) (length y) l, t, s) refl

-- ---- multiples of a word

pub scale_large : (f : FieldName) (c : ℕ) (x : List ℕ) → is_symbol f ≡ false → first_refusal (scale_refusals f c x) ≡ Some FieldTooLarge
unfolding first_refusal refuse_if too_large bad_argument scale_refusals
scale_large f c x a = rw a refl

pub scale_first : (f : FieldName) (c : ℕ) (x : List ℕ) → is_symbol f ≡ true → size f ≤ c → first_refusal (scale_refusals f c x) ≡ Some (BadArgument 1)
unfolding first_refusal refuse_if too_large bad_argument scale_refusals
scale_first f c x a l = rw (a, le-ltb c (size f) l) refl

pub scale_second : (f : FieldName) (c : ℕ) (x : List ℕ) (b : Bool) → is_symbol f ≡ true → c < size f → IsTrue b ↔ Fits f x → b ≡ false → first_refusal (scale_refusals f c x) ≡ Some (BadArgument 2)
unfolding first_refusal refuse_if too_large bad_argument scale_refusals
scale_second f c x b a l h e = let t : are_elements f x ≡ false = sym (elements_told f x b h) ∙ e in rw (a, lt-ltb c (size f) l, t) refl

pub scale_fine : (f : FieldName) (c : ℕ) (x : List ℕ) (b : Bool) → is_symbol f ≡ true → c < size f → IsTrue b ↔ Fits f x → b ≡ true → first_refusal (scale_refusals f c x) ≡ None
unfolding first_refusal refuse_if too_large bad_argument scale_refusals
scale_fine f c x b a l h e = let t : are_elements f x ≡ true = sym (elements_told f x b h) ∙ e in rw (a, lt-ltb c (size f) l, t) refl

-- ---- distances

pub distance_uneven : (x y : List ℕ) → length x ≢ length y → first_refusal (distance_refusals x y) ≡ Some LengthsDiffer
unfolding first_refusal refuse_if distance_refusals
distance_uneven x y l = rw (ne_eqb (length x) (length y) l) refl

pub distance_fine : (x y : List ℕ) → length x ≡ length y → first_refusal (distance_refusals x y) ≡ None
unfolding first_refusal refuse_if distance_refusals
distance_fine x y l = rw (eq-eqb (length x) (length y) l) refl

-- ---- messages

pub message_uneven : (C : Matrix) (u : List ℕ) → length u ≢ length C.rows → first_refusal (message_refusals C u) ≡ Some LengthsDiffer
unfolding first_refusal refuse_if bad_argument message_refusals
message_uneven C u l = rw (ne_eqb (length u) (length C.rows) l) refl

pub message_no_elements : (C : Matrix) (u : List ℕ) (b : Bool) → length u ≡ length C.rows → IsTrue b ↔ Fits C.field u → b ≡ false → first_refusal (message_refusals C u) ≡ Some (BadArgument 2)
unfolding first_refusal refuse_if bad_argument message_refusals
message_no_elements C u b l h e = let t : are_elements C.field u ≡ false = sym (elements_told C.field u b h) ∙ e in rw (eq-eqb (length u) (length C.rows) l, t) refl

pub message_fine : (C : Matrix) (u : List ℕ) (b : Bool) → length u ≡ length C.rows → IsTrue b ↔ Fits C.field u → b ≡ true → first_refusal (message_refusals C u) ≡ None
unfolding first_refusal refuse_if bad_argument message_refusals
message_fine C u b l h e = let t : are_elements C.field u ≡ true = sym (elements_told C.field u b h) ∙ e in rw (eq-eqb (length u) (length C.rows) l, t) refl

-- ---- rows that are added to a code

pub augmented_uneven : (C : Matrix) (rows : List (List ℕ)) → list_all (λ row. length row == C.columns) rows ≡ false → first_refusal (augmented_refusals C rows) ≡ Some LengthsDiffer
unfolding first_refusal refuse_if bad_argument augmented_refusals
augmented_uneven C rows l = rw l refl

pub augmented_no_elements : (C : Matrix) (rows : List (List ℕ)) (b : Bool) → list_all (λ row. length row == C.columns) rows ≡ true → IsTrue b ↔ All (Fits C.field) rows → b ≡ false → first_refusal (augmented_refusals C rows) ≡ Some (BadArgument 2)
unfolding first_refusal refuse_if bad_argument augmented_refusals
augmented_no_elements C rows b l h e = let t : have_elements C.field rows ≡ false = rows_told C.field rows b h ∙ e in rw (l, t) refl

pub augmented_fine : (C : Matrix) (rows : List (List ℕ)) (b : Bool) → list_all (λ row. length row == C.columns) rows ≡ true → IsTrue b ↔ All (Fits C.field) rows → b ≡ true → first_refusal (augmented_refusals C rows) ≡ None
unfolding first_refusal refuse_if bad_argument augmented_refusals
augmented_fine C rows b l h e = let t : have_elements C.field rows ≡ true = rows_told C.field rows b h ∙ e in rw (l, t) refl

pub augmented_rows : (f : FieldName) (n : ℕ) (rows : List (List ℕ)) (b : Bool) → list_all (λ row. length row == n) rows ≡ true → IsTrue b ↔ All (Fits f) rows → b ≡ true → AreRows f n rows
augmented_rows f n rows b l h e k d m = record {
  long = (Decides-eqb (length (slice_index_or rows k d)) n).0 (AllPass-from_list_all (λ row. length row == n) rows l k d m);
  fits = h.0 e k d m;
}

pub ruleset check_add_laws = (add_large, add_uneven, add_first, add_second, add_fine)

pub ruleset check_scale_laws = (scale_large, scale_first, scale_second, scale_fine)

pub ruleset distance_laws = (distance_uneven, distance_fine)

pub ruleset check_message_laws = (message_uneven, message_no_elements, message_fine)

pub ruleset check_augmented_laws = (augmented_uneven, augmented_no_elements, augmented_fine, augmented_rows)
