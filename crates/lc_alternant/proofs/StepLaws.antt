-- Lists that a loop makes entry by entry.
--   mapped_none, mapped_more, mapped_whole      the values of a function at the entries of a list
--   length_mapped, fits_images   they are as many, and images are elements
--   each_pushed                  what holds of each entry and of one more holds of each with that one at the end
--   check_rows_none, check_rows_more      check rows
--   check_word, rows_of_checks            they are words
--   syndromes_none, syndromes_more        syndromes
--   key_rows_none, key_rows_more          key rows
--   symbol_pushed                what holds of each symbol and of one more, symbol by symbol
--   key_row_taken                a part of the syndromes is a key row
use Rattle.std.proofs.Common.{◌≡◌, ℕ, suc, ◌+◌, ◌-◌, ◌<◌, ◌≤◌, List, [], ◌∷◌, ◌++◌, length, map, take, drop, slice_index, get_or, refl, sym, ap, ap₂, subst, ◌∙◌, ⊎_elim, arith}
use Rattle.std.proofs.Math.Seq.{take-suc}
use Rattle.std.proofs.lemmas.Bool.{cases_lt}
use Rattle.std.proofs.lemmas.List.{map-append, take_all, length-append, get_or_append_left, get_or-append_right, get_or-take, get_or-drop, length-take, length-drop, length-map}
use Rattle.std.proofs.lemmas.List.Elements.{All-from_get_or}
use Rattle.lc_algebra.specs.declared.FieldName.{FieldName}
use Rattle.lc_algebra.specs.Field.{mul, pow}
use Rattle.lc_algebra.specs.Embedding.{embed}
use Rattle.lc_algebra.specs.Word.{Fits, IsWord, word_dot}
use Rattle.lc_algebra.specs.Matrix.{AreRows}
use Rattle.lc_algebra.proofs.FieldLaws.{mul_inside}
use Rattle.lc_algebra.proofs.WordLaws.{word_cons, IsWord_zero}
use Rattle.lc_constructions.specs.Alternant.{AlternantForm, check_row, syndrome_at}
use Rattle.lc_constructions.proofs.AlternantLaws.{embedded_fits}
use Rattle.lc_alternant.specs.Checks.{AreCheckRows, AreSyndromes}
use Rattle.lc_alternant.specs.Key.{IsKeyRow, AreKeyRows}
use Rattle.lc_code.proofs.CoordinateSteps.{entries_none, entries_more, entries_whole}

pub mapped_none : (g : ℕ → ℕ) (xs : List ℕ) → [] ≡ map g (take 0 xs)
mapped_none g xs = refl

pub mapped_more : (g : ℕ → ℕ) (xs old new : List ℕ) (i a : ℕ) → i < length xs → a ≡ g (slice_index xs i) → old ≡ map g (take i xs) → new ≡ old ++ a ∷ [] → new ≡ map g (take (i + 1) xs)
mapped_more g xs old new i a l e o n =
    let d : suc i ≡ i + 1 = omega arith in
    n ∙ ap₂ (λ u b. u ++ b ∷ []) o e ∙ sym (ap (map g) (take-suc xs i 0 l) ∙ map-append g (take i xs) (slice_index xs i ∷ [])) ∙ ap (λ k. map g (take k xs)) d

pub mapped_whole : (g : ℕ → ℕ) (xs old : List ℕ) (i : ℕ) → i ≡ length xs → old ≡ map g (take i xs) → old ≡ map g xs
mapped_whole g xs old i e o = o ∙ ap (map g) (take_all i xs (omega (arith, e)))

pub length_mapped : (g : ℕ → ℕ) (xs new : List ℕ) → new ≡ map g xs → length new ≡ length xs
length_mapped g xs new e = ap length e ∙ length-map xs g

pub fits_images : (f K : FieldName) (xs new : List ℕ) → new ≡ map (embed f K) xs → Fits K new
fits_images f K xs new e = subst (Fits K) (sym e) (embedded_fits f K xs)

each_pushed : {X : Type 0} (P : ℕ → X → Type 0) (old new : List X) (a d : X) (m : ℕ) → length old ≡ m → ((j : ℕ) → j < m → P j (get_or old j d)) → P m a → new ≡ old ++ a ∷ [] → (length new ≡ m + 1) × ((j : ℕ) → j < m + 1 → P j (get_or new j d))
each_pushed P old new a d m e h p n = (
  ap length n ∙ length-append old (a ∷ []) ∙ ap (λ k. k + 1) e,
  λ j l.
      subst (λ u. P j (get_or u j d)) (sym n)
      (⊎_elim
      (λ k. subst (P j) (sym (get_or_append_left old (a ∷ []) d j (omega (arith, k, e)))) (h j k))
      (λ k.
      let q : m ≡ j = omega (arith, k, l) in
      let z : j - m ≡ 0 = omega (arith, q) in
      subst (P j) (sym (get_or-append_right old (a ∷ []) m j d e k ∙ ap (λ i. get_or (a ∷ []) i d) z)) (subst (λ i. P i a) q p))
      (cases_lt j m)),
)

pub check_rows_none : (K : FieldName) (xs ys : List ℕ) → AreCheckRows K xs ys 0 []
check_rows_none K xs ys = record { count = refl; each = λ j l. absurd (omega (arith, l)) }

pub check_rows_more : (K : FieldName) (xs ys : List ℕ) (m : ℕ) (row : List ℕ) (old new : List (List ℕ)) → AreCheckRows K xs ys m old → row ≡ check_row K xs ys m → new ≡ old ++ row ∷ [] → AreCheckRows K xs ys (m + 1) new
check_rows_more K xs ys m row old new h e n =
    let t = each_pushed (λ j r. r ≡ check_row K xs ys j) old new row [] m h.count h.each e n in
    record { count = t.0; each = t.1 }

row_word : (K : FieldName) (xs ys : List ℕ) (j : ℕ) → length ys ≡ length xs → IsWord K (length xs) (check_row K xs ys j)
unfolding check_row
row_word K [] ys j e = IsWord_zero K 0
row_word K (x ∷ xs) [] j e = absurd (omega (arith, e))
row_word K (x ∷ xs) (y ∷ ys) j e = word_cons K (length xs) (mul K y (pow K x j)) (check_row K xs ys j) (mul_inside K y (pow K x j)) (row_word K xs ys j (omega (arith, e)))

pub check_word : (K : FieldName) (xs ys row : List ℕ) (j : ℕ) → length ys ≡ length xs → row ≡ check_row K xs ys j → IsWord K (length xs) row
check_word K xs ys row j e h = subst (IsWord K (length xs)) (sym h) (row_word K xs ys j e)

pub rows_of_checks : (K : FieldName) (xs ys : List ℕ) (m : ℕ) (rows : List (List ℕ)) → length ys ≡ length xs → AreCheckRows K xs ys m rows → AreRows K (length xs) rows
rows_of_checks K xs ys m rows e h =
    All-from_get_or (IsWord K (length xs)) rows [] (λ j l. check_word K xs ys (get_or rows j []) j e (h.each j (omega (arith, l, h.count))))

pub syndromes_none : (f : FieldName) (form : AlternantForm) (x : List ℕ) → AreSyndromes f form x 0 []
syndromes_none f form x = record { count = refl; are = λ j l. absurd (omega (arith, l)) }

pub syndromes_more : (f : FieldName) (form : AlternantForm) (x z : List ℕ) (m a : ℕ) (old new : List ℕ) → AreSyndromes f form x m old → z ≡ map (embed f form.locator) x → a ≡ word_dot form.locator z (check_row form.locator form.points form.multipliers m) → new ≡ old ++ a ∷ [] → AreSyndromes f form x (m + 1) new
unfolding syndrome_at
syndromes_more f form x z m a old new h i e n =
    let t = each_pushed (λ j s. s ≡ syndrome_at f form x j) old new a 0 m h.count h.are (e ∙ ap (λ u. word_dot form.locator u (check_row form.locator form.points form.multipliers m)) i) n in
    record { count = t.0; are = t.1 }

pub key_rows_none : (t : ℕ) (s : List ℕ) → AreKeyRows t 0 s []
key_rows_none t s = record { count = refl; each = λ j l. absurd (omega (arith, l)) }

pub key_rows_more : (t m : ℕ) (s row : List ℕ) (old new : List (List ℕ)) → AreKeyRows t m s old → IsKeyRow t m s row → new ≡ old ++ row ∷ [] → AreKeyRows t (m + 1) s new
key_rows_more t m s row old new h e n =
    let r = each_pushed (λ j u. IsKeyRow t j s u) old new row [] m h.count h.each e n in
    record { count = r.0; each = r.1 }

pub symbol_pushed : (P : ℕ → ℕ → Type 0) (old new : List ℕ) (a m : ℕ) → length old ≡ m → ((j : ℕ) → j < m → P j (slice_index old j)) → P m a → new ≡ old ++ a ∷ [] → (j : ℕ) → j < m + 1 → P j (slice_index new j)
symbol_pushed P old new a m e h p n = (each_pushed P old new a 0 m e h p n).1

pub key_row_taken : (t m : ℕ) (s row : List ℕ) (k : ℕ) → k ≡ t + 1 → m + t + 1 ≤ length s → row ≡ take k (drop m s) → IsKeyRow t m s row
key_row_taken t m s row k q l e = record {
  long = ap length e ∙ length-take k (drop m s) ∙ omega (arith, length-drop m s, l, q);
  symbols = λ i a. ap (λ u. get_or u i 0) e ∙ get_or-take k (drop m s) i 0 (omega (arith, a, q)) ∙ get_or-drop m s i 0;
}

pub ruleset check_rows_laws = (check_rows_none, check_rows_more)

pub ruleset check_entries_laws = (check_word, entries_none, entries_more, entries_whole)

pub ruleset syndromes_laws = (syndromes_none, syndromes_more)

pub ruleset images_laws = (mapped_none, mapped_more, mapped_whole, length_mapped, fits_images)

pub ruleset key_rows_laws = (key_rows_none, key_rows_more)

pub ruleset values_at_laws = (mapped_none, mapped_more, mapped_whole)
