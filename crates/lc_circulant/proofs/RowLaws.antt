-- The rows of circulant matrices side by side.
--   row xs i                     each word after i shifts, one after the other
--   row_more, row_all            a row, word by word
--   rows_none, rows_more         the rows, one after another
--   row_word, circulant_words    they are words over the field
--   words_long                   words of n symbols have n symbols
--   circulant_code               their code is the one that was asked for
--   one_circulant                the circulant matrix of one word
--   one_word, one_long, one_code      and its code
use Rattle.std.proofs.Common.{◌≡◌, ℕ, suc, ◌+◌, ◌*◌, ◌≤◌, ◌<◌, List, [], ◌∷◌, ◌++◌, length, map, flat_map, take, slice_index_or, All, refl, sym, ap, ap₂, subst, ◌∙◌, arith}
use Rattle.std.proofs.Math.Nat.{suc-mul, zero-mul}
use Rattle.std.proofs.lemmas.List.{append-nil, map-append, take_more, take_all}
use Rattle.std.proofs.lemmas.List.Concat.{flat_map-cons}
use Rattle.std.proofs.lemmas.List.Elements.{All-head, All-tail, All-cons, All-map}
use Rattle.std.proofs.lemmas.Grind.{flat_map-append}
use Rattle.lc_algebra.specs.declared.FieldName.{FieldName}
use Rattle.lc_algebra.specs.Word.{IsWord}
use Rattle.lc_algebra.specs.Span.{below}
use Rattle.lc_algebra.specs.Matrix.{Matrix, AreRows}
use Rattle.lc_constructions.specs.Code.{IsCode}
use Rattle.lc_constructions.specs.Basic.{GeneratedBy}
use Rattle.lc_language.specs.Circulant.{shifted_by, circulant, circulants}
use Rattle.lc_linear_laws.proofs.PartLaws.{word_append}
use Rattle.lc_circulant.proofs.ShiftLaws.{shifted_by_word}

abbrev pub row : List (List ℕ) → ℕ → List ℕ
row xs i = flat_map (shifted_by i) xs

pub row_more : (xs : List (List ℕ)) (i k : ℕ) (x s t : List ℕ) → k < length xs → x ≡ slice_index_or xs k [] → s ≡ row (take k xs) i → t ≡ s ++ shifted_by i x → t ≡ row (take (k + 1) xs) i
row_more xs i k x s t l e h m =
    let y = slice_index_or xs k [] in
    let one : row (y ∷ []) i ≡ shifted_by i y = flat_map-cons (shifted_by i) y [] ∙ append-nil (shifted_by i y) in
    m ∙ ap₂ (λ (u v : List ℕ). u ++ v) h (ap (shifted_by i) e ∙ sym one) ∙ sym (flat_map-append (shifted_by i) (take k xs) (y ∷ [])) ∙ ap (λ (zs : List (List ℕ)). row zs i) (sym (take_more xs k [] l))

pub row_all : (xs : List (List ℕ)) (i k : ℕ) (s : List ℕ) → length xs ≤ k → s ≡ row (take k xs) i → s ≡ row xs i
row_all xs i k s l h = h ∙ ap (λ (zs : List (List ℕ)). row zs i) (take_all k xs l)

pub rows_none : (xs : List (List ℕ)) (rows : List (List ℕ)) → rows ≡ [] → rows ≡ circulants 0 xs
unfolding circulants below
rows_none xs rows e = e

pub rows_more : (xs : List (List ℕ)) (i : ℕ) (rows new : List (List ℕ)) (w : List ℕ) → rows ≡ circulants i xs → w ≡ row xs i → new ≡ rows ++ w ∷ [] → new ≡ circulants (i + 1) xs
unfolding circulants below
rows_more xs i rows new w a b e =
    let d : i + 1 ≡ suc i = omega arith in
    e ∙ ap₂ (λ (u : List (List ℕ)) (v : List ℕ). u ++ v ∷ []) a b ∙ sym (ap (λ k. map (row xs) (below k)) d ∙ map-append (row xs) (below i) (i ∷ []))

pub row_word : (f : FieldName) (n i : ℕ) (xs : List (List ℕ)) → AreRows f n xs → IsWord f (length xs * n) (row xs i)
row_word f n i [] r = record { long = sym (zero-mul n); fits = λ k l. absurd (omega (arith, l)) }
row_word f n i (x ∷ xs) r =
    let head = shifted_by_word f n i x (All-head (IsWord f n) x xs r) in
    let tail = row_word f n i xs (All-tail (IsWord f n) x xs r) in
    let e : n + length xs * n ≡ length (x ∷ xs) * n = omega (arith, suc-mul (length xs) n) in
    subst (IsWord f (length (x ∷ xs) * n)) (sym (flat_map-cons (shifted_by i) x xs))
    (subst (λ m. IsWord f m (shifted_by i x ++ row xs i)) e (word_append f n (length xs * n) (shifted_by i x) (row xs i) head tail))

pub circulant_words : (f : FieldName) (n m : ℕ) (xs rows : List (List ℕ)) → AreRows f n xs → m ≡ length xs * n → rows ≡ circulants n xs → AreRows f m rows
unfolding circulants
circulant_words f n m xs rows r e k =
    subst (λ j. AreRows f j rows) (sym e) (subst (AreRows f (length xs * n)) (sym k) (All-map (IsWord f (length xs * n)) (row xs) (below n) (λ i d l. row_word f n (slice_index_or (below n) i d) xs r)))

pub words_long : (f : FieldName) (n : ℕ) (xs : List (List ℕ)) → AreRows f n xs → All (λ x. length x ≡ n) xs
words_long f n xs r i d l = (r i d l).long

pub circulant_code : (f : FieldName) (n m : ℕ) (xs rows : List (List ℕ)) (C : Matrix) → m ≡ length xs * n → rows ≡ circulants n xs → IsCode f m (GeneratedBy f m rows) C → IsCode f (length xs * n) (GeneratedBy f (length xs * n) (circulants n xs)) C
circulant_code f n m xs rows C e k c =
    subst (λ g. IsCode f (length xs * n) (GeneratedBy f (length xs * n) g) C) k (subst (λ j. IsCode f j (GeneratedBy f j rows) C) e c)

-- ---- one word

same_maps : {X Y : Type 0} (h g : X → Y) (xs : List X) → ((x : X) → h x ≡ g x) → map h xs ≡ map g xs
same_maps h g [] k = refl
same_maps h g (x ∷ xs) k = ap₂ (λ y ys. y ∷ ys) (k x) (same_maps h g xs k)

pub one_circulant : (n : ℕ) (x : List ℕ) → circulants n (x ∷ []) ≡ circulant n x
unfolding circulants circulant
one_circulant n x = same_maps (row (x ∷ [])) (λ i. shifted_by i x) (below n) (λ i. flat_map-cons (shifted_by i) x [] ∙ append-nil (shifted_by i x))

pub one_word : (f : FieldName) (x : List ℕ) (words : List (List ℕ)) → words ≡ x ∷ [] → IsWord f (length x) x → AreRows f (length x) words
one_word f x words e w = subst (AreRows f (length x)) (sym e) (All-cons (IsWord f (length x)) x [] w (λ i d l. absurd (omega (arith, l))))

pub one_long : (n : ℕ) (x : List ℕ) (words : List (List ℕ)) → words ≡ x ∷ [] → length words * n ≡ n
one_long n x words e = ap (λ (ws : List (List ℕ)). length ws * n) e ∙ omega (arith, suc-mul 0 n, zero-mul n)

pub one_code : (f : FieldName) (n : ℕ) (x : List ℕ) (words : List (List ℕ)) (C : Matrix) → words ≡ x ∷ [] → IsCode f (length words * n) (GeneratedBy f (length words * n) (circulants n words)) C → IsCode f n (GeneratedBy f n (circulant n x)) C
one_code f n x words C e c =
    let t : circulants n words ≡ circulant n x = ap (circulants n) e ∙ one_circulant n x in
    subst (λ g. IsCode f n (GeneratedBy f n g) C) t (subst (λ m. IsCode f m (GeneratedBy f m (circulants n words)) C) (one_long n x words e) c)

pub ruleset circulant_row_laws = (row_more, row_all)

pub ruleset circulants_laws = (rows_none, rows_more)

pub ruleset side_by_side_laws = (words_long, circulant_words, circulant_code)

pub ruleset shifts_of_one_laws = (one_word, one_long, one_code)
