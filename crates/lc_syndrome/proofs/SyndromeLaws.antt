-- Syndromes as numbers.
--   syndrome_word            the syndrome is a word, with a symbol for each check
--   syndrome_below           its number is below the number of cosets
--   syndrome_of_sum          the syndrome of a sum is the sum of the syndromes
--   number_of_sum            and so its number is determined by theirs
--   same_syndrome            syndromes with one number are the same
--   zero_syndrome            the syndrome of the zero word has the number 0
--   sum_below                the number of a sum is below the number of cosets
use Rattle.std.proofs.Common.{◌≡◌, ℕ, ◌^◌, ◌<◌, List, [], ◌∷◌, length, refl, sym, ap, ap₂, subst, ◌∙◌, arith}
use Rattle.std.proofs.lemmas.List.{length-map}
use Rattle.lc_algebra.specs.declared.FieldName.{FieldName}
use Rattle.lc_algebra.specs.Field.{size}
use Rattle.lc_algebra.specs.Residue.{digits, number}
use Rattle.lc_algebra.specs.Word.{Fits, IsWord, zero_word, word_sum, word_dot}
use Rattle.lc_algebra.specs.Matrix.{Matrix}
use Rattle.lc_algebra.proofs.ResidueLaws.{digits-number, number_below, number_zeros, length-digits}
use Rattle.lc_algebra.proofs.WordLaws.{fits_cons, dot_inside, dot_sum, dot_zero, IsWord_sum, residues_fit}
use Rattle.lc_constructions.specs.Coset.{syndrome}
use Rattle.lc_syndrome.specs.Syndrome.{syndrome_number, coset_count, sum_number}

pub length_syndrome : (f : FieldName) (rows : List (List ℕ)) (x : List ℕ) → length (syndrome f rows x) ≡ length rows
unfolding syndrome
length_syndrome f rows x = length-map rows (λ row. word_dot f row x)

fits_syndrome : (f : FieldName) (rows : List (List ℕ)) (x : List ℕ) → Fits f (syndrome f rows x)
unfolding syndrome
fits_syndrome f [] x = λ i l. absurd (omega (arith, l))
fits_syndrome f (row ∷ rows) x = fits_cons f (word_dot f row x) (syndrome f rows x) (dot_inside f row x) (fits_syndrome f rows x)

pub syndrome_word : (f : FieldName) (rows : List (List ℕ)) (x : List ℕ) → IsWord f (length rows) (syndrome f rows x)
syndrome_word f rows x = record { long = length_syndrome f rows x; fits = fits_syndrome f rows x }

number_word : (f : FieldName) (m : ℕ) (u : List ℕ) → IsWord f m u → number (size f) u < size f ^ m
number_word f m u w = subst (λ k. number (size f) u < size f ^ k) w.long (number_below (size f) u (residues_fit f u w.fits))

digits_word : (f : FieldName) (m : ℕ) (u : List ℕ) → IsWord f m u → digits (size f) m (number (size f) u) ≡ u
digits_word f m u w = subst (λ k. digits (size f) k (number (size f) u) ≡ u) w.long (digits-number (size f) u (residues_fit f u w.fits))

pub syndrome_below : (H : Matrix) (x : List ℕ) → syndrome_number H x < coset_count H
unfolding syndrome_number
syndrome_below H x = number_word H.field (length H.rows) (syndrome H.field H.rows x) (syndrome_word H.field H.rows x)

pub syndrome_of_sum : (f : FieldName) (rows : List (List ℕ)) (x y : List ℕ) → length x ≡ length y → syndrome f rows (word_sum f x y) ≡ word_sum f (syndrome f rows x) (syndrome f rows y)
unfolding syndrome word_sum
syndrome_of_sum f [] x y e = refl
syndrome_of_sum f (row ∷ rows) x y e = ap₂ (λ a u. a ∷ u) (dot_sum f row x y e) (syndrome_of_sum f rows x y e)

pub number_of_sum : (H : Matrix) (x y : List ℕ) → length x ≡ length y → syndrome_number H (word_sum H.field x y) ≡ sum_number H.field (length H.rows) (syndrome_number H x) (syndrome_number H y)
unfolding syndrome_number sum_number
number_of_sum H x y e =
    let f = H.field in
    let m = length H.rows in
    let u = syndrome f H.rows x in
    let v = syndrome f H.rows y in
    let p : digits (size f) m (number (size f) u) ≡ u = digits_word f m u (syndrome_word f H.rows x) in
    let q : digits (size f) m (number (size f) v) ≡ v = digits_word f m v (syndrome_word f H.rows y) in
    ap (number (size f)) (syndrome_of_sum f H.rows x y e ∙ sym (ap₂ (word_sum f) p q))

pub same_syndrome : (H : Matrix) (x y : List ℕ) → syndrome_number H x ≡ syndrome_number H y → syndrome H.field H.rows x ≡ syndrome H.field H.rows y
unfolding syndrome_number
same_syndrome H x y e =
    let f = H.field in
    let m = length H.rows in
    sym (digits_word f m (syndrome f H.rows x) (syndrome_word f H.rows x)) ∙ ap (digits (size f) m) e ∙ digits_word f m (syndrome f H.rows y) (syndrome_word f H.rows y)

zero_syndrome_word : (f : FieldName) (n : ℕ) (rows : List (List ℕ)) → syndrome f rows (zero_word n) ≡ zero_word (length rows)
unfolding syndrome
zero_syndrome_word f n [] = refl
zero_syndrome_word f n (row ∷ rows) = ap₂ (λ a u. a ∷ u) (dot_zero f n row) (zero_syndrome_word f n rows)

pub zero_syndrome : (H : Matrix) (n : ℕ) → syndrome_number H (zero_word n) ≡ 0
unfolding syndrome_number
zero_syndrome H n = ap (number (size H.field)) (zero_syndrome_word H.field n H.rows) ∙ number_zeros (size H.field) (length H.rows)

pub sum_below : (f : FieldName) (m a b : ℕ) → sum_number f m a b < size f ^ m
unfolding sum_number
sum_below f m a b = number_word f m (word_sum f (digits (size f) m a) (digits (size f) m b)) (IsWord_sum f m (digits (size f) m a) (digits (size f) m b) (length-digits (size f) m a) (length-digits (size f) m b))
