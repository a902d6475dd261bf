-- Words with ones or zeros before them, and the rows of the larger code.
--   parts_same                 two words in two parts each are the same part by part
--   word_append                two words, one after the other
--   combined_zeros             combinations of rows that have zeros before them
--   led_word                   a combination of the rows of the larger code that has the first row once
--   led_weight                 the weight of a word with ones before it
--   led_words                  the rows of the larger code are words
--   led_independent            they are independent
--   led_more, led_all          a row more, and all rows
use Rattle.std.proofs.Common.{◌≡◌, ℕ, zero, suc, ◌+◌, ◌<◌, ◌≤◌, List, [], ◌∷◌, ◌++◌, length, map, take, drop, replicate, slice_index, slice_index_or, refl, sym, ap, ap₂, subst, ◌∙◌, arith}
use Rattle.std.proofs.Math.Seq.{take-suc, take-append_seam, drop-append_seam}
use Rattle.std.proofs.lemmas.List.{length-append, length-map, length-replicate, map-append, take_all}
use Rattle.std.proofs.lemmas.List.Elements.{All-nil, All-cons, All-head, All-tail}
use Rattle.lc_algebra.specs.declared.FieldName.{FieldName}
use Rattle.lc_algebra.specs.Field.{size}
use Rattle.lc_algebra.specs.Word.{Fits, IsWord, zero_word, word_sum, scale, weight}
use Rattle.lc_algebra.specs.Span.{combine, AreIndependent}
use Rattle.lc_algebra.specs.Matrix.{AreRows}
use Rattle.lc_algebra.proofs.FieldLaws.{mul_one}
use Rattle.lc_algebra.proofs.WordLaws.{fits_head, fits_tail, fits_cons, word_head, word_tail, IsWord_zero, zero_sum, sum_zero, one_scale, zero_scale, scale_zero, index_scale, index_zero_word, weight_other_head, ones_fit, ones_word, length_scale, IsWord_scale, IsWord_sum}
use Rattle.lc_algebra.proofs.SpanLaws.{combine_cons, combine_is_word}
use Rattle.lc_constructions.proofs.ClosedLaws.{sum_parts, scale_parts, zero_parts}
use Rattle.lc_coset.specs.Led.{led_rows}

pub parts_same : (u v x y : List ℕ) → length u ≡ length x → u ++ v ≡ x ++ y → (u ≡ x) × (v ≡ y)
parts_same u v x y e same = (
  sym (take-append_seam u v) ∙ ap₂ take e same ∙ take-append_seam x y,
  sym (drop-append_seam u v) ∙ ap₂ drop e same ∙ drop-append_seam x y,
)

fits_append : (f : FieldName) (u v : List ℕ) → Fits f u → Fits f v → Fits f (u ++ v)
fits_append f [] v a b = b
fits_append f (x ∷ u) v a b = fits_cons f x (u ++ v) (fits_head f x u a) (fits_append f u v (fits_tail f x u a) b)

pub word_append : (f : FieldName) (n m : ℕ) (u v : List ℕ) → IsWord f n u → IsWord f m v → IsWord f (n + m) (u ++ v)
word_append f n m u v a b = record { long = omega (arith, length-append u v, a.long, b.long); fits = fits_append f u v a.fits b.fits }

pub combined_zeros : (f : FieldName) (m n : ℕ) (cs : List ℕ) (rows : List (List ℕ)) → combine f (m + n) cs (map (λ r. zero_word m ++ r) rows) ≡ zero_word m ++ combine f n cs rows
unfolding combine
combined_zeros f m n [] [] = sym (zero_parts m n)
combined_zeros f m n [] (g ∷ rows) = sym (zero_parts m n)
combined_zeros f m n (c ∷ cs) [] = sym (zero_parts m n)
combined_zeros f m n (c ∷ cs) (g ∷ rows) =
    let z = zero_word m in
    ap₂ (word_sum f) (scale_parts f c z g ∙ ap (λ t. t ++ scale f c g) (scale_zero f c m)) (combined_zeros f m n cs rows)
    ∙ sum_parts f z z (scale f c g) (combine f n cs rows) refl
    ∙ ap (λ t. t ++ word_sum f (scale f c g) (combine f n cs rows)) (zero_sum f m z (IsWord_zero f m))

-- a combination of the rows of the larger code
led_combined : (f : FieldName) (m n c : ℕ) (cs x : List ℕ) (rows : List (List ℕ)) → combine f (m + n) (c ∷ cs) (led_rows m x rows) ≡ word_sum f (scale f c (replicate m 1)) (zero_word m) ++ combine f n (c ∷ cs) (x ∷ rows)
led_combined f m n c cs x rows =
    let ones = replicate m 1 in
    combine_cons f (m + n) c cs (ones ++ x) (map (λ r. zero_word m ++ r) rows)
    ∙ ap₂ (word_sum f) (scale_parts f c ones x) (combined_zeros f m n cs rows)
    ∙ sum_parts f (scale f c ones) (zero_word m) (scale f c x) (combine f n cs rows) (length_scale f c ones ∙ length-replicate m 1 ∙ sym (length-replicate m 0))
    ∙ ap (λ t. word_sum f (scale f c ones) (zero_word m) ++ t) (sym (combine_cons f n c cs x rows))

pub led_word : (f : FieldName) (m n : ℕ) (cs x : List ℕ) (rows : List (List ℕ)) → combine f (m + n) (1 ∷ cs) (led_rows m x rows) ≡ replicate m 1 ++ combine f n (1 ∷ cs) (x ∷ rows)
led_word f m n cs x rows =
    let ones = replicate m 1 in
    led_combined f m n 1 cs x rows
    ∙ ap (λ t. t ++ combine f n (1 ∷ cs) (x ∷ rows)) (ap (λ u. word_sum f u (zero_word m)) (one_scale f ones (ones_fit f m)) ∙ sum_zero f m ones (ones_word f m))

pub led_weight : (m : ℕ) (u : List ℕ) → weight (replicate m 1 ++ u) ≡ m + weight u
led_weight zero u = omega arith
led_weight (suc m) u = weight_other_head 1 (replicate m 1 ++ u) (omega arith) ∙ ap suc (led_weight m u) ∙ omega arith

zeros_before : (f : FieldName) (m n : ℕ) (rows : List (List ℕ)) → AreRows f n rows → AreRows f (m + n) (map (λ r. zero_word m ++ r) rows)
zeros_before f m n [] r = All-nil (IsWord f (m + n))
zeros_before f m n (g ∷ rows) r = All-cons (IsWord f (m + n)) (zero_word m ++ g) (map (λ v. zero_word m ++ v) rows) (word_append f m n (zero_word m) g (IsWord_zero f m) (All-head (IsWord f n) g rows r)) (zeros_before f m n rows (All-tail (IsWord f n) g rows r))

pub led_words : (f : FieldName) (m n : ℕ) (x : List ℕ) (rows : List (List ℕ)) → IsWord f n x → AreRows f n rows → AreRows f (m + n) (led_rows m x rows)
led_words f m n x rows h r = All-cons (IsWord f (m + n)) (replicate m 1 ++ x) (map (λ v. zero_word m ++ v) rows) (word_append f m n (replicate m 1) x (ones_word f m) h) (zeros_before f m n rows r)

-- the only multiple of some ones that is zero
no_ones : (f : FieldName) (m c : ℕ) → 0 < m → c < size f → word_sum f (scale f c (replicate m 1)) (zero_word m) ≡ zero_word m → c ≡ 0
no_ones f zero c some l e = absurd (omega (arith, some))
no_ones f (suc m) c some l e =
    let ones = replicate (suc m) 1 in
    let s = scale f c ones in
    let word : IsWord f (suc m) s = IsWord_scale f (suc m) c ones (length-replicate (suc m) 1) in
    let none : s ≡ zero_word (suc m) = sym (sum_zero f (suc m) s word) ∙ e in
    sym (mul_one f c l) ∙ sym (index_scale f c ones 0) ∙ ap (λ u. slice_index u 0) none ∙ index_zero_word (suc m) 0

pub led_independent : (f : FieldName) (m n : ℕ) (x : List ℕ) (rows : List (List ℕ)) → 0 < m → IsWord f n x → AreRows f n rows → AreIndependent f n rows → AreIndependent f (m + n) (led_rows m x rows)
led_independent f m n x rows some h r free [] w z = absurd (omega (arith, w.long))
led_independent f m n x rows some h r free (c ∷ cs) w z =
    let many : length (map (λ v. zero_word m ++ v) rows) ≡ length rows = length-map rows (λ v. zero_word m ++ v) in
    let fronts = word_sum f (scale f c (replicate m 1)) (zero_word m) in
    let here : IsWord f (length rows) cs = subst (λ k. IsWord f k cs) many (word_tail f (length (map (λ v. zero_word m ++ v) rows)) c cs w) in
    let long : length fronts ≡ length (zero_word m) = (IsWord_sum f m (scale f c (replicate m 1)) (zero_word m) (length_scale f c (replicate m 1) ∙ length-replicate m 1) (length-replicate m 0)).long ∙ sym (length-replicate m 0) in
    let both = parts_same fronts (combine f n (c ∷ cs) (x ∷ rows)) (zero_word m) (zero_word n) long (sym (led_combined f m n c cs x rows) ∙ z ∙ sym (zero_parts m n)) in
    let none : c ≡ 0 = no_ones f m c some (word_head f (suc (length (map (λ v. zero_word m ++ v) rows))) c cs w) both.0 in
    let rest : combine f n cs rows ≡ zero_word n =
    sym (zero_sum f n (combine f n cs rows) (combine_is_word f n cs rows r))
    ∙ ap (λ u. word_sum f u (combine f n cs rows)) (sym (zero_scale f n x h.long) ∙ ap (λ a. scale f a x) (sym none))
    ∙ sym (combine_cons f n c cs x rows) ∙ both.1 in
    ap₂ (λ a u. a ∷ u) none (free cs here rest ∙ ap zero_word (sym many))

pub led_more : (m i : ℕ) (x row : List ℕ) (rows : List (List ℕ)) → i < length rows → row ≡ slice_index_or rows i [] → led_rows m x (take i rows) ++ (zero_word m ++ row) ∷ [] ≡ led_rows m x (take (i + 1) rows)
led_more m i x row rows l e =
    let next : i + 1 ≡ suc i = omega arith in
    let front : List ℕ → List ℕ = λ r. zero_word m ++ r in
    ap (λ t. (replicate m 1 ++ x) ∷ (map front (take i rows) ++ (zero_word m ++ t) ∷ [])) e
    ∙ ap (λ ts. (replicate m 1 ++ x) ∷ ts) (sym (map-append front (take i rows) (slice_index_or rows i [] ∷ [])) ∙ ap (map front) (sym (take-suc rows i [] l) ∙ ap (λ t. take t rows) (sym next)))

pub led_all : (m i : ℕ) (x : List ℕ) (rows : List (List ℕ)) → length rows ≤ i → led_rows m x (take i rows) ≡ led_rows m x rows
led_all m i x rows l = ap (led_rows m x) (take_all i rows l)
