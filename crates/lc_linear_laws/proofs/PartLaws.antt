-- Words in two parts, and the words of two lists of rows.
--   span_parted                a word of two lists of rows is the sum of a word of each
--   rows_append                the rows of two lists
--   all_left, all_right        what holds of the rows of two lists
--   word_append, weight_append     a word in two parts, and its weight
--   left_linear, right_linear, twice_linear      a word followed by zeros, after zeros, and followed by itself
--   zero_parted                both parts of a zero word are zero
--   length_taken               the lengths of the parts
--   independent_parts          rows are independent if a zero combination of both lists has zero coefficients
--   bound_of_words             a bound for the words that meet P bounds the code
use Rattle.std.proofs.Common.{◌≡◌, ℕ, List, [], ◌∷◌, ◌++◌, refl, sym, ap, subst, ◌∙◌, arith, ◌<◌, length, All, ◌+◌, ap₂, zero, suc, take, drop, ◌-◌, ◌≤◌}
use Rattle.std.proofs.lemmas.List.Elements.{All-head, All-tail, All-cons, All-append}
use Rattle.std.proofs.lemmas.List.{length-append, take-append-drop}
use Rattle.lc_algebra.specs.declared.FieldName.{FieldName}
use Rattle.lc_algebra.specs.Word.{IsWord, zero_word, word_sum, scale, Fits, weight}
use Rattle.lc_algebra.specs.Span.{InSpan, combine, AreIndependent, IsWeightBound}
use Rattle.lc_algebra.specs.Matrix.{Matrix, AreRows}
use Rattle.lc_algebra.proofs.WordLaws.{zero_sum, sum_assoc, fits_head, fits_tail, fits_cons, IsWord_zero, scale_zero, weight_zero_word, zero_from_weight, fits_take, fits_drop, weight_cons}
use Rattle.lc_algebra.proofs.SpanLaws.{span_word, combine_append}
use Rattle.lc_constructions.specs.Code.{IsCode}
use Rattle.lc_constructions.proofs.ClosedLaws.{sum_parts, scale_parts, zero_parts}
use Rattle.lc_linear_laws.proofs.LinearLaws.{IsLinear}

pub span_parted : (f : FieldName) (n : ℕ) (rows others : List (List ℕ)) (w : List ℕ) → AreRows f n others → InSpan f n (rows ++ others) w → (u : List ℕ) × ((v : List ℕ) × InSpan f n rows u × InSpan f n others v × (w ≡ word_sum f u v))
span_parted f n [] others w r p = (zero_word n, (w, refl, p, sym (zero_sum f n w (span_word f n others w r p))))
span_parted f n (g ∷ rows) others w r (c, l, (x, p, e)) =
    let (u, (v, a, b, k)) = span_parted f n rows others x r p in
    (word_sum f (scale f c g) u, (v, (c, l, (u, a, refl)), b, e ∙ ap (word_sum f (scale f c g)) k ∙ sym (sum_assoc f (scale f c g) u v)))

pub rows_append : (f : FieldName) (n : ℕ) (rows others : List (List ℕ)) → AreRows f n rows → AreRows f n others → AreRows f n (rows ++ others)
rows_append f n rows others r s = All-append (IsWord f n) rows others r s

pub all_left : {X : Type 0} (P : X → Type 0) (xs ys : List X) → All P (xs ++ ys) → All P xs
all_left P [] ys h = λ k d l. absurd (omega (arith, l))
all_left P (x ∷ xs) ys h = All-cons P x xs (All-head P x (xs ++ ys) h) (all_left P xs ys (All-tail P x (xs ++ ys) h))

pub all_right : {X : Type 0} (P : X → Type 0) (xs ys : List X) → All P (xs ++ ys) → All P ys
all_right P [] ys h = h
all_right P (x ∷ xs) ys h = all_right P xs ys (All-tail P x (xs ++ ys) h)

fits_append : (f : FieldName) (u v : List ℕ) → Fits f u → Fits f v → Fits f (u ++ v)
fits_append f [] v a b = b
fits_append f (x ∷ u) v a b = fits_cons f x (u ++ v) (fits_head f x u a) (fits_append f u v (fits_tail f x u a) b)

pub word_append : (f : FieldName) (n m : ℕ) (u v : List ℕ) → IsWord f n u → IsWord f m v → IsWord f (n + m) (u ++ v)
word_append f n m u v a b = record { long = omega (arith, length-append u v, a.long, b.long); fits = fits_append f u v a.fits b.fits }

pub left_linear : (f : FieldName) (n m : ℕ) → IsLinear f n (n + m) (λ u. u ++ zero_word m)
left_linear f n m = record {
  word = λ u a. word_append f n m u (zero_word m) a (IsWord_zero f m);
  zero = zero_parts n m;
  sums = λ u v a b. sym (sum_parts f u v (zero_word m) (zero_word m) (a.long ∙ sym b.long) ∙ ap (λ t. word_sum f u v ++ t) (zero_sum f m (zero_word m) (IsWord_zero f m)));
  multiples = λ c u a. sym (scale_parts f c u (zero_word m) ∙ ap (λ t. scale f c u ++ t) (scale_zero f c m));
}

pub right_linear : (f : FieldName) (n m : ℕ) → IsLinear f m (n + m) (λ v. zero_word n ++ v)
right_linear f n m = record {
  word = λ v b. word_append f n m (zero_word n) v (IsWord_zero f n) b;
  zero = zero_parts n m;
  sums = λ u v a b. sym (sum_parts f (zero_word n) (zero_word n) u v refl ∙ ap (λ t. t ++ word_sum f u v) (zero_sum f n (zero_word n) (IsWord_zero f n)));
  multiples = λ c u a. sym (scale_parts f c (zero_word n) u ∙ ap (λ t. t ++ scale f c u) (scale_zero f c n));
}

pub twice_linear : (f : FieldName) (n : ℕ) → IsLinear f n (n + n) (λ u. u ++ u)
twice_linear f n = record {
  word = λ u a. word_append f n n u u a a;
  zero = zero_parts n n;
  sums = λ u v a b. sym (sum_parts f u v u v (a.long ∙ sym b.long));
  multiples = λ c u a. sym (scale_parts f c u u);
}

pub weight_append : (u v : List ℕ) → weight (u ++ v) ≡ weight u + weight v
weight_append [] v = let e : weight [] ≡ 0 = refl in omega (arith, e)
weight_append (a ∷ u) v = omega (arith, weight_cons a (u ++ v), weight_cons a u, weight_append u v)

pub zero_parted : (n m : ℕ) (u v : List ℕ) → length u ≡ n → length v ≡ m → u ++ v ≡ zero_word (n + m) → (u ≡ zero_word n) × (v ≡ zero_word m)
zero_parted n m u v a b e =
    let w : weight u + weight v ≡ 0 = sym (weight_append u v) ∙ ap (λ x. weight x) e ∙ weight_zero_word (n + m) in
    (zero_from_weight n u a (omega (arith, w)), zero_from_weight m v b (omega (arith, w)))

pub length_taken : (k l : ℕ) (u : List ℕ) → length u ≡ k + l → (length (take k u) ≡ k) × (length (drop k u) ≡ l)
length_taken zero l u e = (refl, omega (arith, e))
length_taken (suc k) l [] e = absurd (omega (arith, e))
length_taken (suc k) l (a ∷ u) e = let t = length_taken k l u (omega (arith, e)) in (omega (arith, t.0), t.1)

pub independent_parts : (f : FieldName) (n : ℕ) (xs ys : List (List ℕ)) → AreRows f n ys → ((cs bs : List ℕ) → IsWord f (length xs) cs → IsWord f (length ys) bs → word_sum f (combine f n cs xs) (combine f n bs ys) ≡ zero_word n → (cs ≡ zero_word (length xs)) × (bs ≡ zero_word (length ys))) → AreIndependent f n (xs ++ ys)
independent_parts f n xs ys r h es w z =
    let k = length xs in
    let l = length ys in
    let e : length (xs ++ ys) ≡ k + l = length-append xs ys in
    let t = length_taken k l es (w.long ∙ e) in
    let cs = take k es in
    let bs = drop k es in
    let whole : cs ++ bs ≡ es = take-append-drop k es in
    let sum : word_sum f (combine f n cs xs) (combine f n bs ys) ≡ zero_word n = sym (combine_append f n cs bs xs ys t.0 r) ∙ ap (λ c. combine f n c (xs ++ ys)) whole ∙ z in
    let zeros = h cs bs (record { long = t.0; fits = fits_take f k es w.fits }) (record { long = t.1; fits = fits_drop f k es w.fits }) sum in
    sym whole ∙ ap₂ (λ a b. a ++ b) zeros.0 zeros.1 ∙ zero_parts k l ∙ ap (λ m. zero_word m) (sym e)

pub bound_of_words : (E : Matrix) (f : FieldName) (n b : ℕ) (P : List ℕ → Type 0) → IsCode f n P E → ((w : List ℕ) → P w → 0 < weight w → b ≤ weight w) → IsWeightBound E.field E.columns E.rows b
bound_of_words E f n b P c h w s l =
    let t : InSpan f n E.rows w = subst (λ m. InSpan f m E.rows w) c.length_is (subst (λ g. InSpan g E.columns E.rows w) c.over s) in
    h w ((c.generator.members w).0 t).1 l
