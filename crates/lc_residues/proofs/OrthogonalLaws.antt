-- A word of the codes of both periods has equal symbols.
--   dot_shifts             the dot of two words moved on by the same number
--   shift_twice            a shift after a shift
--   rows_orthogonal        the rows of a code have dot 0 with the differences of the check words of the other period
--   other_twice            the other period of the other one is the period
--   lines_meet             two lines with different slopes meet in at most one point
--   symbols_equal          the words of both codes
use Rattle.std.proofs.Common.{◌≡◌, ◌≢◌, ℕ, zero, suc, ◌+◌, ◌-◌, ◌%◌, ◌<◌, ◌≤◌, true, List, [], ◌∷◌, length, replicate, slice_index, refl, sym, ap, ap₂, subst, ◌∙◌, ⊎_elim, arith}
use Rattle.std.proofs.Math.Nat.{mod-lt, mod-add-mod, add-mod-mod, add-mod_right, mod_self}
use Rattle.std.proofs.lemmas.List.{length-replicate}
use Rattle.lc_algebra.specs.declared.FieldName.{FieldName}
use Rattle.lc_algebra.specs.Field.{shape_of, size, add, neg, mul}
use Rattle.lc_algebra.specs.Residue.{top, up}
use Rattle.lc_algebra.specs.Word.{IsWord, scale, word_dot, difference}
use Rattle.lc_algebra.specs.Span.{InSpan}
use Rattle.lc_algebra.specs.Matrix.{IsOrthogonal}
use Rattle.lc_algebra.proofs.FieldLaws.{add_inside, mul_inside, neg_inside, add_zero, add_comm, add_assoc, add_neg, neg_add, add_cancel, mul_add, add_mul, mul_neg, neg_mul, neg_one_mul, neg_neg, negative_unique, no_zero_divisors, subtract_zero}
use Rattle.lc_algebra.proofs.WordLaws.{word_symbol, IsWord_scale, dot_sum, dot_scale, dot_inside}
use Rattle.lc_algebra.proofs.SpanLaws.{dot_span, span_word}
use Rattle.lc_enumeration.specs.InformationSet.{unit_word}
use Rattle.lc_language.specs.Relations.{shifted}
use Rattle.lc_language.specs.QuadraticResidues.{is_odd_prime, is_period, residue_word, cyclic_shift, residue_rows}
use Rattle.lc_residues.specs.Periods.{other_period}
use Rattle.lc_residues.proofs.CodeLaws.{residue_word_is, residue_words}
use Rattle.lc_residues.proofs.PickLaws.{same_picks, index_shift, length_shift}
use Rattle.lc_residues.proofs.ModLaws.{cancel}
use Rattle.lc_residues.proofs.ShiftLaws.{shifted_is, shift_after, shift_none, rows_all}
use Rattle.lc_residues.proofs.MultiplierLaws.{ones_moved}
use Rattle.lc_residues.proofs.CountLaws.{quarter, turned, length_turned}
use Rattle.lc_residues.proofs.DualLaws.{check_word, check_is, check_parts, product_is, dot_unit_check, unit_is}

-- ---- shifts keep dots

dot_up : (f : FieldName) (a b : ℕ) (u v : List ℕ) → length u ≡ length v → add f (word_dot f (up a u) (up b v)) (mul f (top a u) (top b v)) ≡ add f (mul f a b) (word_dot f u v)
unfolding up top word_dot
dot_up f a b [] [] e = add_comm f 0 (mul f a b)
dot_up f a b [] (y ∷ v) e = absurd (omega (arith, e))
dot_up f a b (x ∷ u) [] e = absurd (omega (arith, e))
dot_up f a b (x ∷ u) (y ∷ v) e =
    add_assoc f (mul f a b) (word_dot f (up x u) (up y v)) (mul f (top x u) (top y v)) ∙ ap (add f (mul f a b)) (dot_up f x y u v (omega (arith, e)))

top_same : (a b : ℕ) (u : List ℕ) → 0 < length u → top a u ≡ top b u
unfolding top
top_same a b [] l = absurd (omega (arith, l))
top_same a b (x ∷ u) l = refl

dot_shifted : (f : FieldName) (u v : List ℕ) → length u ≡ length v → 0 < length u → word_dot f (shifted u) (shifted v) ≡ word_dot f u v
unfolding shifted
dot_shifted f u v e l =
    let a = top 0 u in
    let b = top 0 v in
    let tops : mul f (top a u) (top b v) ≡ mul f a b = ap₂ (mul f) (top_same a 0 u l) (top_same b 0 v (omega (arith, l, e))) in
    add_cancel f (word_dot f (up a u) (up b v)) (word_dot f u v) (mul f a b) (dot_inside f (up a u) (up b v)) (dot_inside f u v)
    (ap (add f (word_dot f (up a u) (up b v))) (sym tops) ∙ dot_up f a b u v e ∙ add_comm f (mul f a b) (word_dot f u v))

pub dot_shifts : (f : FieldName) (n k : ℕ) (u v : List ℕ) → k ≤ n → length u ≡ n → length v ≡ n → word_dot f (cyclic_shift n k u) (cyclic_shift n k v) ≡ word_dot f u v
dot_shifts f n zero u v l a b = ap₂ (word_dot f) (shift_none n u a) (shift_none n v b)
dot_shifts f n (suc k) u v l a b =
    let m : k < n = omega (arith, l) in
    let step : (w : List ℕ) → cyclic_shift n (suc k) w ≡ shifted (cyclic_shift n k w) = λ w. sym (shifted_is n (cyclic_shift n k w) (length_shift n k w) ∙ shift_after n k w m) in
    ap₂ (word_dot f) (step u) (step v)
    ∙ dot_shifted f (cyclic_shift n k u) (cyclic_shift n k v) (length_shift n k u ∙ sym (length_shift n k v)) (omega (arith, length_shift n k u, m))
    ∙ dot_shifts f n k u v (omega (arith, m)) a b

pub shift_twice : (n a b : ℕ) (w : List ℕ) → a ≤ n → b ≤ n → 0 < n → cyclic_shift n a (cyclic_shift n b w) ≡ cyclic_shift n ((a + b) % n) w
shift_twice n a b w l m p =
    let c = (a + b) % n in
    let small : c < n = mod-lt (a + b) p in
    same_picks n (cyclic_shift n a (cyclic_shift n b w)) (cyclic_shift n c w) (length_shift n a (cyclic_shift n b w)) (length_shift n c w) (λ i k.
    let x = i + (n - a) + (n - b) in
    let y = i + (n - c) in
    let s : x + (a + b) ≡ i + n + n = omega (arith, l, m) in
    let t : y + c ≡ i + n = omega (arith, small) in
    let left : (x + c) % n ≡ i % n = add-mod-mod x (a + b) n ∙ ap (λ j. j % n) s ∙ add-mod_right (i + n) n ∙ add-mod_right i n in
    let right : (y + c) % n ≡ i % n = ap (λ j. j % n) t ∙ add-mod_right i n in
    let e : ((i + (n - a)) % n + (n - b)) % n ≡ y % n = mod-add-mod (i + (n - a)) n (n - b) ∙ cancel n c x y (omega (arith, small)) (left ∙ sym right) in
    index_shift n a (cyclic_shift n b w) i k ∙ index_shift n b w ((i + (n - a)) % n) (mod-lt (i + (n - a)) p) ∙ ap (slice_index w) e ∙ sym (index_shift n c w i k))

-- ---- rows and check words

shift_undone : (n k : ℕ) (w : List ℕ) → k < n → length w ≡ n → cyclic_shift n (n - k) (cyclic_shift n k w) ≡ w
shift_undone n k w l e =
    let s : n - k + k ≡ n = omega (arith, l) in
    let z : (n - k + k) % n ≡ 0 = ap (λ j. j % n) s ∙ mod_self n in
    shift_twice n (n - k) k w (omega arith) (omega (arith, l)) (omega (arith, l)) ∙ ap (λ j. cyclic_shift n j w) z ∙ shift_none n w e

shift_checked : (n a m : ℕ) (w : List ℕ) → a ≤ n → m < n → cyclic_shift n a (check_word n m w) ≡ check_word n ((a + m) % n) w
unfolding check_word
shift_checked n a m w l k = shift_twice n a m (turned n w) l (omega (arith, k)) (omega (arith, k))

ones_checked : (f : FieldName) (n m : ℕ) (w : List ℕ) → m < n → word_dot f (replicate n 1) (check_word n m w) ≡ word_dot f (replicate n 1) (turned n w)
unfolding check_word
ones_checked f n m w l = ap (λ u. word_dot f u (cyclic_shift n m (turned n w))) (sym (ones_moved n m)) ∙ dot_shifts f n m (replicate n 1) (turned n w) (omega (arith, l)) (length-replicate n 1) (length_turned n w)

shift_product : (f : FieldName) (n t k m : ℕ) → n ≤ 255 → is_odd_prime n ≡ true → t < size f → is_period f n t ≡ true → k < n → m < n → word_dot f (cyclic_shift n k (residue_word f n t)) (check_word n m (residue_word f n (other_period f t))) ≡ quarter n % (shape_of f).characteristic
shift_product f n t k m b h i e l r =
    let w = residue_word f n t in
    let v = residue_word f n (other_period f t) in
    let a = n - k in
    let small : a ≤ n = omega arith in
    let c = (a + m) % n in
    let inside : c < n = mod-lt (a + m) (omega (arith, l)) in
    sym (dot_shifts f n a (cyclic_shift n k w) (check_word n m v) small (length_shift n k w) (check_is f n m v (residue_word_is f n (other_period f t))).long)
    ∙ ap₂ (word_dot f) (shift_undone n k w l (residue_word_is f n t).long) (shift_checked n a m v small r)
    ∙ product_is f n t c b h i e inside

-- the dot with a difference of two words with which the dot is the same
no_difference : (f : FieldName) (n : ℕ) (w u v : List ℕ) → IsWord f n u → IsWord f n v → word_dot f w u ≡ word_dot f w v → word_dot f w (difference f u v) ≡ 0
unfolding difference
no_difference f n w u v a b e =
    dot_sum f w u (scale f (neg f 1) v) (a.long ∙ sym (IsWord_scale f n (neg f 1) v b.long).long) ∙ ap₂ (add f) e (dot_scale f (neg f 1) w v ∙ neg_one_mul f (word_dot f w v)) ∙ add_neg f (word_dot f w v)

same_dots : (f : FieldName) (n : ℕ) (w u v : List ℕ) → IsWord f n u → IsWord f n v → word_dot f w (difference f u v) ≡ 0 → word_dot f w u ≡ word_dot f w v
unfolding difference
same_dots f n w u v a b e =
    subtract_zero f (word_dot f w u) (word_dot f w v) (dot_inside f w u) (dot_inside f w v)
    (sym (dot_sum f w u (scale f (neg f 1) v) (a.long ∙ sym (IsWord_scale f n (neg f 1) v b.long).long) ∙ ap (add f (word_dot f w u)) (dot_scale f (neg f 1) w v ∙ neg_one_mul f (word_dot f w v))) ∙ e)

pub rows_orthogonal : (f : FieldName) (n t m : ℕ) → n ≤ 255 → is_odd_prime n ≡ true → t < size f → is_period f n t ≡ true → m < n → IsOrthogonal f (residue_rows f n t) (difference f (check_word n m (residue_word f n (other_period f t))) (check_word n 0 (residue_word f n (other_period f t))))
rows_orthogonal f n t m b h i e l =
    let v = residue_word f n (other_period f t) in
    let word = residue_word_is f n (other_period f t) in
    let p : 0 < n = omega (arith, l) in
    let x = check_is f n m v word in
    let y = check_is f n 0 v word in
    rows_all f n t (λ row. word_dot f row (difference f (check_word n m v) (check_word n 0 v)) ≡ 0)
    (no_difference f n (replicate n 1) (check_word n m v) (check_word n 0 v) x y (ones_checked f n m v l ∙ sym (ones_checked f n 0 v p)))
    (λ k r. no_difference f n (cyclic_shift n k (residue_word f n t)) (check_word n m v) (check_word n 0 v) x y (shift_product f n t k m b h i e r l ∙ sym (shift_product f n t k 0 b h i e r p)))

pub other_twice : (f : FieldName) (t : ℕ) → t < size f → other_period f (other_period f t) ≡ t
unfolding other_period
other_twice f t l =
    let o = neg f (add f t 1) in
    let zero : add f (add f o 1) t ≡ 0 = add_assoc f o 1 t ∙ ap (add f o) (add_comm f 1 t) ∙ neg_add f (add f t 1) in
    sym (negative_unique f (add f o 1) t l zero)

-- ---- words of both codes

solved : (f : FieldName) (a b u x y : ℕ) → a < size f → add f a (mul f u x) ≡ add f b (mul f u y) → a ≡ add f b (mul f u (add f y (neg f x)))
solved f a b u x y l e =
    let m = mul f u x in
    sym (add_zero f a l) ∙ ap (add f a) (sym (add_neg f m)) ∙ sym (add_assoc f a m (neg f m)) ∙ ap (λ z. add f z (neg f m)) e ∙ add_assoc f b (mul f u y) (neg f m)
    ∙ ap (λ z. add f b (add f (mul f u y) z)) (sym (mul_neg f u x)) ∙ ap (add f b) (sym (mul_add f u y (neg f x)))

pub lines_meet : (f : FieldName) (a b u v x y : ℕ) → a < size f → u < size f → v < size f → x < size f → y < size f → u ≢ v → add f a (mul f u x) ≡ add f b (mul f u y) → add f a (mul f v x) ≡ add f b (mul f v y) → x ≡ y
lines_meet f a b u v x y la lu lv lx ly z d e =
    let w = add f y (neg f x) in
    let same : add f (mul f u w) b ≡ add f (mul f v w) b = add_comm f (mul f u w) b ∙ sym (solved f a b u x y la d) ∙ solved f a b v x y la e ∙ add_comm f b (mul f v w) in
    let equal : mul f u w ≡ mul f v w = add_cancel f (mul f u w) (mul f v w) b (mul_inside f u w) (mul_inside f v w) same in
    let none : mul f (add f u (neg f v)) w ≡ 0 = add_mul f u (neg f v) w ∙ ap₂ (add f) equal (neg_mul f v w) ∙ add_neg f (mul f v w) in
    ⊎_elim
    (λ q. absurd (z (subtract_zero f u v lu lv q)))
    (λ q. sym (subtract_zero f y x ly lx q))
    (no_zero_divisors f (add f u (neg f v)) w (add_inside f u (neg f v)) (add_inside f y (neg f x)) none)

dot_checked : (f : FieldName) (n m t : ℕ) (w : List ℕ) → m < n → IsWord f n w → word_dot f w (check_word n m (residue_word f n t)) ≡ add f (word_dot f w (check_word n m (residue_word f n 0))) (mul f (neg f t) (slice_index w m))
dot_checked f n m t w l a =
    let s = check_is f n m (residue_word f n 0) (residue_word_is f n 0) in
    let e = check_is f n m (unit_word n 0) (unit_is f n) in
    ap (word_dot f w) (check_parts f n m t)
    ∙ dot_sum f w (check_word n m (residue_word f n 0)) (scale f (neg f t) (check_word n m (unit_word n 0))) (s.long ∙ sym (IsWord_scale f n (neg f t) (check_word n m (unit_word n 0)) e.long).long)
    ∙ ap (add f (word_dot f w (check_word n m (residue_word f n 0)))) (dot_scale f (neg f t) w (check_word n m (unit_word n 0)) ∙ ap (mul f (neg f t)) (dot_unit_check f n m w l a))

-- a word of the code of a period on the check words of the other one
line_of : (f : FieldName) (n t o m : ℕ) (w : List ℕ) → n ≤ 255 → is_odd_prime n ≡ true → t < size f → is_period f n t ≡ true → other_period f t ≡ o → m < n → InSpan f n (residue_rows f n t) w → add f (word_dot f w (check_word n m (residue_word f n 0))) (mul f (neg f o) (slice_index w m)) ≡ add f (word_dot f w (check_word n 0 (residue_word f n 0))) (mul f (neg f o) (slice_index w 0))
line_of f n t o m w b h i e q l s =
    let v = residue_word f n (other_period f t) in
    let word = residue_word_is f n (other_period f t) in
    let a = span_word f n (residue_rows f n t) w (residue_words f n t) s in
    let same : word_dot f w (check_word n m v) ≡ word_dot f w (check_word n 0 v) = same_dots f n w (check_word n m v) (check_word n 0 v) (check_is f n m v word) (check_is f n 0 v word) (dot_span f n (residue_rows f n t) (difference f (check_word n m v) (check_word n 0 v)) w (residue_words f n t) (rows_orthogonal f n t m b h i e l) s) in
    let told : word_dot f w (check_word n m (residue_word f n o)) ≡ word_dot f w (check_word n 0 (residue_word f n o)) = subst (λ x. word_dot f w (check_word n m (residue_word f n x)) ≡ word_dot f w (check_word n 0 (residue_word f n x))) q same in
    sym (dot_checked f n m o w l a) ∙ told ∙ dot_checked f n 0 o w (omega (arith, l)) a

pub symbols_equal : (f : FieldName) (n t m : ℕ) (w : List ℕ) → n ≤ 255 → is_odd_prime n ≡ true → t < size f → is_period f n t ≡ true → is_period f n (other_period f t) ≡ true → t ≢ other_period f t → m < n → InSpan f n (residue_rows f n t) w → InSpan f n (residue_rows f n (other_period f t)) w → slice_index w m ≡ slice_index w 0
unfolding other_period
symbols_equal f n t m w b h i e d z l s r =
    let o = other_period f t in
    let k : o < size f = neg_inside f (add f t 1) in
    let a = span_word f n (residue_rows f n t) w (residue_words f n t) s in
    let apart : neg f o ≢ neg f t = λ q. z (sym (neg_neg f t i) ∙ ap (neg f) (sym q) ∙ neg_neg f o k) in
    lines_meet f (word_dot f w (check_word n m (residue_word f n 0))) (word_dot f w (check_word n 0 (residue_word f n 0))) (neg f o) (neg f t) (slice_index w m) (slice_index w 0)
    (dot_inside f w (check_word n m (residue_word f n 0))) (neg_inside f o) (neg_inside f t) (word_symbol f n w a m) (word_symbol f n w a 0) apart
    (line_of f n t o m w b h i e refl l s) (line_of f n o t m w b h k d (other_twice f t i) l r)
