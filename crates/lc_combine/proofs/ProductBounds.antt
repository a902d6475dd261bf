-- The dimension of a direct product, and the weights of its words.
--   tensors f n gs vs      the sum of the products of each word of gs and the word of vs at the same place
--   tensors_word, index_tensors      it is a word; its symbols, row by row
--   chunks k gs cs         the coefficients cs in parts of k, one for each word of gs
--   combine_pairs          combinations of products of rows are such sums
--   product_parts          each word of a direct product is such a sum, with words of the second code
--   block m p w            part p of w, in parts of m symbols
--   weight_blocks          the weight of a word by its parts
--   nonzero_coordinate     a nonzero symbol
--   product_bound          the product of the bounds of the two codes
--   product_independent, product_dimension      the products of independent rows are independent
use Rattle.std.proofs.Common.{◌≡◌, ℕ, zero, suc, ◌+◌, ◌*◌, ◌/◌, ◌%◌, ◌<◌, ◌≤◌, List, [], ◌∷◌, ◌++◌, map, flat_map, length, take, drop, slice_index, All, refl, sym, ap, ap₂, subst, ◌∙◌, ⊎_elim, arith, mod-lt, mul-le-mul_right, suc-mul}
use Rattle.std.proofs.Math.Nat.{mul_comm, mod-add-div}
use Rattle.std.proofs.lemmas.Bool.{cases_lt, cases_eq}
use Rattle.std.proofs.lemmas.List.{length-map, take-append-drop, get_or_past, get_or_append_left, get_or-append-add, get_or-take, get_or-drop}
use Rattle.std.proofs.lemmas.List.Elements.{All-head, All-tail, All-cons}
use Rattle.lc_algebra.specs.declared.FieldName.{FieldName}
use Rattle.lc_algebra.specs.Field.{add, mul}
use Rattle.lc_algebra.specs.Word.{IsWord, zero_word, word_sum, scale, weight, word_dot}
use Rattle.lc_algebra.specs.Span.{combine, InSpan, SameSpan, AreIndependent, IsWeightBound}
use Rattle.lc_algebra.specs.Matrix.{Matrix, AreRows, IsReduced, column}
use Rattle.lc_algebra.proofs.FieldLaws.{zero_mul}
use Rattle.lc_algebra.proofs.WordLaws.{IsWord_zero, IsWord_sum, length_scale, index_scale, index_zero_word, index_word_sum, same_words, dot_comm, weight_zero_head, weight_other_head, zero_from_weight, dot_cons, fits_take, fits_drop}
use Rattle.lc_algebra.proofs.SpanLaws.{span_within, combination_of_word, word_of_combination, length_flat_map_even, combine_append, combine_is_word}
use Rattle.lc_algebra.proofs.ColumnLaws.{column_word}
use Rattle.lc_algebra.proofs.ReducedLaws.{index_combine, reduced_independent}
use Rattle.lc_algebra.proofs.DimensionLaws.{dimension_unique}
use Rattle.lc_constructions.specs.Code.{IsCode}
use Rattle.lc_constructions.specs.Combined.{tensor, InDirectProduct}
use Rattle.lc_constructions.proofs.ClosedLaws.{zero_parts}
use Rattle.lc_linear_laws.proofs.PartLaws.{weight_append, bound_of_words, length_taken}
use Rattle.lc_linear_laws.proofs.LinearLaws.{combine_image, same_rows}
use Rattle.lc_code.proofs.GeneratedLaws.{over}
use Rattle.lc_combine.proofs.ProductLaws.{sized, tensor_right, pairs_rows, product_members}

abbrev pairs : FieldName → List (List ℕ) → List (List ℕ) → List (List ℕ)
pairs f gs hs = flat_map (λ u. map (tensor f u) hs) gs

-- ---- sums of products

unfoldable tensors : FieldName → ℕ → List (List ℕ) → List (List ℕ) → List ℕ
tensors f N [] vs = zero_word N
tensors f N (g ∷ gs) [] = zero_word N
tensors f N (g ∷ gs) (v ∷ vs) = word_sum f (tensor f g v) (tensors f N gs vs)

tensors_word : (f : FieldName) (n m : ℕ) (gs vs : List (List ℕ)) → AreRows f n gs → AreRows f m vs → IsWord f (n * m) (tensors f (n * m) gs vs)
unfolding tensors
tensors_word f n m [] vs r s = IsWord_zero f (n * m)
tensors_word f n m (g ∷ gs) [] r s = IsWord_zero f (n * m)
tensors_word f n m (g ∷ gs) (v ∷ vs) r s =
    IsWord_sum f (n * m) (tensor f g v) (tensors f (n * m) gs vs) (sized f n m g v (All-head (IsWord f n) g gs r).long (All-head (IsWord f m) v vs s).long).long (tensors_word f n m gs vs (All-tail (IsWord f n) g gs r) (All-tail (IsWord f m) v vs s)).long

index_tensor : (f : FieldName) (m : ℕ) (u v : List ℕ) (p q : ℕ) → length v ≡ m → q < m → slice_index (tensor f u v) (p * m + q) ≡ mul f (slice_index u p) (slice_index v q)
unfolding tensor
index_tensor f m [] v p q e l =
    get_or_past {X = ℕ} [] (p * m + q) 0 (omega arith) ∙ sym (ap (λ c. mul f c (slice_index v q)) (get_or_past {X = ℕ} [] p 0 (omega arith)) ∙ zero_mul f (slice_index v q))
index_tensor f m (a ∷ u) v zero q e l =
    let k : zero * m + q ≡ q = omega arith in
    ap (slice_index (scale f a v ++ tensor f u v)) k ∙ get_or_append_left (scale f a v) (tensor f u v) 0 q (omega (arith, length_scale f a v, e, l)) ∙ index_scale f a v q
index_tensor f m (a ∷ u) v (suc p) q e l =
    let k : suc p * m + q ≡ length (scale f a v) + (p * m + q) = omega (arith, length_scale f a v, e, suc-mul p m) in
    ap (slice_index (scale f a v ++ tensor f u v)) k ∙ get_or-append-add (scale f a v) (tensor f u v) (p * m + q) 0 ∙ index_tensor f m u v p q e l

dot_none : (f : FieldName) (us : List ℕ) → (word_dot f [] us ≡ 0) × (word_dot f us [] ≡ 0)
unfolding word_dot
dot_none f [] = (refl, refl)
dot_none f (a ∷ us) = (refl, refl)

index_tensors : (f : FieldName) (n m : ℕ) (gs vs : List (List ℕ)) (p q : ℕ) → AreRows f n gs → AreRows f m vs → q < m → slice_index (tensors f (n * m) gs vs) (p * m + q) ≡ word_dot f (column gs p) (column vs q)
unfolding tensors
index_tensors f n m [] vs p q r s l = index_zero_word (n * m) (p * m + q) ∙ sym (dot_none f (column vs q)).0
index_tensors f n m (g ∷ gs) [] p q r s l = index_zero_word (n * m) (p * m + q) ∙ sym (dot_none f (column (g ∷ gs) p)).1
index_tensors f n m (g ∷ gs) (v ∷ vs) p q r s l =
    let rg = All-tail (IsWord f n) g gs r in
    let rv = All-tail (IsWord f m) v vs s in
    let long = (All-head (IsWord f m) v vs s).long in
    let same : length (tensor f g v) ≡ length (tensors f (n * m) gs vs) = (sized f n m g v (All-head (IsWord f n) g gs r).long long).long ∙ sym (tensors_word f n m gs vs rg rv).long in
    index_word_sum f (tensor f g v) (tensors f (n * m) gs vs) (p * m + q) same ∙ ap₂ (add f) (index_tensor f m g v p q long l) (index_tensors f n m gs vs p q rg rv l) ∙ sym (dot_cons f (slice_index g p) (slice_index v q) (column gs p) (column vs q))

-- ---- combinations of products of rows

unfoldable chunks : ℕ → List (List ℕ) → List ℕ → List (List ℕ)
chunks k [] cs = []
chunks k (g ∷ gs) cs = take k cs ∷ chunks k gs (drop k cs)

unfoldable parts : FieldName → ℕ → List (List ℕ) → List (List ℕ) → List (List ℕ)
parts f m hs cs = map (λ c. combine f m c hs) cs

length_parts : (f : FieldName) (m k : ℕ) (gs hs : List (List ℕ)) (cs : List ℕ) → length (parts f m hs (chunks k gs cs)) ≡ length gs
unfolding chunks parts
length_parts f m k [] hs cs = refl
length_parts f m k (g ∷ gs) hs cs = ap suc (length_parts f m k gs hs (drop k cs))

parts_words : (f : FieldName) (m : ℕ) (hs xs : List (List ℕ)) → AreRows f m hs → AreRows f m (parts f m hs xs)
unfolding parts
parts_words f m hs [] r = λ k d l. absurd (omega (arith, l))
parts_words f m hs (x ∷ xs) r = All-cons (IsWord f m) (combine f m x hs) (map (λ c. combine f m c hs) xs) (combine_is_word f m x hs r) (parts_words f m hs xs r)

split : (k n : ℕ) → suc n * k ≡ k + n * k
split k n = omega (arith, suc-mul n k)

combine_pairs : (f : FieldName) (n m : ℕ) (gs hs : List (List ℕ)) (cs : List ℕ) → AreRows f n gs → AreRows f m hs → length cs ≡ length gs * length hs → combine f (n * m) cs (pairs f gs hs) ≡ tensors f (n * m) gs (parts f m hs (chunks (length hs) gs cs))
unfolding combine tensors chunks parts
combine_pairs f n m [] hs [] r s e = refl
combine_pairs f n m [] hs (c ∷ cs) r s e = refl
combine_pairs f n m (g ∷ gs) hs cs r s e =
    let k = length hs in
    let N = n * m in
    let t = length_taken k (length gs * k) cs (e ∙ split k (length gs)) in
    let rg = All-tail (IsWord f n) g gs r in
    let here = map (tensor f g) hs in
    let a : length (take k cs) ≡ length here = t.0 ∙ sym (length-map hs (tensor f g)) in
    ap (λ u. combine f N u (here ++ pairs f gs hs)) (sym (take-append-drop k cs)) ∙ combine_append f N (take k cs) (drop k cs) here (pairs f gs hs) a (pairs_rows f n m gs hs rg s)
    ∙ ap₂ (word_sum f) (combine_image f m N (tensor f g) (take k cs) hs (tensor_right f n m g (All-head (IsWord f n) g gs r).long) s) (combine_pairs f n m gs hs (drop k cs) rg s t.1)

each_part : (f : FieldName) (m k : ℕ) (gs hs : List (List ℕ)) (cs : List ℕ) → length hs ≡ k → IsWord f (length gs * k) cs → All (InSpan f m hs) (parts f m hs (chunks k gs cs))
unfolding chunks parts
each_part f m k [] hs cs e w = λ i d l. absurd (omega (arith, l))
each_part f m k (g ∷ gs) hs cs e w =
    let t = length_taken k (length gs * k) cs (w.long ∙ split k (length gs)) in
    let first : IsWord f (length hs) (take k cs) = record { long = t.0 ∙ sym e; fits = fits_take f k cs w.fits } in
    All-cons (InSpan f m hs) (combine f m (take k cs) hs) (map (λ c. combine f m c hs) (chunks k gs (drop k cs))) (word_of_combination f m hs (take k cs) first) (each_part f m k gs hs (drop k cs) e (record { long = t.1; fits = fits_drop f k cs w.fits }))

length_pairs : (f : FieldName) (gs hs : List (List ℕ)) → length (pairs f gs hs) ≡ length gs * length hs
length_pairs f gs hs = length_flat_map_even (λ u. map (tensor f u) hs) (length hs) (λ u. length-map hs (tensor f u)) gs

product_parts : (f : FieldName) (n m : ℕ) (gs hs : List (List ℕ)) (w : List ℕ) → AreRows f n gs → AreRows f m hs → InSpan f (n * m) (pairs f gs hs) w → (vs : List (List ℕ)) × (length vs ≡ length gs) × AreRows f m vs × All (InSpan f m hs) vs × (w ≡ tensors f (n * m) gs vs)
product_parts f n m gs hs w r s p =
    let (cs, c, e) = combination_of_word f (n * m) (pairs f gs hs) w p in
    let k = length hs in
    let word : IsWord f (length gs * k) cs = subst (λ i. IsWord f i cs) (length_pairs f gs hs) c in
    (parts f m hs (chunks k gs cs), length_parts f m k gs hs cs, parts_words f m hs (chunks k gs cs) s, each_part f m k gs hs cs refl word, e ∙ combine_pairs f n m gs hs cs r s word.long)

-- ---- weights

unfoldable block : ℕ → ℕ → List ℕ → List ℕ
block m zero w = take m w
block m (suc p) w = block m p (drop m w)

index_block : (m p : ℕ) (w : List ℕ) (q : ℕ) → q < m → slice_index (block m p w) q ≡ slice_index w (p * m + q)
unfolding block
index_block m zero w q l = let k : q ≡ zero * m + q = omega arith in get_or-take m w q 0 l ∙ ap (slice_index w) k
index_block m (suc p) w q l =
    let k : m + (p * m + q) ≡ suc p * m + q = omega (arith, suc-mul p m) in
    index_block m p (drop m w) q l ∙ get_or-drop m w (p * m + q) 0 ∙ ap (slice_index w) k

length_block : (m k : ℕ) (w : List ℕ) (p : ℕ) → length w ≡ k * m → p < k → length (block m p w) ≡ m
unfolding block
length_block m zero w p e l = absurd (omega (arith, l))
length_block m (suc k) w zero e l = (length_taken m (k * m) w (e ∙ split m k)).0
length_block m (suc k) w (suc p) e l = length_block m k (drop m w) p (length_taken m (k * m) w (e ∙ split m k)).1 (omega (arith, l))

weight_blocks : (m e : ℕ) (x w : List ℕ) → length w ≡ length x * m → ((p : ℕ) → p < length x → 0 < slice_index x p → e ≤ weight (block m p w)) → weight x * e ≤ weight w
unfolding block
weight_blocks m e [] w l h = let z : weight [] ≡ 0 = refl in omega (arith, z)
weight_blocks m e (a ∷ x) w l h =
    let t = weight_blocks m e x (drop m w) (length_taken m (length x * m) w (l ∙ split m (length x))).1 (λ p b c. h (suc p) (omega (arith, b)) c) in
    let s : weight w ≡ weight (take m w) + weight (drop m w) = ap (λ u. weight u) (sym (take-append-drop m w)) ∙ weight_append (take m w) (drop m w) in
    ⊎_elim
    (λ z. omega (arith, t, s, ap (λ c. c * e) (ap (λ c. weight (c ∷ x)) z ∙ weight_zero_head x)))
    (λ z. omega (arith, t, s, h 0 (omega arith) (omega (arith, z)), ap (λ c. c * e) (weight_other_head a x (omega (arith, z))), suc-mul (weight x) e))
    (cases_eq a 0)

nonzero_coordinate : (w : List ℕ) → 0 < weight w → (i : ℕ) × (i < length w) × (0 < slice_index w i)
nonzero_coordinate [] l = let z : weight [] ≡ 0 = refl in absurd (omega (arith, l, z))
nonzero_coordinate (a ∷ w) l =
    ⊎_elim
    (λ z.
    let t = nonzero_coordinate w (omega (arith, l, ap (λ c. weight (c ∷ w)) z, weight_zero_head w)) in
    (suc t.0, omega (arith, t.1), t.2))
    (λ z. (0, omega arith, omega (arith, z)))
    (cases_eq a 0)

some_weight : (w : List ℕ) (i : ℕ) → 0 < slice_index w i → 0 < weight w
some_weight w i l =
    ⊎_elim (λ b. b)
    (λ b.
    let z : w ≡ zero_word (length w) = zero_from_weight (length w) w refl (omega (arith, b)) in
    absurd (omega (arith, l, ap (λ u. slice_index u i) z, index_zero_word (length w) i)))
    (cases_lt 0 (weight w))

pub product_bound : (C D E : Matrix) (n d e : ℕ) → C.field ≡ D.field → AreRows C.field C.columns C.rows → AreRows D.field D.columns D.rows → IsCode C.field n (InDirectProduct C D) E → IsWeightBound C.field C.columns C.rows d → IsWeightBound D.field D.columns D.rows e → IsWeightBound E.field E.columns E.rows (d * e)
product_bound C D E k d e x r s c y z =
    let f = C.field in
    let n = C.columns in
    let m = D.columns in
    let gs = C.rows in
    let t : AreRows f m D.rows = over f D.field m D.rows x s in
    bound_of_words E f k (d * e) (InDirectProduct C D) c (λ w inside l.
    let (vs, long, words, each, same) = product_parts f n m gs D.rows w r t ((product_members C D w x r s).1 inside) in
    let whole : length w ≡ n * m = ap (λ u. length u) same ∙ (tensors_word f n m gs vs r words).long in
    let symbol : (p q : ℕ) → q < m → slice_index w (p * m + q) ≡ word_dot f (column gs p) (column vs q) = λ p q b. ap (λ u. slice_index u (p * m + q)) same ∙ index_tensors f n m gs vs p q r words b in
    let (i, inner, nonzero) = nonzero_coordinate w l in
    let q = i % m in
    let below : q < m = mod-lt i (positive n m i (omega (arith, inner, whole))) in
    let at : i ≡ i / m * m + q = omega (arith, mod-add-div i m, mul_comm m (i / m)) in
    let cs : IsWord f (length gs) (column vs q) = subst (λ j. IsWord f j (column vs q)) long (column_word f m vs q words) in
    let u = combine f n (column vs q) gs in
    let word : IsWord f n u = combine_is_word f n (column vs q) gs r in
    let told : (p : ℕ) → slice_index u p ≡ slice_index w (p * m + q) = λ p. index_combine f n (column vs q) gs p r ∙ dot_comm f (column vs q) (column gs p) ∙ sym (symbol p q below) in
    let heavy : d ≤ weight u = y u (word_of_combination f n gs (column vs q) cs) (some_weight u (i / m) (omega (arith, nonzero, told (i / m), ap (slice_index w) at))) in
    let parts_heavy : (p : ℕ) → p < length u → 0 < slice_index u p → e ≤ weight (block m p w) = λ p b c.
    let bs : IsWord f (length vs) (column gs p) = subst (λ j. IsWord f j (column gs p)) (sym long) (column_word f n gs p r) in
    let v = combine f m (column gs p) vs in
    let equal : v ≡ block m p w = same_words v (block m p w) ((combine_is_word f m (column gs p) vs words).long ∙ sym (length_block m n w p whole (omega (arith, b, word.long)))) (λ j.
    ⊎_elim
    (λ o. index_combine f m (column gs p) vs j words ∙ sym (symbol p j o) ∙ sym (index_block m p w j o))
    (λ o. get_or_past v j 0 (omega (arith, o, (combine_is_word f m (column gs p) vs words).long)) ∙ sym (get_or_past (block m p w) j 0 (omega (arith, o, length_block m n w p whole (omega (arith, b, word.long))))))
    (cases_lt j m)) in
    let there : InSpan f m D.rows v = span_within f m vs D.rows v t each (word_of_combination f m vs (column gs p) bs) in
    let positive_block : 0 < weight (block m p w) = some_weight (block m p w) q (omega (arith, c, told p, index_block m p w q below)) in
    z (block m p w) (subst (InSpan D.field m D.rows) equal (subst (λ h. InSpan h m D.rows v) x there)) positive_block in
    omega (arith, mul-le-mul_right e heavy, weight_blocks m e u w (whole ∙ ap (λ j. j * m) (sym word.long)) parts_heavy))
  where
    positive : (n m i : ℕ) → i < n * m → 0 < m
    positive n zero i l = absurd (omega (arith, l))
    positive n (suc m) i l = omega arith

-- ---- the dimension

columns_zero : (f : FieldName) (m : ℕ) (vs : List (List ℕ)) → AreRows f m vs → ((q : ℕ) → q < m → column vs q ≡ zero_word (length vs)) → All (λ v. v ≡ zero_word m) vs
columns_zero f m [] r h = λ k d l. absurd (omega (arith, l))
columns_zero f m (v ∷ vs) r h =
    let word = All-head (IsWord f m) v vs r in
    let zero_symbol : (q : ℕ) → slice_index v q ≡ 0 = λ q. ⊎_elim (λ l. let e : slice_index v q ∷ column vs q ≡ 0 ∷ zero_word (length vs) = h q l in cc e) (λ l. get_or_past v q 0 (omega (arith, l, word.long))) (cases_lt q m) in
    All-cons (λ v. v ≡ zero_word m) v vs
    (same_words v (zero_word m) (word.long ∙ sym (IsWord_zero f m).long) (λ q. zero_symbol q ∙ sym (index_zero_word m q)))
    (columns_zero f m vs (All-tail (IsWord f m) v vs r) (λ q l. let e : slice_index v q ∷ column vs q ≡ 0 ∷ zero_word (length vs) = h q l in cc e))

zero_chunks : (f : FieldName) (m k : ℕ) (gs hs : List (List ℕ)) (cs : List ℕ) → length hs ≡ k → AreIndependent f m hs → IsWord f (length gs * k) cs → All (λ v. v ≡ zero_word m) (parts f m hs (chunks k gs cs)) → cs ≡ zero_word (length gs * k)
unfolding chunks parts
zero_chunks f m k [] hs [] e free w z = let d : 0 * k ≡ 0 = omega arith in ap (λ i. zero_word i) (sym d)
zero_chunks f m k [] hs (c ∷ cs) e free w z = absurd (omega (arith, w.long))
zero_chunks f m k (g ∷ gs) hs cs e free w z =
    let t = length_taken k (length gs * k) cs (w.long ∙ split k (length gs)) in
    let first : IsWord f (length hs) (take k cs) = record { long = t.0 ∙ sym e; fits = fits_take f k cs w.fits } in
    let rest : IsWord f (length gs * k) (drop k cs) = record { long = t.1; fits = fits_drop f k cs w.fits } in
    let P : List ℕ → Type 0 = λ v. v ≡ zero_word m in
    let others = map (λ c. combine f m c hs) (chunks k gs (drop k cs)) in
    let a : take k cs ≡ zero_word k = free (take k cs) first (All-head P (combine f m (take k cs) hs) others z) ∙ ap (λ i. zero_word i) e in
    let b = zero_chunks f m k gs hs (drop k cs) e free rest (All-tail P (combine f m (take k cs) hs) others z) in
    sym (take-append-drop k cs) ∙ ap₂ (λ u v. u ++ v) a b ∙ zero_parts k (length gs * k) ∙ ap (λ i. zero_word i) (sym (split k (length gs)))

product_independent : (f : FieldName) (n m : ℕ) (gs hs : List (List ℕ)) → AreRows f n gs → AreRows f m hs → AreIndependent f n gs → AreIndependent f m hs → AreIndependent f (n * m) (pairs f gs hs)
product_independent f n m gs hs r s free others cs c z =
    let k = length hs in
    let N = n * m in
    let word : IsWord f (length gs * k) cs = subst (λ i. IsWord f i cs) (length_pairs f gs hs) c in
    let vs = parts f m hs (chunks k gs cs) in
    let words : AreRows f m vs = parts_words f m hs (chunks k gs cs) s in
    let long : length vs ≡ length gs = length_parts f m k gs hs cs in
    let nothing : tensors f N gs vs ≡ zero_word N = sym (combine_pairs f n m gs hs cs r s word.long) ∙ z in
    let zero_column : (q : ℕ) → q < m → column vs q ≡ zero_word (length vs) = λ q l.
    let bs : IsWord f (length gs) (column vs q) = subst (λ i. IsWord f i (column vs q)) long (column_word f m vs q words) in
    let u = combine f n (column vs q) gs in
    let e : u ≡ zero_word n = same_words u (zero_word n) ((combine_is_word f n (column vs q) gs r).long ∙ sym (IsWord_zero f n).long) (λ p.
    index_combine f n (column vs q) gs p r ∙ dot_comm f (column vs q) (column gs p) ∙ sym (index_tensors f n m gs vs p q r words l) ∙ ap (λ i. slice_index i (p * m + q)) nothing ∙ index_zero_word N (p * m + q) ∙ sym (index_zero_word n p)) in
    free (column vs q) bs e ∙ ap (λ i. zero_word i) (sym long) in
    zero_chunks f m k gs hs cs refl others word (columns_zero f m vs words zero_column) ∙ ap (λ i. zero_word i) (sym (length_pairs f gs hs))

pub product_dimension : (C D E : Matrix) → C.field ≡ D.field → AreRows C.field C.columns C.rows → IsReduced C.columns C.rows → AreRows D.field D.columns D.rows → IsReduced D.columns D.rows → IsCode C.field (C.columns * D.columns) (InDirectProduct C D) E → length E.rows ≡ length C.rows * length D.rows
product_dimension C D E x r p s q c =
    let f = C.field in
    let n = C.columns in
    let m = D.columns in
    let t : AreRows f m D.rows = over f D.field m D.rows x s in
    let rows = pairs f C.rows D.rows in
    let words : AreRows f (n * m) rows = pairs_rows f n m C.rows D.rows r t in
    let free = product_independent f n m C.rows D.rows r t (reduced_independent f n C.rows r p) (reduced_independent f m D.rows t q) in
    let same : SameSpan f (n * m) rows E.rows = same_rows f (n * m) (InDirectProduct C D) rows E c words (λ w. product_members C D w x r s) in
    sym (dimension_unique f (n * m) rows E.rows words c.generator.words free (reduced_independent f (n * m) E.rows c.generator.words c.generator.reduced) same) ∙ length_pairs f C.rows D.rows
