-- Sums that aren't lighter than a distance: what a walk knows that keeps no order.
--   along_cons                the sums along one place more
--   heavy_end, heavy_step     row by row
--   heavy_binary              over 2 elements there is one sum with a row
--   heavy_none                no sum of no rows
--   none_found                if all sums of up to m rows are heavy, no word of the levels 1 to m is lighter
--   firsts_found              it is enough that those whose first coefficient is 1 are
--   no_support                the only support of no place
--   find_nothing              nothing is found that passes a test if nothing does
--   IsSplit, split            a support and its first place
--   multiple_at               a multiple of a row in the list of multiples
use Rattle.std.proofs.Common.{◌≡◌, ℕ, zero, suc, ◌+◌, ◌-◌, ◌*◌, ◌<◌, ◌≤◌, Bool, false, List, [], ◌∷◌, ◌++◌, map, find, length, slice_index_or, Contains, None, refl, sym, ap, ap₂, subst, ◌∙◌, ⊎_elim, arith, mul_comm, flat_map}
use Rattle.std.proofs.lemmas.Nat.{mul-add-lt, div-mul-add, mod-mul-add}
use Rattle.std.proofs.lemmas.List.{get_or_default}
use Rattle.std.proofs.lemmas.List.Elements.{Contains-append_cases}
use Rattle.lc_algebra.specs.declared.FieldName.{FieldName}
use Rattle.lc_algebra.specs.declared.FieldName.TheVariants.{Gf2}
use Rattle.lc_algebra.specs.Field.{size}
use Rattle.lc_algebra.specs.Word.{zero_word, word_sum, scale}
use Rattle.lc_algebra.specs.Matrix.{Matrix}
use Rattle.lc_algebra.proofs.FieldLaws.{one_inside}
use Rattle.lc_algebra.proofs.WordLaws.{weight_zero_word}
use Rattle.lc_algebra.proofs.SpanLaws.{contains_head, contains_tail, contains_cases, contains_map, contains_flat_map, flat_map_contains}
use Rattle.lc_algebra.proofs.DivisorLaws.{no_member}
use Rattle.lc_algebra.proofs.EmbeddingTests.{size_two}
use Rattle.lc_enumeration.specs.Message.{supports_from, numbers_from}
use Rattle.lc_enumeration.proofs.SearchLaws.{numbers_within, within_numbers}
use Rattle.lc_formats.specs.Certificate.{is_lighter}
use Rattle.lc_checker.specs.Walk.{row_of, words_along, support_words, words_over, level_words, words_from}
use Rattle.lc_checker.specs.Heavy.{AreHeavy, AreMultiples}

pub along_cons : (f : FieldName) (rows : List (List ℕ)) (a : List ℕ) (p : ℕ) (s : List ℕ) → words_along f rows a (p ∷ s) ≡ flat_map (λ c. words_along f rows (word_sum f a (scale f c (row_of rows p))) s) (numbers_from 1 (size f - 1))
unfolding words_along
along_cons f rows a p s = refl

supports_none : (i j : ℕ) → 0 < j → supports_from i 0 j ≡ []
unfolding supports_from
supports_none i zero l = absurd (omega (arith, l))
supports_none i (suc j) l = refl

pub supports_more : (i k j : ℕ) → supports_from i (suc k) (suc j) ≡ map (λ s. i ∷ s) (supports_from (suc i) k j) ++ supports_from (suc i) k (suc j)
unfolding supports_from
supports_more i k j = refl

pub no_support : (i k : ℕ) (s : List ℕ) → Contains (supports_from i k 0) s → [] ≡ s
unfolding supports_from
no_support i k s c = ⊎_elim (λ e. e) (λ x. absurd (no_member s x)) (contains_cases [] s [] c)

along_none : (f : FieldName) (rows : List (List ℕ)) (a s w : List ℕ) → [] ≡ s → Contains (words_along f rows a s) w → a ≡ w
unfolding words_along
along_none f rows a s w e c = ⊎_elim (λ q. q) (λ x. absurd (no_member w x)) (contains_cases a w [] (subst (λ t. Contains (words_along f rows a t) w) (sym e) c))

pub heavy_end : (d : ℕ) (C : Matrix) (a : List ℕ) (i m : ℕ) → length C.rows ≤ i → AreHeavy d C a i m
heavy_end d C a i m past j s w z l c h =
    let none : length C.rows - i ≡ 0 = omega (arith, past) in
    absurd (no_member s (subst (λ xs. Contains xs s) (ap (λ k. supports_from i k j) none ∙ supports_none i j z) c))

pub next : (i : ℕ) → suc i ≡ i + 1
next i = omega arith

-- a sum with row i, and perhaps later ones
with_row : (d : ℕ) (C : Matrix) (x : List ℕ) (i j m : ℕ) (s w : List ℕ) → is_lighter d x ≡ false → AreHeavy d C x (i + 1) (m - 1) → suc j ≤ m → Contains (supports_from (i + 1) (length C.rows - (i + 1)) j) s → Contains (words_along C.field C.rows x s) w → is_lighter d w ≡ false
with_row d C x i zero m s w here later l c h = ap (is_lighter d) (sym (along_none C.field C.rows x s w (no_support (i + 1) (length C.rows - (i + 1)) s c) h)) ∙ here
with_row d C x i (suc j) m s w here later l c h = later (suc j) s w (omega arith) (omega (arith, l)) c h

pub heavy_step : (d : ℕ) (C : Matrix) (a : List ℕ) (i m : ℕ) → i < length C.rows → ((c : ℕ) → 0 < c → c < size C.field → (is_lighter d (word_sum C.field a (scale C.field c (row_of C.rows i))) ≡ false) × AreHeavy d C (word_sum C.field a (scale C.field c (row_of C.rows i))) (i + 1) (m - 1)) → AreHeavy d C a (i + 1) m → AreHeavy d C a i m
heavy_step d C a i m l here later zero s w z most c h = absurd (omega (arith, z))
heavy_step d C a i m l here later (suc j) s w z most c h =
    let f = C.field in
    let k = length C.rows - (i + 1) in
    let more : length C.rows - i ≡ suc k = omega (arith, l) in
    let front = λ (t : List ℕ). i ∷ t in
    let listed : Contains (map front (supports_from (i + 1) k j) ++ supports_from (i + 1) k (suc j)) s =
    subst (λ xs. Contains xs s) (ap (λ n. supports_from i n (suc j)) more ∙ supports_more i k j ∙ ap (λ n. map front (supports_from n k j) ++ supports_from n k (suc j)) (next i)) c in
    ⊎_elim
    (λ x.
    let t = contains_map front (supports_from (i + 1) k j) s x in
    let v = contains_flat_map (λ e. words_along f C.rows (word_sum f a (scale f e (row_of C.rows i))) t.0) (numbers_from 1 (size f - 1)) w (subst (λ u. Contains u w) (ap (words_along f C.rows a) t.2 ∙ along_cons f C.rows a i t.0) h) in
    let r = numbers_within 1 (size f - 1) v.0 v.1 in
    let b = here v.0 (omega (arith, r.0)) (omega (arith, r.1)) in
    with_row d C (word_sum f a (scale f v.0 (row_of C.rows i))) i j m t.0 w b.0 b.1 most t.1 v.2)
    (λ x. later (suc j) s w z most x h)
    (Contains-append_cases (map front (supports_from (i + 1) k j)) (supports_from (i + 1) k (suc j)) s listed)

-- over 2 elements there is one sum with a row
pub heavy_binary : (d : ℕ) (C : Matrix) (a : List ℕ) (i m : ℕ) → C.field ≡ Gf2 → i < length C.rows → is_lighter d (word_sum C.field a (scale C.field 1 (row_of C.rows i))) ≡ false → AreHeavy d C (word_sum C.field a (scale C.field 1 (row_of C.rows i))) (i + 1) (m - 1) → AreHeavy d C a (i + 1) m → AreHeavy d C a i m
heavy_binary d C a i m binary l here later rest =
    heavy_step d C a i m l
    (λ c z few.
    let one : 1 ≡ c = omega (arith, z, few, ap size binary, size_two) in (
      subst (λ e. is_lighter d (word_sum C.field a (scale C.field e (row_of C.rows i))) ≡ false) one here,
      subst (λ e. AreHeavy d C (word_sum C.field a (scale C.field e (row_of C.rows i))) (i + 1) (m - 1)) one later,
    ))
    rest

-- no sum of more rows if the width is used up
pub heavy_none : (d : ℕ) (C : Matrix) (a : List ℕ) (i m : ℕ) → m ≡ 0 → AreHeavy d C a i m
heavy_none d C a i m e j s w z l c h = absurd (omega (arith, e, z, l))

-- ---- all levels

pub find_nothing : (test : List ℕ → Bool) (xs : List (List ℕ)) → ((w : List ℕ) → Contains xs w → test w ≡ false) → None ≡ find test xs
find_nothing test [] h = refl
find_nothing test (x ∷ xs) h = rw (h x (contains_head x xs)) (find_nothing test xs (λ w c. h w (contains_tail x w xs c)))

zero_heavy : (d n : ℕ) → is_lighter d (zero_word n) ≡ false
unfolding is_lighter
zero_heavy d n = rw (weight_zero_word n) refl

-- the words of a support are sums of the zero word
supported : (d : ℕ) (C : Matrix) (j : ℕ) (s w : List ℕ) → 0 < j → Contains (supports_from 0 (length C.rows - 0) j) s → AreHeavy d C (zero_word C.columns) 0 j → Contains (support_words C.field C.columns C.rows s) w → is_lighter d w ≡ false
unfolding support_words
supported d C j [] w z c heavy h = ap (is_lighter d) (sym (⊎_elim (λ e. e) (λ x. absurd (no_member w x)) (contains_cases (zero_word C.columns) w [] h))) ∙ zero_heavy d C.columns
supported d C j (p ∷ s) w z c heavy h =
    let f = C.field in
    heavy j (p ∷ s) w z (omega arith) c
    (subst (λ xs. Contains xs w) (sym (along_cons f C.rows (zero_word C.columns) p s))
    (flat_map_contains (λ e. words_along f C.rows (word_sum f (zero_word C.columns) (scale f e (row_of C.rows p))) s) (numbers_from 1 (size f - 1)) 1 w
    (within_numbers 1 (size f - 1) 1 (omega arith) (omega (arith, one_inside f))) h))

pub none_found : (d : ℕ) (C : Matrix) (m : ℕ) → AreHeavy d C (zero_word C.columns) 0 m → None ≡ find (is_lighter d) (words_from C.field C.columns C.rows 1 m)
unfolding words_from level_words words_over
none_found d C m heavy = find_nothing (is_lighter d) (words_from C.field C.columns C.rows 1 m) (λ w c.
    let f = C.field in
    let t = contains_flat_map (level_words f C.columns C.rows) (numbers_from 1 m) w c in
    let r = numbers_within 1 m t.0 t.1 in
    let v = contains_flat_map (λ s. support_words f C.columns C.rows ([] ++ s)) (supports_from 0 (length C.rows) t.0) w t.2 in
    let same : length C.rows - 0 ≡ length C.rows = omega arith in
    supported d C t.0 v.0 w (omega (arith, r.0)) (subst (λ k. Contains (supports_from 0 k t.0) v.0) (sym same) v.1)
    (λ j s u z l. heavy j s u z (omega (arith, l, r.1))) v.2)

-- a support and its first place
pub record IsSplit (i n j : ℕ) (s : List ℕ) : Type 0 where
  pub place : ℕ
  pub rest : List ℕ
  pub is : s ≡ place ∷ rest
  pub from : i ≤ place
  pub before : place < i + n
  pub later : Contains (supports_from (place + 1) (i + n - (place + 1)) j) rest

pub split : (i n j : ℕ) (s : List ℕ) → Contains (supports_from i n (suc j)) s → IsSplit i n j s
split i zero j s c = absurd (no_member s (subst (λ xs. Contains xs s) (supports_none i (suc j) (omega arith)) c))
split i (suc n) j s c =
    ⊎_elim
    (λ x.
    let t = contains_map (λ t. i ∷ t) (supports_from (suc i) n j) s x in
    let room : n ≡ i + suc n - (i + 1) = omega arith in
    record { place = i; rest = t.0; is = t.2; from = omega arith; before = omega arith; later = subst (λ m. Contains (supports_from m (i + suc n - (i + 1)) j) t.0) (next i) (subst (λ m. Contains (supports_from (suc i) m j) t.0) room t.1) })
    (λ x.
    let t = split (suc i) n j s x in
    let room : suc i + n ≡ i + suc n = omega arith in
    record { place = t.place; rest = t.rest; is = t.is; from = omega (arith, t.from); before = omega (arith, t.before); later = subst (λ m. Contains (supports_from (t.place + 1) (m - (t.place + 1)) j) t.rest) room t.later })
    (Contains-append_cases (map (λ t. i ∷ t) (supports_from (suc i) n j)) (supports_from (suc i) n (suc j)) s (subst (λ xs. Contains xs s) (supports_more i n j) c))

abbrev pub first_sum : Matrix → ℕ → List ℕ
first_sum C p = word_sum C.field (zero_word C.columns) (scale C.field 1 (row_of C.rows p))

with_first : (d j m p : ℕ) (C : Matrix) (s t w : List ℕ) → is_lighter d (first_sum C p) ≡ false → AreHeavy d C (first_sum C p) (p + 1) (m - 1) → suc j ≤ m → s ≡ p ∷ t → Contains (supports_from (p + 1) (length C.rows - (p + 1)) j) t → Contains (support_words C.field C.columns C.rows s) w → is_lighter d w ≡ false
unfolding support_words
with_first d j m p C s t w here later l e c h = with_row d C (first_sum C p) p j m t w here later l c (subst (λ u. Contains (support_words C.field C.columns C.rows u) w) e h)

-- what holds of the sums with each first row holds of all words of the levels
pub firsts_found : (d m : ℕ) (C : Matrix) → ((p : ℕ) → p < length C.rows → (is_lighter d (first_sum C p) ≡ false) × AreHeavy d C (first_sum C p) (p + 1) (m - 1)) → None ≡ find (is_lighter d) (words_from C.field C.columns C.rows 1 m)
unfolding words_from level_words words_over
firsts_found d m C firsts = find_nothing (is_lighter d) (words_from C.field C.columns C.rows 1 m) (λ w c.
    let f = C.field in
    let t = contains_flat_map (level_words f C.columns C.rows) (numbers_from 1 m) w c in
    let r = numbers_within 1 m t.0 t.1 in
    let v = contains_flat_map (λ s. support_words f C.columns C.rows ([] ++ s)) (supports_from 0 (length C.rows) t.0) w t.2 in
    let level : suc (t.0 - 1) ≡ t.0 = omega (arith, r.0) in
    let s = split 0 (length C.rows) (t.0 - 1) v.0 (subst (λ k. Contains (supports_from 0 (length C.rows) k) v.0) (sym level) v.1) in
    let b = firsts s.place (omega (arith, s.before)) in
    let room : 0 + length C.rows ≡ length C.rows = omega arith in
    let later : Contains (supports_from (s.place + 1) (length C.rows - (s.place + 1)) (t.0 - 1)) s.rest = subst (λ k. Contains (supports_from (s.place + 1) (k - (s.place + 1)) (t.0 - 1)) s.rest) room s.later in
    with_first d (t.0 - 1) m s.place C v.0 s.rest w b.0 b.1 (omega (arith, r.0, r.1)) s.is later v.2)

-- a multiple of a row in the list of multiples
pub multiple_at : (C : Matrix) (ms : List (List ℕ)) (place c q : ℕ) (r : List ℕ) → AreMultiples C ms → place < length C.rows → 0 < c → c < size C.field → q ≡ size C.field → r ≡ slice_index_or ms (place * (q - 1) + (c - 1)) r → r ≡ scale C.field c (row_of C.rows place)
multiple_at C ms place c q r h l z few e is =
    let m = size C.field - 1 in
    let t = place * m + (c - 1) in
    let small : c - 1 < m = omega (arith, z, few) in
    let product : m * length C.rows ≡ length C.rows * m = mul_comm m (length C.rows) in
    let inside : t < length ms = omega (arith, mul-add-lt place m (c - 1) (length C.rows) l small, product, h.many) in
    let back : c - 1 + 1 ≡ c = omega (arith, z) in
    is ∙ ap (λ n. slice_index_or ms (place * (n - 1) + (c - 1)) r) e ∙ get_or_default ms t r [] inside ∙ h.entry t inside
    ∙ ap₂ (λ x y. scale C.field x (row_of C.rows y)) (ap (λ x. x + 1) (mod-mul-add place m (c - 1) small) ∙ back) (div-mul-add place m (c - 1) small)
