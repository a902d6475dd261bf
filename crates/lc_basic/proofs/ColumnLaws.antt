-- The check matrix of a Hamming code, digit by digit of the numbers of its columns.
--   points_power, length_points    (q - 1) points + 1 is q^r: the number of points is (q^r - 1) / (q - 1)
--   points_more                    more digits, more points
--   map_constant, map_below, flat_below      maps over lists of numbers
--   length_lists, length_columns   how many lists and columns there are
--   below_product                  the numbers below q m are the c m + v
--   digit_row, digit_list          entry i of all lists is that digit of their numbers
--   digit_columns                  entry i of all columns is that digit of their numbers
--   digits_word                    these are words over the field
--   checks_rows                    so the check matrix has words as rows
--   map_more, digits_first, digits_more, power_first, columns_first, columns_more, checks_first, checks_more, checks_whole      the loops that
--                                  write the digits and the rows
use Rattle.std.proofs.Common.{◌≡◌, ℕ, zero, suc, ◌+◌, ◌-◌, ◌*◌, ◌/◌, ◌%◌, ◌^◌, ◌<◌, ◌≤◌, List, [], ◌∷◌, ◌++◌, map, length, replicate, flat_map, slice_index, slice_index_or, refl, sym, ap, subst, ◌∙◌, ⊎_elim, arith, add-zero, add-suc}
use Rattle.std.proofs.Math.Nat.{pow-suc, pow-zero, one-le-pow, mul-add-div, mul-add-mod_self_left, pow-le-pow_right, mod-lt, mod-eq_of_lt, mul-le-mul_right}
use Rattle.std.proofs.lemmas.Nat.{div-mul-add, pow-add, div_below}
use Rattle.std.proofs.lemmas.List.{map-append, length-map, length-append, replicate-append-replicate, append_assoc, append-nil}
use Rattle.std.proofs.lemmas.List.Elements.{All-map}
use Rattle.std.proofs.lemmas.Simd.{map-map}
use Rattle.std.proofs.lemmas.Grind.{flat_map-append}
use Rattle.std.proofs.lemmas.Bool.{cases_lt}
use Rattle.lc_algebra.specs.declared.FieldName.{FieldName}
use Rattle.lc_algebra.specs.Field.{size}
use Rattle.lc_algebra.specs.Word.{IsWord}
use Rattle.lc_algebra.specs.Span.{below}
use Rattle.lc_algebra.specs.Matrix.{AreRows}
use Rattle.lc_algebra.proofs.FieldLaws.{zero_inside, one_inside}
use Rattle.lc_algebra.proofs.SpanLaws.{length_below, length_flat_map_even, index_below}
use Rattle.lc_algebra.proofs.CommonLaws.{map_flat_map}
use Rattle.lc_constructions.specs.Basic.{all_lists, hamming_columns, hamming_checks, hamming_length}
use Rattle.lc_constructions.proofs.HammingLaws.{columns_none, columns_step}
use Rattle.lc_basic.specs.Column.{points, digits_from, digits_of, checks_part}

pub power_step : (q r : ℕ) → q ^ suc r ≡ q * q ^ r
power_step q r = omega (arith, pow-suc q r)

pub points_power : (p r : ℕ) → p * points (suc p) r + 1 ≡ suc p ^ r
unfolding points
points_power p zero = omega (arith, pow-zero (suc p))
points_power p (suc r) = omega (arith, points_power p r, pow-suc (suc p) r)

length_by_less : (p r : ℕ) → 0 < p → hamming_length (suc p) r ≡ points (suc p) r
unfolding hamming_length
length_by_less p r l =
    let e : suc p ^ r - 1 ≡ points (suc p) r * p + 0 = omega (arith, points_power p r) in
    let d : suc p - 1 ≡ p = omega arith in
    ap (λ k. k / (suc p - 1)) e ∙ ap (λ k. (points (suc p) r * p + 0) / k) d ∙ div-mul-add (points (suc p) r) p 0 l

pub length_points : (q r : ℕ) → 1 < q → hamming_length q r ≡ points q r
length_points q r l =
    let e : suc (q - 1) ≡ q = omega (arith, l) in
    subst (λ k. hamming_length k r ≡ points k r) e (length_by_less (q - 1) r (omega (arith, l)))

pub power_points : (q r : ℕ) → 1 < q → (q - 1) * points q r + 1 ≡ q ^ r
power_points q r l =
    let e : suc (q - 1) ≡ q = omega (arith, l) in
    subst (λ k. (q - 1) * points k r + 1 ≡ k ^ r) e (points_power (q - 1) r)

pub points_more : (q i r : ℕ) → i ≤ r → points q i ≤ points q r
unfolding points
points_more q i zero l = let e : i ≡ 0 = omega (arith, l) in subst (λ k. points q i ≤ points q k) e (omega arith)
points_more q i (suc r) l =
    ⊎_elim
    (λ m. let t : points q i ≤ points q r = points_more q i r (omega (arith, m)) in omega (arith, t))
    (λ m. let e : i ≡ suc r = omega (arith, l, m) in subst (λ k. points q i ≤ points q k) e (omega arith))
    (cases_lt i (suc r))

pub map_constant : {X : Type 0} (c : ℕ) (xs : List X) → map (λ x. c) xs ≡ replicate (length xs) c
map_constant c [] = refl
map_constant c (x ∷ xs) = ap (λ u. c ∷ u) (map_constant c xs)

pub map_below : (h g : ℕ → ℕ) (n : ℕ) → ((v : ℕ) → v < n → h v ≡ g v) → map h (below n) ≡ map g (below n)
unfolding below
map_below h g zero e = refl
map_below h g (suc n) e =
    map-append h (below n) (n ∷ []) ∙ ap (λ u. u ++ h n ∷ []) (map_below h g n (λ v l. e v (omega (arith, l)))) ∙ ap (λ a. map g (below n) ++ a ∷ []) (e n (omega arith)) ∙ sym (map-append g (below n) (n ∷ []))

flat_below : (h g : ℕ → List ℕ) (n : ℕ) → ((v : ℕ) → v < n → h v ≡ g v) → flat_map h (below n) ≡ flat_map g (below n)
unfolding below
flat_below h g zero e = refl
flat_below h g (suc n) e =
    flat_map-append h (below n) (n ∷ []) ∙ ap (λ u. u ++ flat_map h (n ∷ [])) (flat_below h g n (λ v l. e v (omega (arith, l)))) ∙ ap (λ u. flat_map g (below n) ++ (u ++ [])) (e n (omega arith)) ∙ sym (flat_map-append g (below n) (n ∷ []))

pub length_lists : (q r : ℕ) → length (all_lists q r) ≡ q ^ r
unfolding all_lists
length_lists q zero = sym (pow-zero q)
length_lists q (suc r) =
    length_flat_map_even (λ c. map (λ u. c ∷ u) (all_lists q r)) (q ^ r) (λ c. length-map (all_lists q r) (λ u. c ∷ u) ∙ length_lists q r) (below q) ∙ ap (λ k. k * q ^ r) (length_below q) ∙ sym (power_step q r)

pub length_columns : (q r : ℕ) → 1 < q → length (hamming_columns q r) ≡ points q r
unfolding points
length_columns q zero g = ap (λ us. length us) (columns_none q)
length_columns q (suc r) g =
    let a : length (map (λ u. 0 ∷ u) (hamming_columns q r)) ≡ points q r = length-map (hamming_columns q r) (λ u. 0 ∷ u) ∙ length_columns q r g in
    let b : length (map (λ u. 1 ∷ u) (all_lists q r)) ≡ q ^ r = length-map (all_lists q r) (λ u. 1 ∷ u) ∙ length_lists q r in
    ap (λ us. length us) (columns_step q r g) ∙ length-append (map (λ u. 0 ∷ u) (hamming_columns q r)) (map (λ u. 1 ∷ u) (all_lists q r)) ∙ cc (a, b)

below_sum : (a b : ℕ) → below (a + b) ≡ below a ++ map (λ v. a + v) (below b)
unfolding below
below_sum a zero = ap below (add-zero a) ∙ sym (append-nil (below a))
below_sum a (suc b) =
    ap below (add-suc a b) ∙ ap (λ u. u ++ (a + b) ∷ []) (below_sum a b) ∙ append_assoc (below a) (map (λ v. a + v) (below b)) ((a + b) ∷ []) ∙ ap (λ u. below a ++ u) (sym (map-append (λ v. a + v) (below b) (b ∷ [])))

below_product : (q m : ℕ) → below (q * m) ≡ flat_map (λ c. map (λ v. c * m + v) (below m)) (below q)
unfolding below
below_product zero m = let e : zero * m ≡ zero = omega arith in ap below e
below_product (suc q) m =
    let e : suc q * m ≡ q * m + m = omega arith in
    ap below e ∙ below_sum (q * m) m ∙ ap (λ u. u ++ map (λ v. q * m + v) (below m)) (below_product q m) ∙ ap (λ u. flat_map (λ c. map (λ v. c * m + v) (below m)) (below q) ++ u) (sym (append-nil (map (λ v. q * m + v) (below m)))) ∙ sym (flat_map-append (λ c. map (λ v. c * m + v) (below m)) (below q) (q ∷ []))

-- digits of c q^r + v, where v has r digits: c is the highest, and the others are those of v
digit_high : (q m c v : ℕ) → c < q → v < m → (c * m + v) / m % q ≡ c
digit_high q m c v l k = ap (λ x. x % q) (div-mul-add c m v k) ∙ mod-eq_of_lt l

digit_low : (q c v i e r : ℕ) → 0 < q → suc (i + e) ≡ r → (c * q ^ r + v) / q ^ e % q ≡ v / q ^ e % q
digit_low q c v i e r l s =
    let t : r ≡ e + suc i = omega (arith, s) in
    let p : q ^ r ≡ q ^ e * (q * q ^ i) = ap (λ k. q ^ k) t ∙ pow-add q e (suc i) ∙ ap (λ k. q ^ e * k) (power_step q i) in
    let m : c * (q ^ e * (q * q ^ i)) + v ≡ q ^ e * (q * (q ^ i * c)) + v = omega arith in
    ap (λ k. (c * k + v) / q ^ e % q) p ∙ ap (λ k. k / q ^ e % q) m ∙ ap (λ k. k % q) (mul-add-div (one-le-pow e q l) (q * (q ^ i * c)) v) ∙ mul-add-mod_self_left q (q ^ i * c) (v / q ^ e)

-- entry i of the lists that begin with c
digit_row : (q r i e c : ℕ) → 0 < q → c < q → i + e ≡ r → ((j : ℕ) → suc (j + e) ≡ r → map (λ u. slice_index u j) (all_lists q r) ≡ map (λ v. v / q ^ e % q) (below (q ^ r))) → map (λ u. slice_index u i) (map (λ u. c ∷ u) (all_lists q r)) ≡ map (λ v. (c * q ^ r + v) / q ^ e % q) (below (q ^ r))
digit_row q r zero e c l k s h =
    let t : e ≡ r = omega (arith, s) in
    let a : map (λ u. slice_index u 0) (map (λ u. c ∷ u) (all_lists q r)) ≡ replicate (q ^ r) c = map-map (λ u. slice_index u 0) (λ u. c ∷ u) (all_lists q r) ∙ map_constant c (all_lists q r) ∙ ap (λ m. replicate m c) (length_lists q r) in
    let b : map (λ v. (c * q ^ r + v) / q ^ r % q) (below (q ^ r)) ≡ replicate (q ^ r) c = map_below (λ v. (c * q ^ r + v) / q ^ r % q) (λ v. c) (q ^ r) (λ v m. digit_high q (q ^ r) c v k m) ∙ map_constant c (below (q ^ r)) ∙ ap (λ m. replicate m c) (length_below (q ^ r)) in
    a ∙ sym (subst (λ x. map (λ v. (c * q ^ r + v) / q ^ x % q) (below (q ^ r)) ≡ replicate (q ^ r) c) (sym t) b)
digit_row q r (suc i) e c l k s h =
    let t : suc (i + e) ≡ r = omega (arith, s) in
    map-map (λ u. slice_index u (suc i)) (λ u. c ∷ u) (all_lists q r) ∙ h i t ∙ sym (map_below (λ v. (c * q ^ r + v) / q ^ e % q) (λ v. v / q ^ e % q) (q ^ r) (λ v m. digit_low q c v i e r l t))

pub digit_list : (q r i e : ℕ) → 0 < q → suc (i + e) ≡ r → map (λ u. slice_index u i) (all_lists q r) ≡ map (λ v. v / q ^ e % q) (below (q ^ r))
unfolding all_lists
digit_list q zero i e l s = absurd (omega (arith, s))
digit_list q (suc r) i e l s =
    let here : map (λ u. slice_index u i) (flat_map (λ c. map (λ u. c ∷ u) (all_lists q r)) (below q)) ≡ flat_map (λ c. map (λ v. (c * q ^ r + v) / q ^ e % q) (below (q ^ r))) (below q) =
    map_flat_map (λ u. slice_index u i) (λ c. map (λ u. c ∷ u) (all_lists q r)) (below q) ∙ flat_below (λ c. map (λ u. slice_index u i) (map (λ u. c ∷ u) (all_lists q r))) (λ c. map (λ v. (c * q ^ r + v) / q ^ e % q) (below (q ^ r))) q (λ c k. digit_row q r i e c l k (omega (arith, s)) (λ j t. digit_list q r j e l t)) in
    let there : map (λ v. v / q ^ e % q) (below (q ^ suc r)) ≡ flat_map (λ c. map (λ v. (c * q ^ r + v) / q ^ e % q) (below (q ^ r))) (below q) =
    ap (λ k. map (λ v. v / q ^ e % q) (below k)) (power_step q r) ∙ ap (map (λ v. v / q ^ e % q)) (below_product q (q ^ r)) ∙ map_flat_map (λ v. v / q ^ e % q) (λ c. map (λ v. c * q ^ r + v) (below (q ^ r))) (below q) ∙ flat_below (λ c. map (λ v. v / q ^ e % q) (map (λ v. c * q ^ r + v) (below (q ^ r)))) (λ c. map (λ v. (c * q ^ r + v) / q ^ e % q) (below (q ^ r))) q (λ c k. map-map (λ v. v / q ^ e % q) (λ v. c * q ^ r + v) (below (q ^ r))) in
    here ∙ sym there

block_zero : (q e m : ℕ) → 1 < q → m < e → digits_from q (q ^ e) (q ^ m) (q ^ m) ≡ replicate (q ^ m) 0
unfolding digits_from
block_zero q e m l k =
    map_below (λ v. (q ^ m + v) / q ^ e % q) (λ v. 0) (q ^ m) (λ v h.
    let a : q ^ suc m ≤ q ^ e = pow-le-pow_right (omega (arith, l)) k in
    let b : 2 * q ^ m ≤ q * q ^ m = mul-le-mul_right (q ^ m) l in
    let s : (q ^ m + v) / q ^ e < 1 = div_below (q ^ m + v) (q ^ e) 1 (one-le-pow e q (omega (arith, l))) (omega (arith, a, b, h, power_step q m)) in
    let z : (q ^ m + v) / q ^ e ≡ 0 = omega (arith, s) in
    ap (λ x. x % q) z ∙ mod-eq_of_lt (omega (arith, l))) ∙ map_constant 0 (below (q ^ m)) ∙ ap (λ x. replicate x 0) (length_below (q ^ m))

pub digits_zero : (q e m : ℕ) → 1 < q → m ≤ e → digits_of q (q ^ e) m ≡ replicate (points q m) 0
unfolding digits_of points
digits_zero q e zero l k = refl
digits_zero q e (suc m) l k =
    ap (λ u. u ++ digits_from q (q ^ e) (q ^ m) (q ^ m)) (digits_zero q e m l (omega (arith, k))) ∙ ap (λ u. replicate (points q m) 0 ++ u) (block_zero q e m l k) ∙ replicate-append-replicate (points q m) (q ^ m) 0

block_one : (q r e i : ℕ) → 1 < q → i + e ≡ r → map (λ u. slice_index u i) (map (λ u. 1 ∷ u) (all_lists q r)) ≡ digits_from q (q ^ e) (q ^ r) (q ^ r)
unfolding digits_from
block_one q r e i l s =
    let z : 0 < q = omega (arith, l) in
    digit_row q r i e 1 z l s (λ j t. digit_list q r j e z t) ∙ map_below (λ v. (1 * q ^ r + v) / q ^ e % q) (λ v. (q ^ r + v) / q ^ e % q) (q ^ r) (λ v m. let t : 1 * q ^ r + v ≡ q ^ r + v = omega arith in ap (λ x. x / q ^ e % q) t)

columns_before : (q r i e : ℕ) → 1 < q → i + e ≡ r → ((j : ℕ) → suc (j + e) ≡ r → map (λ u. slice_index u j) (hamming_columns q r) ≡ digits_of q (q ^ e) r) → map (λ u. slice_index u i) (map (λ u. 0 ∷ u) (hamming_columns q r)) ≡ digits_of q (q ^ e) r
columns_before q r zero e l s h =
    map-map (λ u. slice_index u 0) (λ u. 0 ∷ u) (hamming_columns q r) ∙ map_constant 0 (hamming_columns q r) ∙ ap (λ x. replicate x 0) (length_columns q r l) ∙ sym (digits_zero q e r l (omega (arith, s)))
columns_before q r (suc i) e l s h =
    map-map (λ u. slice_index u (suc i)) (λ u. 0 ∷ u) (hamming_columns q r) ∙ h i (omega (arith, s))

pub digit_columns : (q r i e : ℕ) → 1 < q → suc (i + e) ≡ r → map (λ u. slice_index u i) (hamming_columns q r) ≡ digits_of q (q ^ e) r
unfolding digits_of
digit_columns q zero i e l s = absurd (omega (arith, s))
digit_columns q (suc r) i e l s =
    let t : i + e ≡ r = omega (arith, s) in
    ap (λ us. map (λ u. slice_index u i) us) (columns_step q r l) ∙ map-append (λ u. slice_index u i) (map (λ u. 0 ∷ u) (hamming_columns q r)) (map (λ u. 1 ∷ u) (all_lists q r)) ∙ cc (columns_before q r i e l t (λ j k. digit_columns q r j e l k), block_one q r e i l t)

-- words

append_inside : (b : ℕ) (xs ys : List ℕ) → ((i : ℕ) → slice_index xs i < b) → ((i : ℕ) → slice_index ys i < b) → (i : ℕ) → slice_index (xs ++ ys) i < b
append_inside b [] ys p q i = q i
append_inside b (x ∷ xs) ys p q zero = p 0
append_inside b (x ∷ xs) ys p q (suc i) = append_inside b xs ys (λ j. p (suc j)) q i

pub map_inside : (b : ℕ) (h : ℕ → ℕ) (xs : List ℕ) → 0 < b → ((v : ℕ) → h v < b) → (i : ℕ) → slice_index (map h xs) i < b
map_inside b h [] z p i = z
map_inside b h (x ∷ xs) z p zero = p x
map_inside b h (x ∷ xs) z p (suc i) = map_inside b h xs z p i

digits_inside : (q unit r : ℕ) → 0 < q → (i : ℕ) → slice_index (digits_of q unit r) i < q
unfolding digits_of digits_from
digits_inside q unit zero z i = z
digits_inside q unit (suc r) z i =
    append_inside q (digits_of q unit r) (map (λ v. (q ^ r + v) / unit % q) (below (q ^ r))) (digits_inside q unit r z) (map_inside q (λ v. (q ^ r + v) / unit % q) (below (q ^ r)) z (λ v. mod-lt ((q ^ r + v) / unit) z)) i

pub length_digits : (q unit r : ℕ) → length (digits_of q unit r) ≡ points q r
unfolding digits_of digits_from points
length_digits q unit zero = refl
length_digits q unit (suc r) =
    let b : length (map (λ v. (q ^ r + v) / unit % q) (below (q ^ r))) ≡ q ^ r = length-map (below (q ^ r)) (λ v. (q ^ r + v) / unit % q) ∙ length_below (q ^ r) in
    length-append (digits_of q unit r) (map (λ v. (q ^ r + v) / unit % q) (below (q ^ r))) ∙ cc (length_digits q unit r, b)

pub digits_word : (f : FieldName) (unit r : ℕ) → IsWord f (points (size f) r) (digits_of (size f) unit r)
digits_word f unit r = record { long = length_digits (size f) unit r; fits = λ i l. digits_inside (size f) unit r (zero_inside f) i }

pub checks_rows : (f : FieldName) (r : ℕ) → AreRows f (hamming_length (size f) r) (hamming_checks (size f) r)
unfolding hamming_checks
checks_rows f r =
    subst (λ n. AreRows f n (map (λ i. map (λ u. slice_index u i) (hamming_columns (size f) r)) (below r))) (sym (length_points (size f) r (one_inside f)))
    (All-map (IsWord f (points (size f) r)) (λ i. map (λ u. slice_index u i) (hamming_columns (size f) r)) (below r) (λ k d l.
    let m : k < r = omega (arith, l, length_below r) in
    let t : suc (k + (r - 1 - k)) ≡ r = omega (arith, m) in
    let e : map (λ u. slice_index u (slice_index_or (below r) k d)) (hamming_columns (size f) r) ≡ digits_of (size f) (size f ^ (r - 1 - k)) r = ap (λ j. map (λ u. slice_index u j) (hamming_columns (size f) r)) (index_below r k d m) ∙ digit_columns (size f) r k (r - 1 - k) (one_inside f) t in
    subst (IsWord f (points (size f) r)) (sym e) (digits_word f (size f ^ (r - 1 - k)) r)))

-- loops

pub map_more : {X : Type 0} (h : ℕ → X) (v : ℕ) → map h (below (v + 1)) ≡ map h (below v) ++ h v ∷ []
unfolding below
map_more h v = let e : v + 1 ≡ suc v = omega arith in ap (λ k. map h (below k)) e ∙ map-append h (below v) (v ∷ [])

pub digits_first : (q unit first : ℕ) (old : List ℕ) → old ≡ old ++ digits_from q unit first 0
unfolding digits_from below
digits_first q unit first old = sym (append-nil old)

pub digits_more : (q unit first v : ℕ) (old now new : List ℕ) → now ≡ old ++ digits_from q unit first v → new ≡ now ++ ((first + v) / unit % q) ∷ [] → new ≡ old ++ digits_from q unit first (v + 1)
unfolding digits_from
digits_more q unit first v old now new a b =
    b ∙ ap (λ u. u ++ ((first + v) / unit % q) ∷ []) a ∙ append_assoc old (map (λ v. (first + v) / unit % q) (below v)) (((first + v) / unit % q) ∷ []) ∙ ap (λ u. old ++ u) (sym (map_more (λ v. (first + v) / unit % q) v))

pub power_first : (q : ℕ) → 1 ≡ q ^ 0
power_first q = sym (pow-zero q)

pub columns_first : (q unit : ℕ) (now : List ℕ) → now ≡ [] → now ≡ digits_of q unit 0
unfolding digits_of
columns_first q unit now e = e

pub columns_more : (q unit m first : ℕ) (now new : List ℕ) → first ≡ q ^ m → now ≡ digits_of q unit m → new ≡ now ++ digits_from q unit first first → new ≡ digits_of q unit (m + 1)
unfolding digits_of
columns_more q unit m first now new e a b =
    let t : m + 1 ≡ suc m = omega arith in
    b ∙ cc (a, e) ∙ ap (digits_of q unit) (sym t)

pub checks_first : (q r : ℕ) (rows : List (List ℕ)) → rows ≡ [] → rows ≡ checks_part q r 0
unfolding checks_part below
checks_first q r rows e = e

pub checks_more : (q r i unit : ℕ) (now new : List (List ℕ)) (w : List ℕ) → 1 < q → i < r → unit ≡ q ^ (r - 1 - i) → w ≡ digits_of q unit r → now ≡ checks_part q r i → new ≡ now ++ w ∷ [] → new ≡ checks_part q r (i + 1)
unfolding checks_part
checks_more q r i unit now new w l k e s a b =
    let t : suc (i + (r - 1 - i)) ≡ r = omega (arith, k) in
    let x : w ≡ map (λ u. slice_index u i) (hamming_columns q r) = s ∙ ap (λ m. digits_of q m r) e ∙ sym (digit_columns q r i (r - 1 - i) l t) in
    b ∙ cc (a, x) ∙ sym (map_more (λ i. map (λ u. slice_index u i) (hamming_columns q r)) i)

pub checks_whole : (q r n : ℕ) (rows : List (List ℕ)) → n ≡ r → rows ≡ checks_part q r n → rows ≡ hamming_checks q r
unfolding checks_part hamming_checks
checks_whole q r n rows e a = a ∙ ap (λ k. map (λ i. map (λ u. slice_index u i) (hamming_columns q r)) (below k)) e

pub ruleset check_rows_laws = (checks_first, checks_more, checks_whole)

pub ruleset add_block_laws = (digits_first, digits_more)
