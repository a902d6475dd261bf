-- The planes of a sum of two words, by formulas of the bits of their symbols.
--   Formula                   a formula over the planes of two words
--   value e x y               its value at planes x and y
--   reads m e                 whether it reads only planes below m
--   gives f j e               whether it gives bit j of the sum of any two elements of f, from their bits
--   value_small, value_none, value_same, value_step      values: of bits, of zeros, at the same planes, and bit by bit
--   plane_of_sum              a formula that gives bit j of sums gives plane j of sums of words
--   below_four                what holds at 0, 1, 2 and 3
--   AreFormulas f m a b c d, values, sum_by_formulas      four formulas that give the bits of sums, and the planes of sums by them
--   even_sum                  in characteristic 2
--   three_sum, five_sum, seven_sum, nine_sum, eleven_sum, thirteen_sum      over so many elements
--   last_field                a field of at most 16 elements that is none of the others has 13
use Rattle.std.proofs.Common.{◌≡◌, ◌≢◌, ℕ, zero, suc, ◌+◌, ◌-◌, ◌*◌, ◌^◌, ◌<◌, ◌≤◌, Bool, true, ◌&&◌, ◌==◌, List, [], ◌∷◌, length, slice_index, bit_and, bit_or, bit_xor, refl, sym, ap, subst, ◌∙◌, ⊎_elim, arith, lit<}
use Rattle.std.specs.Prelude.{nat_lt}
use Rattle.std.specs.Int.{bit_at}
use Rattle.std.specs.Int.Bits.{and_lt}
use lib.Bits.{or_lt, xor_lt}
use Rattle.std.proofs.Math.Nat.{pow-le-pow_right}
use Rattle.std.proofs.lemmas.Bool.{cases_lt, and_parts}
use Rattle.std.proofs.lemmas.Bool.Decides.{Decides-eqb, Decides-ltb}
use Rattle.std.proofs.lemmas.Nat.{xor_block, or_block, and_block}
use Rattle.std.proofs.lemmas.Nat.Bits.{bit_at-lt}
use Rattle.lc_algebra.specs.declared.FieldName.{FieldName}
use Rattle.lc_algebra.specs.declared.FieldName.TheVariants.{Gf2, Gf3, Gf4, Gf5, Gf7, Gf8, Gf9, Gf11, Gf13, Gf16, Gf25, Gf27, Gf32, Gf64, Gf81, Gf128, Gf243, Gf256}
use Rattle.lc_algebra.specs.Field.{size, add, coefficients, shape_of, shape}
use Rattle.lc_algebra.specs.Residue.{digits, number, plus}
use Rattle.lc_algebra.specs.Word.{Fits, word_sum}
use Rattle.lc_algebra.proofs.FieldTests.{below, below_each}
use Rattle.lc_algebra.proofs.EmbeddingTests.{told_by_size}
use Rattle.lc_algebra.proofs.WordLaws.{fits_head, fits_tail}
use Rattle.lc_distances.specs.Planes.{HasPlanes, IsPlaneSum}
use Rattle.lc_planes.specs.Planes.{plane}
use Rattle.lc_planes.proofs.PlaneLaws.{plane_cons, plane_none, plane_sum}

pub data Formula : Type 0 where
  nothing : Formula
  left : ℕ → Formula
  right : ℕ → Formula
  both : Formula → Formula → Formula
  either : Formula → Formula → Formula
  unlike : Formula → Formula → Formula

unfoldable pub value : Formula → (ℕ → ℕ) → (ℕ → ℕ) → ℕ
value nothing x y = 0
value (left p) x y = x p
value (right p) x y = y p
value (both a b) x y = bit_and (value a x y) (value b x y)
value (either a b) x y = bit_or (value a x y) (value b x y)
value (unlike a b) x y = bit_xor (value a x y) (value b x y)

unfoldable pub reads : ℕ → Formula → Bool
reads m nothing = true
reads m (left p) = nat_lt p m
reads m (right p) = nat_lt p m
reads m (both a b) = reads m a && reads m b
reads m (either a b) = reads m a && reads m b
reads m (unlike a b) = reads m a && reads m b

unfoldable pub gives : FieldName → ℕ → Formula → Bool
gives f j e = below (λ a. below (λ b. value e (bit_at a) (bit_at b) == bit_at (add f a b) j) (size f)) (size f)

-- values

value_small : (e : Formula) (a b : ℕ → ℕ) → ((p : ℕ) → a p < 2) → ((p : ℕ) → b p < 2) → value e a b < 2
unfolding value
value_small nothing a b h k = omega arith
value_small (left p) a b h k = h p
value_small (right p) a b h k = k p
value_small (both c d) a b h k = and_lt 1 (value c a b) (value d a b) (value_small c a b h k) (value_small d a b h k)
value_small (either c d) a b h k = or_lt 1 (value c a b) (value d a b) (value_small c a b h k) (value_small d a b h k)
value_small (unlike c d) a b h k = xor_lt 1 (value c a b) (value d a b) (value_small c a b h k) (value_small d a b h k)

value_none : (e : Formula) (x y : ℕ → ℕ) → ((p : ℕ) → x p ≡ 0) → ((p : ℕ) → y p ≡ 0) → value e x y ≡ 0
unfolding value
value_none nothing x y h k = refl
value_none (left p) x y h k = h p
value_none (right p) x y h k = k p
value_none (both c d) x y h k = ap (λ z. bit_and z (value d x y)) (value_none c x y h k) ∙ ap (bit_and 0) (value_none d x y h k)
value_none (either c d) x y h k = ap (λ z. bit_or z (value d x y)) (value_none c x y h k) ∙ ap (bit_or 0) (value_none d x y h k)
value_none (unlike c d) x y h k = ap (λ z. bit_xor z (value d x y)) (value_none c x y h k) ∙ ap (bit_xor 0) (value_none d x y h k)

value_same : (e : Formula) (m : ℕ) (x y z w : ℕ → ℕ) → reads m e ≡ true → ((p : ℕ) → p < m → x p ≡ z p) → ((p : ℕ) → p < m → y p ≡ w p) → value e x y ≡ value e z w
unfolding value reads
value_same nothing m x y z w r h k = refl
value_same (left p) m x y z w r h k = h p ((Decides-ltb p m).0 r)
value_same (right p) m x y z w r h k = k p ((Decides-ltb p m).0 r)
value_same (both c d) m x y z w r h k =
    let (a, b) = and_parts (reads m c) (reads m d) r in
    ap (λ t. bit_and t (value d x y)) (value_same c m x y z w a h k) ∙ ap (bit_and (value c z w)) (value_same d m x y z w b h k)
value_same (either c d) m x y z w r h k =
    let (a, b) = and_parts (reads m c) (reads m d) r in
    ap (λ t. bit_or t (value d x y)) (value_same c m x y z w a h k) ∙ ap (bit_or (value c z w)) (value_same d m x y z w b h k)
value_same (unlike c d) m x y z w r h k =
    let (a, b) = and_parts (reads m c) (reads m d) r in
    ap (λ t. bit_xor t (value d x y)) (value_same c m x y z w a h k) ∙ ap (bit_xor (value c z w)) (value_same d m x y z w b h k)

value_step : (e : Formula) (x y a b : ℕ → ℕ) → ((p : ℕ) → a p < 2) → ((p : ℕ) → b p < 2) → value e (λ p. x p * 2 + a p) (λ p. y p * 2 + b p) ≡ value e x y * 2 + value e a b
unfolding value
value_step nothing x y a b h k = refl
value_step (left p) x y a b h k = refl
value_step (right p) x y a b h k = refl
value_step (both c d) x y a b h k =
    ap (λ z. bit_and z (value d (λ p. x p * 2 + a p) (λ p. y p * 2 + b p))) (value_step c x y a b h k)
    ∙ ap (bit_and (value c x y * 2 + value c a b)) (value_step d x y a b h k)
    ∙ and_block 1 (value c x y) (value d x y) (value c a b) (value d a b) (value_small c a b h k) (value_small d a b h k)
value_step (either c d) x y a b h k =
    ap (λ z. bit_or z (value d (λ p. x p * 2 + a p) (λ p. y p * 2 + b p))) (value_step c x y a b h k)
    ∙ ap (bit_or (value c x y * 2 + value c a b)) (value_step d x y a b h k)
    ∙ or_block 1 (value c x y) (value d x y) (value c a b) (value d a b) (value_small c a b h k) (value_small d a b h k)
value_step (unlike c d) x y a b h k =
    ap (λ z. bit_xor z (value d (λ p. x p * 2 + a p) (λ p. y p * 2 + b p))) (value_step c x y a b h k)
    ∙ ap (bit_xor (value c x y * 2 + value c a b)) (value_step d x y a b h k)
    ∙ xor_block 1 (value c x y) (value d x y) (value c a b) (value d a b) (value_small c a b h k) (value_small d a b h k)

-- planes of sums

given : (f : FieldName) (j : ℕ) (e : Formula) (a b : ℕ) → gives f j e ≡ true → a < size f → b < size f → value e (bit_at a) (bit_at b) ≡ bit_at (add f a b) j
unfolding gives
given f j e a b g l m =
    let row = below_each (λ c. below (λ d. value e (bit_at c) (bit_at d) == bit_at (add f c d) j) (size f)) (size f) g a l in
    let cell = below_each (λ d. value e (bit_at a) (bit_at d) == bit_at (add f a d) j) (size f) row b m in
    (Decides-eqb (value e (bit_at a) (bit_at b)) (bit_at (add f a b) j)).0 cell

pub plane_of_sum : (f : FieldName) (j m : ℕ) (e : Formula) (u v : List ℕ) → reads m e ≡ true → gives f j e ≡ true → length u ≡ length v → Fits f u → Fits f v → plane j (word_sum f u v) ≡ value e (λ p. plane p u) (λ p. plane p v)
unfolding word_sum
plane_of_sum f j m e [] [] r g long h k = plane_none j ∙ sym (value_none e (λ p. plane p []) (λ p. plane p []) plane_none plane_none)
plane_of_sum f j m e [] (b ∷ v) r g long h k = absurd (omega (arith, long))
plane_of_sum f j m e (a ∷ u) [] r g long h k = absurd (omega (arith, long))
plane_of_sum f j m e (a ∷ u) (b ∷ v) r g long h k =
    let t = plane_of_sum f j m e u v r g (omega (arith, long)) (fits_tail f a u h) (fits_tail f b v k) in
    let bit = given f j e a b g (fits_head f a u h) (fits_head f b v k) in
    plane_cons j (add f a b) (word_sum f u v) ∙ ap (λ z. z * 2 + bit_at (add f a b) j) t
    ∙ ap (λ z. value e (λ p. plane p u) (λ p. plane p v) * 2 + z) (sym bit)
    ∙ sym (value_step e (λ p. plane p u) (λ p. plane p v) (bit_at a) (bit_at b) (bit_at-lt a) (bit_at-lt b))
    ∙ value_same e m (λ p. plane p u * 2 + bit_at a p) (λ p. plane p v * 2 + bit_at b p) (λ p. plane p (a ∷ u)) (λ p. plane p (b ∷ v)) r (λ p l. sym (plane_cons p a u)) (λ p l. sym (plane_cons p b v))

planes_needed : (m n s : ℕ) → 2 ^ (m - 1) < s → s ≤ 2 ^ n → m ≤ n
planes_needed m n s l h = ⊎_elim
    (λ o.
    let rises : 2 ^ n ≤ 2 ^ (m - 1) = pow-le-pow_right (omega arith) (omega (arith, o)) in
    absurd (omega (arith, l, h, rises)))
    (λ o. o)
    (cases_lt n m)

at_plane : (f : FieldName) (j m n : ℕ) (e : Formula) (u v x y : List ℕ) → 2 ^ (m - 1) < size f → size f ≤ 2 ^ n → reads m e ≡ true → gives f j e ≡ true → length u ≡ length v → Fits f u → Fits f v → HasPlanes n u x → HasPlanes n v y → value e (slice_index x) (slice_index y) ≡ plane j (word_sum f u v)
at_plane f j m n e u v x y least most r g long a b h k =
    let needed = planes_needed m n (size f) least most in
    value_same e m (slice_index x) (slice_index y) (λ p. plane p u) (λ p. plane p v) r (λ p l. h p (omega (arith, l, needed))) (λ p l. k p (omega (arith, l, needed)))
    ∙ sym (plane_of_sum f j m e u v r g long a b)

-- what holds at 0, 1, 2 and 3
pub below_four : (P : ℕ → Type 0) → P 0 → P 1 → P 2 → P 3 → (j : ℕ) → j < 4 → P j
below_four P a b c d zero l = a
below_four P a b c d (suc zero) l = b
below_four P a b c d (suc (suc zero)) l = c
below_four P a b c d (suc (suc (suc zero))) l = d
below_four P a b c d (suc (suc (suc (suc j)))) l = absurd (omega (arith, l))

abbrev pub values : Formula → Formula → Formula → Formula → List ℕ → List ℕ → List ℕ
values a b c d x y = value a (slice_index x) (slice_index y) ∷ value b (slice_index x) (slice_index y) ∷ value c (slice_index x) (slice_index y) ∷ value d (slice_index x) (slice_index y) ∷ []

pub record AreFormulas (f : FieldName) (m : ℕ) (a b c d : Formula) : Type 0 where
  pub least : 2 ^ (m - 1) < size f
  pub reads_a : reads m a ≡ true
  pub reads_b : reads m b ≡ true
  pub reads_c : reads m c ≡ true
  pub reads_d : reads m d ≡ true
  pub gives_a : gives f 0 a ≡ true
  pub gives_b : gives f 1 b ≡ true
  pub gives_c : gives f 2 c ≡ true
  pub gives_d : gives f 3 d ≡ true

pub sum_by_formulas : (f g : FieldName) (m : ℕ) (a b c d : Formula) (x y z : List ℕ) → size f ≡ size g → AreFormulas g m a b c d → z ≡ values a b c d x y → IsPlaneSum f x y z
sum_by_formulas f g m a b c d x y z e t made = subst (λ h. IsPlaneSum h x y z) (sym (told_by_size f g e)) (record {
  planes = λ n u v most few long fu fv h k p l.
      let four = below_four (λ q. slice_index (values a b c d x y) q ≡ plane q (word_sum g u v))
      (at_plane g 0 m n a u v x y t.least most t.reads_a t.gives_a long fu fv h k)
      (at_plane g 1 m n b u v x y t.least most t.reads_b t.gives_b long fu fv h k)
      (at_plane g 2 m n c u v x y t.least most t.reads_c t.gives_c long fu fv h k)
      (at_plane g 3 m n d u v x y t.least most t.reads_d t.gives_d long fu fv h k)
      p
      (omega (arith, l, few)) in
      ap (λ q. slice_index q p) made ∙ four;
})

pub even_sum : (f : FieldName) (x y z : List ℕ) → (shape_of f).characteristic ≡ 2 → ((j : ℕ) → j < 4 → slice_index z j ≡ bit_xor (slice_index x j) (slice_index y j)) → IsPlaneSum f x y z
even_sum f x y z two e = record {
  planes = λ n u v most few long fu fv h k p l.
      e p (omega (arith, l, few)) ∙ ap (λ m. bit_xor m (slice_index y p)) (h p l) ∙ ap (bit_xor (plane p u)) (k p l) ∙ sym (plane_sum f p u v two long fu fv);
}

-- the formulas of each field

abbrev trit : Formula → Formula → Formula → Formula → Formula
trit a b c d = unlike (either b d) (unlike (either a d) (either b c))

abbrev pub three_low : Formula
three_low = trit (left 0) (left 1) (right 0) (right 1)

abbrev pub three_high : Formula
three_high = trit (left 1) (left 0) (right 1) (right 0)

three_formulas : AreFormulas Gf3 2 three_low three_high nothing nothing
unfolding gives reads below value add size coefficients shape_of shape number plus digits
three_formulas = record { least = lit< tt; reads_a = refl; reads_b = refl; reads_c = refl; reads_d = refl; gives_a = refl; gives_b = refl; gives_c = refl; gives_d = refl }

-- what the lowest i bits of the sum of two numbers carry, and bit i of the sum
abbrev carried : ℕ → Formula
carried zero = nothing
carried (suc i) = either (both (left i) (right i)) (both (unlike (left i) (right i)) (carried i))

abbrev summed : ℕ → Formula
summed i = unlike (unlike (left i) (right i)) (carried i)

-- bit i of the sum of two numbers and of 3 more where a formula says so, and what its lowest bits carry, from the fours on
abbrev plus_three_carry : Formula → ℕ → Formula
plus_three_carry over zero = both over (either (summed 1) (summed 0))
plus_three_carry over (suc i) = both (summed (suc (suc i))) (plus_three_carry over i)

abbrev plus_three : Formula → ℕ → Formula
plus_three over zero = unlike (summed 0) over
plus_three over (suc zero) = unlike (unlike (summed 1) over) (both (summed 0) over)
plus_three over (suc (suc i)) = unlike (summed (suc (suc i))) (plus_three_carry over i)

abbrev pub five_bit : ℕ → Formula
five_bit = plus_three (either (carried 3) (both (summed 2) (either (summed 1) (summed 0))))

five_formulas : AreFormulas Gf5 3 (five_bit 0) (five_bit 1) (five_bit 2) nothing
unfolding gives reads below value add size coefficients shape_of shape number plus digits
five_formulas = record { least = lit< tt; reads_a = refl; reads_b = refl; reads_c = refl; reads_d = refl; gives_a = refl; gives_b = refl; gives_c = refl; gives_d = refl }

abbrev seven_carry : Formula
seven_carry = both (summed 0) (carried 3)

abbrev seven_low : Formula
seven_low = unlike (summed 0) (carried 3)

abbrev seven_middle : Formula
seven_middle = unlike (summed 1) seven_carry

abbrev seven_high : Formula
seven_high = unlike (summed 2) (both (summed 1) seven_carry)

abbrev seven : Formula
seven = both seven_low (both seven_middle seven_high)

abbrev pub seven_a : Formula
seven_a = unlike seven_low seven

abbrev pub seven_b : Formula
seven_b = unlike seven_middle seven

abbrev pub seven_c : Formula
seven_c = unlike seven_high seven

seven_formulas : AreFormulas Gf7 3 seven_a seven_b seven_c nothing
unfolding gives reads below value add size coefficients shape_of shape number plus digits
seven_formulas = record { least = lit< tt; reads_a = refl; reads_b = refl; reads_c = refl; reads_d = refl; gives_a = refl; gives_b = refl; gives_c = refl; gives_d = refl }

abbrev eleven_over : Formula
eleven_over = either (carried 4) (both (summed 3) (either (summed 2) (both (summed 1) (summed 0))))

abbrev eleven_carry : Formula
eleven_carry = both (summed 1) (both (summed 0) eleven_over)

abbrev pub eleven_a : Formula
eleven_a = unlike (summed 0) eleven_over

abbrev pub eleven_b : Formula
eleven_b = unlike (summed 1) (both (summed 0) eleven_over)

abbrev pub eleven_c : Formula
eleven_c = unlike (unlike (summed 2) eleven_over) eleven_carry

abbrev pub eleven_d : Formula
eleven_d = unlike (summed 3) (either (both (summed 2) eleven_over) eleven_carry)

eleven_formulas : AreFormulas Gf11 4 eleven_a eleven_b eleven_c eleven_d
unfolding gives reads below value add size coefficients shape_of shape number plus digits
eleven_formulas = record { least = lit< tt; reads_a = refl; reads_b = refl; reads_c = refl; reads_d = refl; gives_a = refl; gives_b = refl; gives_c = refl; gives_d = refl }

abbrev pub thirteen_bit : ℕ → Formula
thirteen_bit = plus_three (either (carried 4) (both (both (summed 3) (summed 2)) (either (summed 1) (summed 0))))

thirteen_formulas : AreFormulas Gf13 4 (thirteen_bit 0) (thirteen_bit 1) (thirteen_bit 2) (thirteen_bit 3)
unfolding gives reads below value add size coefficients shape_of shape number plus digits
thirteen_formulas = record { least = lit< tt; reads_a = refl; reads_b = refl; reads_c = refl; reads_d = refl; gives_a = refl; gives_b = refl; gives_c = refl; gives_d = refl }

-- over 9 elements, from where the two digits to the base 3 are 1 and 2

abbrev low_one : (ℕ → Formula) → Formula
low_one s = unlike (unlike (s 0) (s 2)) (both (s 1) (either (s 0) (s 2)))

abbrev low_two : (ℕ → Formula) → Formula
low_two s = either (s 3) (either (unlike (s 1) (both (s 1) (either (s 0) (s 2)))) (unlike (both (s 0) (s 2)) (both (s 0) (both (s 1) (s 2)))))

abbrev high_one : (ℕ → Formula) → Formula
high_one s = unlike (either (s 2) (both (s 0) (s 1))) (both (s 1) (s 2))

abbrev high_two : (ℕ → Formula) → Formula
high_two s = either (s 3) (both (s 1) (s 2))

abbrev nine_one : Formula
nine_one = trit (low_one left) (low_two left) (low_one right) (low_two right)

abbrev nine_two : Formula
nine_two = trit (low_two left) (low_one left) (low_two right) (low_one right)

abbrev nine_three : Formula
nine_three = trit (high_one left) (high_two left) (high_one right) (high_two right)

abbrev nine_six : Formula
nine_six = trit (high_two left) (high_one left) (high_two right) (high_one right)

abbrev pub nine_a : Formula
nine_a = unlike nine_one nine_three

abbrev pub nine_b : Formula
nine_b = unlike (unlike nine_two nine_six) (unlike nine_three (both nine_three nine_one))

abbrev pub nine_c : Formula
nine_c = either (both nine_three (either nine_one nine_two)) (unlike nine_six (both nine_two nine_six))

abbrev pub nine_d : Formula
nine_d = both nine_two nine_six

nine_formulas : AreFormulas Gf9 4 nine_a nine_b nine_c nine_d
unfolding gives reads below value add size coefficients shape_of shape number plus digits
nine_formulas = record { least = lit< tt; reads_a = refl; reads_b = refl; reads_c = refl; reads_d = refl; gives_a = refl; gives_b = refl; gives_c = refl; gives_d = refl }

-- sums over each field

pub three_sum : (f : FieldName) (x y z : List ℕ) → size f ≡ 3 → z ≡ values three_low three_high nothing nothing x y → IsPlaneSum f x y z
unfolding size shape_of shape
three_sum f x y z e made = sum_by_formulas f Gf3 2 three_low three_high nothing nothing x y z e three_formulas made

pub five_sum : (f : FieldName) (x y z : List ℕ) → size f ≡ 5 → z ≡ values (five_bit 0) (five_bit 1) (five_bit 2) nothing x y → IsPlaneSum f x y z
unfolding size shape_of shape
five_sum f x y z e made = sum_by_formulas f Gf5 3 (five_bit 0) (five_bit 1) (five_bit 2) nothing x y z e five_formulas made

pub seven_sum : (f : FieldName) (x y z : List ℕ) → size f ≡ 7 → z ≡ values seven_a seven_b seven_c nothing x y → IsPlaneSum f x y z
unfolding size shape_of shape
seven_sum f x y z e made = sum_by_formulas f Gf7 3 seven_a seven_b seven_c nothing x y z e seven_formulas made

pub nine_sum : (f : FieldName) (x y z : List ℕ) → size f ≡ 9 → z ≡ values nine_a nine_b nine_c nine_d x y → IsPlaneSum f x y z
unfolding size shape_of shape
nine_sum f x y z e made = sum_by_formulas f Gf9 4 nine_a nine_b nine_c nine_d x y z e nine_formulas made

pub eleven_sum : (f : FieldName) (x y z : List ℕ) → size f ≡ 11 → z ≡ values eleven_a eleven_b eleven_c eleven_d x y → IsPlaneSum f x y z
unfolding size shape_of shape
eleven_sum f x y z e made = sum_by_formulas f Gf11 4 eleven_a eleven_b eleven_c eleven_d x y z e eleven_formulas made

pub thirteen_sum : (f : FieldName) (x y z : List ℕ) → size f ≡ 13 → z ≡ values (thirteen_bit 0) (thirteen_bit 1) (thirteen_bit 2) (thirteen_bit 3) x y → IsPlaneSum f x y z
unfolding size shape_of shape
thirteen_sum f x y z e made = sum_by_formulas f Gf13 4 (thirteen_bit 0) (thirteen_bit 1) (thirteen_bit 2) (thirteen_bit 3) x y z e thirteen_formulas made

-- the fields

too_large : (n : ℕ) → 16 < n → n ≤ 16 → ⊥
too_large n l m = omega (arith, l, m)

pub last_field : (f : FieldName) → size f ≤ 16 → (shape_of f).characteristic ≢ 2 → size f ≢ 3 → size f ≢ 5 → size f ≢ 7 → size f ≢ 9 → size f ≢ 11 → size f ≡ 13
unfolding size shape_of shape
last_field Gf2 s a b c d e f = absurd (a refl)
last_field Gf3 s a b c d e f = absurd (b refl)
last_field Gf4 s a b c d e f = absurd (a refl)
last_field Gf5 s a b c d e f = absurd (c refl)
last_field Gf7 s a b c d e f = absurd (d refl)
last_field Gf8 s a b c d e f = absurd (a refl)
last_field Gf9 s a b c d e f = absurd (e refl)
last_field Gf11 s a b c d e f = absurd (f refl)
last_field Gf13 s a b c d e f = refl
last_field Gf16 s a b c d e f = absurd (a refl)
last_field Gf25 s a b c d e f = absurd (too_large (size Gf25) (lit< tt) s)
last_field Gf27 s a b c d e f = absurd (too_large (size Gf27) (lit< tt) s)
last_field Gf32 s a b c d e f = absurd (a refl)
last_field Gf64 s a b c d e f = absurd (a refl)
last_field Gf81 s a b c d e f = absurd (too_large (size Gf81) (lit< tt) s)
last_field Gf128 s a b c d e f = absurd (a refl)
last_field Gf243 s a b c d e f = absurd (too_large (size Gf243) (lit< tt) s)
last_field Gf256 s a b c d e f = absurd (a refl)
