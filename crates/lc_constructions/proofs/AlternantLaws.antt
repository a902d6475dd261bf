-- Alternant codes: closed under the operations, nonzero words have weight above r, and words within half of r are one
-- (MacWilliams and Sloane, chapter 12).
--   embedded_fits, embedded_length, embedded_sum, embedded_scale, embedded_weight      the images of a word in the locator field
--   syndrome_sum, syndrome_multiple, syndrome_of_zero      syndromes are linear
--   alternant_zero, alternant_sum, alternant_scale, alternant_closed      the words of a form are a linear code
--   nonzero_each           multipliers, entry by entry
--   light_alternant        a word of the form of weight at most r is the zero word
--   form_weight_bound      so r + 1 bounds the weights of the code's nonzero words
--   within_once            at most one word of the code is within half of r of a received word
--   decoded_exists         so decoding has an answer
--   form_of_code           the code of the words of a form has that form
use Rattle.std.proofs.Common.{◌≡◌, ℕ, zero, suc, ◌+◌, ◌/◌, ◌<◌, ◌≤◌, Bool, true, false, true≢false, ◌↔◌, nat_le, Option, Some, None, List, [], ◌∷◌, length, map, slice_index, EachIndex, refl, sym, ap, ap₂, subst, ◌∙◌, ⊎_elim, arith}
use Rattle.std.specs.List.{list_any}
use Rattle.std.proofs.lemmas.List.{length-map}
use Rattle.std.proofs.Math.Nat.{mul-div-le}
use Rattle.std.proofs.lemmas.Bool.{cases_lt, cases_Bool, leb-true, le-leb}
use Rattle.lc_algebra.specs.declared.FieldName.{FieldName}
use Rattle.lc_algebra.specs.Field.{size, add, mul}
use Rattle.lc_algebra.specs.Embedding.{IsSubfield, embed}
use Rattle.lc_algebra.specs.Word.{Fits, IsWord, zero_word, word_sum, scale, weight, word_dot, distance}
use Rattle.lc_algebra.specs.Span.{InSpan, words, IsWeightBound}
use Rattle.lc_algebra.specs.Matrix.{Matrix, AreRows}
use Rattle.lc_algebra.proofs.FieldLaws.{zero_inside, zero_add, mul_zero, zero_mul}
use Rattle.lc_algebra.proofs.EmbeddingLaws.{embed_inside, embed_zero, embed_add, embed_mul, embed_injective}
use Rattle.lc_algebra.proofs.WordLaws.{fits_head, fits_tail, fits_cons, IsWord_zero, weight_zero_head, weight_other_head, scale_dot, sum_dot, scale_zero, distance_turned, distance_triangle}
use Rattle.lc_algebra.proofs.SpanLaws.{span_word, weight_bound_apart, same_word_decided, word_of_member, member_of_word}
use Rattle.lc_algebra.proofs.SpanSearch.{any_contains, contains_any}
use Rattle.lc_algebra.proofs.DimensionLaws.{distinct_from_pairs}
use Rattle.lc_constructions.specs.Code.{IsCode, IsClosed}
use Rattle.lc_constructions.specs.Alternant.{AlternantForm, IsForm, IsFormOf, check_row, syndrome_at, IsAlternantWord}
use Rattle.lc_constructions.specs.Nearest.{IsWithin, IsDecoded}
use Rattle.lc_constructions.proofs.CheckLaws.{AreNonzero, light_word}

-- ---- the images of a word in the locator field

pub embedded_length : (f K : FieldName) (w : List ℕ) → length (map (embed f K) w) ≡ length w
embedded_length f K w = length-map w (embed f K)

pub embedded_fits : (f K : FieldName) (w : List ℕ) → Fits K (map (embed f K) w)
embedded_fits f K [] = λ i l. absurd (omega (arith, l))
embedded_fits f K (a ∷ w) = fits_cons K (embed f K a) (map (embed f K) w) (embed_inside f K a) (embedded_fits f K w)

pub embedded_sum : (f K : FieldName) (u v : List ℕ) → IsSubfield f K → Fits f u → Fits f v → map (embed f K) (word_sum f u v) ≡ word_sum K (map (embed f K) u) (map (embed f K) v)
unfolding word_sum
embedded_sum f K [] v s h k = refl
embedded_sum f K (a ∷ u) [] s h k = refl
embedded_sum f K (a ∷ u) (b ∷ v) s h k = cc (embed_add f K a b s (fits_head f a u h) (fits_head f b v k), embedded_sum f K u v s (fits_tail f a u h) (fits_tail f b v k))

pub embedded_scale : (f K : FieldName) (c : ℕ) (u : List ℕ) → IsSubfield f K → c < size f → Fits f u → map (embed f K) (scale f c u) ≡ scale K (embed f K c) (map (embed f K) u)
unfolding scale
embedded_scale f K c [] s l h = refl
embedded_scale f K c (a ∷ u) s l h = cc (embed_mul f K c a s l (fits_head f a u h), embedded_scale f K c u s l (fits_tail f a u h))

embedded_positive : (f K : FieldName) (a : ℕ) → IsSubfield f K → a < size f → 0 < a → 0 < embed f K a
embedded_positive f K a s l p =
    ⊎_elim (λ k. k) (λ k. absurd (omega (arith, p, embed_injective f K a 0 s l (zero_inside f) (omega (arith, k, embed_zero f K s))))) (cases_lt 0 (embed f K a))

pub embedded_weight : (f K : FieldName) (w : List ℕ) → IsSubfield f K → Fits f w → weight (map (embed f K) w) ≡ weight w
embedded_weight f K [] s h = refl
embedded_weight f K (zero ∷ w) s h =
    let e : embed f K 0 ≡ 0 = embed_zero f K s in
    ap (λ (a : ℕ). weight (a ∷ map (embed f K) w)) e ∙ weight_zero_head (map (embed f K) w) ∙ embedded_weight f K w s (fits_tail f 0 w h) ∙ sym (weight_zero_head w)
embedded_weight f K (suc a ∷ w) s h =
    let p = embedded_positive f K (suc a) s (fits_head f (suc a) w h) (omega arith) in
    weight_other_head (embed f K (suc a)) (map (embed f K) w) p ∙ ap suc (embedded_weight f K w s (fits_tail f (suc a) w h)) ∙ sym (weight_other_head (suc a) w (omega arith))

-- ---- syndromes

pub syndrome_sum : (f : FieldName) (form : AlternantForm) (u v : List ℕ) (j : ℕ) → IsSubfield f form.locator → length u ≡ length v → Fits f u → Fits f v → syndrome_at f form (word_sum f u v) j ≡ add form.locator (syndrome_at f form u j) (syndrome_at f form v j)
unfolding syndrome_at
syndrome_sum f form u v j s e h k =
    let K = form.locator in
    let row = check_row K form.points form.multipliers j in
    let same : length (map (embed f K) u) ≡ length (map (embed f K) v) = embedded_length f K u ∙ e ∙ sym (embedded_length f K v) in
    ap (λ w. word_dot K w row) (embedded_sum f K u v s h k) ∙ sum_dot K (map (embed f K) u) (map (embed f K) v) row same

pub syndrome_multiple : (f : FieldName) (form : AlternantForm) (c : ℕ) (u : List ℕ) (j : ℕ) → IsSubfield f form.locator → c < size f → Fits f u → syndrome_at f form (scale f c u) j ≡ mul form.locator (embed f form.locator c) (syndrome_at f form u j)
unfolding syndrome_at
syndrome_multiple f form c u j s l h =
    let K = form.locator in
    let row = check_row K form.points form.multipliers j in
    ap (λ w. word_dot K w row) (embedded_scale f K c u s l h) ∙ scale_dot K (embed f K c) (map (embed f K) u) row

pub syndrome_of_zero : (f : FieldName) (form : AlternantForm) (n j : ℕ) → IsSubfield f form.locator → syndrome_at f form (zero_word n) j ≡ 0
syndrome_of_zero f form n j s =
    ap (λ w. syndrome_at f form w j) (sym (scale_zero f 0 n)) ∙ syndrome_multiple f form 0 (zero_word n) j s (zero_inside f) (IsWord_zero f n).fits
    ∙ ap (λ a. mul form.locator a (syndrome_at f form (zero_word n) j)) (embed_zero f form.locator s) ∙ zero_mul form.locator (syndrome_at f form (zero_word n) j)

pub alternant_zero : (f : FieldName) (form : AlternantForm) (n : ℕ) → IsSubfield f form.locator → IsAlternantWord f form (zero_word n)
alternant_zero f form n s = λ j l. syndrome_of_zero f form n j s

pub alternant_sum : (f : FieldName) (form : AlternantForm) (n : ℕ) (u v : List ℕ) → IsSubfield f form.locator → IsWord f n u → IsWord f n v → IsAlternantWord f form u → IsAlternantWord f form v → IsAlternantWord f form (word_sum f u v)
alternant_sum f form n u v s a b h k = λ j l.
    syndrome_sum f form u v j s (a.long ∙ sym b.long) a.fits b.fits ∙ ap₂ (λ x y. add form.locator x y) (h j l) (k j l) ∙ zero_add form.locator 0 (zero_inside form.locator)

pub alternant_scale : (f : FieldName) (form : AlternantForm) (n c : ℕ) (u : List ℕ) → IsSubfield f form.locator → c < size f → IsWord f n u → IsAlternantWord f form u → IsAlternantWord f form (scale f c u)
alternant_scale f form n c u s l a h = λ j k.
    syndrome_multiple f form c u j s l a.fits ∙ ap (λ x. mul form.locator (embed f form.locator c) x) (h j k) ∙ mul_zero form.locator (embed f form.locator c)

pub alternant_closed : (f : FieldName) (form : AlternantForm) (n : ℕ) → IsSubfield f form.locator → IsClosed f n (IsAlternantWord f form)
alternant_closed f form n s = record {
  zero = alternant_zero f form n s;
  sums = λ u v a b p q. alternant_sum f form n u v s a b p q;
  multiples = λ c u l a p. alternant_scale f form n c u s l a p;
}

-- ---- the weights

pub nonzero_each : (K : FieldName) (ys : List ℕ) → Fits K ys → EachIndex ys (λ i. 0 < slice_index ys i) → AreNonzero K ys
nonzero_each K [] h p = tt
nonzero_each K (y ∷ ys) h p = (fits_head K y ys h, p 0 (omega arith), nonzero_each K ys (fits_tail K y ys h) (λ i l. p (suc i) (omega (arith, l))))

pub light_alternant : (f : FieldName) (form : AlternantForm) (w : List ℕ) → IsForm f form → IsWord f (length form.points) w → IsAlternantWord f form w → weight w ≤ form.r → weight w ≡ 0
unfolding syndrome_at
light_alternant f form w h a s l =
    let K = form.locator in
    let e = embedded_weight f K w h.subfield a.fits in
    sym e ∙ light_word K form.points form.multipliers (map (embed f K) w) form.r h.points (distinct_from_pairs form.points h.distinct) (nonzero_each K form.multipliers h.multipliers h.nonzero) h.count (embedded_length f K w ∙ a.long) (embedded_fits f K w) s (omega (arith, e, l))

pub form_weight_bound : (C : Matrix) (form : AlternantForm) → IsFormOf C form → IsWeightBound C.field C.columns C.rows (form.r + 1)
form_weight_bound C form h = λ v c p.
    let t = (h.words v).0 c in
    let a : IsWord C.field (length form.points) v = record { long = t.0.long ∙ sym h.length_is; fits = t.0.fits } in
    ⊎_elim (λ l. omega (arith, l)) (λ l. absurd (omega (arith, p, light_alternant C.field form v h.form_is a t.1 l))) (cases_lt form.r (weight v))

pub within_once : (C : Matrix) (form : AlternantForm) (x u v : List ℕ) → AreRows C.field C.columns C.rows → IsFormOf C form → IsWord C.field C.columns x → IsWithin C x (form.r / 2) u → IsWithin C x (form.r / 2) v → u ≡ v
within_once C form x u v r h a p q =
    let f = C.field in
    let n = C.columns in
    let wu = span_word f n C.rows u r p.0 in
    let wv = span_word f n C.rows v r q.0 in
    ⊎_elim (λ e. e)
    (λ k. absurd (omega (arith, p.1, q.1, distance_turned f n u x wu a, distance_triangle f n u x v wu a wv, mul-div-le form.r 2, weight_bound_apart f n C.rows (form.r + 1) u v r (form_weight_bound C form h) p.0 q.0 k)))
    (same_word_decided u v)

pub decoded_exists : (C : Matrix) (form : AlternantForm) (x : List ℕ) → AreRows C.field C.columns C.rows → IsFormOf C form → IsWord C.field C.columns x → (o : Option (List ℕ)) × IsDecoded C form x o
decoded_exists C form x r h a =
    let f = C.field in
    let ws = words f C.columns C.rows in
    let near : List ℕ → Bool = λ w. nat_le (distance f x w) (form.r / 2) in
    ⊎_elim
    (λ (t : list_any near ws ≡ true).
    let (w, c, e) = any_contains near ws t in
    let i : IsWithin C x (form.r / 2) w = (word_of_member f C.columns C.rows w c, leb-true (distance f x w) (form.r / 2) e) in
    (Some w, (i, λ v k. within_once C form x v w r h a k i)))
    (λ (t : list_any near ws ≡ false).
    (None, λ w k. absurd (true≢false (sym (contains_any near ws w (member_of_word f C.columns C.rows w k.0) (le-leb (distance f x w) (form.r / 2) k.1)) ∙ t))))
    (cases_Bool (list_any near ws))

pub form_of_code : (f : FieldName) (form : AlternantForm) (C : Matrix) → IsForm f form → IsCode f (length form.points) (IsAlternantWord f form) C → IsFormOf C form
form_of_code f form C h c =
    record {
      form_is = subst (λ k. IsForm k form) (sym c.over) h;
      length_is = sym c.length_is;
      words = λ w. subst (λ k. InSpan k C.columns C.rows w ↔ (IsWord k C.columns w × IsAlternantWord k form w)) (sym c.over) (subst (λ m. InSpan f m C.rows w ↔ (IsWord f m w × IsAlternantWord f form w)) (sym c.length_is) (c.generator.members w));
    }
