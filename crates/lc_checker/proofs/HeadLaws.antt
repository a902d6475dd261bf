-- Sums of a head and the words that the rows after it span.
--   all_heavy_step               row by row
--   all_heavy_tails              what is known of a head and all tails
--   leads_heavy                  it is enough that the words that begin with a row, and the tails alone, are heavy
--   levels_heavy                 if all words that the rows span are heavy, no word of the levels 1 to m is lighter
use Rattle.std.proofs.Common.{◌≡◌, ℕ, zero, suc, ◌+◌, ◌-◌, ◌*◌, ◌^◌, ◌<◌, ◌≤◌, false, List, [], ◌∷◌, ◌++◌, length, drop, find, slice_index_or, Contains, None, refl, sym, ap, ap₂, subst, ◌∙◌, ⊎_elim, arith, flat_map}
use Rattle.std.proofs.Math.Seq.{drop-cons}
use Rattle.std.proofs.lemmas.Bool.{cases_lt, cases_eq}
use Rattle.std.proofs.lemmas.List.Elements.{All-drop, All-get_or}
use Rattle.std.proofs.lemmas.Option.{get_or_from_slice_get, slice_get_within}
use Rattle.lc_algebra.specs.declared.FieldName.{FieldName}
use Rattle.lc_algebra.specs.Field.{size, neg, mul}
use Rattle.lc_algebra.specs.Word.{IsWord, zero_word, word_sum, scale, weight}
use Rattle.lc_algebra.specs.Span.{InSpan, words}
use Rattle.lc_algebra.specs.Matrix.{Matrix, AreRows}
use Rattle.lc_algebra.proofs.DivisorLaws.{no_member}
use Rattle.lc_algebra.proofs.FieldLaws.{inverse_of}
use Rattle.lc_algebra.proofs.WordLaws.{sum_assoc, zero_sum, zero_scale, one_scale, scale_scale, scale_sum, weight_scale, IsWord_scale, IsWord_sum, IsWord_zero, neg_one_twice}
use Rattle.lc_algebra.proofs.SpanLaws.{contains_cases, contains_flat_map, span_word, span_zero, span_sum, span_scale, span_row, member_of_word}
use Rattle.lc_enumeration.specs.Message.{supports_from, numbers_from}
use Rattle.lc_enumeration.proofs.SearchLaws.{numbers_within}
use Rattle.lc_place.proofs.Messages.{from_contains}
use Rattle.lc_formats.specs.Certificate.{is_lighter}
use Rattle.lc_planes.specs.Planes.{negative}
use Rattle.lc_planes.specs.Packing.{IsPacked, ArePacked, places_apart}
use Rattle.lc_planes.proofs.PackingLaws.{places_are}
use Rattle.lc_checker.specs.Walk.{row_of, words_along, support_words, words_over, level_words, words_from}
use Rattle.lc_checker.specs.Heavy.{AreAllHeavy, is_few}
use Rattle.lc_checker.proofs.HeavyLaws.{first_sum, along_cons, find_nothing, split, no_support}

rows_from : (C : Matrix) (i : ℕ) → AreRows C.field C.columns C.rows → AreRows C.field C.columns (drop i C.rows)
rows_from C i r = All-drop (IsWord C.field C.columns) i C.rows r

row_word : (C : Matrix) (i : ℕ) → AreRows C.field C.columns C.rows → i < length C.rows → IsWord C.field C.columns (row_of C.rows i)
row_word C i r l = All-get_or (IsWord C.field C.columns) C.rows i [] l r

-- a word that the rows from a place on span: a multiple of the first of them, and a word that the others span
record IsParted (C : Matrix) (i : ℕ) (v : List ℕ) : Type 0 where
  pub factor : ℕ
  pub element : factor < size C.field
  pub rest : List ℕ
  pub inside : InSpan C.field C.columns (drop (i + 1) C.rows) rest
  pub is : v ≡ word_sum C.field (scale C.field factor (row_of C.rows i)) rest

next : (i : ℕ) → suc i ≡ i + 1
next i = omega arith

parted : (C : Matrix) (i : ℕ) (v : List ℕ) → i < length C.rows → InSpan C.field C.columns (drop i C.rows) v → IsParted C i v
parted C i v l h =
    let cut : drop i C.rows ≡ row_of C.rows i ∷ drop (i + 1) C.rows = drop-cons C.rows i [] l ∙ ap (λ k. row_of C.rows i ∷ drop k C.rows) (next i) in
    let t = subst (λ rows. InSpan C.field C.columns rows v) cut h in
    record { factor = t.0; element = t.1; rest = t.2.0; inside = t.2.1; is = t.2.2 }

-- without the multiple of the row
parted_zero : (C : Matrix) (i c : ℕ) (u v : List ℕ) → AreRows C.field C.columns C.rows → i < length C.rows → InSpan C.field C.columns (drop (i + 1) C.rows) u → c ≡ 0 → v ≡ word_sum C.field (scale C.field c (row_of C.rows i)) u → v ≡ u
parted_zero C i c u v r l h z e =
    e ∙ ap (λ x. word_sum C.field (scale C.field x (row_of C.rows i)) u) z ∙ ap (λ x. word_sum C.field x u) (zero_scale C.field C.columns (row_of C.rows i) (row_word C i r l).long)
    ∙ zero_sum C.field C.columns u (span_word C.field C.columns (drop (i + 1) C.rows) u (rows_from C (i + 1) r) h)

pub all_heavy_step : (d : ℕ) (C : Matrix) (a : List ℕ) (i : ℕ) → AreRows C.field C.columns C.rows → i < length C.rows → ((c : ℕ) → 0 < c → c < size C.field → AreAllHeavy d C (word_sum C.field a (scale C.field c (row_of C.rows i))) (i + 1)) → AreAllHeavy d C a (i + 1) → AreAllHeavy d C a i
all_heavy_step d C a i r l here later v h =
    let f = C.field in
    let p = parted C i v l h in
    ⊎_elim
    (λ some.
    ap (λ x. is_lighter d (word_sum f a x)) p.is ∙ ap (is_lighter d) (sym (sum_assoc f a (scale f p.factor (row_of C.rows i)) p.rest)) ∙ here p.factor some p.element p.rest p.inside)
    (λ none.
    ap (λ x. is_lighter d (word_sum f a x)) (parted_zero C i p.factor p.rest v r l p.inside (omega (arith, none)) p.is) ∙ later p.rest p.inside)
    (cases_lt 0 p.factor)

-- where a word stands in a list
place_of : (ws : List (List ℕ)) (w : List ℕ) → Contains ws w → (e : ℕ) × (e < length ws) × (slice_index_or ws e [] ≡ w)
place_of ws w c =
    let t = from_contains ws w c in
    (t.0, slice_get_within ws t.0 w t.1, get_or_from_slice_get ws t.0 w [] t.1)

pub all_heavy_tails : (P N d : ℕ) (C : Matrix) (a : List ℕ) (i : ℕ) (head : List (List ℕ)) (tails : List (List (List ℕ))) → AreRows C.field C.columns C.rows → size C.field ≤ 2 ^ P → C.columns ≤ 64 * N → IsWord C.field C.columns a → IsPacked P N a head → ArePacked P N (words C.field C.columns (drop i C.rows)) tails
    → ((e : ℕ) → e < length tails → is_few d (places_apart P N head (slice_index_or tails e [])) ≡ false) → AreAllHeavy d C a i
unfolding is_lighter
all_heavy_tails P N d C a i head tails r s narrow word packed ts few v h =
    let f = C.field in
    let rows = drop i C.rows in
    let turned = negative f v in
    let v_word = span_word f C.columns rows v (rows_from C i r) h in
    let there = place_of (words f C.columns rows) turned (member_of_word f C.columns rows turned (span_scale f C.columns rows (neg f 1) v h)) in
    let tail = slice_index_or tails there.0 [] in
    let tail_packed : IsPacked P N turned tail = subst (λ x. IsPacked P N x tail) there.2 (ts.each there.0 there.1) in
    let turned_word : IsWord f C.columns turned = IsWord_scale f C.columns (neg f 1) v v_word.long in
    let back : negative f turned ≡ v = scale_scale f (neg f 1) (neg f 1) v ∙ ap (λ c. scale f c v) (neg_one_twice f) ∙ one_scale f v v_word.fits in
    let weighs : places_apart P N head tail ≡ weight (word_sum f a v) = places_are f P N C.columns a turned head tail s narrow word turned_word packed tail_packed ∙ ap (λ x. weight (word_sum f a x)) back in
    ap (is_few d) (sym weighs) ∙ few there.0 (omega (arith, there.1, ts.many))

-- a word that begins with a multiple of a row, and a multiple of it that begins with the row
lead_heavy : (d : ℕ) (C : Matrix) (i c : ℕ) (u v : List ℕ) → AreRows C.field C.columns C.rows → i < length C.rows → AreAllHeavy d C (first_sum C i) (i + 1) → 0 < c → c < size C.field → InSpan C.field C.columns (drop (i + 1) C.rows) u → v ≡ word_sum C.field (scale C.field c (row_of C.rows i)) u → is_lighter d v ≡ false
unfolding is_lighter
lead_heavy d C i c u v r l heavy some element h e =
    let f = C.field in
    let n = C.columns in
    let g = row_of C.rows i in
    let g_word = row_word C i r l in
    let t = inverse_of f c element some in
    let x = word_sum f (first_sum C i) (scale f t.0 u) in
    let rest = span_scale f n (drop (i + 1) C.rows) t.0 u h in
    let u_word = span_word f n (drop (i + 1) C.rows) u (rows_from C (i + 1) r) h in
    let first : first_sum C i ≡ g = zero_sum f n (scale f 1 g) (IsWord_scale f n 1 g g_word.long) ∙ one_scale f g g_word.fits in
    let back : scale f c (scale f t.0 u) ≡ u = scale_scale f c t.0 u ∙ ap (λ y. scale f y u) t.1.one ∙ one_scale f u u_word.fits in
    let is : v ≡ scale f c x = e ∙ ap₂ (λ y z. word_sum f (scale f c y) z) (sym first) (sym back) ∙ sym (scale_sum f c (first_sum C i) (scale f t.0 u)) in
    let x_word : IsWord f n x = IsWord_sum f n (first_sum C i) (scale f t.0 u) (ap length first ∙ g_word.long) (IsWord_scale f n t.0 u u_word.long).long in
    ap (is_few d) (ap weight is ∙ weight_scale f c x element some x_word.fits) ∙ heavy (scale f t.0 u) rest

leads_from : (d : ℕ) (C : Matrix) (count i : ℕ) → AreRows C.field C.columns C.rows → i + count ≤ length C.rows → ((p : ℕ) → p < i + count → AreAllHeavy d C (first_sum C p) (p + 1)) → AreAllHeavy d C (zero_word C.columns) (i + count) → (w : List ℕ) → InSpan C.field C.columns (drop i C.rows) w → is_lighter d w ≡ false
leads_from d C zero i r l firsts tails w h =
    let end : i + 0 ≡ i = omega arith in
    ap (is_lighter d) (sym (zero_sum C.field C.columns w (span_word C.field C.columns (drop i C.rows) w (rows_from C i r) h))) ∙ tails w (subst (λ k. InSpan C.field C.columns (drop k C.rows) w) (sym end) h)
leads_from d C (suc count) i r l firsts tails w h =
    let inside : i < length C.rows = omega (arith, l) in
    let p = parted C i w inside h in
    let more : i + 1 + count ≡ i + suc count = omega arith in
    ⊎_elim
    (λ some. lead_heavy d C i p.factor p.rest w r inside (firsts i (omega arith)) some p.element p.inside p.is)
    (λ none.
    ap (is_lighter d) (parted_zero C i p.factor p.rest w r inside p.inside (omega (arith, none)) p.is)
    ∙ leads_from d C count (i + 1) r (omega (arith, l)) (λ q m. firsts q (omega (arith, m))) (subst (AreAllHeavy d C (zero_word C.columns)) (sym more) tails) p.rest p.inside)
    (cases_lt 0 p.factor)

pub leads_heavy : (d : ℕ) (C : Matrix) (i : ℕ) → AreRows C.field C.columns C.rows → i ≤ length C.rows → ((p : ℕ) → p < i → AreAllHeavy d C (first_sum C p) (p + 1)) → AreAllHeavy d C (zero_word C.columns) i → (w : List ℕ) → InSpan C.field C.columns C.rows w → is_lighter d w ≡ false
leads_heavy d C i r l firsts tails w h =
    let all : 0 + i ≡ i = omega arith in
    leads_from d C i 0 r (omega (arith, l)) (λ p m. firsts p (omega (arith, m))) (subst (AreAllHeavy d C (zero_word C.columns)) (sym all) tails) w h

-- ---- the words of the levels are words that the rows span

along_spanned : (C : Matrix) (j i : ℕ) (s a w : List ℕ) → AreRows C.field C.columns C.rows → Contains (supports_from i (length C.rows - i) j) s → InSpan C.field C.columns C.rows a → Contains (words_along C.field C.rows a s) w → InSpan C.field C.columns C.rows w
unfolding words_along
along_spanned C zero i s a w r c h m =
    let none : [] ≡ s = no_support i (length C.rows - i) s c in
    ⊎_elim (λ e. subst (InSpan C.field C.columns C.rows) e h) (λ x. absurd (no_member w x)) (contains_cases a w [] (subst (λ t. Contains (words_along C.field C.rows a t) w) (sym none) m))
along_spanned C (suc j) i s a w r c h m =
    let f = C.field in
    let t = split i (length C.rows - i) j s c in
    let inside : t.place < length C.rows = omega (arith, t.before, t.from) in
    let room : i + (length C.rows - i) - (t.place + 1) ≡ length C.rows - (t.place + 1) = omega (arith, t.before, t.from) in
    let v = contains_flat_map (λ c. words_along f C.rows (word_sum f a (scale f c (row_of C.rows t.place))) t.rest) (numbers_from 1 (size f - 1)) w (subst (λ u. Contains u w) (ap (words_along f C.rows a) t.is ∙ along_cons f C.rows a t.place t.rest) m) in
    let row = All-get_or (InSpan f C.columns C.rows) C.rows t.place [] inside (span_row f C.columns C.rows r) in
    along_spanned C j (t.place + 1) t.rest (word_sum f a (scale f v.0 (row_of C.rows t.place))) w r (subst (λ n. Contains (supports_from (t.place + 1) n j) t.rest) room t.later)
    (span_sum f C.columns C.rows a (scale f v.0 (row_of C.rows t.place)) h (span_scale f C.columns C.rows v.0 (row_of C.rows t.place) row)) v.2

support_spanned : (C : Matrix) (j : ℕ) (s w : List ℕ) → AreRows C.field C.columns C.rows → Contains (supports_from 0 (length C.rows) j) s → Contains (support_words C.field C.columns C.rows s) w → InSpan C.field C.columns C.rows w
unfolding support_words
support_spanned C zero s w r c m =
    let none : [] ≡ s = no_support 0 (length C.rows) s c in
    let alone : Contains (zero_word C.columns ∷ []) w = subst (λ t. Contains (support_words C.field C.columns C.rows t) w) (sym none) m in
    ⊎_elim (λ e. subst (InSpan C.field C.columns C.rows) e (span_zero C.field C.columns C.rows r)) (λ x. absurd (no_member w x)) (contains_cases (zero_word C.columns) w [] alone)
support_spanned C (suc j) s w r c m =
    let f = C.field in
    let t = split 0 (length C.rows) j s c in
    let p = t.place in
    let inside : p < length C.rows = omega (arith, t.before) in
    let room : 0 + length C.rows - (p + 1) ≡ length C.rows - (p + 1) = omega arith in
    let row = All-get_or (InSpan f C.columns C.rows) C.rows p [] inside (span_row f C.columns C.rows r) in
    let along : Contains (words_along f C.rows (word_sum f (zero_word C.columns) (scale f 1 (row_of C.rows p))) t.rest) w = subst (λ u. Contains (support_words f C.columns C.rows u) w) t.is m in
    along_spanned C j (p + 1) t.rest (word_sum f (zero_word C.columns) (scale f 1 (row_of C.rows p))) w r
    (subst (λ n. Contains (supports_from (p + 1) n j) t.rest) room t.later)
    (span_sum f C.columns C.rows (zero_word C.columns) (scale f 1 (row_of C.rows p)) (span_zero f C.columns C.rows r) (span_scale f C.columns C.rows 1 (row_of C.rows p) row)) along

pub levels_heavy : (d : ℕ) (C : Matrix) → AreRows C.field C.columns C.rows → ((w : List ℕ) → InSpan C.field C.columns C.rows w → is_lighter d w ≡ false) → (m : ℕ) → None ≡ find (is_lighter d) (words_from C.field C.columns C.rows 1 m)
unfolding words_from level_words words_over
levels_heavy d C r heavy m = find_nothing (is_lighter d) (words_from C.field C.columns C.rows 1 m) (λ w c.
    let t = contains_flat_map (level_words C.field C.columns C.rows) (numbers_from 1 m) w c in
    let v = contains_flat_map (λ s. support_words C.field C.columns C.rows ([] ++ s)) (supports_from 0 (length C.rows) t.0) w t.2 in
    heavy w (support_spanned C t.0 v.0 w r v.1 v.2))
