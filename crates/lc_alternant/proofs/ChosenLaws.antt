-- Entries at the coordinates at which a list of values is 0, and the list that has them there.
--   chosen_taken, chosen_left  the first entry is chosen, or left out
--   chosen_none, chosen_more, chosen_over, chosen_whole      the chosen entries, coordinate by coordinate
--   length_chosen              there are as many of each list
--   chosen_within              each is an entry of the list
--   fits_chosen, nonzero_chosen, distinct_chosen      so they are elements, nonzero or distinct if the entries are
--   chosen_sum                 a list that is 0 at the other coordinates has the sums that its chosen entries have
--   spread_none, spread_more, spread_over, spread_taken_on, spread_left_on, spread_whole      the spread list, coordinate by coordinate
--   length_spread, fits_spread      its length and elements
--   spread_chosen              such a list is spread from its chosen entries
use Rattle.std.proofs.Common.{append_assoc, ◌≡◌, ◌≢◌, ℕ, zero, suc, ◌+◌, ◌<◌, ◌≤◌, ◌⊎◌, inl, inr, List, [], ◌∷◌, ◌++◌, length, drop, slice_index, Contains, refl, sym, ap, ap₂, subst, ◌∙◌, ⊎_elim, arith}
use Rattle.std.proofs.Math.Seq.{drop-cons}
use Rattle.std.proofs.lemmas.List.{drop_all, append-nil}
use Rattle.lc_algebra.specs.declared.FieldName.{FieldName}
use Rattle.lc_algebra.specs.Field.{add, mul, pow}
use Rattle.lc_algebra.specs.Word.{Fits, word_dot}
use Rattle.lc_algebra.proofs.FieldLaws.{zero_inside, zero_add, zero_mul}
use Rattle.lc_algebra.proofs.WordLaws.{fits_head, fits_tail, fits_cons, dot_inside}
use Rattle.lc_algebra.proofs.SpanLaws.{contains_head, contains_tail, contains_cases}
use Rattle.lc_algebra.proofs.DimensionLaws.{AreDistinct}
use Rattle.lc_constructions.specs.Alternant.{check_row}
use Rattle.lc_constructions.proofs.CheckLaws.{AreNonzero}
use Rattle.lc_alternant.specs.Chosen.{chosen, spread, IsZeroBut}

-- ---- the loop that chooses

pub chosen_none : (vs zs : List ℕ) → [] ++ chosen (drop 0 vs) (drop 0 zs) ≡ chosen vs zs
chosen_none vs zs = refl

pub chosen_taken : (v z : ℕ) (vs zs : List ℕ) → v ≡ 0 → chosen (v ∷ vs) (z ∷ zs) ≡ z ∷ chosen vs zs
unfolding chosen
chosen_taken zero z vs zs e = refl
chosen_taken (suc v) z vs zs e = absurd (omega (arith, e))

pub chosen_left : (v z : ℕ) (vs zs : List ℕ) → v ≢ 0 → chosen (v ∷ vs) (z ∷ zs) ≡ chosen vs zs
unfolding chosen
chosen_left zero z vs zs n = absurd (n refl)
chosen_left (suc v) z vs zs n = refl

pub chosen_more : (vs zs out new : List ℕ) (i : ℕ) → i < length vs → i < length zs → slice_index vs i ≡ 0 → out ++ chosen (drop i vs) (drop i zs) ≡ chosen vs zs → new ≡ out ++ slice_index zs i ∷ [] → new ++ chosen (drop (i + 1) vs) (drop (i + 1) zs) ≡ chosen vs zs
chosen_more vs zs out new i l m e h n =
    let rest = chosen (drop (suc i) vs) (drop (suc i) zs) in
    let step : chosen (drop i vs) (drop i zs) ≡ slice_index zs i ∷ rest = ap₂ chosen (drop-cons vs i 0 l) (drop-cons zs i 0 m) ∙ chosen_taken (slice_index vs i) (slice_index zs i) (drop (suc i) vs) (drop (suc i) zs) e in
    let k : i + 1 ≡ suc i = omega arith in
    ap (λ j. new ++ chosen (drop j vs) (drop j zs)) k ∙ ap (λ u. u ++ rest) n ∙ append_assoc out (slice_index zs i ∷ []) rest ∙ ap (λ u. out ++ u) (sym step) ∙ h

pub chosen_over : (vs zs out : List ℕ) (i : ℕ) → i < length vs → i < length zs → slice_index vs i ≢ 0 → out ++ chosen (drop i vs) (drop i zs) ≡ chosen vs zs → out ++ chosen (drop (i + 1) vs) (drop (i + 1) zs) ≡ chosen vs zs
chosen_over vs zs out i l m e h =
    let rest = chosen (drop (suc i) vs) (drop (suc i) zs) in
    let step : chosen (drop i vs) (drop i zs) ≡ rest = ap₂ chosen (drop-cons vs i 0 l) (drop-cons zs i 0 m) ∙ chosen_left (slice_index vs i) (slice_index zs i) (drop (suc i) vs) (drop (suc i) zs) e in
    let k : i + 1 ≡ suc i = omega arith in
    ap (λ j. out ++ chosen (drop j vs) (drop j zs)) k ∙ ap (λ u. out ++ u) (sym step) ∙ h

nothing_chosen : (zs : List ℕ) → chosen [] zs ≡ []
unfolding chosen
nothing_chosen zs = refl

pub chosen_whole : (vs zs out : List ℕ) (i : ℕ) → i ≡ length vs → out ++ chosen (drop i vs) (drop i zs) ≡ chosen vs zs → out ≡ chosen vs zs
chosen_whole vs zs out i e h =
    sym (append-nil out) ∙ ap (λ u. out ++ u) (sym (nothing_chosen (drop i zs))) ∙ ap (λ u. out ++ chosen u (drop i zs)) (sym (drop_all i vs (omega (arith, e)))) ∙ h

-- ---- what is chosen

pub length_chosen : (vs xs zs : List ℕ) → length zs ≡ length xs → length (chosen vs zs) ≡ length (chosen vs xs)
unfolding chosen
length_chosen [] xs zs e = refl
length_chosen (v ∷ vs) [] [] e = refl
length_chosen (v ∷ vs) [] (z ∷ zs) e = absurd (omega (arith, e))
length_chosen (v ∷ vs) (x ∷ xs) [] e = absurd (omega (arith, e))
length_chosen (zero ∷ vs) (x ∷ xs) (z ∷ zs) e = ap suc (length_chosen vs xs zs (omega (arith, e)))
length_chosen (suc v ∷ vs) (x ∷ xs) (z ∷ zs) e = length_chosen vs xs zs (omega (arith, e))

pub chosen_within : (vs zs : List ℕ) (a : ℕ) → Contains (chosen vs zs) a → Contains zs a
unfolding chosen
chosen_within [] zs a c = absurd (omega (arith, c.1))
chosen_within (v ∷ vs) [] a c = absurd (omega (arith, c.1))
chosen_within (zero ∷ vs) (z ∷ zs) a c =
    ⊎_elim (λ e. subst (Contains (z ∷ zs)) e (contains_head z zs)) (λ t. contains_tail z a zs (chosen_within vs zs a t)) (contains_cases z a (chosen vs zs) c)
chosen_within (suc v ∷ vs) (z ∷ zs) a c = contains_tail z a zs (chosen_within vs zs a c)

pub fits_chosen : (f : FieldName) (vs zs : List ℕ) → Fits f zs → Fits f (chosen vs zs)
unfolding chosen
fits_chosen f [] zs h = λ i l. absurd (omega (arith, l))
fits_chosen f (v ∷ vs) [] h = λ i l. absurd (omega (arith, l))
fits_chosen f (zero ∷ vs) (z ∷ zs) h = fits_cons f z (chosen vs zs) (fits_head f z zs h) (fits_chosen f vs zs (fits_tail f z zs h))
fits_chosen f (suc v ∷ vs) (z ∷ zs) h = fits_chosen f vs zs (fits_tail f z zs h)

pub nonzero_chosen : (f : FieldName) (vs zs : List ℕ) → AreNonzero f zs → AreNonzero f (chosen vs zs)
unfolding chosen
nonzero_chosen f [] zs h = tt
nonzero_chosen f (v ∷ vs) [] h = tt
nonzero_chosen f (zero ∷ vs) (z ∷ zs) h = (h.0, h.1, nonzero_chosen f vs zs h.2)
nonzero_chosen f (suc v ∷ vs) (z ∷ zs) h = nonzero_chosen f vs zs h.2

pub distinct_chosen : (vs zs : List ℕ) → AreDistinct zs → AreDistinct (chosen vs zs)
unfolding chosen
distinct_chosen [] zs d = tt
distinct_chosen (v ∷ vs) [] d = tt
distinct_chosen (zero ∷ vs) (z ∷ zs) d = ((λ c. d.0 (chosen_within vs zs z c)), distinct_chosen vs zs d.1)
distinct_chosen (suc v ∷ vs) (z ∷ zs) d = distinct_chosen vs zs d.1

but_tail : (v z : ℕ) (vs zs : List ℕ) → IsZeroBut (v ∷ vs) (z ∷ zs) → IsZeroBut vs zs
but_tail v z vs zs h = λ i l n. h (suc i) (omega (arith, l)) n

pub chosen_sum : (f : FieldName) (vs xs ys zs : List ℕ) (j : ℕ) → length vs ≡ length xs → length ys ≡ length xs → length zs ≡ length xs → IsZeroBut vs zs → word_dot f (chosen vs zs) (check_row f (chosen vs xs) (chosen vs ys) j) ≡ word_dot f zs (check_row f xs ys j)
unfolding chosen word_dot check_row
chosen_sum f [] [] ys [] j e k l h = refl
chosen_sum f [] [] ys (z ∷ zs) j e k l h = absurd (omega (arith, l))
chosen_sum f [] (x ∷ xs) ys zs j e k l h = absurd (omega (arith, e))
chosen_sum f (v ∷ vs) [] ys zs j e k l h = absurd (omega (arith, e))
chosen_sum f (v ∷ vs) (x ∷ xs) [] zs j e k l h = absurd (omega (arith, k))
chosen_sum f (v ∷ vs) (x ∷ xs) (y ∷ ys) [] j e k l h = absurd (omega (arith, l))
chosen_sum f (zero ∷ vs) (x ∷ xs) (y ∷ ys) (z ∷ zs) j e k l h =
    ap (add f (mul f z (mul f y (pow f x j)))) (chosen_sum f vs xs ys zs j (omega (arith, e)) (omega (arith, k)) (omega (arith, l)) (but_tail 0 z vs zs h))
chosen_sum f (suc v ∷ vs) (x ∷ xs) (y ∷ ys) (z ∷ zs) j e k l h =
    let o : z ≡ 0 = h 0 (omega arith) (λ q. omega (arith, q)) in
    let t = chosen_sum f vs xs ys zs j (omega (arith, e)) (omega (arith, k)) (omega (arith, l)) (but_tail (suc v) z vs zs h) in
    cc (o, t, zero_mul f (mul f y (pow f x j)), zero_add f (word_dot f zs (check_row f xs ys j)) (dot_inside f zs (check_row f xs ys j)))

-- ---- the loop that spreads

pub spread_none : (vs zs : List ℕ) → [] ++ spread (drop 0 vs) (drop 0 zs) ≡ spread vs zs
spread_none vs zs = refl

spread_taken : (v z : ℕ) (vs zs : List ℕ) → v ≡ 0 → spread (v ∷ vs) (z ∷ zs) ≡ z ∷ spread vs zs
unfolding spread
spread_taken zero z vs zs e = refl
spread_taken (suc v) z vs zs e = absurd (omega (arith, e))

spread_other : (v : ℕ) (vs zs : List ℕ) → (v ≢ 0) ⊎ (zs ≡ []) → spread (v ∷ vs) zs ≡ 0 ∷ spread vs zs
unfolding spread
spread_other zero vs [] n = refl
spread_other zero vs (z ∷ zs) n = ⊎_elim (λ o. absurd (o refl)) (λ e. absurd (omega (arith, ap length e))) n
spread_other (suc v) vs zs n = refl

step_on : (vs out new rest : List ℕ) (a i k : ℕ) (zs : List ℕ) → spread (drop i vs) (drop k zs) ≡ a ∷ rest → new ≡ out ++ a ∷ [] → out ++ spread (drop i vs) (drop k zs) ≡ spread vs zs → new ++ rest ≡ spread vs zs
step_on vs out new rest a i k zs s n h = ap (λ u. u ++ rest) n ∙ append_assoc out (a ∷ []) rest ∙ ap (λ u. out ++ u) (sym s) ∙ h

pub spread_more : (vs zs out new : List ℕ) (i k : ℕ) → i < length vs → k < length zs → slice_index vs i ≡ 0 → out ++ spread (drop i vs) (drop k zs) ≡ spread vs zs → new ≡ out ++ slice_index zs k ∷ [] → new ++ spread (drop (i + 1) vs) (drop (k + 1) zs) ≡ spread vs zs
spread_more vs zs out new i k l m e h n =
    let rest = spread (drop (suc i) vs) (drop (suc k) zs) in
    let step : spread (drop i vs) (drop k zs) ≡ slice_index zs k ∷ rest = ap₂ spread (drop-cons vs i 0 l) (drop-cons zs k 0 m) ∙ spread_taken (slice_index vs i) (slice_index zs k) (drop (suc i) vs) (drop (suc k) zs) e in
    let p : i + 1 ≡ suc i = omega arith in
    let q : k + 1 ≡ suc k = omega arith in
    ap₂ (λ a b. new ++ spread (drop a vs) (drop b zs)) p q ∙ step_on vs out new rest (slice_index zs k) i k zs step n h

pub spread_over : (vs zs out new : List ℕ) (i k : ℕ) → i < length vs → (slice_index vs i ≢ 0) ⊎ (length zs ≤ k) → out ++ spread (drop i vs) (drop k zs) ≡ spread vs zs → new ≡ out ++ 0 ∷ [] → new ++ spread (drop (i + 1) vs) (drop k zs) ≡ spread vs zs
spread_over vs zs out new i k l o h n =
    let rest = spread (drop (suc i) vs) (drop k zs) in
    let other : (slice_index vs i ≢ 0) ⊎ (drop k zs ≡ []) = ⊎_elim (λ a. inl a) (λ b. inr (drop_all k zs b)) o in
    let step : spread (drop i vs) (drop k zs) ≡ 0 ∷ rest = ap (λ u. spread u (drop k zs)) (drop-cons vs i 0 l) ∙ spread_other (slice_index vs i) (drop (suc i) vs) (drop k zs) other in
    let p : i + 1 ≡ suc i = omega arith in
    ap (λ a. new ++ spread (drop a vs) (drop k zs)) p ∙ step_on vs out new rest 0 i k zs step n h

pub spread_taken_on : (vs zs out new : List ℕ) (i k n : ℕ) → i < length vs → k < length zs → slice_index vs i ≡ 0 → out ++ spread (drop i vs) (drop k zs) ≡ spread vs zs → n ≡ k + 1 → new ≡ out ++ slice_index zs k ∷ [] → (n ≤ length zs) × (new ++ spread (drop (i + 1) vs) (drop n zs) ≡ spread vs zs)
spread_taken_on vs zs out new i k n l m e h q p = (omega (arith, q, m), ap (λ a. new ++ spread (drop (i + 1) vs) (drop a zs)) q ∙ spread_more vs zs out new i k l m e h p)

pub spread_left_on : (vs zs out new : List ℕ) (i k n : ℕ) → i < length vs → k ≤ length zs → (slice_index vs i ≢ 0) ⊎ (length zs ≤ k) → out ++ spread (drop i vs) (drop k zs) ≡ spread vs zs → n ≡ k → new ≡ out ++ 0 ∷ [] → (n ≤ length zs) × (new ++ spread (drop (i + 1) vs) (drop n zs) ≡ spread vs zs)
spread_left_on vs zs out new i k n l m o h q p = (omega (arith, q, m), ap (λ a. new ++ spread (drop (i + 1) vs) (drop a zs)) q ∙ spread_over vs zs out new i k l o h p)

nothing_spread : (zs : List ℕ) → spread [] zs ≡ []
unfolding spread
nothing_spread zs = refl

pub spread_whole : (vs zs out : List ℕ) (i k : ℕ) → i ≡ length vs → out ++ spread (drop i vs) (drop k zs) ≡ spread vs zs → out ≡ spread vs zs
spread_whole vs zs out i k e h =
    sym (append-nil out) ∙ ap (λ u. out ++ u) (sym (nothing_spread (drop k zs))) ∙ ap (λ u. out ++ spread u (drop k zs)) (sym (drop_all i vs (omega (arith, e)))) ∙ h

-- ---- what is spread

pub length_spread : (vs zs : List ℕ) → length (spread vs zs) ≡ length vs
unfolding spread
length_spread [] zs = refl
length_spread (zero ∷ vs) [] = ap suc (length_spread vs [])
length_spread (zero ∷ vs) (z ∷ zs) = ap suc (length_spread vs zs)
length_spread (suc v ∷ vs) zs = ap suc (length_spread vs zs)

pub fits_spread : (f : FieldName) (vs zs : List ℕ) → Fits f zs → Fits f (spread vs zs)
unfolding spread
fits_spread f [] zs h = λ i l. absurd (omega (arith, l))
fits_spread f (zero ∷ vs) [] h = fits_cons f 0 (spread vs []) (zero_inside f) (fits_spread f vs [] h)
fits_spread f (zero ∷ vs) (z ∷ zs) h = fits_cons f z (spread vs zs) (fits_head f z zs h) (fits_spread f vs zs (fits_tail f z zs h))
fits_spread f (suc v ∷ vs) zs h = fits_cons f 0 (spread vs zs) (zero_inside f) (fits_spread f vs zs h)

pub spread_chosen : (vs zs : List ℕ) → length vs ≡ length zs → IsZeroBut vs zs → spread vs (chosen vs zs) ≡ zs
unfolding spread chosen
spread_chosen [] [] e h = refl
spread_chosen [] (z ∷ zs) e h = absurd (omega (arith, e))
spread_chosen (v ∷ vs) [] e h = absurd (omega (arith, e))
spread_chosen (zero ∷ vs) (z ∷ zs) e h = ap (λ u. z ∷ u) (spread_chosen vs zs (omega (arith, e)) (but_tail 0 z vs zs h))
spread_chosen (suc v ∷ vs) (z ∷ zs) e h =
    let o : z ≡ 0 = h 0 (omega arith) (λ q. omega (arith, q)) in
    cc (o, spread_chosen vs zs (omega (arith, e)) (but_tail (suc v) z vs zs h))

pub ruleset chosen_laws = (chosen_none, chosen_more, chosen_over, chosen_whole)

pub ruleset spread_laws = (spread_none, spread_whole)
