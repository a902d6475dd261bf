-- The loops that make the replaced words of an outer code.
--   subfield_of_degree     fields whose sizes are powers of each other lie in each other
--   power_of_degree        the larger size is that power
--   expansion_found        some number has the coefficients of an element as its digits
--   combine_none, combine_more, combine_all      the sum of the multiples of the rows, from the left
--   replaced_by_digits     it replaces the symbol
--   word_none, word_more, word_whole      a word with each symbol replaced, from the left
--   multiples_none, multiples_more, rows_none, rows_more, rows_whole      the words that are replaced, one by one
use Rattle.std.proofs.Common.{◌≡◌, ◌≢◌, ℕ, suc, ◌+◌, ◌-◌, ◌/◌, ◌%◌, ◌^◌, ◌<◌, Bool, true, not, ◌==◌, ◌||◌, List, [], ◌∷◌, ◌++◌, map, length, take, drop, slice_index, slice_index_or, Option, Some, None, is_some, refl, sym, ap, subst, ◌∙◌, ⊎_elim, arith, add-one, true≢false}
use Rattle.std.specs.Prelude.{IsTrue, find}
use Rattle.std.specs.List.{list_all}
use Rattle.std.proofs.Math.Seq.{take-suc, drop-cons}
use Rattle.std.proofs.lemmas.Bool.{cases_Bool, eqb-true}
use Rattle.std.proofs.lemmas.List.{append-nil, append_assoc, map-append, take_all}
use Rattle.std.proofs.lemmas.Grind.{flat_map-append}
use Rattle.lc_algebra.specs.declared.FieldName.{FieldName}
use Rattle.lc_algebra.specs.Residue.{digits, number}
use Rattle.lc_algebra.specs.Field.{shape, shape_of, size, is_symbol, pow}
use Rattle.lc_algebra.specs.Polynomial.{value_at}
use Rattle.lc_algebra.specs.Embedding.{IsSubfield, is_subfield, embed}
use Rattle.lc_algebra.specs.Word.{Fits, IsWord, zero_word, word_sum, scale}
use Rattle.lc_algebra.specs.Span.{below, combine}
use Rattle.lc_algebra.specs.Matrix.{Matrix, AreRows}
use Rattle.lc_algebra.proofs.FieldLaws.{zero_inside}
use Rattle.lc_algebra.proofs.WordLaws.{fits_cons, IsWord_zero, IsWord_scale, IsWord_sum, zero_sum, sum_zero, sum_assoc, residues_fit}
use Rattle.lc_algebra.proofs.ResidueLaws.{Residues, length-digits, residues_digits, digits-number, number_below}
use Rattle.lc_algebra.proofs.EmbeddingLaws.{decides_subfield}
use Rattle.lc_algebra.proofs.CommonLaws.{find_here, find_later}
use Rattle.lc_algebra.proofs.SpanLaws.{combine_is_word, combine_none as combine_end}
use Rattle.lc_constructions.specs.Cyclic.{all_fields}
use Rattle.lc_constructions.specs.Refusals.{degree_over}
use Rattle.lc_constructions.specs.Concatenated.{IsExpansion, IsReplaced, IsReplacedWord}
use Rattle.lc_constructions.proofs.LocatorLaws.{each_field}
use Rattle.lc_constructions.proofs.ExpansionLaws.{passes, expansion_exists}
use Rattle.lc_linear_laws.specs.Powers.{power_multiples, outer_rows}
use Rattle.lc_code.proofs.CoordinateSteps.{digit_inside, element_none, element_step}
use Rattle.lc_linear_laws.proofs.PowerSpan.{power_none, power_more}
use Rattle.lc_combine.specs.Replaced.{AreReplaced}

fits_of : (f : FieldName) (u : List ℕ) → Residues (size f) u → Fits f u
fits_of f [] h = λ i l. absurd (omega (arith, l))
fits_of f (a ∷ u) h = fits_cons f a u h.0 (fits_of f u h.1)

-- ---- a field over another

unfoldable subfield_test : FieldName → FieldName → Bool
subfield_test K f = not (is_some (degree_over (size f) (size K))) || is_subfield f K

all_subfields : list_all (λ K. list_all (subfield_test K) all_fields) all_fields ≡ true
unfolding digits number shape shape_of size all_fields degree_over is_subfield subfield_test
all_subfields = refl

tested : (o : Option ℕ) (s : ℕ) (c : Bool) → o ≡ Some s → (not (is_some o) || c) ≡ true → c ≡ true
tested (Some x) s c e h = h
tested None s c e h = absurd (true≢false (sym (ap is_some e)))

pub subfield_of_degree : (f K : FieldName) (s : ℕ) → degree_over (size f) (size K) ≡ Some s → IsSubfield f K
unfolding subfield_test
subfield_of_degree f K s e =
    let h : (not (is_some (degree_over (size f) (size K))) || is_subfield f K) ≡ true = passes (subfield_test K) all_fields f (passes (λ K. list_all (subfield_test K) all_fields) all_fields K all_subfields (each_field K)) (each_field f) in
    (decides_subfield f K).0 (tested (degree_over (size f) (size K)) s (is_subfield f K) e h)

found_passes : (p : ℕ → Bool) (xs : List ℕ) (s : ℕ) → find p xs ≡ Some s → p s ≡ true
found_passes p [] s e = absurd (true≢false (sym (ap is_some e)))
found_passes p (x ∷ xs) s e =
    ⊎_elim
    (λ t. let k : x ≡ s = cc (sym (find_here p x xs t) ∙ e) in subst (λ y. p y ≡ true) k t)
    (λ t. found_passes p xs s (sym (find_later p x xs t) ∙ e))
    (cases_Bool (p x))

pub power_of_degree : (q Q s : ℕ) → degree_over q Q ≡ Some s → q ^ s ≡ Q
unfolding degree_over
power_of_degree q Q s e = eqb-true (q ^ s) Q (found_passes (λ s. q ^ s == Q) (1 ∷ 2 ∷ 3 ∷ 4 ∷ 5 ∷ 6 ∷ 7 ∷ 8 ∷ []) s e)

pub expansion_found : (f K : FieldName) (s a : ℕ) → degree_over (size f) (size K) ≡ Some s → IsTrue (is_symbol K) → a < size K → ((y : ℕ) → y < size K → value_at K (map (embed f K) (digits (size f) s y)) (shape_of K).primitive ≢ a) → ⊥
expansion_found f K s a e t l n =
    let (cs, w, h) = expansion_exists f K s a t e l in
    let y = number (size f) cs in
    let k : digits (size f) s y ≡ cs = subst (λ m. digits (size f) m y ≡ cs) w.long (digits-number (size f) cs (residues_fit f cs w.fits)) in
    let b : y < size K = subst (λ m. y < m) (power_of_degree (size f) (size K) s e) (subst (λ m. y < size f ^ m) w.long (number_below (size f) cs (residues_fit f cs w.fits))) in
    n y b (ap (λ u. value_at K (map (embed f K) u) (shape_of K).primitive) k ∙ sym h)

-- ---- the sum of the multiples of the rows

pub combine_none : (f : FieldName) (n q k x : ℕ) (u : List ℕ) (rows : List (List ℕ)) → AreRows f n rows → u ≡ zero_word n → word_sum f u (combine f n (digits q (k - 0) x) rows) ≡ combine f n (digits q k x) rows
combine_none f n q k x u rows r e =
    let z : k - 0 ≡ k = omega arith in
    ap (λ m. word_sum f u (combine f n (digits q m x) rows)) z ∙ ap (λ v. word_sum f v (combine f n (digits q k x) rows)) e ∙ zero_sum f n (combine f n (digits q k x) rows) (combine_is_word f n (digits q k x) rows r)

pub zero_is_word : (f : FieldName) (n : ℕ) (u : List ℕ) → u ≡ zero_word n → IsWord f n u
zero_is_word f n u e = subst (IsWord f n) (sym e) (IsWord_zero f n)

combine_step : (f : FieldName) (n q k x : ℕ) (u g : List ℕ) (rows : List (List ℕ)) → word_sum f (word_sum f u (scale f (x % q) g)) (combine f n (digits q k (x / q)) rows) ≡ word_sum f u (combine f n (digits q (suc k) x) (g ∷ rows))
unfolding combine digits
combine_step f n q k x u g rows = sum_assoc f u (scale f (x % q) g) (combine f n (digits q k (x / q)) rows)

pub combine_more : (f : FieldName) (n q t x : ℕ) (u new : List ℕ) (rows : List (List ℕ)) (whole : List ℕ) → t < length rows → new ≡ word_sum f u (scale f (x % q) (slice_index_or rows t [])) → word_sum f u (combine f n (digits q (length rows - t) x) (drop t rows)) ≡ whole → word_sum f new (combine f n (digits q (length rows - (t + 1)) (x / q)) (drop (t + 1) rows)) ≡ whole
combine_more f n q t x u new rows whole l e h =
    let k = length rows - (t + 1) in
    let a : length rows - t ≡ suc k = omega (arith, l) in
    let d : drop t rows ≡ slice_index_or rows t [] ∷ drop (t + 1) rows = drop-cons rows t [] l ∙ ap (λ m. slice_index_or rows t [] ∷ drop m rows) (sym (add-one t)) in
    ap (λ v. word_sum f v (combine f n (digits q k (x / q)) (drop (t + 1) rows))) e ∙ combine_step f n q k x u (slice_index_or rows t []) (drop (t + 1) rows) ∙ sym (ap (λ m. word_sum f u (combine f n (digits q m x) (drop t rows))) a ∙ ap (λ r. word_sum f u (combine f n (digits q (suc k) x) r)) d) ∙ h

pub combine_next : (f g : FieldName) (n q t x : ℕ) (u new row : List ℕ) (rows : List (List ℕ)) (whole : List ℕ) → g ≡ f → q ≡ size f → t < length rows → row ≡ slice_index_or rows t [] → new ≡ word_sum g u (scale g (x % q) row) → word_sum f u (combine f n (digits (size f) (length rows - t) x) (drop t rows)) ≡ whole → word_sum f new (combine f n (digits (size f) (length rows - (t + 1)) (x / q)) (drop (t + 1) rows)) ≡ whole
combine_next f g n q t x u new row rows whole a b l r e h =
    let k : new ≡ word_sum f u (scale f (x % size f) (slice_index_or rows t [])) = e ∙ ap (λ y. word_sum y u (scale y (x % q) row)) a ∙ ap (λ y. word_sum f u (scale f (x % y) row)) b ∙ ap (λ y. word_sum f u (scale f (x % size f) y)) r in
    ap (λ y. word_sum f new (combine f n (digits (size f) (length rows - (t + 1)) (x / y)) (drop (t + 1) rows))) b ∙ combine_more f n (size f) t x u new rows whole l k h

pub combine_word_next : (f g : FieldName) (n c : ℕ) (u new row : List ℕ) → g ≡ f → IsWord f n u → IsWord f n row → new ≡ word_sum g u (scale g c row) → IsWord f n new
combine_word_next f g n c u new row a w r e =
    subst (IsWord f n) (sym (e ∙ ap (λ y. word_sum y u (scale y c row)) a)) (IsWord_sum f n u (scale f c row) w.long (IsWord_scale f n c row r.long).long)

no_digits : (q x : ℕ) → digits q 0 x ≡ []
unfolding digits
no_digits q x = refl

pub combine_all : (f : FieldName) (n q t x : ℕ) (u : List ℕ) (rows : List (List ℕ)) (whole : List ℕ) → t ≡ length rows → IsWord f n u → word_sum f u (combine f n (digits q (length rows - t) x) (drop t rows)) ≡ whole → u ≡ whole
combine_all f n q t x u rows whole e w h =
    let k : length rows - t ≡ 0 = omega (arith, e) in
    sym (ap (word_sum f u) (ap (λ m. combine f n (digits q m x) (drop t rows)) k ∙ ap (λ cs. combine f n cs (drop t rows)) (no_digits q x) ∙ combine_end f n (drop t rows)) ∙ sum_zero f n u w) ∙ h

digits_fit : (f : FieldName) (s x : ℕ) → IsWord f s (digits (size f) s x)
digits_fit f s x = record { long = length-digits (size f) s x; fits = fits_of f (digits (size f) s x) (residues_digits (size f) s x (zero_inside f)) }

pub replaced_by_digits : (C D : Matrix) (a x : ℕ) (v : List ℕ) → IsExpansion D.field C.field a (digits (size D.field) (length D.rows) x) → v ≡ combine D.field D.columns (digits (size D.field) (length D.rows) x) D.rows → IsReplaced C D a v
replaced_by_digits C D a x v e h = (digits (size D.field) (length D.rows) x, digits_fit D.field (length D.rows) x, e, h)

pub replaced_made : (C D : Matrix) (K f : FieldName) (s a x : ℕ) (v : List ℕ) → K ≡ C.field → f ≡ D.field → s ≡ length D.rows → IsExpansion f K a (digits (size f) s x) → v ≡ combine D.field D.columns (digits (size D.field) (length D.rows) x) D.rows → IsReplaced C D a v
replaced_made C D K f s a x v h k e p q =
    replaced_by_digits C D a x v (subst (λ m. IsExpansion D.field C.field a (digits (size D.field) m x)) e (subst (λ y. IsExpansion y C.field a (digits (size y) s x)) k (subst (λ y. IsExpansion f y a (digits (size f) s x)) h p))) q

-- ---- words with each symbol replaced

pub word_none : (C D : Matrix) (u w : List ℕ) → w ≡ [] → IsReplacedWord C D (take 0 u) w
word_none C D u w e = e

last_replaced : (C D : Matrix) (u w v : List ℕ) (a : ℕ) → IsReplacedWord C D u w → IsReplaced C D a v → IsReplacedWord C D (u ++ a ∷ []) (w ++ v)
last_replaced C D [] w v a p q = (v, ([], q, refl, ap (λ t. t ++ v) p ∙ sym (append-nil v)))
last_replaced C D (b ∷ u) w v a (x, (others, i, j, k)) q = (x, (others ++ v, i, last_replaced C D u others v a j q, ap (λ t. t ++ v) k ∙ append_assoc x others v))

pub word_more : (C D : Matrix) (u w v new : List ℕ) (i : ℕ) → i < length u → IsReplacedWord C D (take i u) w → IsReplaced C D (slice_index u i) v → new ≡ w ++ v → IsReplacedWord C D (take (i + 1) u) new
word_more C D u w v new i l p q e =
    let t : take (i + 1) u ≡ take i u ++ slice_index u i ∷ [] = ap (λ k. take k u) (add-one i) ∙ take-suc u i 0 l in
    subst (IsReplacedWord C D (take (i + 1) u)) (sym e) (subst (λ x. IsReplacedWord C D x (w ++ v)) (sym t) (last_replaced C D (take i u) w v (slice_index u i) p q))

pub word_whole : (C D : Matrix) (u w : List ℕ) (i : ℕ) → i ≡ length u → IsReplacedWord C D (take i u) w → IsReplacedWord C D u w
word_whole C D u w i e p = subst (λ x. IsReplacedWord C D x w) (take_all i u (omega (arith, e))) p

-- ---- the outer rows

last_row : (C D : Matrix) (us ws : List (List ℕ)) (u w : List ℕ) → AreReplaced C D us ws → IsReplacedWord C D u w → AreReplaced C D (us ++ u ∷ []) (ws ++ w ∷ [])
last_row C D [] ws u w p q = (w, ([], q, refl, ap (λ t. t ++ w ∷ []) p))
last_row C D (x ∷ us) ws u w (y, (others, i, j, k)) q = (y, (others ++ w ∷ [], i, last_row C D us others u w j q, ap (λ t. t ++ w ∷ []) k))

pub multiples_none : (C D : Matrix) (u : List ℕ) (us ws : List (List ℕ)) → AreReplaced C D us ws → AreReplaced C D (us ++ power_multiples C.field 0 u) ws
unfolding below
multiples_none C D u us ws p = subst (λ x. AreReplaced C D x ws) (sym (append-nil us)) p

multiples_next : (K : FieldName) (t : ℕ) (u : List ℕ) → power_multiples K (t + 1) u ≡ power_multiples K t u ++ scale K (pow K (shape_of K).primitive t) u ∷ []
unfolding below
multiples_next K t u = ap (λ k. power_multiples K k u) (add-one t) ∙ map-append (λ t. scale K (pow K (shape_of K).primitive t) u) (below t) (t ∷ [])

pub multiples_more : (C D : Matrix) (t : ℕ) (u v w : List ℕ) (us ws new : List (List ℕ)) → AreReplaced C D (us ++ power_multiples C.field t u) ws → v ≡ scale C.field (pow C.field (shape_of C.field).primitive t) u → IsReplacedWord C D v w → new ≡ ws ++ w ∷ [] → AreReplaced C D (us ++ power_multiples C.field (t + 1) u) new
multiples_more C D t u v w us ws new p e q h =
    let K = C.field in
    let x : us ++ power_multiples K (t + 1) u ≡ (us ++ power_multiples K t u) ++ v ∷ [] = ap (λ r. us ++ r) (multiples_next K t u ∙ ap (λ r. power_multiples K t u ++ r ∷ []) (sym e)) ∙ sym (append_assoc us (power_multiples K t u) (v ∷ [])) in
    subst (λ r. AreReplaced C D r new) (sym x) (subst (AreReplaced C D ((us ++ power_multiples K t u) ++ v ∷ [])) (sym h) (last_row C D (us ++ power_multiples K t u) ws v w p q))

pub rows_none : (C D : Matrix) (s : ℕ) (ws : List (List ℕ)) → ws ≡ [] → AreReplaced C D (outer_rows C.field s (take 0 C.rows)) ws
rows_none C D s ws e = e

pub rows_more : (C D : Matrix) (s i : ℕ) (ws new : List (List ℕ)) → i < length C.rows → AreReplaced C D (outer_rows C.field s (take i C.rows)) ws → ((us : List (List ℕ)) → AreReplaced C D us ws → AreReplaced C D (us ++ power_multiples C.field s (slice_index_or C.rows i [])) new) → AreReplaced C D (outer_rows C.field s (take (i + 1) C.rows)) new
rows_more C D s i ws new l p h =
    let K = C.field in
    let u = slice_index_or C.rows i [] in
    let x : outer_rows K s (take (i + 1) C.rows) ≡ outer_rows K s (take i C.rows) ++ power_multiples K s u = ap (outer_rows K s) (ap (λ k. take k C.rows) (add-one i) ∙ take-suc C.rows i [] l) ∙ flat_map-append (power_multiples K s) (take i C.rows) (u ∷ []) ∙ ap (λ r. outer_rows K s (take i C.rows) ++ r) (append-nil (power_multiples K s u)) in
    subst (λ r. AreReplaced C D r new) (sym x) (h (outer_rows K s (take i C.rows)) p)

pub rows_whole : (C D : Matrix) (s i : ℕ) (ws : List (List ℕ)) → i ≡ length C.rows → AreReplaced C D (outer_rows C.field s (take i C.rows)) ws → AreReplaced C D (outer_rows C.field s C.rows) ws
rows_whole C D s i ws e p = subst (λ r. AreReplaced C D (outer_rows C.field s r) ws) (take_all i C.rows (omega (arith, e))) p

pub ruleset replaced_rows_laws = (rows_none, rows_more, rows_whole)

pub ruleset push_multiples_laws = (multiples_none, multiples_more, power_none, power_more)

pub ruleset replaced_word_laws = (word_none, word_more, word_whole)

pub ruleset expansion_laws = (subfield_of_degree, expansion_found)

pub ruleset value_laws = (digit_inside, element_none, element_step, zero_inside)
