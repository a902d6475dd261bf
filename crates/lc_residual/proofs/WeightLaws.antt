-- The weights of the words of a residual code.
--   unchanged, changed     of the q sums of a symbol and a multiple of another one, each is the symbol if that one is 0, and one is 0 if it
--                          isn't
--   added_from, weights_added      the weights of the sums of a word and the multiples of another one add up to their number less 1
--                          times the weight of that one, and their number times the weight of the first off the support of it
--   sum_at_least           a sum of numbers that are not below one is not below its multiple
--   removed                a word without the support of another one
--   residual_linear        removing the support of a word of a code is linear
--   residual_kept          and it forgets the multiples of that word
--   in_residual            a word of a residual code
--   residual_whole         at the zero word it is the code itself
--   multiples_in           the sums of a word of a code and the multiples of another one are in the code
--   residual_bound, residual_least      no word of a residual code is lighter than these say
use Rattle.std.proofs.Common.{◌≡◌, ℕ, zero, suc, ◌+◌, ◌-◌, ◌*◌, ◌<◌, ◌≤◌, Bool, true, false, not, cond, ◌==◌, List, [], ◌∷◌, length, slice_index, sum_by, Contains, refl, sym, ap, subst, ◌∙◌, arith}
use Rattle.std.specs.List.{list_any}
use Rattle.std.proofs.lemmas.Bool.{ne_eqb}
use Rattle.std.proofs.lemmas.List.Sums.{sum_by-cons}
use Rattle.lc_algebra.specs.declared.FieldName.{FieldName}
use Rattle.lc_algebra.specs.Field.{size, add, mul}
use Rattle.lc_algebra.specs.Word.{Fits, IsWord, zero_word, word_sum, scale, weight}
use Rattle.lc_algebra.specs.Span.{below, IsWeightBound}
use Rattle.lc_algebra.specs.Matrix.{Matrix, AreRows}
use Rattle.lc_algebra.proofs.FieldLaws.{zero_inside, mul_zero, add_zero, add_comm}
use Rattle.lc_algebra.proofs.WordLaws.{IsWord_scale, sum_zero, scale_zero, fits_head, fits_tail, weight_cons, weight_zero_head, weight_other_head, weight_zero_word, zero_from_weight}
use Rattle.lc_algebra.proofs.SpanLaws.{span_word, span_sum, span_scale, contains_head, contains_tail, length_below}
use Rattle.lc_constructions.specs.Code.{InCode, IsCode}
use Rattle.lc_constructions.specs.Combined.{without_from, without}
use Rattle.lc_constructions.proofs.WithoutLaws.{kept, taken}
use Rattle.lc_language.specs.Relations.{IsSameCode}
use Rattle.lc_language.specs.Residual.{support, InResidual}
use Rattle.lc_linear_laws.proofs.LinearLaws.{IsLinear}
use Rattle.lc_combine.proofs.DeletedLaws.{deleted_linear}
use Rattle.lc_combine.proofs.ChangedBounds.{weight_left}
use Rattle.lc_relations.proofs.UnionLaws.{told}
use Rattle.lc_macwilliams.proofs.CountLaws.{sum_same, sum_none, sum_constant, sum_plus, one_more}
use Rattle.lc_macwilliams.proofs.TransformLaws.{one_solution}
use Rattle.lc_residual.proofs.SupportLaws.{on_support, length_support, support_fine}

-- ---- one coordinate

abbrev nonzero : ℕ → ℕ
nonzero a = cond (not (a == 0)) 1 0

unchanged : (f : FieldName) (x : ℕ) → x < size f → sum_by (λ a. nonzero (add f x (mul f a 0))) (below (size f)) ≡ size f * nonzero x
unchanged f x l =
    sum_constant (λ a. nonzero (add f x (mul f a 0))) (nonzero x) (below (size f)) (λ a _. ap (λ b. nonzero (add f x b)) (mul_zero f a) ∙ ap nonzero (add_zero f x l))
    ∙ ap (λ m. m * nonzero x) (length_below (size f))

one_each : (t : Bool) → cond (not t) 1 0 + cond t 1 0 ≡ 1
one_each true = refl
one_each false = refl

changed : (f : FieldName) (x y : ℕ) → x < size f → y < size f → 0 < y → sum_by (λ a. nonzero (add f x (mul f a y))) (below (size f)) + 1 ≡ size f
changed f x y l m p =
    let q : ℕ = size f in
    let t : ℕ → Bool = λ a. add f (mul f a y) x == 0 in
    let one : sum_by (λ a. cond (t a) 1 0) (below q) ≡ 1 = one_solution f y x m p l in
    let all : sum_by (λ a. cond (not (t a)) 1 0 + cond (t a) 1 0) (below q) ≡ q * 1 =
    sum_constant (λ a. cond (not (t a)) 1 0 + cond (t a) 1 0) 1 (below q) (λ a _. one_each (t a)) ∙ ap (λ k. k * 1) (length_below q) in
    let turned : sum_by (λ a. nonzero (add f x (mul f a y))) (below q) ≡ sum_by (λ a. cond (not (t a)) 1 0) (below q) =
    sum_same (λ a. nonzero (add f x (mul f a y))) (λ a. cond (not (t a)) 1 0) (below q) (λ a _. ap nonzero (add_comm f x (mul f a y))) in
    omega (arith, one, all, turned, sum_plus (λ a. cond (not (t a)) 1 0) (λ a. cond (t a) 1 0) (below q))

-- ---- all coordinates

-- the first coordinate of a word that begins with another symbol than 0
begins : (i a : ℕ) (coordinates c : List ℕ) → ((j k : ℕ) → j ≡ i + k → list_any (λ p. j == p) coordinates ≡ not (slice_index (suc a ∷ c) k == 0)) → list_any (λ p. i == p) coordinates ≡ true
begins i a coordinates c h = h i 0 (omega arith) ∙ ap not (ne_eqb (suc a) 0 (λ e. omega (arith, e)))

added : FieldName → List ℕ → List ℕ → ℕ
added f u c = sum_by (λ a. weight (word_sum f u (scale f a c))) (below (size f))

added_none : (f : FieldName) → added f [] [] ≡ 0
unfolding added word_sum
added_none f = sum_none (λ a. weight (word_sum f [] (scale f a []))) (below (size f)) (λ a _. refl)

added_more : (f : FieldName) (x y : ℕ) (u c : List ℕ) → added f (x ∷ u) (y ∷ c) ≡ sum_by (λ a. nonzero (add f x (mul f a y))) (below (size f)) + added f u c
unfolding added word_sum scale
added_more f x y u c =
    sum_same (λ a. weight (word_sum f (x ∷ u) (scale f a (y ∷ c)))) (λ a. nonzero (add f x (mul f a y)) + weight (word_sum f u (scale f a c))) (below (size f)) (λ a _. weight_cons (add f x (mul f a y)) (word_sum f u (scale f a c)))
    ∙ sum_plus (λ a. nonzero (add f x (mul f a y))) (λ a. weight (word_sum f u (scale f a c))) (below (size f))

added_from : (f : FieldName) (i : ℕ) (coordinates u c : List ℕ) → Fits f u → Fits f c → length u ≡ length c → ((j k : ℕ) → j ≡ i + k → list_any (λ p. j == p) coordinates ≡ not (slice_index c k == 0)) → added f u c ≡ (size f - 1) * weight c + size f * weight (without_from i coordinates u)
unfolding without_from
added_from f i coordinates [] [] fu fc e h = added_none f ∙ omega arith
added_from f i coordinates [] (y ∷ c) fu fc e h = absurd (omega (arith, e))
added_from f i coordinates (x ∷ u) [] fu fc e h = absurd (omega (arith, e))
added_from f i coordinates (x ∷ u) (zero ∷ c) fu fc e h =
    let rest = added_from f (suc i) coordinates u c (fits_tail f x u fu) (fits_tail f 0 c fc) (omega (arith, e)) (λ j k t. h j (suc k) (omega (arith, t))) in
    let here : without_from i coordinates (x ∷ u) ≡ x ∷ without_from (suc i) coordinates u = kept i coordinates x u (h i 0 (omega arith)) in
    omega (arith, added_more f x 0 u c, unchanged f x (fits_head f x u fu), rest, weight_zero_head c, ap (λ w. size f * weight w) here ∙ ap (λ m. size f * m) (weight_cons x (without_from (suc i) coordinates u)))
added_from f i coordinates (x ∷ u) (suc y ∷ c) fu fc e h =
    let rest = added_from f (suc i) coordinates u c (fits_tail f x u fu) (fits_tail f (suc y) c fc) (omega (arith, e)) (λ j k t. h j (suc k) (omega (arith, t))) in
    let here : without_from i coordinates (x ∷ u) ≡ without_from (suc i) coordinates u = taken i coordinates x u (begins i y coordinates c h) in
    let one = changed f x (suc y) (fits_head f x u fu) (fits_head f (suc y) c fc) (omega arith) in
    omega (arith, added_more f x (suc y) u c, one, rest, ap (λ m. (size f - 1) * m) (weight_other_head (suc y) c (omega arith)), ap (λ w. size f * weight w) here)

pub weights_added : (f : FieldName) (n : ℕ) (u c : List ℕ) → IsWord f n u → IsWord f n c → sum_by (λ a. weight (word_sum f u (scale f a c))) (below (size f)) ≡ (size f - 1) * weight c + size f * weight (without (support c) u)
unfolding added without
weights_added f n u c a b = added_from f 0 (support c) u c a.fits b.fits (a.long ∙ sym b.long) (λ j k e. let t : j ≡ k = omega (arith, e) in on_support c j ∙ ap (λ i. not (slice_index c i == 0)) t)

pub sum_at_least : {X : Type 0} (g : X → ℕ) (m : ℕ) (xs : List X) → ((x : X) → Contains xs x → m ≤ g x) → length xs * m ≤ sum_by g xs
sum_at_least g m [] h = omega arith
sum_at_least g m (x ∷ xs) h = omega (arith, sum_by-cons g x xs, h x (contains_head x xs), sum_at_least g m xs (λ y c. h y (contains_tail x y xs c)))

-- ---- the words of the residual code

no_entry : (xs : List ℕ) → length xs ≡ 0 → xs ≡ []
no_entry [] e = refl
no_entry (x ∷ xs) e = absurd (omega (arith, e))

abbrev pub removed : List ℕ → List ℕ → List ℕ
removed c u = without (support c) u

pub residual_linear : (C : Matrix) (c : List ℕ) → AreRows C.field C.columns C.rows → InCode C c → weight c < C.columns → IsLinear C.field C.columns (C.columns - weight c) (removed c)
residual_linear C c r i some =
    subst (λ m. IsLinear C.field C.columns (C.columns - m) (removed c)) (length_support c) (deleted_linear C (support c) (support_fine C c (span_word C.field C.columns C.rows c r i).long some))

-- nothing is left of the word itself
none_from : (i : ℕ) (coordinates c : List ℕ) → ((j k : ℕ) → j ≡ i + k → list_any (λ p. j == p) coordinates ≡ not (slice_index c k == 0)) → weight (without_from i coordinates c) ≡ 0
unfolding without_from
none_from i coordinates [] h = refl
none_from i coordinates (zero ∷ c) h =
    ap (λ w. weight w) (kept i coordinates 0 c (h i 0 (omega arith))) ∙ weight_zero_head (without_from (suc i) coordinates c) ∙ none_from (suc i) coordinates c (λ j k e. h j (suc k) (omega (arith, e)))
none_from i coordinates (suc a ∷ c) h =
    ap (λ w. weight w) (taken i coordinates (suc a) c (begins i a coordinates c h)) ∙ none_from (suc i) coordinates c (λ j k e. h j (suc k) (omega (arith, e)))

self_removed : (c : List ℕ) → weight (removed c c) ≡ 0
unfolding without
self_removed c = none_from 0 (support c) c (λ j k e. let t : j ≡ k = omega (arith, e) in on_support c j ∙ ap (λ i. not (slice_index c i == 0)) t)

pub residual_kept : (C : Matrix) (c u : List ℕ) (a : ℕ) → AreRows C.field C.columns C.rows → InCode C c → weight c < C.columns → IsWord C.field C.columns u → removed c (word_sum C.field u (scale C.field a c)) ≡ removed c u
residual_kept C c u a r i some word =
    let f = C.field in
    let n = C.columns in
    let m = n - weight c in
    let s = residual_linear C c r i some in
    let wc = span_word f n C.rows c r i in
    let zero : removed c c ≡ zero_word m = zero_from_weight m (removed c c) (s.word c wc).long (self_removed c) in
    s.sums u (scale f a c) word (IsWord_scale f n a c wc.long) ∙ ap (word_sum f (removed c u)) (s.multiples a c wc ∙ ap (scale f a) zero ∙ scale_zero f a m) ∙ sum_zero f m (removed c u) (s.word u word)

pub in_residual : (C R : Matrix) (c v : List ℕ) → IsCode C.field (C.columns - weight c) (InResidual C c) R → InCode R v → InResidual C c v
in_residual C R c v k i = ((told C.field (C.columns - weight c) (InResidual C c) R v k).0 i).1

pub multiples_in : (C : Matrix) (c u : List ℕ) (a : ℕ) → AreRows C.field C.columns C.rows → InCode C c → InCode C u → InCode C (word_sum C.field u (scale C.field a c))
multiples_in C c u a r i j = span_sum C.field C.columns C.rows u (scale C.field a c) j (span_scale C.field C.columns C.rows a c i)

zero_support : (n : ℕ) → support (zero_word n) ≡ []
zero_support n = no_entry (support (zero_word n)) (length_support (zero_word n) ∙ weight_zero_word n)

nothing_removed : (i : ℕ) (u : List ℕ) → without_from i [] u ≡ u
unfolding without_from
nothing_removed i [] = refl
nothing_removed i (a ∷ u) = ap (λ (w : List ℕ). a ∷ w) (nothing_removed (suc i) u)

zero_removed : (n : ℕ) (u : List ℕ) → removed (zero_word n) u ≡ u
unfolding without
zero_removed n u = ap (λ (ps : List ℕ). without ps u) (zero_support n) ∙ nothing_removed 0 u

pub residual_whole : (C R : Matrix) → AreRows C.field C.columns C.rows → IsCode C.field C.columns (InResidual C (zero_word C.columns)) R → IsSameCode R C
residual_whole C R r k w =
    let known = told C.field C.columns (InResidual C (zero_word C.columns)) R w k in (
      (λ i.
          let (u, inside, e) = (known.0 i).1 in
          subst (InCode C) (sym (e ∙ zero_removed C.columns u)) inside),
      (λ i. known.1 (span_word C.field C.columns C.rows w r i, (w, i, sym (zero_removed C.columns w)))),
    )

pub residual_bound : (C R : Matrix) (c v : List ℕ) (d : ℕ) → AreRows C.field C.columns C.rows → InCode C c → weight c < C.columns → IsWeightBound C.field C.columns C.rows d → IsCode C.field (C.columns - weight c) (InResidual C c) R → InCode R v → 0 < weight v → size C.field * d ≤ (size C.field - 1) * weight c + size C.field * weight v
unfolding without
residual_bound C R c v d r i some heavy k j p =
    let f = C.field in
    let n = C.columns in
    let q : ℕ = size f in
    let (u, inside, e) = in_residual C R c v k j in
    let word = span_word f n C.rows u r inside in
    let each : (a : ℕ) → Contains (below q) a → d ≤ weight (word_sum f u (scale f a c)) = λ a _.
    let x = word_sum f u (scale f a c) in
    let same : weight (removed c x) ≡ weight v = ap (λ w. weight w) (residual_kept C c u a r i some word ∙ sym e) in
    heavy x (multiples_in C c u a r i inside) (omega (arith, p, same, weight_left 0 (support c) x)) in
    omega (arith, sum_at_least (λ a. weight (word_sum f u (scale f a c))) d (below q) each, ap (λ m. m * d) (length_below q), weights_added f n u c word (span_word f n C.rows c r i), ap (λ w. q * weight w) e)

pub residual_least : (C R : Matrix) (c v : List ℕ) (d : ℕ) → AreRows C.field C.columns C.rows → InCode C c → weight c < C.columns → IsWeightBound C.field C.columns C.rows d → weight c ≡ d → IsCode C.field (C.columns - weight c) (InResidual C c) R → InCode R v → 0 < weight v → d ≤ size C.field * weight v
residual_least C R c v d r i some heavy e k j p =
    omega (arith, residual_bound C R c v d r i some heavy k j p, one_more (size C.field) d (zero_inside C.field), ap (λ m. (size C.field - 1) * m) e)
