-- The binomial moments of a weight distribution and of its dual's (MacWilliams and Sloane, chapter 5; Pless).
--   moment f n rows v m        the sum of (n - j choose v) A_j over the j below m
--   moment_transform           the transform of the number of sets of t coordinates that a word is 0 on
--   by_weight                  the moment, as a sum over the words
--   moments                    the equation of the moments of a code and of its dual
use Rattle.std.proofs.Common.{◌≡◌, ℕ, zero, suc, ◌+◌, ◌-◌, ◌*◌, ◌^◌, ◌<◌, List, [], ◌∷◌, length, sum_by, refl, sym, ap, ◌∙◌, arith}
use Rattle.std.proofs.Math.Nat.{pow-suc, pow-zero, zero-mul}
use Rattle.lc_algebra.specs.declared.FieldName.{FieldName}
use Rattle.lc_algebra.specs.Field.{size}
use Rattle.lc_algebra.specs.Word.{weight}
use Rattle.lc_algebra.specs.Span.{below, words}
use Rattle.lc_algebra.specs.Matrix.{AreRows, IsReducedGenerator, IsOrthogonal}
use Rattle.lc_algebra.proofs.FieldLaws.{zero_inside}
use Rattle.lc_algebra.proofs.WordLaws.{weight_zero_head, weight_other_head, weight_at_most_length}
use Rattle.lc_algebra.proofs.SpanLaws.{span_word, word_of_member}
use Rattle.lc_enumeration.specs.Message.{choose}
use Rattle.lc_enumeration.specs.Distribution.{count_of_weight}
use Rattle.lc_enumeration.proofs.ChooseLaws.{choose_next, choose_nothing, choose_none}
use Rattle.lc_macwilliams.proofs.CountLaws.{one_more, sum_none, sum_times, sum_grouped, sum_cut}
use Rattle.lc_macwilliams.proofs.TransformLaws.{HasTransform, transform_none, transform_plus, transform_empty, transform_step, sum_over_dual}

abbrev pub moment : FieldName → ℕ → List (List ℕ) → ℕ → ℕ → ℕ
moment f n rows v m = sum_by (λ j. choose (n - j) v * count_of_weight f n rows j) (below m)

zero_ahead : (n : ℕ) (u : List ℕ) → length u ≡ n → suc n - weight (0 ∷ u) ≡ suc (n - weight u)
zero_ahead n u l = omega (arith, weight_zero_head u, weight_at_most_length u, l)

other_ahead : (n a : ℕ) (u : List ℕ) → 0 < a → suc n - weight (a ∷ u) ≡ n - weight u
other_ahead n a u p = omega (arith, weight_other_head a u p)

pub moment_transform : (f : FieldName) (n t v : ℕ) → t + v ≡ n → HasTransform f n (λ e. choose (n - weight e) t) (λ w. size f ^ v * choose (n - weight w) v) (λ _. 0)
moment_transform f zero zero zero e =
    transform_empty f (λ e. choose (0 - weight e) 0) (λ w. size f ^ 0 * choose (0 - weight w) 0) (λ _. 0) (rw (pow-zero (size f), choose_nothing (0 - weight [])) (omega arith))
moment_transform f zero zero (suc v) e = absurd (omega (arith, e))
moment_transform f zero (suc t) v e = absurd (omega (arith, e))
moment_transform f (suc n) zero zero e = absurd (omega (arith, e))
moment_transform f (suc n) zero (suc v) e =
    let q : ℕ = size f in
    let before : HasTransform f n (λ e. choose (n - weight e) 0) (λ w. q ^ v * choose (n - weight w) v) (λ _. 0) = moment_transform f n 0 v (omega (arith, e)) in
    transform_step f n (λ e. choose (suc n - weight e) 0) (λ e. choose (n - weight e) 0) (λ e. choose (n - weight e) 0) (λ w. q ^ v * choose (n - weight w) v) (λ _. 0) (λ w. q ^ v * choose (n - weight w) v) (λ _. 0) (λ w. q ^ suc v * choose (suc n - weight w) (suc v)) (λ _. 0)
    (record { zero = λ u _. choose_nothing (suc n - weight (0 ∷ u)) ∙ sym (choose_nothing (n - weight u)); other = λ c u _ _. choose_nothing (suc n - weight (c ∷ u)) ∙ sym (choose_nothing (n - weight u)) })
    before before
    (λ u i.
    let none : choose (n - weight u) (suc v) ≡ 0 = choose_none (n - weight u) (suc v) (omega (arith, e)) in
    rw (zero_ahead n u i.long, choose_next (n - weight u) v, none, pow-suc q v) (omega (arith, one_more q (q ^ v * choose (n - weight u) v) (zero_inside f))))
    (λ a u i p.
    let none : choose (n - weight u) (suc v) ≡ 0 = choose_none (n - weight u) (suc v) (omega (arith, e)) in
    rw (other_ahead n a u p, none) (omega arith))
moment_transform f (suc n) (suc t) zero e =
    let q : ℕ = size f in
    let none : (u : List ℕ) → choose (n - weight u) (suc t) ≡ 0 = λ u. choose_none (n - weight u) (suc t) (omega (arith, e)) in
    let constant : (m x : ℕ) → q ^ 0 * choose (m - x) 0 ≡ 1 = λ m x. rw (pow-zero q, choose_nothing (m - x)) (omega arith) in
    transform_step f n (λ e. choose (suc n - weight e) (suc t)) (λ e. choose (n - weight e) t) (λ _. 0) (λ w. q ^ 0 * choose (n - weight w) 0) (λ _. 0) (λ _. 0) (λ _. 0) (λ w. q ^ 0 * choose (suc n - weight w) 0) (λ _. 0)
    (record { zero = λ u i. rw (zero_ahead n u i.long) (omega (arith, choose_next (n - weight u) t, none u)); other = λ c u _ p. rw (other_ahead n c u p) (none u) })
    (moment_transform f n t 0 (omega (arith, e))) (transform_none f n)
    (λ u i. omega (arith, constant (suc n) (weight (0 ∷ u)), constant n (weight u)))
    (λ a u i p. omega (arith, constant (suc n) (weight (a ∷ u)), constant n (weight u)))
moment_transform f (suc n) (suc t) (suc v) e =
    let q : ℕ = size f in
    let less : HasTransform f n (λ e. choose (n - weight e) t) (λ w. q ^ suc v * choose (n - weight w) (suc v)) (λ _. 0) = moment_transform f n t (suc v) (omega (arith, e)) in
    let more : HasTransform f n (λ e. choose (n - weight e) (suc t)) (λ w. q ^ v * choose (n - weight w) v) (λ _. 0) = moment_transform f n (suc t) v (omega (arith, e)) in
    transform_step f n (λ e. choose (suc n - weight e) (suc t)) (λ e. choose (n - weight e) t + choose (n - weight e) (suc t)) (λ e. choose (n - weight e) (suc t))
    (λ w. q ^ suc v * choose (n - weight w) (suc v) + q ^ v * choose (n - weight w) v) (λ _. 0 + 0) (λ w. q ^ v * choose (n - weight w) v) (λ _. 0) (λ w. q ^ suc v * choose (suc n - weight w) (suc v)) (λ _. 0)
    (record { zero = λ u i. rw (zero_ahead n u i.long) (choose_next (n - weight u) t); other = λ c u _ p. ap (λ m. choose m (suc t)) (other_ahead n c u p) })
    (transform_plus f n (λ e. choose (n - weight e) t) (λ e. choose (n - weight e) (suc t)) (λ w. q ^ suc v * choose (n - weight w) (suc v)) (λ _. 0) (λ w. q ^ v * choose (n - weight w) v) (λ _. 0) less more) more
    (λ u i. rw (zero_ahead n u i.long, choose_next (n - weight u) v, pow-suc q v) (omega (arith, one_more q (q ^ v * choose (n - weight u) v) (zero_inside f))))
    (λ a u i p. rw (other_ahead n a u p) (omega arith))

pub by_weight : (f : FieldName) (n u v : ℕ) (rows : List (List ℕ)) → u + v ≡ n → AreRows f n rows → sum_by (λ w. choose (n - weight w) v) (words f n rows) ≡ moment f n rows v (suc u)
unfolding count_of_weight
by_weight f n u v rows e r =
    let term : ℕ → ℕ = λ j. choose (n - j) v * count_of_weight f n rows j in
    let whole : suc n ≡ suc u + v = omega (arith, e) in
    sum_grouped weight (λ j. choose (n - j) v) (suc n) (words f n rows) (λ w c. omega (arith, weight_at_most_length w, (span_word f n rows w r (word_of_member f n rows w c)).long))
    ∙ ap (λ m. sum_by term (below m)) whole
    ∙ sum_cut term (suc u) v (λ j l m. ap (λ x. x * count_of_weight f n rows j) (choose_none (n - j) v (omega (arith, e, l, m))) ∙ zero-mul (count_of_weight f n rows j))

pub moments : (f : FieldName) (n t v : ℕ) (rows checks : List (List ℕ)) → t + v ≡ n → AreRows f n rows → IsReducedGenerator f n (IsOrthogonal f rows) checks → size f ^ v * moment f n rows v (suc t) ≡ size f ^ length rows * moment f n checks t (suc v)
moments f n t v rows checks e r d =
    let law : size f ^ length rows * sum_by (λ w. choose (n - weight w) t) (words f n checks) + sum_by (λ _. 0) (words f n rows) ≡ sum_by (λ w. size f ^ v * choose (n - weight w) v) (words f n rows) =
    sum_over_dual f n (λ w. choose (n - weight w) t) (λ w. size f ^ v * choose (n - weight w) v) (λ _. 0) rows checks (moment_transform f n t v e) r d in
    let none : sum_by (λ _. 0) (words f n rows) ≡ 0 = sum_none (λ _. 0) (words f n rows) (λ _ _. refl) in
    let left : sum_by (λ w. size f ^ v * choose (n - weight w) v) (words f n rows) ≡ size f ^ v * moment f n rows v (suc t) =
    sum_times (size f ^ v) (λ w. choose (n - weight w) v) (words f n rows) ∙ ap (λ x. size f ^ v * x) (by_weight f n t v rows e r) in
    let right : sum_by (λ w. choose (n - weight w) t) (words f n checks) ≡ moment f n checks t (suc v) = by_weight f n v t checks (omega (arith, e)) d.words in
    let right' : size f ^ length rows * sum_by (λ w. choose (n - weight w) t) (words f n checks) ≡ size f ^ length rows * moment f n checks t (suc v) = ap (λ x. size f ^ length rows * x) right in
    omega (arith, law, none, left, right')
